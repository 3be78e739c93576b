-- Words of the inner contracts; no public contract cites them.
use Rattle.std.specs.Prelude.{◌≡◌, ℕ, suc, ◌+◌, ◌<◌, List, [], map, length, take, Some, None, Option, slice_index_or}
use Rattle.lines.specs.declared.outcome.Outcome.{Outcome}
use Rattle.lines.specs.declared.outcome.Outcome.TheVariants.{Solved, NoPlan, Full}
use Rattle.split.specs.Situations.{Sets}
use Rattle.tree.specs.Plans.{route}
use Rattle.tree.specs.Search as search
use Rattle.tree.specs.Tree.{Tree, Verdict, working, solved, none, full, bound, turns}
use Rattle.tree.specs.Calls as tree
use Rattle.tree.specs.Law.{granted, count}
use Rattle.engine.specs.declared.call.Call.{Call}
use Rattle.engine.specs.declared.state.Engine.{Engine}
use Rattle.engine.specs.Calls.{call_of}
use Rattle.engine.specs.Engine.{IsAt}
use Rattle.engine.specs.Model.{Model}
use Rattle.plans.specs.Tasks.{Task}
use Rattle.plans.specs.Instance.{setting_of}
use Rattle.search.specs.declared.call.Answer.{Answer}
use Rattle.search.specs.declared.state.Search.{Search}
use Rattle.search.specs.Words.{IsAnswer, AreAnswers}
use Rattle.search.specs.States.{planning, tree_after, OpenedAt, ByState, SameParts}

-- the calls and answers of the tree, from the root on
abbrev pub events_of : search.Search → (limit : ℕ) → List Call → List tree.Event
events_of P limit calls = tree.run P limit (turns P limit 0) (map call_of calls)

-- A search makes one call, and a list of them from the root on.
module _ {F R : Type 0} (sets : R → Sets) (before after : Search F R) where
  -- at the tree after n turns it answers as that tree does, and goes on by the turns granted
  pub record AnswersAt (call : tree.Call) (answer : Answer) (K : Task) (limit n : ℕ) : Type 0 where
    pub told : IsAnswer (tree.reply (planning sets before K) limit (tree_after sets before K limit n) call) answer
    pub goes : OpenedAt sets after K limit (n + count call (tree.reply (planning sets before K) limit (tree_after sets before K limit n) call))

  pub record Answers (call : tree.Call) (answer : Answer) : Type 0 where
    pub at : (K : Task) (limit n : ℕ) → OpenedAt sets before K limit n → AnswersAt call answer K limit n
    pub same : SameParts before after

  pub record AllAnswersAt (calls : List Call) (answers : List Answer) (K : Task) (limit : ℕ) : Type 0 where
    pub told : AreAnswers (events_of (planning sets before K) limit calls) answers
    pub goes : OpenedAt sets after K limit (granted (events_of (planning sets before K) limit calls))

  pub record AllAnswers (calls : List Call) (answers : List Answer) : Type 0 where
    pub at : (K : Task) (limit : ℕ) → OpenedAt sets before K limit 0 → AllAnswersAt calls answers K limit
    pub same : SameParts before after

-- the number, or 0
abbrev pub or_0 : Option ℕ → ℕ
or_0 (Some b) = b
or_0 None = 0

-- the outcome of a search that has ended, by its bound and its verdict
abbrev pub outcome_of : Option ℕ → Verdict → Option Outcome
outcome_of b working = None
outcome_of b (solved k) = Some (Solved (or_0 b))
outcome_of b none = Some NoPlan
outcome_of b full = Some (Full (or_0 b))

module _ {F R : Type 0} (sets : R → Sets) (s : Search F R) where
  -- how the search ended, if it did
  abbrev pub TellsOutcome : Option Outcome → Type 0
  TellsOutcome o = ByState sets s (o ≡ None) (λ K limit n. o ≡ outcome_of (bound (setting_of K) (tree_after sets s K limit n)) (tree_after sets s K limit n).verdict)

  -- its bound, or 0
  abbrev pub TellsSum : ℕ → Type 0
  TellsSum m = (K : Task) (limit n : ℕ) → OpenedAt sets s K limit n → m ≡ or_0 (bound (setting_of K) (tree_after sets s K limit n))

-- The engine is at a tree of the model.
module _ (m : Model) (e : Engine) where
  -- the route of a sled in the node that solves the tree, up to the horizon
  abbrev pub TellsRoute : (sled : ℕ) → List ℕ → Type 0
  TellsRoute sled r =
      (t : Tree) (k : ℕ) → IsAt m e t → t.verdict ≡ solved k → sled < m.setting.sleds → take (suc m.setting.horizon) r ≡ route (tree.routes_at t.nodes k) sled

  -- the routes of the first so many sleds
  pub record TellsRoutes (sleds : ℕ) (routes : List (List ℕ)) : Type 0 where
    pub whole : length routes ≡ 6
    pub each : (sled : ℕ) → sled < sleds → TellsRoute sled (slice_index_or routes sled [])
