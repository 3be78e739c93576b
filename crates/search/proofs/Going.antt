-- A search that is idle or open, and one that goes on by some turns.
use Rattle.std.proofs.Common.{◌≡◌, ℕ, suc, ◌+◌, ◌≤◌, Some, sym, refl, ap, ◌∙◌, subst, arith}
use Rattle.std.proofs.Math.Nat.{add-zero}
use Rattle.std.proofs.lemmas.Option.{none-some, same_Some}
use Rattle.split.specs.Situations.{Sets}
use Rattle.tree.specs.Tree.{Tree, turns_made}
use Rattle.tree.specs.Calls as calls
use Rattle.tree.proofs.Turns.{counted}
use Rattle.engine.specs.declared.state.Engine.{Engine}
use Rattle.engine.specs.Engine.{IsAt, Answers}
use Rattle.plans.specs.Tasks.{Task}
use Rattle.instance.specs.declared.instance.Instance.{Instance}
use Rattle.instance.specs.Instances.{task_in, model_of}
use Rattle.search.specs.declared.state.Search.{Search}
use Rattle.search.specs.declared.state.Opened.{Opened}
use Rattle.search.specs.States.{planning, tree_after, OpenedAt, ByState}
use Rattle.search.proofs.Turns.{turns_more, made_more}

module _ {F R : Type 0} (sets : R → Sets) (s : Search F R) {A : Type 0} {W : (K : Task) (limit n : ℕ) → Type 0} where
  -- what there is to show of a search where something is opened
  pub when_open : (x : Opened) → s.opened ≡ Some x → ((K : Task) (limit n : ℕ) → (o : OpenedAt sets s K limit n) → o.holds ≡ x → W K limit n) → ByState sets s A W
  when_open x e h = record { idle = λ i. absurd (none-some x (sym i ∙ e)); opened = λ K limit n o. h K limit n o (same_Some o.holds x (sym o.is_open ∙ e)) }

-- a problem's instance and rule make its model
pub same_model : {R : Type 0} (sets : R → Sets) {i k : Instance} {r q : R} → i ≡ k → r ≡ q → model_of (task_in i) (sets r) ≡ model_of (task_in k) (sets q)
same_model sets e f = λ j. model_of (task_in (e j)) (sets (f j))

-- a call that grants no turns leaves the search where it is
pub stays : {F R : Type 0} {sets : R → Sets} {s : Search F R} {K : Task} {limit n : ℕ} → OpenedAt sets s K limit n → OpenedAt sets s K limit (n + 0)
stays o = rw add-zero o

module _ {F R : Type 0} (sets : R → Sets) (s : Search F R) (x : Opened) (K : Task) (limit n : ℕ) (o : OpenedAt sets s K limit n) (held : o.holds ≡ x) where
  pub same_task : task_in x.instance ≡ K
  same_task = ap (λ (y : Opened). task_in y.instance) (sym held) ∙ o.task

  -- the engine's model is that of the task, and its limit is the search's
  module _ (e : Engine) (c : calls.Call) (a : calls.Answer) (h : Answers (model_of (task_in x.instance) (sets s.rule)) s.engine e c a) where
    same : Answers (model_of K (sets s.rule)) s.engine e c a
    same = subst (λ (k : Task). Answers (model_of k (sets s.rule)) s.engine e c a) same_task h

    pub told_at : a ≡ calls.reply (planning sets s K) limit (tree_after sets s K limit n) c
    told_at = rw o.limit_is at (same.told (tree_after sets s K limit n) o.tree_is)

    pub goes_to : IsAt (model_of K (sets s.rule)) e (calls.after (planning sets s K) limit (tree_after sets s K limit n) c)
    goes_to = rw o.limit_is at (same.goes (tree_after sets s K limit n) o.tree_is)

  -- the search with another engine and another count of turns
  abbrev gone : Engine → ℕ → Search F R
  gone e turns = record { fleet = s.fleet; rule = s.rule; engine = e; opened = Some (record { instance = x.instance; turns = turns }) }

  -- the turns counted so far and those made are few
  module _ (k m : ℕ) (h : m ≡ calls.made_by (planning sets s K) limit k (tree_after sets s K limit n)) where
    all_turns : x.turns + m ≡ turns_made (planning sets s K) limit (n + k)
    all_turns = omega (arith, ap (λ (y : Opened). y.turns) held, o.turns_are, made_more (planning sets s K) limit k n)

    pub few_turns : x.turns + m ≤ suc limit
    few_turns = omega (arith, all_turns, (counted (planning sets s K) limit (n + k)).few)

    pub few_in_all : x.turns + m ≤ 513
    few_in_all = omega (arith, few_turns, o.limit_is, s.engine.high)

    pub opened_on : (turns : ℕ) (e : Engine) (a : calls.Answer) → Answers (model_of (task_in x.instance) (sets s.rule)) s.engine e (calls.advance k) a → turns ≡ x.turns + m →
        OpenedAt sets (gone e turns) K limit (n + k)
    unfolding calls.after
    opened_on turns e a q z =
        record {
          holds = record { instance = x.instance; turns = turns };
          is_open = refl;
          task = same_task;
          limit_is = q.same_limit ∙ o.limit_is;
          tree_is = subst (λ (t : Tree). IsAt (model_of K (sets s.rule)) e t) (turns_more (planning sets s K) limit k n) (goes_to e (calls.advance k) a q);
          turns_are = z ∙ all_turns;
        }
