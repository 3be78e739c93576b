-- What a search prints.
use Rattle.std.specs.Prelude.{◌≡◌, ℕ, List, ◌++◌, Some, Err, Result}
use Rattle.fault.specs.declared.cause.Cause.TheVariants.{WrongState}
use Rattle.fault.specs.declared.cause.Fault.{Fault}
use Rattle.fault.specs.Causes.{fault_at}
use Rattle.fault.specs.Lines.{Writes}
use Rattle.lines.specs.declared.outcome.Outcome.TheVariants.{Solved, NoPlan, Full}
use Rattle.lines.specs.Plans.{outcome_line}
use Rattle.lines.specs.Reports.{plan_lines}
use Rattle.split.specs.Situations.{Sets}
use Rattle.tree.specs.Setting.{Setting}
use Rattle.tree.specs.Plans.{sum}
use Rattle.tree.specs.Tree.{Tree, Verdict, working, solved, none, full, bound, turns_made}
use Rattle.tree.specs.Calls.{routes_at}
use Rattle.plans.specs.Instance.{setting_of}
use Rattle.search.specs.declared.state.Search.{Search}
use Rattle.search.specs.States.{planning, tree_after, ByState}

module _ (before after : List ℕ) (r : Result ℕ Fault) where
  -- nothing is printed of an idle or working search, and the buffer is as it was
  pub record Silent : Type 0 where
    pub fault_is : r ≡ Err (fault_at WrongState 0)
    pub kept : after ≡ before

  -- what is printed of a tree after so many turns, by its verdict: the outcome, and after solved the plan
  abbrev pub PrintsTree : Setting → Tree → (turns : ℕ) → Verdict → Type 0
  PrintsTree S t turns working = Silent
  PrintsTree S t turns (solved k) =
      Writes (outcome_line (Solved (sum S (routes_at t.nodes k))) turns ++ plan_lines (routes_at t.nodes k) S.horizon S.sleds) before after r
  PrintsTree S t turns none = Writes (outcome_line NoPlan turns) before after r
  PrintsTree S t turns full = (b : ℕ) × (bound S t ≡ Some b) × Writes (outcome_line (Full b) turns) before after r

  -- the turns printed are those made since the search was opened
  abbrev pub Prints : {F R : Type 0} → (R → Sets) → Search F R → Type 0
  Prints sets s =
      ByState sets s Silent
      (λ K limit n. PrintsTree (setting_of K) (tree_after sets s K limit n) (turns_made (planning sets s K) limit n) (tree_after sets s K limit n).verdict)
