-- Turns of a search.
use Rattle.std.specs.Prelude.{◌≡◌, ℕ, suc, ◌+◌, ◌≤◌, Ok, Err, Result}
use Rattle.fault.specs.declared.cause.Cause.TheVariants.{WrongState}
use Rattle.fault.specs.declared.cause.Fault.{Fault}
use Rattle.fault.specs.Causes.{fault_at}
use Rattle.split.specs.Situations.{Sets}
use Rattle.tree.specs.Calls.{advance, made, reply}
use Rattle.plans.specs.Tasks.{Task}
use Rattle.search.specs.declared.state.Search.{Search}
use Rattle.search.specs.Words.{Tells}
use Rattle.search.specs.States.{planning, tree_after, OpenedAt, ByState, SameParts}

-- the turns that a call was granted
abbrev pub granted_by : Result ℕ Fault → (count : ℕ) → ℕ
granted_by (Ok turns) count = count
granted_by (Err fault) count = 0

-- the turns made are at most so many
abbrev pub AtMost : ℕ → Result ℕ Fault → Type 0
AtMost most (Ok turns) = turns ≤ most
AtMost most (Err fault) = Unit {0}

-- a refusal leaves the search as it was
abbrev pub KeptIfRefused : {X S : Type 0} → (before after : S) → Result X Fault → Type 0
KeptIfRefused before after (Ok x) = Unit {0}
KeptIfRefused before after (Err fault) = after ≡ before

-- A search is asked for so many turns.
module _ {F R : Type 0} (sets : R → Sets) (before after : Search F R) (count : ℕ) where
  -- at the tree after n turns it answers as that tree does, with no more turns than the limit and one, and goes on by those granted
  pub record AdvancesAt (r : Result ℕ Fault) (K : Task) (limit n : ℕ) : Type 0 where
    pub told : Tells made (reply (planning sets before K) limit (tree_after sets before K limit n) (advance count)) r
    pub few : AtMost (suc limit) r
    pub goes : OpenedAt sets after K limit (n + granted_by r count)

  pub record Advances (r : Result ℕ Fault) : Type 0 where
    pub answer : ByState sets before (r ≡ Err (fault_at WrongState 0)) (AdvancesAt r)
    pub kept : KeptIfRefused before after r
    pub same : SameParts before after
