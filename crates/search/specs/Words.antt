-- The words of a search and those of the constraint tree.
use Rattle.std.specs.Prelude.{◌≡◌, List, [], ◌∷◌, Ok, Err, Result}
use Rattle.fault.specs.declared.cause.Fault.{Fault}
use Rattle.grid.specs.declared.place.Place.{Place}
use Rattle.grid.specs.Places.{place_number}
use Rattle.tree.specs.Calls as tree
use Rattle.engine.specs.Calls.{fault_of}
use Rattle.search.specs.declared.verdict.Verdict.{Verdict}
use Rattle.search.specs.declared.verdict.Verdict.TheVariants as verdicts
use Rattle.search.specs.declared.call.Answer.{Answer}
use Rattle.search.specs.declared.call.Answer.TheVariants as answers

-- the verdict of a search that is not idle
abbrev pub verdict_of : tree.Status → Verdict
verdict_of tree.Working = verdicts.Working
verdict_of tree.Solved = verdicts.Solved
verdict_of tree.Unsolvable = verdicts.NoPlan
verdict_of tree.Full = verdicts.Full

-- a place by its number
abbrev pub at_place : Place → tree.Answer
at_place p = tree.stands (place_number p)

-- the result says the tree's answer: a value, or a refusal by its fault
abbrev pub Tells : {X : Type 0} → (X → tree.Answer) → tree.Answer → Result X Fault → Type 0
Tells word a (Ok x) = a ≡ word x
Tells word a (Err f) = (r : tree.Refusal) × (a ≡ tree.refused r) × (f ≡ fault_of r)

-- the answer of a call is the tree's
abbrev pub IsAnswer : tree.Answer → Answer → Type 0
IsAnswer a (answers.Advanced r) = Tells tree.made a r
IsAnswer a (answers.Bounded r) = Tells tree.bounded a r
IsAnswer a (answers.Judged v) = (s : tree.Status) × (a ≡ tree.status s) × (v ≡ verdict_of s)
IsAnswer a (answers.Placed r) = Tells at_place a r

-- the answers are those of the events, one by one
abbrev pub AreAnswers : List tree.Event → List Answer → Type 0
AreAnswers [] [] = Unit {0}
AreAnswers [] (r ∷ rs) = ⊥
AreAnswers (e ∷ es) [] = ⊥
AreAnswers (e ∷ es) (r ∷ rs) = IsAnswer e.answer r × AreAnswers es rs
