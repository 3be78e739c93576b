-- What is answered of an entry that may not be there.
use Rattle.std.proofs.Common.{◌≡◌, Bool, false, Option, None, Some, MatchOption, sym, ◌∙◌}

-- what is answered of an entry that is there, and false where none is
pub answered : {A N : Type 0} {L P : A → Type 0} (o : Option A) (r s : Bool) → MatchOption o N L → MatchOption o (r ≡ false) P → (N → s ≡ false) → ((x : A) → L x → P x → r ≡ s) → r ≡ s
answered None r s none e absent there = e ∙ sym (absent none)
answered (Some x) r s at p absent there = there x at p
