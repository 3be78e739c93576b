-- What `map` gives of an option, by what each call of its closure gives.
use Rattle.std.proofs.Common.{◌≡◌, Some, None, Option, ap}
use Rattle.std.specs.Option.{MatchOption, IsSomeAnd, option_map}

pub mapped_is : {A B : Type 0} (h : A → B) {Q : A → B → Type 0} (o : Option A) (m : Option B) → MatchOption o (m ≡ None) (λ x. IsSomeAnd m (Q x)) → ((x : A) (y : B) → Q x y → y ≡ h x) → m ≡ option_map h o
mapped_is h None m e gives = e
mapped_is h (Some x) None e gives = absurd e
mapped_is {B = B} h (Some x) (Some y) e gives = ap {B = Option B} Some (gives x y e)
