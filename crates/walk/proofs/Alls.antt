-- What holds of every element of a list.
use Rattle.std.proofs.Common.{◌≡◌, ℕ, ◌<◌, Bool, true, false, cond, List, [], ◌∷◌, filter, refl}
use Rattle.std.specs.List.{flat_map, AllByRecursion}
use Rattle.std.proofs.ByRecursion.{All-append}

pub all_every : {A : Type 0} (P : A → Type 0) → ((x : A) → P x) → (xs : List A) → AllByRecursion P xs
all_every P h [] = tt
all_every P h (x ∷ xs) = (h x, all_every P h xs)

pub all_two : {A : Type 0} (P Q : A → Type 0) (xs : List A) → AllByRecursion P xs → AllByRecursion Q xs → AllByRecursion (λ x. P x × Q x) xs
all_two P Q [] h k = tt
all_two P Q (x ∷ xs) h k = ((h.0, k.0), all_two P Q xs h.1 k.1)

pub all_below : {A : Type 0} (Q : ℕ → A → Type 0) (c : ℕ) (xs : List A) → ((k : ℕ) → k < c → AllByRecursion (Q k) xs) → AllByRecursion (λ x. (k : ℕ) → k < c → Q k x) xs
all_below Q c [] h = tt
all_below Q c (x ∷ xs) h = ((λ k l. (h k l).0), all_below Q c xs (λ k l. (h k l).1))

pub all_joined : {A X : Type 0} (P : A → Type 0) (Q : X → Type 0) (f : X → List A) (xs : List X) → AllByRecursion Q xs → ((x : X) → Q x → AllByRecursion P (f x)) → AllByRecursion P (flat_map f xs)
all_joined P Q f [] h k = tt
all_joined P Q f (x ∷ xs) h k = All-append P (f x) (flat_map f xs) (k x h.0) (all_joined P Q f xs h.1 k)

pub all_kept : {A : Type 0} (P : A → Type 0) (b : A → Bool) (xs : List A) → AllByRecursion (λ x. b x ≡ true → P x) xs → AllByRecursion P (filter b xs)
all_kept P b [] h = tt
all_kept P b (x ∷ xs) h =
    let rest = all_kept P b xs h.1 in
    let here = h.0 in
    (elim (b x) as (λ t. (t ≡ true → P x) → AllByRecursion P (cond t (x ∷ filter b xs) (filter b xs))) [ true ↦ λ k. (k refl, rest) | false ↦ λ k. rest ]) here
