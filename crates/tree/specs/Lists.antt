-- Words on lists, on values that may be absent and on numbers below a bound that the rest cites.
use Rattle.std.specs.Prelude.{◌≡◌, ℕ, zero, suc, ◌+◌, max, Bool, true, cond, ◌&&◌, ◌⊎◌, List, [], ◌∷◌, ◌++◌, Some, None, Option, nat_le}

-- x is an element of the list
abbrev pub In : {A : Type 0} → A → List A → Type 0
In x [] = ⊥
In x (y ∷ ys) = (y ≡ x) ⊎ In x ys

-- each element of the list is in the relation to every later one
abbrev pub Ordered : {A : Type 0} → (A → A → Type 0) → List A → Type 0
Ordered R [] = Unit {0}
Ordered {A} R (x ∷ xs) = ((y : A) → In y xs → R x y) × Ordered R xs

-- x stands at number k of the list, counted from 0
abbrev pub Nth : {A : Type 0} → List A → ℕ → A → Type 0
Nth [] k x = ⊥
Nth (y ∷ ys) zero x = y ≡ x
Nth (y ∷ ys) (suc k) x = Nth ys k x

-- one list by the next
unfoldable pub joined : {A : Type 0} → List (List A) → List A
joined [] = []
joined (xs ∷ rest) = xs ++ joined rest

-- no element, or the one
abbrev pub to_list : {A : Type 0} → Option A → List A
to_list None = []
to_list (Some x) = x ∷ []

-- the first unless it is absent, and then the second
abbrev pub or_else : {A : Type 0} → Option A → Option A → Option A
or_else None o = o
or_else (Some x) o = Some x

-- f 0, f 1, .. up to the number before n: the first that is not absent
unfoldable pub first_below : {A : Type 0} → (ℕ → Option A) → ℕ → Option A
first_below f zero = None
first_below f (suc n) = or_else (first_below f n) (f n)

-- whether the test passes at every number below n
unfoldable pub all_below : (ℕ → Bool) → ℕ → Bool
all_below f zero = true
all_below f (suc n) = all_below f n && f n

-- f 0 + f 1 + .. up to the number before n
unfoldable pub total : (ℕ → ℕ) → ℕ → ℕ
total f zero = 0
total f (suc n) = total f n + f n

-- the greatest of f 0, f 1, .. up to the number before n, and 0 if there are none
unfoldable pub greatest : (ℕ → ℕ) → ℕ → ℕ
greatest f zero = 0
greatest f (suc n) = max (greatest f n) (f n)

-- an element before a list, absent if either is
abbrev pub both_or_none : {A : Type 0} → Option A → Option (List A) → Option (List A)
both_or_none None rest = None
both_or_none (Some x) None = None
both_or_none (Some x) (Some xs) = Some (x ∷ xs)

-- the list of f 0, f 1, .. up to the number before n, absent if one of them is
unfoldable pub gather : {A : Type 0} → (ℕ → Option A) → ℕ → Option (List A)
gather f zero = Some []
gather f (suc n) = both_or_none (f 0) (gather (λ k. f (suc k)) n)

-- the first element, or the other where f is less at it
abbrev pub lesser : {A : Type 0} → (A → ℕ) → A → Option A → Option A
lesser f x None = Some x
lesser f x (Some y) = cond (nat_le (f x) (f y)) (Some x) (Some y)

-- the first of those elements at which f is least
unfoldable pub least : {A : Type 0} → (A → ℕ) → List A → Option A
least f [] = None
least f (x ∷ xs) = lesser f x (least f xs)

-- one holds exactly when the other does
abbrev pub Exactly : Type 0 → Type 0 → Type 0
Exactly A B = (A → B) × (B → A)
