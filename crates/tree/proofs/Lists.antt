-- Laws of the words on lists and on what may be absent.
use Rattle.std.proofs.Common.{◌≡◌, ℕ, zero, suc, ◌<◌, ◌≤◌, Bool, true, ◌⊎◌, List, [], ◌∷◌, ◌++◌, length, get_or, set, Some, None, Option, sym, refl, ap, ◌∙◌, subst, inl, inr, ⊎_elim, arith}
use Rattle.std.proofs.lemmas.Bool.{and_parts, and_from, cases_lt}
use Rattle.std.specs.List.{AllByRecursion}
use Rattle.std.specs.Option.{option_map}
use Rattle.tree.specs.Lists.{Nth, or_else, first_below, all_below, total, both_or_none, gather}

pub absent : {A : Type 0} {x : A} {o : Option A} {X : Type 0} → o ≡ Some x → o ≡ None → X
absent {x} {o} p q = absurd (let z : ◌≡◌ {A = ℕ} 0 1 = cc in omega arith)

pub same_some : {A : Type 0} {x y : A} → Some x ≡ Some y → x ≡ y
same_some e = cc

pub below_suc : {k n : ℕ} → k < suc n → (k < n) ⊎ (k ≡ n)
below_suc {k} {n} h = ⊎_elim inl (λ (g : n ≤ k). inr (omega arith)) (cases_lt k n)

-- what holds at each number and goes on by one holds of any two in order
pub chain : (R : ℕ → ℕ → Type 0) → ((n : ℕ) → R n n) → ((n m : ℕ) → R n m → R n (suc m)) → (n m : ℕ) → n ≤ m → R n m
chain R now next n zero h = subst (λ k. R k 0) (let e : 0 ≡ n = omega arith in e) (now 0)
chain R now next n (suc m) h =
    ⊎_elim (λ (g : n < suc m). next n m (chain R now next n m (omega arith))) (λ (g : n ≡ suc m). subst (λ k. R k (suc m)) (sym g) (now (suc m))) (below_suc (let l : n < suc (suc m) = omega arith in l))

-- what is told of an absent or of the first answer below a number
pub or_else_none : {A : Type 0} (o p : Option A) → or_else o p ≡ None → (o ≡ None) × (p ≡ None)
or_else_none None p e = (refl, e)
or_else_none (Some x) p e = absent refl e

pub or_else_some : {A : Type 0} {x : A} (o p : Option A) → or_else o p ≡ Some x → (o ≡ Some x) ⊎ ((o ≡ None) × (p ≡ Some x))
or_else_some None p e = inr (refl, e)
or_else_some (Some y) p e = inl e

pub first_below_none : {A : Type 0} (f : ℕ → Option A) (n : ℕ) → first_below f n ≡ None → (k : ℕ) → k < n → f k ≡ None
unfolding first_below
first_below_none f zero e k h = absurd (omega arith)
first_below_none f (suc n) e k h =
    let both = or_else_none (first_below f n) (f n) e in
    ⊎_elim (first_below_none f n both.0 k) (λ (g : k ≡ n). subst (λ m. f m ≡ None) (sym g) both.1) (below_suc h)

pub first_below_some : {A : Type 0} {x : A} (f : ℕ → Option A) (n : ℕ) → first_below f n ≡ Some x → (k : ℕ) × (k < n) × (f k ≡ Some x) × ((m : ℕ) → m < k → f m ≡ None)
unfolding first_below
first_below_some f zero e = absent e refl
first_below_some {x} f (suc n) e =
    ⊎_elim (λ (g : first_below f n ≡ Some x). let r = first_below_some f n g in (r.0, omega (arith, r.1), r.2, r.3))
    (λ (g : (first_below f n ≡ None) × (f n ≡ Some x)). (n, omega arith, g.1, first_below_none f n g.0))
    (or_else_some (first_below f n) (f n) e)

pub all_below_true : (f : ℕ → Bool) (n : ℕ) → all_below f n ≡ true → (k : ℕ) → k < n → f k ≡ true
unfolding all_below
all_below_true f zero e k h = absurd (omega arith)
all_below_true f (suc n) e k h =
    let both = and_parts (all_below f n) (f n) e in
    ⊎_elim (all_below_true f n both.0 k) (λ (g : k ≡ n). subst (λ m. f m ≡ true) (sym g) both.1) (below_suc h)

pub all_below_from : (f : ℕ → Bool) (n : ℕ) → ((k : ℕ) → k < n → f k ≡ true) → all_below f n ≡ true
unfolding all_below
all_below_from f zero h = refl
all_below_from f (suc n) h = and_from (all_below f n) (f n) (all_below_from f n (λ k l. h k (omega arith))) (h n (omega arith))

-- a sum is monotone in its parts
pub total_le : (f g : ℕ → ℕ) (n : ℕ) → ((k : ℕ) → k < n → f k ≤ g k) → total f n ≤ total g n
unfolding total
total_le f g zero h = omega arith
total_le f g (suc n) h = omega (arith, total_le f g n (λ k l. h k (omega arith)), h n (omega arith))

-- what is gathered
both_some : {A : Type 0} {zs : List A} (o : Option A) (p : Option (List A)) → both_or_none o p ≡ Some zs →
    (x : A) × (xs : List A) × (o ≡ Some x) × (p ≡ Some xs) × (x ∷ xs ≡ zs)
both_some None p e = absent e refl
both_some (Some x) None e = absent e refl
both_some (Some x) (Some xs) e = (x, xs, refl, refl, same_some e)

both_none : {A : Type 0} (o : Option A) (p : Option (List A)) → both_or_none o p ≡ None → (o ≡ None) ⊎ (p ≡ None)
both_none None p e = inl refl
both_none (Some x) None e = inr refl
both_none (Some x) (Some xs) e = absent refl e

pub gather_length : {A : Type 0} (f : ℕ → Option A) (n : ℕ) {xs : List A} → gather f n ≡ Some xs → length xs ≡ n
unfolding gather
gather_length f zero e = ap length (sym (same_some e))
gather_length f (suc n) e =
    let b = both_some (f 0) (gather (λ k. f (suc k)) n) e in
    subst (λ l. length l ≡ suc n) b.4 (ap suc (gather_length (λ k. f (suc k)) n b.3))

pub gather_at : {A : Type 0} (d : A) (f : ℕ → Option A) (n : ℕ) {xs : List A} → gather f n ≡ Some xs → (k : ℕ) → k < n → f k ≡ Some (get_or xs k d)
unfolding gather
gather_at d f zero e k h = absurd (omega arith)
gather_at d f (suc n) e zero h =
    let b = both_some (f 0) (gather (λ k. f (suc k)) n) e in
    subst (λ l. f 0 ≡ Some (get_or l 0 d)) b.4 b.2
gather_at d f (suc n) e (suc k) h =
    let b = both_some (f 0) (gather (λ k. f (suc k)) n) e in
    subst (λ l. f (suc k) ≡ Some (get_or l (suc k) d)) b.4 (gather_at d (λ k. f (suc k)) n b.3 k (omega arith))

pub gather_none : {A : Type 0} (f : ℕ → Option A) (n : ℕ) → gather f n ≡ None → (k : ℕ) × (k < n) × (f k ≡ None)
unfolding gather
gather_none f zero e = absent refl e
gather_none f (suc n) e =
    ⊎_elim (λ g. (0, omega arith, g))
    (λ (g : gather (λ k. f (suc k)) n ≡ None). let r = gather_none (λ k. f (suc k)) n g in (suc r.0, omega (arith, r.1), r.2))
    (both_none (f 0) (gather (λ k. f (suc k)) n) e)

pub gather_same : {A : Type 0} (f g : ℕ → Option A) (n : ℕ) → ((k : ℕ) → k < n → g k ≡ f k) → gather g n ≡ gather f n
unfolding gather
gather_same f g zero h = refl
gather_same f g (suc n) h =
    ap (λ o. both_or_none o (gather (λ k. g (suc k)) n)) (h 0 (omega arith)) ∙
    ap (both_or_none (f 0)) (gather_same (λ k. f (suc k)) (λ k. g (suc k)) n (λ k l. h (suc k) (omega arith)))

-- where one of them changes, only that element does
pub gather_set : {A : Type 0} (f g : ℕ → Option A) (n i : ℕ) {xs : List A} → gather f n ≡ Some xs → i < n → ((k : ℕ) → k < n → (k ≡ i → ⊥) → g k ≡ f k) → gather g n ≡ option_map (set xs i) (g i)
unfolding gather
gather_set f g zero i e l h = absurd (omega arith)
gather_set f g (suc n) zero e l h =
    let b = both_some (f 0) (gather (λ k. f (suc k)) n) e in
    let rest = gather_same (λ k. f (suc k)) (λ k. g (suc k)) n (λ k m. h (suc k) (omega arith) (λ q. omega arith)) ∙ b.3 in
    ap (both_or_none (g 0)) rest ∙ subst (λ l. both_or_none (g 0) (Some b.1) ≡ option_map (set l 0) (g 0)) b.4 (go b.0 b.1 (g 0))
  where
    go : {A : Type 0} (y : A) (ys : List A) (o : Option A) → both_or_none o (Some ys) ≡ option_map (set (y ∷ ys) 0) o
    go y ys None = refl
    go y ys (Some z) = refl
gather_set f g (suc n) (suc i) e l h =
    let b = both_some (f 0) (gather (λ k. f (suc k)) n) e in
    let rest = gather_set (λ k. f (suc k)) (λ k. g (suc k)) n i b.3 (omega arith) (λ k m q. h (suc k) (omega arith) (λ r. q (omega arith))) in
    ap (λ o. both_or_none o (gather (λ k. g (suc k)) n)) (h 0 (omega arith) (λ q. omega arith) ∙ b.2) ∙ ap (both_or_none (Some b.0)) rest ∙
    subst (λ l. both_or_none (Some b.0) (option_map (set b.1 i) (g (suc i))) ≡ option_map (set l (suc i)) (g (suc i))) b.4 (go b.0 b.1 i (g (suc i)))
  where
    go : {A : Type 0} (y : A) (ys : List A) (i : ℕ) (o : Option A) → both_or_none (Some y) (option_map (set ys i) o) ≡ option_map (set (y ∷ ys) (suc i)) o
    go y ys i None = refl
    go y ys i (Some z) = refl

-- what stands at a number of a list
pub nth_same : {A : Type 0} (x y : A) (xs : List A) (k : ℕ) → Nth xs k x → Nth xs k y → x ≡ y
nth_same x y [] k p q = absurd p
nth_same x y (z ∷ zs) zero p q = sym p ∙ q
nth_same x y (z ∷ zs) (suc k) p q = nth_same x y zs k p q

-- an element other than the k-th stays where the k-th is replaced
pub nth_set : {A : Type 0} (x : A) (xs : List A) (k m : ℕ) (y : A) → Nth xs m x → (m ≡ k) ⊎ Nth (set xs k y) m x
nth_set x [] k m y p = absurd p
nth_set x (z ∷ zs) zero zero y p = inl refl
nth_set x (z ∷ zs) zero (suc m) y p = inr p
nth_set x (z ∷ zs) (suc k) zero y p = inr p
nth_set x (z ∷ zs) (suc k) (suc m) y p = ⊎_elim (λ e. inl (ap suc e)) inr (nth_set x zs k m y p)

pub nth_left : {A : Type 0} (x : A) (xs ys : List A) (k : ℕ) → Nth xs k x → Nth (xs ++ ys) k x
nth_left x [] ys k p = absurd p
nth_left x (z ∷ zs) ys zero p = p
nth_left x (z ∷ zs) ys (suc k) p = nth_left x zs ys k p

pub nth_right : {A : Type 0} (x : A) (xs ys : List A) (k : ℕ) → Nth ys k x → (m : ℕ) × Nth (xs ++ ys) m x
nth_right x [] ys k p = (k, p)
nth_right x (z ∷ zs) ys k p = let r = nth_right x zs ys k p in (suc r.0, r.1)

pub all_nth : {A : Type 0} (P : A → Type 0) (x : A) (xs : List A) (k : ℕ) → AllByRecursion P xs → Nth xs k x → P x
all_nth P x [] k h p = absurd p
all_nth P x (z ∷ zs) zero h p = subst P p h.0
all_nth P x (z ∷ zs) (suc k) h p = all_nth P x zs k h.1 p

-- what holds of the head and of each element behind it
pub nth_each : {A : Type 0} (P : A → Type 0) (y : A) (ys : List A) → P y → ((k : ℕ) (x : A) → Nth ys k x → P x) → (k : ℕ) (x : A) → Nth (y ∷ ys) k x → P x
nth_each P y ys h hs zero x p = subst P p h
nth_each P y ys h hs (suc k) x p = hs k x p

pub all_from_nth : {A : Type 0} (P : A → Type 0) (xs : List A) → ((k : ℕ) (x : A) → Nth xs k x → P x) → AllByRecursion P xs
all_from_nth P [] h = tt
all_from_nth P (z ∷ zs) h = (h 0 z refl, all_from_nth P zs (λ k x p. h (suc k) x p))

pub nth_below : {A : Type 0} (x : A) (xs : List A) (k : ℕ) → Nth xs k x → k < length xs
nth_below x [] k p = absurd p
nth_below x (z ∷ zs) zero p = omega arith
nth_below x (z ∷ zs) (suc k) p = omega (arith, nth_below x zs k p)

pub nth_put : {A : Type 0} (x y : A) (xs : List A) (k : ℕ) → Nth xs k x → Nth (set xs k y) k y
nth_put x y [] k p = absurd p
nth_put x y (z ∷ zs) zero p = refl
nth_put x y (z ∷ zs) (suc k) p = nth_put x y zs k p

pub nth_of_set : {A : Type 0} (x y : A) (xs : List A) (i k : ℕ) → Nth (set xs i y) k x → ((k ≡ i) × (y ≡ x)) ⊎ Nth xs k x
nth_of_set x y [] i k p = absurd p
nth_of_set x y (z ∷ zs) zero zero p = inl (refl, p)
nth_of_set x y (z ∷ zs) zero (suc k) p = inr p
nth_of_set x y (z ∷ zs) (suc i) zero p = inr p
nth_of_set x y (z ∷ zs) (suc i) (suc k) p = ⊎_elim (λ e. inl (ap suc e.0, e.1)) inr (nth_of_set x y zs i k p)

pub nth_of_append : {A : Type 0} (x : A) (xs ys : List A) (k : ℕ) → Nth (xs ++ ys) k x → Nth xs k x ⊎ ((m : ℕ) × (length xs ≤ k) × Nth ys m x)
nth_of_append x [] ys k p = inr (k, omega arith, p)
nth_of_append x (z ∷ zs) ys zero p = inl p
nth_of_append x (z ∷ zs) ys (suc k) p = ⊎_elim inl (λ e. inr (e.0, omega (arith, e.1), e.2)) (nth_of_append x zs ys k p)
