-- The first element of a list that passes a test.
use Rattle.std.proofs.Common.{◌≡◌, ℕ, ◌≤◌, Bool, true, false, cond, ◌&&◌, ◌||◌, eqb, leb, List, [], ◌∷◌, ◌++◌, map, IfSome, find, Some, None, filter, Option, sym, refl, ap, ◌∙◌, subst, ⊎_elim, arith, MatchOption}
use Rattle.std.specs.Option.{option_map}
use Rattle.std.specs.List.{flat_map, AllByRecursion}
use Rattle.std.proofs.lemmas.Bool.{cases_Bool, false≢true, or_parts, and_parts, and_from, leb-true, eq-eqb, eqb-true, eqb-false, le-leb, lt-leb}
use Rattle.walk.specs.Kinds.{either_both}
use Rattle.walk.specs.Semiring.{summed}
use Rattle.walk.specs.Routes.{least, better, every, cheapest}
use Rattle.std.proofs.ByRecursion.{All-weaker}
use Rattle.walk.proofs.Totals.{same_bool}

abbrev pub otherwise : {A : Type 0} → Option A → Option A → Option A
otherwise None o = o
otherwise (Some x) o = Some x

pub first_append : {A : Type 0} (f : A → Bool) (xs ys : List A) → find f (xs ++ ys) ≡ otherwise (find f xs) (find f ys)
first_append f [] ys = refl
first_append f (x ∷ xs) ys =
    let rest = first_append f xs ys in
    elim (f x) as (λ b. cond b (Some x) (find f (xs ++ ys)) ≡ otherwise (cond b (Some x) (find f xs)) (find f ys)) [ true ↦ refl | false ↦ rest ]

pub first_map : {A B : Type 0} (f : B → Bool) (g : A → B) (xs : List A) → find f (map g xs) ≡ option_map g (find (λ x. f (g x)) xs)
first_map f g [] = refl
first_map f g (x ∷ xs) =
    let rest = first_map f g xs in
    elim (f (g x)) as (λ b. cond b (Some (g x)) (find f (map g xs)) ≡ option_map g (cond b (Some x) (find (λ y. f (g y)) xs))) [ true ↦ refl | false ↦ rest ]

pub first_kept : {A : Type 0} (f b : A → Bool) (xs : List A) → find f (filter b xs) ≡ find (λ x. b x && f x) xs
first_kept f b [] = refl
first_kept f b (x ∷ xs) =
    let rest = first_kept f b xs in
    elim (b x) as (λ t. find f (cond t (x ∷ filter b xs) (filter b xs)) ≡ cond (t && f x) (Some x) (find (λ y. b y && f y) xs))
    [ true ↦ ap (cond (f x) (Some x)) rest | false ↦ rest ]

-- equal tests have one first
pub first_same : {A : Type 0} (f g : A → Bool) (xs : List A) → AllByRecursion (λ x. f x ≡ g x) xs → find f xs ≡ find g xs
first_same f g [] h = refl
first_same f g (x ∷ xs) h = ap (λ b. cond b (Some x) (find f xs)) h.0 ∙ ap (cond (g x) (Some x)) (first_same f g xs h.1)

-- none passes
pub none_passes : {A : Type 0} (f : A → Bool) (xs : List A) → summed either_both f xs ≡ false → AllByRecursion (λ x. f x ≡ false) xs
none_passes f [] e = tt
none_passes f (x ∷ xs) e = let p = or_parts (f x) (summed either_both f xs) e in (p.0, none_passes f xs p.1)

pub first_none : {A : Type 0} (f : A → Bool) (xs : List A) → summed either_both f xs ≡ false → find f xs ≡ None
first_none f [] e = refl
first_none f (x ∷ xs) e =
    let p = or_parts (f x) (summed either_both f xs) e in
    ap (λ b. cond b (Some x) (find f xs)) p.0 ∙ first_none f xs p.1

-- some passes
pub first_some : {A : Type 0} (f : A → Bool) (xs : List A) → summed either_both f xs ≡ true → (x : A) × (find f xs ≡ Some x)
first_some f [] e = absurd (false≢true e)
first_some f (x ∷ xs) e = ⊎_elim
    (λ t. (x, ap (λ b. cond b (Some x) (find f xs)) t))
    (λ n. let r = first_some f xs (ap (λ b. b || summed either_both f xs) (sym n) ∙ e) in (r.0, ap (λ b. cond b (Some x) (find f xs)) n ∙ r.1))
    (cases_Bool (f x))

pub kept_none : {A : Type 0} (f : A → Bool) (xs : List A) → summed either_both f xs ≡ false → filter f xs ≡ []
kept_none f [] e = refl
kept_none f (x ∷ xs) e =
    let p = or_parts (f x) (summed either_both f xs) e in
    ap (λ b. cond b (x ∷ filter f xs) (filter f xs)) p.0 ∙ kept_none f xs p.1

inside : {X : Type 0} (u v : X) → Some u ≡ Some v → u ≡ v
inside u v h = cc

pub none_some : {X : Type 0} (x : X) → None ≡ Some x → ⊥
none_some x e = let z : ◌≡◌ {A = ℕ} 0 1 = cc in omega arith

pub cases_none : {X : Type 0} (o : Option X) (P : Type 0) (Q : X → Type 0) → o ≡ None → P → MatchOption o P Q
cases_none o P Q e h = subst (λ r. MatchOption r P Q) (sym e) h

-- The first that passes in a row of lists is the first in the first list that has one.
pub first_joined : {A X : Type 0} (f : A → Bool) (g : X → List A) (xs : List X) (x : X) → find (λ y. summed either_both f (g y)) xs ≡ Some x → find f (flat_map g xs) ≡ find f (g x)
first_joined f g [] x e = absurd (none_some x e)
first_joined f g (y ∷ ys) x e = first_append f (g y) (flat_map g ys) ∙ ⊎_elim
    (λ t.
    let r = first_some f (g y) t in
    let same : y ≡ x = inside y x (ap (λ b. cond b (Some y) (find (λ z. summed either_both f (g z)) ys)) (sym t) ∙ e) in
    ap (λ o. otherwise o (find f (flat_map g ys))) r.1 ∙ sym r.1 ∙ ap (λ z. find f (g z)) same)
    (λ n.
    ap (λ o. otherwise o (find f (flat_map g ys))) (first_none f (g y) n)
    ∙ first_joined f g ys x (ap (λ b. cond b (Some y) (find (λ z. summed either_both f (g z)) ys)) (sym n) ∙ e))
    (cases_Bool (summed either_both f (g y)))

pub first_passes : {A : Type 0} (f : A → Bool) (xs : List A) (x : A) → find f xs ≡ Some x → f x ≡ true
first_passes f [] x e = absurd (none_some x e)
first_passes f (y ∷ ys) x e = ⊎_elim
    (λ t. ap f (sym (inside y x (ap (λ b. cond b (Some y) (find f ys)) (sym t) ∙ e))) ∙ t)
    (λ n. first_passes f ys x (ap (λ b. cond b (Some y) (find f ys)) (sym n) ∙ e))
    (cases_Bool (f y))

-- what holds of each holds of the first
pub first_holds : {A : Type 0} (P : A → Type 0) (f : A → Bool) (xs : List A) (x : A) → AllByRecursion P xs → find f xs ≡ Some x → P x
first_holds P f [] x h e = absurd (none_some x e)
first_holds P f (y ∷ ys) x h e = ⊎_elim
    (λ t. subst P (inside y x (ap (λ b. cond b (Some y) (find f ys)) (sym t) ∙ e)) h.0)
    (λ n. first_holds P f ys x h.1 (ap (λ b. cond b (Some y) (find f ys)) (sym n) ∙ e))
    (cases_Bool (f y))

better_all : {A : Type 0} (f : A → ℕ) (P : A → Type 0) (x : A) (o : Option A) → P x → IfSome o P → IfSome (better f x o) P
better_all f P x None h k = h
better_all f P x (Some y) h k = elim (leb (f x) (f y)) as (λ b. IfSome (cond b (Some x) (Some y)) P) [ true ↦ h | false ↦ k ]

least_all : {A : Type 0} (f : A → ℕ) (P : A → Type 0) (xs : List A) → AllByRecursion P xs → IfSome (least f xs) P
least_all f P [] h = tt
least_all f P (x ∷ xs) h = better_all f P x (least f xs) h.0 (least_all f P xs h.1)

better_here : {A : Type 0} (f : A → ℕ) (m : ℕ) (x : A) (o : Option A) → f x ≡ m → IfSome o (λ y. m ≤ f y) → better f x o ≡ Some x
better_here f m x None e h = refl
better_here f m x (Some y) e h = ap (λ b. cond b (Some x) (Some y)) (le-leb (f x) (f y) (omega arith))

-- The first of the least, where m is a bound that is met.
pub least_first : {A : Type 0} (f : A → ℕ) (m : ℕ) (xs : List A) (x : A) → AllByRecursion (λ y. m ≤ f y) xs → find (λ y. eqb (f y) m) xs ≡ Some x → least f xs ≡ Some x
least_first f m [] x all e = absurd (none_some x e)
least_first f m (y ∷ ys) x all e = ⊎_elim
    (λ t.
    better_here f m y (least f ys) (eqb-true (f y) m t) (least_all f (λ z. m ≤ f z) ys all.1)
    ∙ ap (λ b. cond b (Some y) (find (λ z. eqb (f z) m) ys)) (sym t) ∙ e)
    (λ n.
    let later : find (λ z. eqb (f z) m) ys ≡ Some x = ap (λ b. cond b (Some y) (find (λ z. eqb (f z) m) ys)) (sym n) ∙ e in
    let met = eqb-true (f x) m (first_passes (λ z. eqb (f z) m) ys x later) in
    let more = eqb-false (f y) m n in
    let bound = all.0 in
    ap (better f y) (least_first f m ys x all.1 later) ∙ ap (λ b. cond b (Some y) (Some x)) (lt-leb (f y) (f x) (omega arith)))
    (cases_Bool (eqb (f y) m))

pub kept_same : {A : Type 0} (f g : A → Bool) (xs : List A) → AllByRecursion (λ x. f x ≡ g x) xs → filter f xs ≡ filter g xs
kept_same f g [] h = refl
kept_same f g (x ∷ xs) h =
    ap (λ b. cond b (x ∷ filter f xs) (filter f xs)) h.0 ∙ ap (λ ys. cond (g x) (x ∷ ys) ys) (kept_same f g xs h.1)

pub kept_kept : {A : Type 0} (f b : A → Bool) (xs : List A) → filter f (filter b xs) ≡ filter (λ x. b x && f x) xs
kept_kept f b [] = refl
kept_kept f b (x ∷ xs) =
    let rest = kept_kept f b xs in
    elim (b x) as (λ t. filter f (cond t (x ∷ filter b xs) (filter b xs)) ≡ cond (t && f x) (x ∷ filter (λ y. b y && f y) xs) (filter (λ y. b y && f y) xs))
    [ true ↦ ap (λ ys. cond (f x) (x ∷ ys) ys) rest | false ↦ rest ]

every_first : {A : Type 0} (f g : A → Bool) (xs : List A) (x : A) → every f xs ≡ true → find g xs ≡ Some x → f x ≡ true
every_first f g [] x h e = absurd (none_some x e)
every_first f g (y ∷ ys) x h e =
    let p = and_parts (f y) (every f ys) h in
    ⊎_elim
    (λ t. ap f (sym (inside y x (ap (λ b. cond b (Some y) (find g ys)) (sym t) ∙ e))) ∙ p.0)
    (λ n. every_first f g ys x p.1 (ap (λ b. cond b (Some y) (find g ys)) (sym n) ∙ e))
    (cases_Bool (g y))

every_from : {A : Type 0} (f : A → Bool) (xs : List A) → AllByRecursion (λ x. f x ≡ true) xs → every f xs ≡ true
every_from f [] h = refl
every_from f (x ∷ xs) h = and_from (f x) (every f xs) h.0 (every_from f xs h.1)

-- The cheapest, where m is a bound that is met.
pub cheapest_are : {A : Type 0} (f : A → ℕ) (m : ℕ) (xs : List A) (x : A) → AllByRecursion (λ y. m ≤ f y) xs → find (λ y. eqb (f y) m) xs ≡ Some x → cheapest f xs ≡ filter (λ y. eqb (f y) m) xs
cheapest_are f m xs x all e =
    let met = eqb-true (f x) m (first_passes (λ y. eqb (f y) m) xs x e) in
    kept_same _ _ xs (All-weaker (λ y. m ≤ f y) _ (λ y low. same_bool (every (λ z. leb (f y) (f z)) xs) (eqb (f y) m)
    (λ h. let high = leb-true (f y) (f x) (every_first (λ z. leb (f y) (f z)) (λ z. eqb (f z) m) xs x h e) in eq-eqb (f y) m (omega arith))
    (λ h. let here = eqb-true (f y) m h in every_from (λ z. leb (f y) (f z)) xs (All-weaker (λ z. m ≤ f z) _ (λ z l. le-leb (f y) (f z) (omega arith)) xs all))) xs all)
