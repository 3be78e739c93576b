-- The choice by enumeration, in plain words.
use Rattle.std.proofs.Common.{◌≡◌, ℕ, zero, suc, ◌<◌, ◌≤◌, Bool, true, false, cond, eqb, leb, ◌⊎◌, List, [], ◌∷◌, ◌++◌, map, length, Some, None, filter, Option, sym, refl, ap, ◌∙◌, subst, inl, inr, ⊎_elim, arith, MatchOption}
use Rattle.std.specs.List.{flat_map, AllByRecursion}
use Rattle.std.proofs.ByRecursion.{All-append, All-map, All-weaker}
use Rattle.std.proofs.lemmas.Bool.{cases_Bool, eqb-true, eq-eqb, leb-true, leb-false, cases_lt}
use Rattle.grid.specs.Board.{next, Step, In, Ascending}
use Rattle.grid.proofs.Boards.{in_joined, all_in, all_from_in, next_places}
use Rattle.walk.specs.Sequences.{sequences, end}
use Rattle.walk.specs.Routes.{passes, routes, route_cost, least, better, chosen}
use Rattle.walk.specs.Plain.{Stepwise, Route, Before, Best}
use Rattle.walk.proofs.Alls.{all_kept, all_two, all_joined, all_every}

in_map : {A B : Type 0} (f : A → B) (x : A) (xs : List A) → In x xs → In (f x) (map f xs)
in_map f x [] h = elim h [ ]
in_map f x (z ∷ xs) (inl e) = inl (ap f e)
in_map f x (z ∷ xs) (inr h) = inr (in_map f x xs h)

in_kept : {A : Type 0} (b : A → Bool) (x : A) (xs : List A) → In x xs → b x ≡ true → In x (filter b xs)
in_kept b x [] k h = elim k [ ]
in_kept b x (y ∷ ys) (inl e) h = subst (λ t. In x (cond t (y ∷ filter b ys) (filter b ys))) (sym (ap b e ∙ h)) (inl e)
in_kept b x (y ∷ ys) (inr k) h =
    let rest = in_kept b x ys k h in
    elim (b y) as (λ t. In x (cond t (y ∷ filter b ys) (filter b ys))) [ true ↦ inr rest | false ↦ rest ]

-- the sequences are all stepwise lists of their length
pub sequences_all : (n p : ℕ) → AllByRecursion (λ s. (length s ≡ n) × Stepwise p s) (sequences n p)
unfolding sequences
sequences_all zero p = ((refl, tt), tt)
sequences_all (suc n) p =
    all_joined (λ s. (length s ≡ suc n) × Stepwise p s) (Step p) (λ q. map (λ s. q ∷ s) (sequences n q)) (next p) (all_from_in (Step p) (next p) (next_places p).sound) (λ q h.
    All-map (λ s. (length s ≡ suc n) × Stepwise p s) (λ s. q ∷ s) (sequences n q) (All-weaker _ _ (λ s k. (ap suc k.0, (h, k.1))) (sequences n q) (sequences_all n q)))

sequences_in : (n p : ℕ) (s : List ℕ) → length s ≡ n → Stepwise p s → In s (sequences n p)
unfolding sequences
sequences_in zero p [] e h = inl refl
sequences_in zero p (q ∷ s) e h = absurd (omega arith)
sequences_in (suc n) p [] e h = absurd (omega arith)
sequences_in (suc n) p (q ∷ s) e h =
    in_joined (λ r. map (λ x. r ∷ x) (sequences n r)) (q ∷ s) q (next p) ((next_places p).complete q h.0) (in_map (λ x. q ∷ x) s (sequences n q) (sequences_in n q s (omega arith) h.1))

-- a list in order: each element stands so to all later ones
abbrev Ordered : {A : Type 0} → (A → A → Type 0) → List A → Type 0
Ordered R [] = Unit {0}
Ordered R (x ∷ xs) = AllByRecursion (R x) xs × Ordered R xs

ordered_append : {A : Type 0} (R : A → A → Type 0) (xs ys : List A) → Ordered R xs → Ordered R ys → AllByRecursion (λ x. AllByRecursion (R x) ys) xs → Ordered R (xs ++ ys)
ordered_append R [] ys h k c = k
ordered_append R (x ∷ xs) ys h k c = (All-append (R x) xs ys h.0 c.0, ordered_append R xs ys h.1 k c.1)

ordered_map : {A B : Type 0} (R : A → A → Type 0) (S : B → B → Type 0) (f : A → B) (xs : List A) → ((x y : A) → R x y → S (f x) (f y)) → Ordered R xs → Ordered S (map f xs)
ordered_map R S f [] k h = tt
ordered_map R S f (x ∷ xs) k h = (All-map (S (f x)) f xs (All-weaker (R x) _ (λ y r. k x y r) xs h.0), ordered_map R S f xs k h.1)

ordered_kept : {A : Type 0} (R : A → A → Type 0) (b : A → Bool) (xs : List A) → Ordered R xs → Ordered R (filter b xs)
ordered_kept R b [] h = tt
ordered_kept R b (x ∷ xs) h =
    let rest = ordered_kept R b xs h.1 in
    let here = all_kept (R x) b xs (All-weaker (R x) _ (λ y r _. r) xs h.0) in
    elim (b x) as (λ t. Ordered R (cond t (x ∷ filter b xs) (filter b xs))) [ true ↦ (here, rest) | false ↦ rest ]

all_cross : {A X : Type 0} (R : A → A → Type 0) (Q : X → Type 0) (f : X → List A) (ss : List A) (ys : List X) → AllByRecursion Q ys → ((y : X) → Q y → AllByRecursion (λ s. AllByRecursion (R s) (f y)) ss) → AllByRecursion (λ s. AllByRecursion (R s) (flat_map f ys)) ss
all_cross R Q f [] ys h k = tt
all_cross R Q f (s ∷ ss) ys h k = (all_joined (R s) Q f ys h (λ y q. (k y q).0), all_cross R Q f ss ys h (λ y q. (k y q).1))

ordered_joined : {A : Type 0} (R : A → A → Type 0) (f : ℕ → List A) (xs : List ℕ) → Ordered ◌<◌ xs → ((x : ℕ) → Ordered R (f x)) → ((x y : ℕ) → x < y → AllByRecursion (λ s. AllByRecursion (R s) (f y)) (f x)) → Ordered R (flat_map f xs)
ordered_joined R f [] h k c = tt
ordered_joined R f (x ∷ xs) h k c =
    ordered_append R (f x) (flat_map f xs) (k x) (ordered_joined R f xs h.1 k c) (all_cross R (λ y. x < y) f (f x) xs h.0 (λ y l. c x y l))

-- ascending, element by element
ascending_ordered : (xs : List ℕ) → Ascending xs → Ordered ◌<◌ xs
ascending_ordered [] h = tt
ascending_ordered (x ∷ xs) h = (all_from_in (λ y. x < y) xs h.0, ascending_ordered xs h.1)

-- the sequences come in the order of place numbers
sequences_ordered : (n p : ℕ) → Ordered Before (sequences n p)
unfolding sequences
sequences_ordered zero p = (tt, tt)
sequences_ordered (suc n) p =
    ordered_joined Before (λ q. map (λ s. q ∷ s) (sequences n q)) (next p) (ascending_ordered (next p) (next_places p).ascending)
    (λ q. ordered_map Before Before (λ s. q ∷ s) (sequences n q) (λ s t h. inr (refl, h)) (sequences_ordered n q))
    (λ x y l. All-map (λ s. AllByRecursion (Before s) (map (λ t. y ∷ t) (sequences n y))) (λ s. x ∷ s) (sequences n x) (all_every _ (λ s. All-map (Before (x ∷ s)) (λ t. y ∷ t) (sequences n y) (all_every _ (λ t. inl l) (sequences n y))) (sequences n x)))

before_same : (s : List ℕ) → Before s s
before_same [] = tt
before_same (x ∷ s) = inr (refl, before_same s)

-- b costs less than s, or comes first at the same cost
abbrev Beats : (List ℕ → ℕ) → List ℕ → List ℕ → Type 0
Beats f b s = (f b < f s) ⊎ ((f b ≡ f s) × Before b s)

abbrev Wins : (List ℕ → ℕ) → List (List ℕ) → List ℕ → Type 0
Wins f xs b = In b xs × AllByRecursion (Beats f b) xs

no_later : (f : List ℕ → ℕ) (x y s : List ℕ) → f x ≤ f y → Beats f y s × Before x s → Beats f x s
no_later f x y s l h =
    let low : f y ≤ f s = ⊎_elim (λ u. omega arith) (λ u. let e = u.0 in omega arith) h.0 in
    ⊎_elim (λ less. inl less) (λ more. inr (omega arith, h.1)) (cases_lt (f x) (f s))

better_wins : (f : List ℕ → ℕ) (x : List ℕ) (xs : List (List ℕ)) (o : Option (List ℕ)) → AllByRecursion (Before x) xs → MatchOption o (xs ≡ []) (Wins f xs) → MatchOption (better f x o) (x ∷ xs ≡ []) (Wins f (x ∷ xs))
better_wins f x xs None above h = (inl refl, (inr (refl, before_same x), subst (AllByRecursion (Beats f x)) (sym h) tt))
better_wins f x xs (Some y) above h = ⊎_elim
    (λ t. subst (λ b. MatchOption (cond b (Some x) (Some y)) (x ∷ xs ≡ []) (Wins f (x ∷ xs))) (sym t)
    (inl refl, (inr (refl, before_same x), All-weaker (λ s. Beats f y s × Before x s) _ (λ s k. no_later f x y s (leb-true (f x) (f y) t) k) xs (all_two (Beats f y) (Before x) xs h.1 above))))
    (λ n. subst (λ b. MatchOption (cond b (Some x) (Some y)) (x ∷ xs ≡ []) (Wins f (x ∷ xs))) (sym n)
    (inr h.0, (inl (leb-false (f x) (f y) n), h.1)))
    (cases_Bool (leb (f x) (f y)))

least_wins : (f : List ℕ → ℕ) (xs : List (List ℕ)) → Ordered Before xs → MatchOption (least f xs) (xs ≡ []) (Wins f xs)
least_wins f [] h = refl
least_wins f (x ∷ xs) h = better_wins f x xs (least f xs) h.0 (least_wins f xs h.1)

module _ (a : ℕ → ℕ → ℕ → Bool) (n start goal : ℕ) where
  -- the routes by enumeration are the routes
  routes_all : AllByRecursion (Route a n start goal) (routes a n start goal)
  routes_all =
      all_kept _ (passes a 0 start) (filter (λ s. eqb (end start s) goal) (sequences n start))
      (all_kept _ (λ s. eqb (end start s) goal) (sequences n start)
      (All-weaker _ _ (λ s h e pass. record { long = h.0; stepwise = h.1; allowed = pass; ends = eqb-true (end start s) goal e }) (sequences n start) (sequences_all n start)))

  routes_in : (s : List ℕ) → Route a n start goal s → In s (routes a n start goal)
  routes_in s r =
      in_kept (passes a 0 start) s (filter (λ x. eqb (end start x) goal) (sequences n start))
      (in_kept (λ x. eqb (end start x) goal) s (sequences n start) (sequences_in n start s r.long r.stepwise) (eq-eqb (end start s) goal r.ends)) r.allowed

  routes_ordered : Ordered Before (routes a n start goal)
  routes_ordered = ordered_kept Before (passes a 0 start) _ (ordered_kept Before (λ s. eqb (end start s) goal) (sequences n start) (sequences_ordered n start))

  -- the choice is the best route, and there is one wherever there is a route
  chosen_best : MatchOption (chosen a n start goal) ((s : List ℕ) → Route a n start goal s → ⊥) (Best a n start goal)
  chosen_best = go (chosen a n start goal) (least_wins (route_cost goal start) (routes a n start goal) routes_ordered)
    where
      go : (o : Option (List ℕ)) → MatchOption o (routes a n start goal ≡ []) (Wins (route_cost goal start) (routes a n start goal)) → MatchOption o ((s : List ℕ) → Route a n start goal s → ⊥) (Best a n start goal)
      go None e = λ s r. subst (In s) e (routes_in s r)
      go (Some b) h =
          let beats : (s : List ℕ) → Route a n start goal s → Beats (route_cost goal start) b s = λ s r. all_in (Beats (route_cost goal start) b) (routes a n start goal) s h.1 (routes_in s r) in
          record {
            route = all_in (Route a n start goal) (routes a n start goal) b routes_all h.0;
            least = λ s r. ⊎_elim (λ less. omega arith) (λ same. let e = same.0 in omega arith) (beats s r);
            first = λ s r e. ⊎_elim (λ less. absurd (omega arith)) (λ same. same.1) (beats s r);
          }

  pub none_best : chosen a n start goal ≡ None → (s : List ℕ) → Route a n start goal s → ⊥
  none_best e = subst (λ o. MatchOption o ((s : List ℕ) → Route a n start goal s → ⊥) (Best a n start goal)) e chosen_best

  pub some_best : (b : List ℕ) → chosen a n start goal ≡ Some b → Best a n start goal b
  some_best b e = subst (λ o. MatchOption o ((s : List ℕ) → Route a n start goal s → ⊥) (Best a n start goal)) e chosen_best
