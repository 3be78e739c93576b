-- The choice by enumeration: the walks are all there, in order, and the first of least cost is taken.
use Rattle.std.proofs.Common.{◌≡◌, ℕ, zero, suc, ◌<◌, ◌≤◌, Bool, true, false, cond, ◌&&◌, eqb, leb, ◌⊎◌, List, [], ◌∷◌, ◌++◌, map, length, Some, None, filter, Option, sym, refl, ap, ◌∙◌, subst, inl, inr, ⊎_elim, arith}
use Rattle.std.proofs.lemmas.Bool.{leb-true, leb-false, eqb-true, eq-eqb, and_parts, and_from, cond_both}
use Rattle.tree.specs.Lists.{In, Ordered, joined, all_below, lesser, least}
use Rattle.tree.specs.Setting.{Setting, SettingTerms}
use Rattle.tree.specs.Routes.{Route, at, cost}
use Rattle.tree.specs.Constraints.{Constraint, obeys}
use Rattle.tree.specs.Choice.{CheapestRoute, Chosen, walks, passes, first_choice, Before, ComesFirst}
use Rattle.tree.specs.Theorems.{ChoiceIsFirst, ChoiceIsSettled, PlannerKeepsTerms}
use Rattle.tree.proofs.Lists.{absent, same_some, all_below_true, all_below_from}

-- elements of lists that are put together
in_left : {A : Type 0} (x : A) (xs ys : List A) → In x xs → In x (xs ++ ys)
in_left x [] ys h = absurd h
in_left x (z ∷ zs) ys h = ⊎_elim inl (λ g. inr (in_left x zs ys g)) h

in_right : {A : Type 0} (x : A) (xs ys : List A) → In x ys → In x (xs ++ ys)
in_right x [] ys h = h
in_right x (z ∷ zs) ys h = inr (in_right x zs ys h)

in_append : {A : Type 0} (x : A) (xs ys : List A) → In x (xs ++ ys) → In x xs ⊎ In x ys
in_append x [] ys h = inr h
in_append x (z ∷ zs) ys (inl e) = inl (inl e)
in_append x (z ∷ zs) ys (inr h) = ⊎_elim (λ g. inl (inr g)) inr (in_append x zs ys h)

in_map : {A B : Type 0} (f : A → B) (x : A) (xs : List A) → In x xs → In (f x) (map f xs)
in_map f x [] h = absurd h
in_map f x (z ∷ zs) h = ⊎_elim (λ e. inl (ap f e)) (λ g. inr (in_map f x zs g)) h

from_map : {A B : Type 0} (f : A → B) (y : B) (xs : List A) → In y (map f xs) → (x : A) × In x xs × (f x ≡ y)
from_map f y [] h = absurd h
from_map f y (z ∷ zs) (inl e) = (z, inl refl, e)
from_map f y (z ∷ zs) (inr h) = let r = from_map f y zs h in (r.0, inr r.1, r.2)

in_joined : {A B : Type 0} (f : A → List B) (y : B) (x : A) (xs : List A) → In x xs → In y (f x) → In y (joined (map f xs))
unfolding joined
in_joined f y x [] h k = absurd h
in_joined f y x (z ∷ zs) (inl e) k = in_left y (f z) (joined (map f zs)) (subst (λ w. In y (f w)) (sym e) k)
in_joined f y x (z ∷ zs) (inr h) k = in_right y (f z) (joined (map f zs)) (in_joined f y x zs h k)

from_joined : {A B : Type 0} (f : A → List B) (y : B) (xs : List A) → In y (joined (map f xs)) → (x : A) × In x xs × In y (f x)
unfolding joined
from_joined f y [] h = absurd h
from_joined f y (z ∷ zs) h =
    ⊎_elim (λ g. (z, inl refl, g)) (λ g. let r = from_joined f y zs g in (r.0, inr r.1, r.2)) (in_append y (f z) (joined (map f zs)) h)

in_kept : {A : Type 0} (p : A → Bool) (x : A) (xs : List A) → In x xs → p x ≡ true → In x (filter p xs)
in_kept p x [] h e = absurd h
in_kept p x (z ∷ zs) (inl g) e = subst (λ b. In x (cond b (z ∷ filter p zs) (filter p zs))) (sym (ap p g ∙ e)) (inl g)
in_kept p x (z ∷ zs) (inr h) e =
    cond_both (p z) (z ∷ filter p zs) (filter p zs) (In x) (λ _. inr (in_kept p x zs h e)) (λ _. in_kept p x zs h e)

from_kept : {A : Type 0} (p : A → Bool) (x : A) (xs : List A) → In x (filter p xs) → In x xs × (p x ≡ true)
from_kept p x [] h = absurd h
from_kept p x (z ∷ zs) h = go (λ g. from_kept p x zs g) (p z) refl h
  where
    go : (In x (filter p zs) → In x zs × (p x ≡ true)) → (b : Bool) → p z ≡ b → In x (cond b (z ∷ filter p zs) (filter p zs)) → In x (z ∷ zs) × (p x ≡ true)
    go rest true e (inl g) = (inl g, ap p (sym g) ∙ e)
    go rest true e (inr g) = let r = rest g in (inr r.0, r.1)
    go rest false e g = let r = rest g in (inr r.0, r.1)

-- order of lists that are put together
ordered_append : {A : Type 0} (R : A → A → Type 0) (xs ys : List A) → Ordered R xs → Ordered R ys → ((x y : A) → In x xs → In y ys → R x y) → Ordered R (xs ++ ys)
ordered_append R [] ys hx hy h = hy
ordered_append R (z ∷ zs) ys hx hy h =
    (λ y g. ⊎_elim (hx.0 y) (h z y (inl refl)) (in_append y zs ys g), ordered_append R zs ys hx.1 hy (λ x y a b. h x y (inr a) b))

ordered_map : {A B : Type 0} (R : A → A → Type 0) (Q : B → B → Type 0) (f : A → B) → ((x y : A) → R x y → Q (f x) (f y)) → (xs : List A) → Ordered R xs → Ordered Q (map f xs)
ordered_map R Q f h [] o = tt
ordered_map R Q f h (z ∷ zs) o =
    (λ y g. let r = from_map f y zs g in subst (Q (f z)) r.2 (h z r.0 (o.0 r.0 r.1)), ordered_map R Q f h zs o.1)

ordered_joined : {A B : Type 0} (R : A → A → Type 0) (Q : B → B → Type 0) (f : A → List B) → ((x : A) → Ordered Q (f x)) →
    ((x y : A) → R x y → (a b : B) → In a (f x) → In b (f y) → Q a b) → (xs : List A) → Ordered R xs → Ordered Q (joined (map f xs))
unfolding joined
ordered_joined R Q f each h [] o = tt
ordered_joined R Q f each h (z ∷ zs) o =
    ordered_append Q (f z) (joined (map f zs)) (each z) (ordered_joined R Q f each h zs o.1)
    (λ a b i j. let r = from_joined f b zs j in h z r.0 (o.0 r.0 r.1) a b i r.2)

ordered_kept : {A : Type 0} (R : A → A → Type 0) (p : A → Bool) (xs : List A) → Ordered R xs → Ordered R (filter p xs)
ordered_kept R p [] o = tt
ordered_kept R p (z ∷ zs) o =
    cond_both (p z) (z ∷ filter p zs) (filter p zs) (Ordered R) (λ _. (λ y g. o.0 y (from_kept p y zs g).0, ordered_kept R p zs o.1)) (λ _. ordered_kept R p zs o.1)

-- the first of the least
module _ {A : Type 0} (R : A → A → Type 0) (same : (x : A) → R x x) (f : A → ℕ) where
  record IsLeast (xs : List A) (x : A) : Type 0 where
    found : In x xs
    low : (y : A) → In y xs → f x ≤ f y
    first : Ordered R xs → (y : A) → In y xs → f y ≡ f x → R x y

  abbrev LeastOf : List A → Option A → Type 0
  LeastOf xs None = (y : A) → In y xs → ⊥
  LeastOf xs (Some x) = IsLeast xs x

  lesser_is : (x : A) (xs : List A) (o : Option A) → LeastOf xs o → LeastOf (x ∷ xs) (lesser f x o)
  lesser_is x xs None h =
      record {
        found = inl refl;
        low = λ y g. ⊎_elim (λ e. omega (arith, ap f e)) (λ k. absurd (h y k)) g;
        first = λ _ y g _. ⊎_elim (λ e. subst (R x) e (same x)) (λ k. absurd (h y k)) g;
      }
  lesser_is x xs (Some z) h =
      cond_both (leb (f x) (f z)) (Some x) (Some z) (LeastOf (x ∷ xs))
      (λ e. record {
        found = inl refl;
        low = λ y g. ⊎_elim (λ k. omega (arith, ap f k)) (λ k. omega (arith, leb-true (f x) (f z) e, h.low y k)) g;
        first = λ o y g _. ⊎_elim (λ k. subst (R x) k (same x)) (o.0 y) g;
      })
      (λ e. record {
        found = inr h.found;
        low = λ y g. ⊎_elim (λ k. omega (arith, leb-false (f x) (f z) e, ap f k)) (h.low y) g;
        first = λ o y g same-cost. ⊎_elim (λ k. absurd (omega (arith, leb-false (f x) (f z) e, ap f k))) (λ k. h.first o.1 y k same-cost) g;
      })

  least_is : (xs : List A) → LeastOf xs (least f xs)
  unfolding least
  least_is [] = λ y h. h
  least_is (x ∷ xs) = lesser_is x xs (least f xs) (least_is xs)

-- the walks
walk_shape : (S : Setting) (n u : ℕ) (r : List ℕ) → In r (walks S n u) → (length r ≡ suc n) × (at r 0 ≡ u)
unfolding walks
walk_shape S zero u r (inl e) = (ap length (sym e), ap (λ (q : List ℕ). at q 0) (sym e))
walk_shape S zero u r (inr h) = absurd h
walk_shape S (suc n) u r h =
    let m = from_map (λ (q : List ℕ). u ∷ q) r (joined (map (walks S n) (S.next u))) h in
    let j = from_joined (walks S n) m.0 (S.next u) m.1 in
    (ap length (sym m.2) ∙ ap suc (walk_shape S n j.0 m.0 j.2).0, ap (λ (q : List ℕ). at q 0) (sym m.2))

walk_in : (S : Setting) (n u : ℕ) (r : List ℕ) → length r ≡ suc n → at r 0 ≡ u → ((t : ℕ) → t < n → In (at r (suc t)) (S.next (at r t))) → In r (walks S n u)
unfolding walks
walk_in S n u [] l b h = absurd (omega arith)
walk_in S zero u (x ∷ []) l b h = inl (ap (λ (v : ℕ). v ∷ []) (sym b))
walk_in S zero u (x ∷ (y ∷ r)) l b h = absurd (omega arith)
walk_in S (suc n) u (x ∷ r) l b h =
    let tail = walk_in S n (at r 0) r (let k : length r ≡ suc n = omega arith in k) refl (λ t m. h (suc t) (omega arith)) in
    let v_in = in_joined (walks S n) r (at r 0) (S.next x) (h 0 (omega arith)) tail in
    subst (λ w. In (x ∷ r) (map (λ q. w ∷ q) (joined (map (walks S n) (S.next w))))) b (in_map (λ (q : List ℕ). x ∷ q) r (joined (map (walks S n) (S.next x))) v_in)

before_refl : (r : List ℕ) → Before r r
before_refl [] = tt
before_refl (u ∷ r) = inr (refl, before_refl r)

before_head : (r q : List ℕ) (n : ℕ) → length r ≡ suc n → length q ≡ suc n → at r 0 < at q 0 → Before r q
before_head [] q n l m h = tt
before_head (u ∷ r) [] n l m h = absurd (omega arith)
before_head (u ∷ r) (v ∷ q) n l m h = inl h

walks_ordered : (S : Setting) → SettingTerms S → (n u : ℕ) → Ordered Before (walks S n u)
unfolding walks
walks_ordered S ok zero u = (λ y h. absurd h, tt)
walks_ordered S ok (suc n) u =
    ordered_map Before Before (λ (q : List ℕ). u ∷ q) (λ x y h. inr (refl, h)) (joined (map (walks S n) (S.next u)))
    (ordered_joined ◌<◌ Before (walks S n) (walks_ordered S ok n)
    (λ v w l a b i j.
    let x = walk_shape S n v a i in
    let y = walk_shape S n w b j in
    before_head a b n x.0 y.0 (subst (λ k. k < at b 0) (sym x.1) (subst (λ k. v < k) (sym y.1) l)))
    (S.next u) (ok.ascending u))

-- the walks that pass are the routes that obey
module _ (S : Setting) (ok : SettingTerms S) (s : ℕ) (constraints : List Constraint) where
  pass_route : (r : List ℕ) → In r (walks S S.horizon (S.start s)) → passes S s constraints r ≡ true → Route S s r × (obeys constraints r ≡ true)
  unfolding passes
  pass_route r i e =
      let shape = walk_shape S S.horizon (S.start s) r i in
      let p = and_parts (all_below (λ t. S.step s t (at r t) (at r (suc t))) S.horizon && eqb (at r S.horizon) (S.goal s)) (obeys constraints r) e in
      let q = and_parts (all_below (λ t. S.step s t (at r t) (at r (suc t))) S.horizon) (eqb (at r S.horizon) (S.goal s)) p.0 in (
        record {
          places = shape.0;
          begins = shape.1;
          ends = eqb-true (at r S.horizon) (S.goal s) q.1;
          steps = all_below_true (λ t. S.step s t (at r t) (at r (suc t))) S.horizon q.0;
        },
        p.1,
      )

  route_pass : (r : List ℕ) → Route S s r → obeys constraints r ≡ true → In r (filter (passes S s constraints) (walks S S.horizon (S.start s)))
  unfolding passes
  route_pass r route e =
      let steps = all_below_from (λ t. S.step s t (at r t) (at r (suc t))) S.horizon route.steps in
      in_kept (passes S s constraints) r (walks S S.horizon (S.start s))
      (walk_in S S.horizon (S.start s) r route.places route.begins (λ t h. ok.reached s t (at r t) (at r (suc t)) (route.steps t h)))
      (and_from _ (obeys constraints r) (and_from _ (eqb (at r S.horizon) (S.goal s)) steps (eq-eqb (at r S.horizon) (S.goal s) route.ends)) e)

  candidates : List (List ℕ)
  candidates = filter (passes S s constraints) (walks S S.horizon (S.start s))

  chosen_is : (o : Option (List ℕ)) → LeastOf Before before_refl (cost S s) candidates o → Chosen S s constraints o × ((r : List ℕ) → o ≡ Some r → ComesFirst S s constraints r)
  unfolding candidates
  chosen_is None h = (λ q route e. h q (route_pass q route e), λ r e. absent e refl)
  chosen_is (Some r) h =
      let c = from_kept (passes S s constraints) r (walks S S.horizon (S.start s)) h.found in
      let p = pass_route r c.0 c.1 in (
        record { route = p.0; obeyed = p.1; least = λ q route e. h.low q (route_pass q route e) },
        λ r' e q route o same-cost. subst (λ x. Before x q) (same_some e)
            (h.first (ordered_kept Before (passes S s constraints) (walks S S.horizon (S.start s)) (walks_ordered S ok S.horizon (S.start s))) q (route_pass q route o) (same-cost ∙ ap (cost S s) (sym (same_some e)))),
      )

pub choice_is_first : ChoiceIsFirst
unfolding first_choice candidates
choice_is_first S ok s constraints = chosen_is S ok s constraints (first_choice S s constraints) (least_is Before before_refl (cost S s) (filter (passes S s constraints) (walks S S.horizon (S.start s))))

before_antisym : (r q : List ℕ) → length r ≡ length q → Before r q → Before q r → r ≡ q
before_antisym [] [] l h k = refl
before_antisym [] (v ∷ q) l h k = absurd (omega arith)
before_antisym (u ∷ r) [] l h k = absurd (omega arith)
before_antisym (u ∷ r) (v ∷ q) l (inl a) (inl b) = absurd (omega arith)
before_antisym (u ∷ r) (v ∷ q) l (inl a) (inr b) = absurd (omega (arith, b.0))
before_antisym (u ∷ r) (v ∷ q) l (inr a) (inl b) = absurd (omega (arith, a.0))
before_antisym (u ∷ r) (v ∷ q) l (inr a) (inr b) =
    let rest = before_antisym r q (let e : length r ≡ length q = omega arith in e) a.1 b.1 in
    let head = a.0 in
    cc

pub choice_is_settled : ChoiceIsSettled
choice_is_settled S ok s constraints = let c = choice_is_first S ok s constraints in go (first_choice S s constraints) c.0 c.1
  where
    go : (o : Option (List ℕ)) → Chosen S s constraints o → ((r : List ℕ) → o ≡ Some r → ComesFirst S s constraints r) →
        ((r : List ℕ) → CheapestRoute S s constraints r → ComesFirst S s constraints r → o ≡ Some r) × (Chosen S s constraints None → o ≡ None)
    go None h f = (λ r c _. absurd (h r c.route c.obeyed), λ _. refl)
    go (Some q) h f = (
      λ r c first.
          let e : cost S s q ≡ cost S s r = omega (arith, c.least q h.route h.obeyed, h.least r c.route c.obeyed) in
          ap {B = Option (List ℕ)} Some
          (before_antisym q r (h.route.places ∙ sym c.route.places) (f q refl r c.route c.obeyed (sym e)) (first q h.route h.obeyed e)),
      λ n. absurd (n q h.route h.obeyed),
    )

pub planner_keeps_terms : PlannerKeepsTerms
planner_keeps_terms S R ok rule = record { setting = ok; choose = λ s constraints _. (choice_is_first S ok s constraints).0; rule = rule }
