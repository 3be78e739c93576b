-- The places one step from a place.
use Rattle.std.proofs.Common.{◌≡◌, ℕ, ◌+◌, ◌-◌, ◌/◌, ◌%◌, ◌<◌, ◌≤◌, Bool, true, false, ◌&&◌, ltb, leb, ◌⊎◌, List, [], ◌∷◌, ◌++◌, ℤ, pos, ◌+ℤ◌, Some, None, Option, sym, refl, ap, ◌∙◌, subst, inl, inr, arith}
use Rattle.std.specs.Option.{option_to_list}
use Rattle.std.specs.List.{flat_map, AllByRecursion}
use Rattle.std.proofs.lemmas.Int.{ints}
use Rattle.std.proofs.lemmas.Bool.{both_ways, and_from, and_left, and_right, le-leb, lt-ltb}
use Rattle.std.proofs.lemmas.Bool.Decides.{nat_tests}
use Rattle.grid.specs.declared.moves.Move.{Move}
use Rattle.grid.specs.declared.moves.Move.TheVariants.{North, West, Wait, East, South}
use Rattle.grid.specs.Floors.{from_0_below}
use Rattle.grid.specs.Moves.{across, down}
use Rattle.grid.specs.Board.{only, side, every_move, next, Leads, Moved, In, Ascending, NextPlaces, Neighbour}

-- elements of joined lists
pub in_left : {A : Type 0} (x : A) (xs ys : List A) → In x xs → In x (xs ++ ys)
in_left x [] ys h = elim h [ ]
in_left x (z ∷ xs) ys (inl e) = inl e
in_left x (z ∷ xs) ys (inr h) = inr (in_left x xs ys h)

pub in_right : {A : Type 0} (x : A) (xs ys : List A) → In x ys → In x (xs ++ ys)
in_right x [] ys h = h
in_right x (z ∷ xs) ys h = inr (in_right x xs ys h)

pub in_either : {A : Type 0} (x : A) (xs ys : List A) → In x (xs ++ ys) → In x xs ⊎ In x ys
in_either x [] ys h = inr h
in_either x (z ∷ xs) ys (inl e) = inl (inl e)
in_either x (z ∷ xs) ys (inr h) = elim (in_either x xs ys h) [ inl k ↦ inl (inr k) | inr k ↦ inr k ]

pub in_joined : {A X : Type 0} (f : X → List A) (x : A) (y : X) (ys : List X) → In y ys → In x (f y) → In x (flat_map f ys)
in_joined f x y [] k h = elim k [ ]
in_joined f x y (z ∷ ys) (inl e) h = in_left x (f z) (flat_map f ys) (subst (λ w. In x (f w)) (sym e) h)
in_joined f x y (z ∷ ys) (inr k) h = in_right x (f z) (flat_map f ys) (in_joined f x y ys k h)

pub joined_in : {A X : Type 0} (f : X → List A) (x : A) (ys : List X) → In x (flat_map f ys) → (y : X) × In y ys × In x (f y)
joined_in f x [] h = elim h [ ]
joined_in f x (y ∷ ys) h = elim (in_either x (f y) (flat_map f ys) h) [
  | inl k ↦ (y, inl refl, k)
  | inr k ↦ let r = joined_in f x ys k in (r.0, inr r.1, r.2)
]

pub all_in : {A : Type 0} (P : A → Type 0) (xs : List A) (x : A) → AllByRecursion P xs → In x xs → P x
all_in P [] x h k = elim k [ ]
all_in P (y ∷ ys) x h (inl e) = subst P e h.0
all_in P (y ∷ ys) x h (inr k) = all_in P ys x h.1 k

pub all_from_in : {A : Type 0} (P : A → Type 0) (xs : List A) → ((x : A) → In x xs → P x) → AllByRecursion P xs
all_from_in P [] h = tt
all_from_in P (y ∷ ys) h = (h y (inl refl), all_from_in P ys (λ x k. h x (inr k)))

in_option : {A : Type 0} (x : A) (o : Option A) → In x (option_to_list o) → o ≡ Some x
in_option x None h = elim h [ ]
in_option x (Some y) (inl e) = ap Some e
in_option x (Some y) (inr h) = elim h [ ]

option_in : {A : Type 0} (x : A) (o : Option A) → o ≡ Some x → In x (option_to_list o)
option_in x o e = subst (λ r. In x (option_to_list r)) (sym e) (inl refl)

pub is_move : (m : Move) → In m every_move
is_move North = inl refl
is_move West = inr (inl refl)
is_move Wait = inr (inr (inl refl))
is_move East = inr (inr (inr (inl refl)))
is_move South = inr (inr (inr (inr (inl refl))))

-- what holds of a side that is there
only_some : (P : ℕ → Type 0) (test : Bool) (x q : ℕ) → only test x ≡ Some q → (test ≡ true → P x) → P q
only_some P true x q e h = let same : x ≡ q = cc in subst P same (h refl)
only_some P false x q e h = let z : ◌≡◌ {A = ℕ} 0 1 = cc in absurd (omega arith)

none_only : (test : Bool) (x : ℕ) → only test x ≡ None → test ≡ false
none_only true x e = let z : ◌≡◌ {A = ℕ} 0 1 = cc in absurd (omega arith)
none_only false x e = refl

some_only : (test : Bool) (x q : ℕ) → test ≡ true → x ≡ q → only test x ≡ Some q
some_only test x q t e = ap (λ b. only b x) t ∙ ap Some e

-- a side is where its move leads
pub side_leads : (p : ℕ) (m : Move) (q : ℕ) → side p m ≡ Some q → Leads p m q
side_leads p North q e = only_some (Leads p North) (leb 16 p && ltb p 256) (p - 16) q e (λ t.
    let low : 16 ≤ p = grind (arith, nat_tests) in
    let high : p < 256 = grind (arith, nat_tests) in
    record { from = high; to = omega arith; column = omega (arith, ints); row = omega (arith, ints) })
side_leads p West q e = only_some (Leads p West) (ltb 0 (p % 16) && ltb p 256) (p - 1) q e (λ t.
    let low : 0 < p % 16 = grind (arith, nat_tests) in
    let high : p < 256 = grind (arith, nat_tests) in
    record { from = high; to = omega arith; column = omega (arith, ints); row = omega (arith, ints) })
side_leads p Wait q e = only_some (Leads p Wait) (ltb p 256) p q e (λ t.
    let high : p < 256 = grind (arith, nat_tests) in
    record { from = high; to = high; column = omega (arith, ints); row = omega (arith, ints) })
side_leads p East q e = only_some (Leads p East) (ltb (p % 16) 15 && ltb p 256) (p + 1) q e (λ t.
    let low : p % 16 < 15 = grind (arith, nat_tests) in
    let high : p < 256 = grind (arith, nat_tests) in
    record { from = high; to = omega arith; column = omega (arith, ints); row = omega (arith, ints) })
side_leads p South q e = only_some (Leads p South) (ltb p 240) (p + 16) q e (λ t.
    let high : p < 240 = grind (arith, nat_tests) in
    record { from = omega arith; to = omega arith; column = omega (arith, ints); row = omega (arith, ints) })

-- where a move leads, there is its side
pub leads_side : (p : ℕ) (m : Move) (q : ℕ) → Leads p m q → side p m ≡ Some q
leads_side p North q h =
    let column = h.column in
    let row = h.row in
    let to = h.to in
    let from = h.from in
    some_only (leb 16 p && ltb p 256) (p - 16) q (and_from _ _ (le-leb 16 p (omega (arith, ints))) (lt-ltb p 256 from)) (omega (arith, ints))
leads_side p West q h =
    let column = h.column in
    let row = h.row in
    let to = h.to in
    let from = h.from in
    some_only (ltb 0 (p % 16) && ltb p 256) (p - 1) q (and_from _ _ (lt-ltb 0 (p % 16) (omega (arith, ints))) (lt-ltb p 256 from)) (omega (arith, ints))
leads_side p Wait q h =
    let column = h.column in
    let row = h.row in
    let from = h.from in
    some_only (ltb p 256) p q (lt-ltb p 256 from) (omega (arith, ints))
leads_side p East q h =
    let column = h.column in
    let row = h.row in
    let to = h.to in
    let from = h.from in
    some_only (ltb (p % 16) 15 && ltb p 256) (p + 1) q (and_from _ _ (lt-ltb (p % 16) 15 (omega (arith, ints))) (lt-ltb p 256 from)) (omega (arith, ints))
leads_side p South q h =
    let column = h.column in
    let row = h.row in
    let to = h.to in
    some_only (ltb p 240) (p + 16) q (lt-ltb p 240 (omega (arith, ints))) (omega (arith, ints))

-- the move that goes back
abbrev pub opposite : Move → Move
opposite North = South
opposite West = East
opposite Wait = Wait
opposite East = West
opposite South = North

pub opposite_twice : (m : Move) → opposite (opposite m) ≡ m
opposite_twice North = refl
opposite_twice West = refl
opposite_twice Wait = refl
opposite_twice East = refl
opposite_twice South = refl

pub leads_back : (p : ℕ) (m : Move) (q : ℕ) → Leads p m q → Leads q (opposite m) p
leads_back p m q h = record { from = h.to; to = h.from; column = back across m (across_back m) h.column; row = back down m (down_back m) h.row }
  where
    back : (f : Move → ℤ) (n : Move) {x y : ℕ} → f n +ℤ f (opposite n) ≡ pos 0 → pos y ≡ pos x +ℤ f n → pos x ≡ pos y +ℤ f (opposite n)
    back f n {x} {y} zero e = omega (arith, ints)

    across_back : (n : Move) → across n +ℤ across (opposite n) ≡ pos 0
    across_back North = refl
    across_back West = refl
    across_back Wait = refl
    across_back East = refl
    across_back South = refl

    down_back : (n : Move) → down n +ℤ down (opposite n) ≡ pos 0
    down_back North = refl
    down_back West = refl
    down_back Wait = refl
    down_back East = refl
    down_back South = refl

abbrev columns : ℕ → Move → Bool
columns p m = from_0_below (pos (p % 16) +ℤ across m) 16

abbrev rows : ℕ → Move → Bool
rows p m = from_0_below (pos (p / 16) +ℤ down m) 16

-- without a side, the move leads off the board
side_off : (p : ℕ) (m : Move) → p < 256 → side p m ≡ None → Moved p m None
side_off p North l e = and_right (columns p North) (rows p North) (grind (arith, nat_tests, ints, none_only (leb 16 p && ltb p 256) (p - 16) e))
side_off p West l e = and_left (columns p West) (rows p West) (grind (arith, nat_tests, ints, none_only (ltb 0 (p % 16) && ltb p 256) (p - 1) e))
side_off p Wait l e = absurd (both_ways (ltb p 256) (none_only (ltb p 256) p e) (lt-ltb p 256 l))
side_off p East l e = and_left (columns p East) (rows p East) (grind (arith, nat_tests, ints, none_only (ltb (p % 16) 15 && ltb p 256) (p + 1) e))
side_off p South l e = and_right (columns p South) (rows p South) (grind (arith, nat_tests, ints, none_only (ltb p 240) (p + 16) e))

side_moved : (p : ℕ) (m : Move) → p < 256 → (r : Option ℕ) → side p m ≡ r → Moved p m r
side_moved p m l None e = side_off p m l e
side_moved p m l (Some q) e = side_leads p m q e

-- how far each move goes in place numbers, more by 16
abbrev pub reach : Move → ℕ
reach North = 0
reach West = 15
reach Wait = 16
reach East = 17
reach South = 32

pub side_reach : (p : ℕ) (m : Move) (q : ℕ) → side p m ≡ Some q → q + 16 ≡ p + reach m
side_reach p North q e = only_some (λ x. x + 16 ≡ p + 0) (leb 16 p && ltb p 256) (p - 16) q e (λ t. grind (arith, nat_tests))
side_reach p West q e = only_some (λ x. x + 16 ≡ p + 15) (ltb 0 (p % 16) && ltb p 256) (p - 1) q e (λ t. grind (arith, nat_tests))
side_reach p Wait q e = only_some (λ x. x + 16 ≡ p + 16) (ltb p 256) p q e (λ t. refl)
side_reach p East q e = only_some (λ x. x + 16 ≡ p + 17) (ltb (p % 16) 15 && ltb p 256) (p + 1) q e (λ t. omega arith)
side_reach p South q e = only_some (λ x. x + 16 ≡ p + 32) (ltb p 240) (p + 16) q e (λ t. omega arith)

-- moves each of which goes less far than all later ones
abbrev Outward : List Move → Type 0
Outward [] = Unit {0}
Outward (m ∷ ms) = AllByRecursion (λ n. reach m < reach n) ms × Outward ms

every_outward : Outward every_move
every_outward = search arith

sides_ascend : (p : ℕ) (ms : List Move) → Outward ms → Ascending (flat_map (λ m. option_to_list (side p m)) ms)
sides_ascend p [] h = tt
sides_ascend p (m ∷ ms) h = go (side p m) refl (sides_ascend p ms h.1)
  where
    go : (o : Option ℕ) → side p m ≡ o → Ascending (flat_map (λ n. option_to_list (side p n)) ms) → Ascending (option_to_list o ++ flat_map (λ n. option_to_list (side p n)) ms)
    go None e k = k
    go (Some x) e k = (
      λ y there.
          let r = joined_in (λ n. option_to_list (side p n)) y ms there in
          let less = all_in (λ n. reach m < reach n) ms r.0 h.0 r.1 in
          let here = side_reach p m x e in
          let far = side_reach p r.0 y (in_option y (side p r.0) r.2) in
          omega arith,
      k,
    )

pub next_places : (p : ℕ) → NextPlaces p
unfolding next
next_places p = record {
  ascending = sides_ascend p every_move every_outward;
  sound = λ q h. let r = joined_in (λ m. option_to_list (side p m)) q every_move h in (r.0, side_leads p r.0 q (in_option q (side p r.0) r.2));
  complete = λ q h. in_joined (λ m. option_to_list (side p m)) q h.0 every_move (is_move h.0) (option_in q (side p h.0) (leads_side p h.0 q h.1));
}

pub neighbour_told : (p : ℕ) (m : Move) (r : Option ℕ) → p < 256 → r ≡ side p m → Neighbour p m r
neighbour_told p m r l e = record { side_is = e; leads = side_moved p m l r (sym e); steps = next_places p }
