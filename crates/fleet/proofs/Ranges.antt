-- What a run over a range of signed numbers gives.
use Rattle.std.proofs.Common.{◌≡◌, ℕ, zero, suc, ◌+◌, ◌-◌, ◌*◌, ◌<◌, ◌≤◌, Bool, true, false, ℤ, pos, ◌+ℤ◌, ◌-ℤ◌, List, [], ◌∷◌, length, Option, Some, None, MatchOption, MatchBool, Bor, IsTrue, sym, ap, subst, ◌∙◌, arith}
use borrow.Author.Differences.{up, down}
use Rattle.std.proofs.lemmas.Bool.{both_ways, false_from_ne_true}
use Rattle.std.proofs.lemmas.Int.{ints}
use Rattle.std.specs.declared.ops.Range.{Range}
use Rattle.std.specs.Int.{int_gap}
use Rattle.std.specs.List.{slice_get}
use Rattle.std.specs.Range.{range_steps}
use Rattle.std.specs.Iterator.{Yields}
use Rattle.std.specs.Iterator.Runs.{Run, AllItems, AnyItemGives, AllItemsGive, CallKeepsClosure, NoItemPasses, EndsAtFirstPassing}
use Rattle.std.specs.Fn.{Called, CalledAt}
use denote.Param.Members.{Mut}
use Rattle.std.specs.Option.{IsSomeAnd}
use Rattle.std.proofs.iter.Serving.{gap_is}
use Rattle.std.proofs.iter.runs.Made.{took, at-is}
use Rattle.std.proofs.iter.runs.Lists.{same_Some, at_some, nth_read}
use Rattle.fleet.specs.Scans.{some_within, FirstNear, Within, TellsWithin}
use Rattle.fleet.specs.ScansLemmas.{within_told, near_first_is}

abbrev left : Range ℤ → ℕ
left s = int_gap s.start s.end

abbrev pub signed_steps : Range ℤ → Option ℤ → Range ℤ → Type 0
signed_steps = range_steps int_gap (λ x y. y ≡ x +ℤ pos 1)

-- the numbers come one after another, from a on
abbrev Counts : List ℤ → ℤ → Type 0
Counts xs a = (k : ℕ) → MatchOption (slice_get xs k) (Unit {0}) (λ x. x ≡ a +ℤ pos k)

-- a step leaves one number less
fewer_left : (s t : Range ℤ) → t.end ≡ s.end → 0 < left s → t.start ≡ s.start +ℤ pos 1 → left t + 1 ≡ left s
fewer_left s t same some next = omega (arith, ints, same, some, next, gap_is s.start s.end, gap_is s.end s.start, gap_is t.start t.end, gap_is t.end t.start)

counted : (xs : List ℤ) (s t : Range ℤ) → Yields signed_steps s xs t → (left t + length xs ≡ left s) × Counts xs s.start
counted [] s t y = (omega (arith, ap left y), λ k. tt)
counted (x ∷ xs) s t y =
    let (fewer, places) = counted xs y.0 t y.2 in
    let (same, step) = y.1 in
    let (some, first, next) = step in
    (omega (arith, fewer, fewer_left s y.0 same some next), at first next places)
  where
    at : x ≡ s.start → y.0.start ≡ s.start +ℤ pos 1 → Counts xs y.0.start → Counts (x ∷ xs) s.start
    at first next places zero = omega (arith, ints, first)
    at first next places (suc k) = at_some (slice_get xs k) _ (λ v e.
        let here = subst (λ o. MatchOption o (Unit {0}) (λ x. x ≡ y.0.start +ℤ pos k)) e (places k) in omega (arith, ints, here, next))

turned : (k : ℕ) → pos 0 -ℤ pos 7 +ℤ pos k ≡ pos k -ℤ pos 7 +ℤ pos 0
turned k = omega (arith, ints)

abbrev Over : Run signed_steps → ℕ → ℤ → Type 0
Over p m z = (p.from.start ≡ z -ℤ pos m) × (p.from.end ≡ z +ℤ pos m +ℤ pos 1)

-- a run over the numbers from z - m to z + m
module _ (p : Run signed_steps) (m : ℕ) (z : ℤ) (over : Over p m z) where
  many : left p.from ≡ 2 * m + 1
  many = omega (arith, ints, over.0, over.1, gap_is p.from.start p.from.end, gap_is p.from.end p.from.start)

  short : p.len ≤ 2 * m + 1
  short = omega (arith, p.long, many, (counted p.items p.from (took p).0 (took p).1).0)

  whole : p.whole ≡ true → p.len ≡ 2 * m + 1
  whole w = omega (arith, p.long, many, (counted p.items p.from (took p).0 (took p).1).0, ((took p).2 w).1.1.0)

  place : (k : ℕ) → k < p.len → p.at k ≡ Some (z -ℤ pos m +ℤ pos k)
  place k below =
      let read = nth_read p.items k (pos 0) (omega (arith, p.long)) in
      let is = subst (λ o. MatchOption o (Unit {0}) (λ x. x ≡ p.from.start +ℤ pos k)) read ((counted p.items p.from (took p).0 (took p).1).1 k) in
      at-is p k ∙ read ∙ ap Some (rw over.0 at is)

  inside : (k : ℕ) → k < p.len → Within m z (z -ℤ pos m +ℤ pos k)
  inside k below = (omega (arith, ints, short), omega (arith, ints, short))

  each : (P : ℤ → Type 0) (k : ℕ) → k < p.len → MatchOption (p.at k) (Unit {0}) P → P (z -ℤ pos m +ℤ pos k)
  each P k below h = subst (λ o. MatchOption o (Unit {0}) P) (place k below) h

  one : (P : ℤ → Type 0) (k : ℕ) → k < p.len → IsSomeAnd (p.at k) P → P (z -ℤ pos m +ℤ pos k)
  one P k below h = subst (λ o. IsSomeAnd o P) (place k below) h

  module _ (answers : ℤ → Bool → Type 0) (set : ℤ → Bool) (tells : TellsWithin m z answers set) where
    told : (k : ℕ) → k < p.len → (r : Bool) → answers (z -ℤ pos m +ℤ pos k) r → set (z -ℤ pos m +ℤ pos k) ≡ r
    told k below r h = sym (tells _ (inside k below) r h)

    some : (k : ℕ) → k < p.len → IsSomeAnd (p.at k) (λ x. answers x true) → some_within m z set ≡ true
    some k below h = (within_told m z set).1 (z -ℤ pos m +ℤ pos k, inside k below, told k below true (one _ k below h))

    none : IsTrue p.whole → AllItems p (λ x. answers x false) → some_within m z set ≡ false
    none w all =
        false_from_ne_true (some_within m z set)
        (λ e.
        let (a, near, hit) = (within_told m z set).0 e in
        let k : ℕ = up a + m + down z - (down a + up z) in
        let below : k < p.len = omega (arith, ints, near, whole w) in
        let is : z -ℤ pos m +ℤ pos k ≡ a = omega (arith, ints, near) in
        both_ways _ (rw is at (told k below false (each _ k below (all k)))) hit)

module _ (p : Run signed_steps) (set : ℤ → Bool) {F : Type 0} where
  -- what `any` answers over the numbers from z - m to z + m
  pub any_is : (m : ℕ) (z : ℤ) → Over p m z → (g : Mut F (ℤ × Unit {0}) Bool) (f : F) → CallKeepsClosure g f → TellsWithin m z (λ x r. Called g f (x, tt) r f) set
      → (r : Bool) → MatchBool r (AnyItemGives p g f true) (IsTrue p.whole × AllItemsGive p g f false) → r ≡ some_within m z set
  any_is m z over g f keeps tells true h = let (k, below, hit) = h keeps in sym (some p m z over _ set tells k below hit)
  any_is m z over g f keeps tells false h = sym (none p m z over _ set tells h.0 (h.1 keeps))

  -- what `find` answers over the numbers from -7 to 7
  pub find_is : Over p 7 (pos 0) → (g : Mut F (Bor ℤ × Unit {0}) Bool) (f : F) → CallKeepsClosure g f → TellsWithin 7 (pos 0) (λ x r. CalledAt g f x r f) set
      → (o : Option ℤ) → MatchOption o (IsTrue p.whole × NoItemPasses p g f) (EndsAtFirstPassing p g f) → FirstNear set o
  find_is over g f keeps tells None h = none p 7 (pos 0) over _ set tells h.0 (h.1 keeps)
  find_is over g f keeps tells (Some x) (i, len, at, ends) =
      let (hit, before) = ends keeps in
      let below : i < p.len = omega (arith, len) in
      let passed = subst (λ o. IsSomeAnd o (λ x. CalledAt g f x true f)) (sym at) hit in
      let is : x ≡ pos i -ℤ pos 7 +ℤ pos 0 = omega (arith, ints, same_Some x _ (sym at ∙ place p 7 (pos 0) over i below)) in (
        some p 7 (pos 0) over _ set tells i below passed,
        is ∙ near_first_is set i (omega (arith, short p 7 (pos 0) over)) (rw (turned i) at (told p 7 (pos 0) over _ set tells i below true (one p 7 (pos 0) over _ i below passed)))
            (λ j h. let low : j < p.len = omega arith in rw (turned j) at (told p 7 (pos 0) over _ set tells j low false (one p 7 (pos 0) over _ j low (before j h)))),
      )
