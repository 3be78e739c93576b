-- The sleds so far: one more, and the last of them.
use Rattle.std.proofs.Common.{◌≡◌, suc, ◌-◌, ◌≤◌, Bool, false, List, [], ◌∷◌, ◌++◌, map, length, Some, None, Option, Bor, refl, sym, ap, ◌∙◌, arith}
use Rattle.std.proofs.lemmas.List.{map-append, length-map}
use Rattle.std.specs.List.{slice_get}
use Rattle.std.specs.Option.{MatchOption, option_copied}
use Rattle.few.specs.declared.Few.{Few}
use Rattle.few.specs.Told.{told}
use Rattle.few.proofs.Counts.{at_most}
use Rattle.job.specs.declared.sled.Sled.{Sled}
use Rattle.job.specs.declared.sled_value.SledValue.{SledValue}
use Rattle.job.specs.Jobs.{values_of, sleds_told, ends_drawn}
use Rattle.job.specs.Sound.{is_drawing, drawn_shape}

pub sleds_few : (sleds : Few Sled 6) → length (sleds_told sleds) ≤ 6
sleds_few sleds = omega (arith, length-map (told sleds) values_of, at_most sleds)

pub told_more : (before after : Few Sled 6) (s : Sled) → told after ≡ told before ++ s ∷ [] → sleds_told after ≡ sleds_told before ++ values_of s ∷ []
told_more before after s e = ap (map values_of) e ∙ map-append values_of (told before) (s ∷ [])

pub drawn_more : (ss : List SledValue) (s : SledValue) → ends_drawn (ss ++ s ∷ []) ≡ is_drawing s
drawn_more [] s = refl
drawn_more (x ∷ []) s = refl
drawn_more (x ∷ y ∷ ss) s = drawn_more (y ∷ ss) s

abbrev pub is_drawn : Option Sled → Bool
is_drawn None = false
is_drawn (Some s) = drawn_shape s.shape

pub ends_is : (ss : List Sled) → ends_drawn (map values_of ss) ≡ is_drawn (slice_get ss (length ss - 1))
ends_is [] = refl
ends_is (x ∷ []) = refl
ends_is (x ∷ y ∷ ss) =
    let near : suc (length ss) - 1 ≡ length ss = omega arith in
    let far : suc (suc (length ss)) - 1 ≡ suc (length ss) = omega arith in
    ends_is (y ∷ ss) ∙ ap (λ n. is_drawn (slice_get (y ∷ ss) n)) near ∙ ap (λ n. is_drawn (slice_get (x ∷ y ∷ ss) n)) (sym far)

pub drawn_by : {P : Bor Sled → Type 0} (o : Option (Bor Sled)) (r : Bool) → ((x : Bor Sled) → P x → r ≡ drawn_shape x.now.shape) → MatchOption o (r ≡ false) P → r ≡ is_drawn (option_copied o)
drawn_by None r told h = h
drawn_by (Some x) r told h = told x h
