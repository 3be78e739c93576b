-- Yes or no and counts keep the laws of a weight.
use Rattle.std.specs.Prelude.{◌≡◌, ℕ, ◌+◌, ◌*◌, ◌<◌, ◌≤◌, min, true, false, ◌⊎◌, refl}
use Rattle.std.proofs.Common.{sym, ap, ap₂, ◌∙◌, inl, inr, ⊎_elim, mul_comm, mul_assoc, mul-add, zero-mul, mul-le-mul_right, arith}
use mathlib.Core.HLevel.{is_prop→PathP}
use Rattle.std.proofs.Math.Bridge.{le_prop}
use Rattle.std.proofs.Math.Nat.{min-eq_right}
use Rattle.std.proofs.lemmas.Bool.{cases_lt}
use Rattle.walk.specs.Kinds.{either_both, capped}
use Rattle.walk.specs.Semiring.{Laws}
use Rattle.walk.specs.declared.count.Count.{Count}

pub either_both_laws : Laws either_both
either_both_laws = record {
  add_assoc = elim [ true ↦ λ y z. refl | false ↦ λ y z. refl ];
  add_comm = elim [ true ↦ elim [ true ↦ refl | false ↦ refl ] | false ↦ elim [ true ↦ refl | false ↦ refl ] ];
  add_nought = λ x. refl;
  mul_assoc = elim [ true ↦ λ y z. refl | false ↦ λ y z. refl ];
  one_mul = λ x. refl;
  mul_one = elim [ true ↦ refl | false ↦ refl ];
  mul_add = elim [ true ↦ λ y z. refl | false ↦ λ y z. refl ];
  add_mul = elim [ true ↦ elim [ true ↦ elim [ true ↦ refl | false ↦ refl ] | false ↦ elim [ true ↦ refl | false ↦ refl ] ] | false ↦ λ y z. refl ];
  nought_mul = λ x. refl;
  mul_nought = elim [ true ↦ refl | false ↦ refl ];
}

-- two counts of one value are equal
pub same_count : (x y : Count) → x.value ≡ y.value → x ≡ y
same_count x y e = λ i. record { value = e i; most = is_prop→PathP (λ j. e j ≤ 65535) (λ j. le_prop) x.most y.most i }

-- a cap on a factor does not show under a cap on the product
cap_mul : (a b : ℕ) → min 65535 (a * min 65535 b) ≡ min 65535 (a * b)
cap_mul a b = ⊎_elim (λ less. large less (cases_lt 0 a)) (λ small. ap (λ k. min 65535 (a * k)) (min-eq_right small)) (cases_lt 65535 b)
  where
    large : 65535 < b → (0 < a) ⊎ (a ≤ 0) → min 65535 (a * min 65535 b) ≡ min 65535 (a * b)
    large h (inl l) = omega (arith, mul-le-mul_right {m = 1} {n = a} (min 65535 b) l, mul-le-mul_right {m = 1} {n = a} b l)
    large h (inr z) = let none : a ≡ 0 = omega arith in ap (λ k. min 65535 (k * min 65535 b)) none ∙ omega (arith, zero-mul (min 65535 b), zero-mul b, ap (λ k. k * b) none)

spread : (a b c : ℕ) → min 65535 (a * min 65535 (b + c)) ≡ min 65535 (min 65535 (a * b) + min 65535 (a * c))
spread a b c = cap_mul a (b + c) ∙ omega (arith, mul-add a b c)

pub capped_laws : Laws capped
capped_laws = record {
  add_assoc = λ x y z. same_count _ _ (omega arith);
  add_comm = λ x y. same_count _ _ (omega arith);
  add_nought = λ x. same_count _ _ (omega arith);
  mul_assoc = λ x y z. same_count _ _
      (ap (min 65535) (mul_comm (min 65535 (x.value * y.value)) z.value)
      ∙ cap_mul z.value (x.value * y.value)
      ∙ ap (min 65535) (mul_comm z.value (x.value * y.value) ∙ mul_assoc x.value y.value z.value)
      ∙ sym (cap_mul x.value (y.value * z.value)));
  one_mul = λ x. same_count _ _ (omega arith);
  mul_one = λ x. same_count _ _ (omega arith);
  mul_add = λ x y z. same_count _ _ (spread x.value y.value z.value);
  add_mul = λ x y z. same_count _ _
      (ap (min 65535) (mul_comm (min 65535 (x.value + y.value)) z.value)
      ∙ spread z.value x.value y.value
      ∙ ap₂ (λ u v. min 65535 (min 65535 u + min 65535 v)) (mul_comm z.value x.value) (mul_comm z.value y.value));
  nought_mul = λ x. same_count _ _ (omega arith);
  mul_nought = λ x. same_count _ _ (omega arith);
}
