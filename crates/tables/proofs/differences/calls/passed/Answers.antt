use Rattle.std.proofs.Common.{◌≡◌, [], ◌∷◌, ◌+ℤ◌, to_z, of_z, arith, w8}
use Rattle.std.proofs.lemmas.Int.{to_z-of_z, ints}
use Rattle.tables.specs.Sweeps.{half}
use Rattle.tables.proofs.differences.calls.passed.Goals as goal

pub returns : goal.returns
returns c =
    let half_is = rw (to_z-of_z w8 c.args.step c.ranges.step) at c.halved.ensures.value in
    let start = to_z-of_z w8 c.args.z c.ranges.z in
    let middle : to_z w8 (of_z w8 (to_z w8 (of_z w8 c.args.z) +ℤ to_z w8 (of_z w8 c.halved.result))) ≡ c.args.z +ℤ half c.args.step = omega (arith, ints, half_is) in
    let end : to_z w8 (of_z w8 (to_z w8 (of_z w8 c.args.z) +ℤ to_z w8 (of_z w8 c.args.step))) ≡ c.args.z +ℤ c.args.step = omega (arith, ints) in
    λ i. start i ∷ (middle i ∷ (end i ∷ []))
