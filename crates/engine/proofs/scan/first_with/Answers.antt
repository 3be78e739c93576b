use Rattle.std.proofs.Common.{◌≡◌, ℕ, ◌+◌, Bool, refl, ◌∙◌, rules, arith}
use Rattle.std.specs.Bool.{then_some}
use Rattle.engine.specs.Scans.{pair_of, at_pair, at_sled}
use Rattle.engine.proofs.Below.{pair_low, pair_high}
use Rattle.engine.proofs.Found.{found_below}
use Rattle.std.proofs.lemmas.Iterator.{serves_from_Range}
use Rattle.engine.proofs.scan.first_with.Given as given
use Rattle.engine.proofs.scan.first_with.Goals as goal

pub find_map-requires-clause-callable : goal.find_map-requires-clause-callable
find_map-requires-clause-callable g c = serves_from_Range (λ x q k. search rules) (λ x l m.
    let may : given.F-pre g c.args.passes.now (pair_of c.args.instant c.args.first x) = c.requires.callable x (omega arith) m in search rules)

pub returns : goal.returns
unfolding at_sled
returns g c test h =
    let n = c.args.sleds in
    let t = c.args.instant in
    let i = c.args.first in
    found_below (at_pair n test t i) (i + 1) n (λ k l. pair_low n test t i k (omega arith)) (λ j y q k. search rules) (λ j y m l k.
    let told : (any : ℕ → ℕ → ℕ → Bool) → ((b : Bool) → given.F-post g c.args.passes.now (pair_of t i j) b → b ≡ any t i j) → y ≡ then_some (any t i j) (pair_of t i j) = search rules in
    told test (λ b p. h j b (omega arith) l p) ∙ pair_high n test t i j (omega arith)) _ refl c.find_map.result c.find_map.ensures.runs
