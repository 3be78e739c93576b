use Rattle.std.proofs.Common.{◌≡◌, ℕ, ◌<◌, Bool, refl, rules, arith}
use Rattle.engine.specs.Scans.{pair_of, at_sled, at_time}
use Rattle.engine.proofs.Found.{found_below}
use Rattle.engine.proofs.scan.first_at.Given as given
use Rattle.engine.proofs.scan.first_at.Goals as goal

pub returns : goal.returns
unfolding at_time
returns g c test h = found_below (at_sled c.args.sleds test c.args.instant) 0 c.args.sleds (λ k l. absurd (omega arith)) (λ i y q k. search rules) (λ i y m l k.
    let told : (any : ℕ → ℕ → ℕ → Bool) → ((j : ℕ) (b : Bool) → i < j → j < c.args.sleds → given.F-post g c.args.passes.now (pair_of c.args.instant i j) b → b ≡ any c.args.instant i j) →
    y ≡ at_sled c.args.sleds any c.args.instant i = search rules in
    told test (h i)) _ refl c.find_map.result c.find_map.ensures.runs
