use Rattle.std.proofs.Common.{◌≡◌, ℕ, ◌<◌, Bool, refl, rules, arith}
use Rattle.engine.specs.Scans.{pair_of, at_time, scanned}
use Rattle.engine.proofs.Found.{found_below}
use Rattle.engine.proofs.scan.first_pair.Given as given
use Rattle.engine.proofs.scan.first_pair.Goals as goal

pub returns : goal.returns
unfolding scanned
returns g c test h = found_below (at_time c.args.sleds test) 0 c.args.instants (λ k l. absurd (omega arith)) (λ t y q k. search rules) (λ t y m l k.
    let told : (any : ℕ → ℕ → ℕ → Bool) → ((i j : ℕ) (b : Bool) → i < j → j < c.args.sleds → given.F-post g c.args.passes (pair_of t i j) b → b ≡ any t i j) → y ≡ at_time c.args.sleds any t = search rules in
    told test (λ i j b q p k. h (pair_of t i j) l q p b k)) _ refl c.find_map.result c.find_map.ensures.runs
