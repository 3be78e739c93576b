use Rattle.std.proofs.Common.{rules}
use Rattle.std.proofs.lemmas.Bool.Decides.{Decides-at}
use Rattle.tables.specs.DifferenceSets.{differences}
use Rattle.tables.specs.Entries.{says_set}
use Rattle.tables.proofs.Sweeping.{difference_told, differences_near}
use Rattle.tables.proofs.differences.Differences.of.Goals as goal

pub returns : goal.returns
returns g c =
    let f = c.args.fleet.now in
    let first = g.F.Fleet.offsets f c.args.i in
    let second = g.F.Fleet.offsets f c.args.j in
    let near = g.met.F.Fleet.near f c.args.i in
    let near' = g.met.F.Fleet.near f c.args.j in
    let says = c.of.ensures (differences first second) (λ o across down r e. search rules) in
    let same = says_set 14 (differences first second) c.of.result.rows says (differences_near first second near near') in
    record {
      table = record { first_near = near; second_near = near'; set = λ i x y. same x y i };
      meaning = λ x y. Decides-at _ _ (same x y) (difference_told first second near x y);
    }
