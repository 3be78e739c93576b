use Rattle.std.proofs.Common.{arith, rules}
use Rattle.std.proofs.lemmas.List.{length-append}
use Rattle.text.proofs.Written.{appends-put, appends-both, short_number}
use Rattle.lines.specs.Plans.{route_line}
use Rattle.lines.proofs.route.put_route.Goals as goal

pub returns : goal.returns
unfolding route_line
returns c = record {
  text = appends-both (appends-both (appends-both (appends-put c.put_number.ensures) (appends-put c.put.ensures)) c.put_places.ensures.text) (appends-put c.put-2.ensures);
  short = simp length-append (omega (arith, short_number c.args.sled (search rules), c.put_places.ensures.short));
}
