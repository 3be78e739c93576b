use Rattle.std.proofs.Common.{arith, rules}
use Rattle.std.proofs.lemmas.List.{length-append}
use Rattle.text.proofs.Written.{appends-put, appends-both, short_number}
use Rattle.lines.specs.Plans.{ending_of}
use Rattle.lines.proofs.outcome.put_ending.Goals as goal

pub returns : goal.returns
unfolding ending_of
returns c = record {
  text = appends-both (appends-both (appends-put c.put.ensures) (appends-put c.put_number.ensures)) (appends-put c.put-2.ensures);
  short = simp length-append (omega (arith, short_number c.args.turns (search rules)));
}
