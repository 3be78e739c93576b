use Rattle.std.proofs.Common.{arith, rules}
use Rattle.std.proofs.lemmas.List.{length-append}
use Rattle.text.proofs.Written.{appends-put, appends-both, short_number}
use Rattle.lines.specs.Plans.{words_of}
use Rattle.lines.proofs.outcome.put_words.Goals as goal

pub returns : goal.returns
unfolding words_of
returns c = record {
  text = appends-both (appends-both (appends-put c.put.ensures) (appends-put c.put_number.ensures)) c.put_ending.ensures.text;
  short = simp length-append (omega (arith, short_number c.args.number (search rules), c.put_ending.ensures.short));
}
