use Rattle.std.proofs.Common.{◌≡◌, length, ap, subst, arith, rules}
use Rattle.text.specs.Texts.{Appends}
use Rattle.text.proofs.Written.{appends-put, appends-both}
use Rattle.fault.specs.Lines.{refusal_line}
use Rattle.fault.proofs.Refusals.{told, told_short}
use Rattle.fault.proofs.refusal.FaultMeasuredLines.put_measured.Goals as goal

pub returns : goal.returns
unfolding refusal_line
returns c =
    let fault = c.args.self.now in
    let number = c.from-2.result in
    let layer = c.from-4.result in
    let is : told number layer fault.place ≡ refusal_line fault = search rules in
    let one = appends-both (appends-put c.put.ensures) (appends-put c.put_number.ensures) in
    let two = appends-both (appends-both one (appends-put c.put-2.ensures)) (appends-put c.put_number-2.ensures) in
    let three = appends-both (appends-both two (appends-put c.put-3.ensures)) (appends-put c.put_number-3.ensures) in
    record {
      text = subst (λ l. Appends c.args.text.now l c.put-4.new.self) is (appends-both three (appends-put c.put-4.ensures));
      short = omega (arith, ap length is, told_short number layer fault.place (search rules) (search rules) (search rules));
    }
