use Rattle.std.proofs.Common.{arith, rules}
use Rattle.text.proofs.Written.{whole-text}
use Rattle.fault.proofs.lines.write_measured_lines.Goals as goal

pub unreachable-requires : goal.unreachable-requires
unreachable-requires g c =
    let whole = whole-text c.new-text.ensures.buffer c.new-text.ensures.front c.put_measured.ensures.text c.in_default.ensures in
    omega (arith, whole.0, c.put_measured.ensures.short)

pub returns : goal.returns
returns g c =
    let whole = whole-text c.new-text.ensures.buffer c.new-text.ensures.front c.put_measured.ensures.text c.in-Some.ensures in
    let same = c.put_measured.ensures.text.same_buffer in
    (omega (arith, c.if-out-least.false, c.least.ensures), whole.1, omega (arith, whole.0, whole.1), search rules)
