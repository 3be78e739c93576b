use Rattle.std.proofs.Common.{◌+◌, ◌/◌, ◌%◌, ◌<◌, ◌≤◌, [], ◌∷◌, length, decimal, sym, ap, ◌∙◌, arith, rules}
use Rattle.std.proofs.lemmas.Fmt.{decimal_digit, decimal_step}
use Rattle.text.specs.Texts.{written}
use Rattle.text.proofs.Written.{set_written, written_more, last_digit, length_written}
use Rattle.text.proofs.+put_digits.Goals as goal

pub bounds-out-at : goal.bounds-out-at
bounds-out-at t c = omega (arith, ap length (decimal_digit c.args.n c.if-n-lt10.true), c.requires)

pub returns-then-n-lt10 : goal.returns-then-n-lt10
returns-then-n-lt10 t c =
    let one = decimal_digit c.args.n c.if-n-lt10.true in
    let room : c.args.at < length c.args.out.now = omega (arith, ap length one, c.requires) in
    record {
      end = ap (λ ds. c.args.at + length ds) (sym one);
      bytes = set_written c.args.out.now c.args.at _ room ∙ ap (written c.args.out.now c.args.at) (sym one);
    }

pub put_digits-last-requires : goal.put_digits-last-requires
put_digits-last-requires t c = (search rules, omega (arith, last_digit c.args.n c.if-n-lt10.false (search rules), c.requires))

pub bounds-out-last : goal.bounds-out-last
bounds-out-last t c = omega (arith, last_digit c.args.n c.if-n-lt10.false (search rules), c.requires, c.put_digits-last.ensures.end)

pub overflow_add-result-2 : goal.overflow_add-result-2
overflow_add-result-2 t c =
    let inside : c.put_digits-last.result < length c.args.out.now =
    omega (arith, last_digit c.args.n c.if-n-lt10.false (search rules), c.requires, c.put_digits-last.ensures.end) in
    search rules

pub returns : goal.returns
returns t c =
    let n = c.args.n in
    let at = c.args.at in
    let out = c.args.out.now in
    let more = last_digit n c.if-n-lt10.false (search rules) in
    let whole = decimal_step n c.if-n-lt10.false (search rules) in
    let room : at ≤ length out = omega (arith, c.requires) in
    let last = c.put_digits-last.ensures.end in
    let front = c.put_digits-last.ensures.bytes in
    let kept = length_written out at (decimal (n / 10)) (omega (arith, more, c.requires)) in
    let inside : c.put_digits-last.result < length c.put_digits-last.new.out = omega (arith, more, c.requires, last, ap length front, kept) in
    record {
      end = omega (arith, more, last);
      bytes =
          set_written c.put_digits-last.new.out c.put_digits-last.result (48 + n % 10) inside
          ∙ (λ i. written (front i) (last i) ((48 + n % 10) ∷ []))
          ∙ written_more out at (decimal (n / 10)) ((48 + n % 10) ∷ []) room
          ∙ ap (written out at) (sym whole);
    }
