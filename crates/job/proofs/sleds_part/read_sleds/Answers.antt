use Rattle.std.proofs.Common.{◌≡◌, ◌+◌, ◌<◌, false, eqb, [], length, map, drop, Some, Ok, Err, sym, ap, ◌∙◌, arith, length-drop, rules}
use Rattle.std.specs.Option.{option_map}
use Rattle.std.specs.Result.{IsOk}
use Rattle.std.proofs.lemmas.List.{drop-drop, length-map}
use Rattle.std.proofs.lemmas.Result.{err_from_is_err_and}
use Rattle.std.proofs.lemmas.Bool.{cond-true, cond-false, eq-eqb, ne_eqb}
use Rattle.fault.specs.declared.cause.Cause.TheVariants.{BytesAfterEnd}
use Rattle.few.specs.Told.{told}
use Rattle.job.specs.Jobs.{sleds_told, ends_drawn, values_of}
use Rattle.job.specs.Reading.{sled_of, checked, shown}
use Rattle.job.specs.Told.{sleds_of, field_size}
use Rattle.job.proofs.Found.{found}
use Rattle.job.proofs.SledLists.{sleds_few, told_more, drawn_more}
use Rattle.job.proofs.Steps.{step_sled, step_end, step_fault, some_size}
use Rattle.job.proofs.sleds_part.read_sleds.Goals as goal
use Rattle.job.proofs.sleds_part.read_sleds.Goals.{After-read_sled, In-Some, In_default}

-- what was read, by the sleds so far and what is left of the file
read_is : (c : After-read_sled) →
    (let sleds = sleds_told c.loop-sled.sleds in
    sled_of c.args.floor.now.columns c.args.floor.now.rows (length sleds) (ends_drawn sleds) c.loop-sled.at (drop c.loop-sled.at c.args.file.now) ≡ shown (option_map values_of) c.read_sled.result)
read_is c =
    let floor = c.args.floor.now in
    let before = c.loop-sled.sleds in
    ap (λ n. sled_of floor.columns floor.rows n (ends_drawn (sleds_told before)) c.loop-sled.at (drop c.loop-sled.at c.args.file.now)) (length-map (told before) values_of)
    ∙ (λ i. let list = sym c.as_slice.ensures i in sled_of floor.columns floor.rows (length list) (ends_drawn (map values_of list)) (sym c.of.ensures.at i) (sym c.of.ensures.rest i))
    ∙ sym c.read_sled.ensures

pub returns-in_err-sled : goal.returns-in_err-sled
returns-in_err-sled c =
    let p = err_from_is_err_and c.from_residual.result c.from_residual.ensures.1 in
    let a = (goal.at.returns-in_err-sled c).After-read_sled in
    let sleds = sleds_told c.loop-sled.sleds in
    let fault = step_fault _ _ c.loop-sled.at (ends_drawn sleds) sleds _ (sleds_few c.loop-sled.sleds) _ (read_is a ∙ ap (shown (option_map values_of)) c.in_err-sled.was) in
    rw (p.1, p.2) (sym (c.loop-sled.invariant.1 ∙ fault))

sled_is : (c : In-Some) →
    (let sleds = sleds_told c.loop-sled.sleds in
    sled_of c.args.floor.now.columns c.args.floor.now.rows (length sleds) (ends_drawn sleds) c.loop-sled.at (drop c.loop-sled.at c.args.file.now) ≡ Ok (Some (values_of c.in-Some.sled)))
sled_is c = read_is (goal.at.In-Some c).After-read_sled ∙ ap (shown (option_map values_of)) c.in_ok-sled.was ∙ ap (λ o. Ok (option_map values_of o)) c.in-Some.is

-- there is room for a sled that was read
room : (c : In-Some) → length (told c.loop-sled.sleds) < 6
room c = omega (arith, (found _ _ _ _ _ _ _ (sled_is c)).room, length-map (told c.loop-sled.sleds) values_of)

pub unreachable-requires : goal.unreachable-requires
unreachable-requires c =
    let fits : IsOk c.push.result = c.push.ensures.room.1 (room (goal.at.unreachable-requires c).In-Some) in
    let none = rw c.in_default-push.is at fits in
    search rules

pub loop-sled-smaller : goal.loop-sled-smaller
loop-sled-smaller c =
    let long = (found _ _ _ _ _ _ _ (sled_is (goal.at.loop-sled-smaller c).In-Some)).long in
    omega (arith, long, length-drop c.loop-sled.at c.args.file.now, some_size c.in-Some.sled.shape, c.field_size-at.ensures)

pub loop-sled-preserved : goal.loop-sled-preserved
loop-sled-preserved c =
    let file = c.args.file.now in
    let at = c.loop-sled.at in
    let s = values_of c.in-Some.sled in
    let a = (goal.at.loop-sled-preserved c).In-Some in
    let sleds = sleds_told c.loop-sled.sleds in
    let long = (found _ _ _ _ _ _ _ (sled_is a)).long in
    let next = step_sled _ _ at (ends_drawn sleds) sleds (drop at file) (sleds_few c.loop-sled.sleds) s (sled_is a) in
    let fits : IsOk c.push.result = c.push.ensures.room.1 (room a) in
    let more = told_more c.loop-sled.sleds c.push.new.self c.in-Some.sled (search rules) in
    let drawn = ap ends_drawn more ∙ drawn_more sleds s in
    let rest_is : drop (field_size s.shape) (drop at file) ≡ drop (at + c.field_size-at.result) file =
    drop-drop (field_size s.shape) at file ∙ ap (λ n. drop (at + n) file) (sym c.field_size-at.ensures) in (
      omega (arith, long, length-drop at file, c.field_size-at.ensures, c.loop-sled.invariant.0),
      c.loop-sled.invariant.1 ∙ next ∙ (λ i. sleds_of c.args.floor.now.columns c.args.floor.now.rows (at + sym c.field_size-at.ensures i) (sym drawn i) (sym more i) (rest_is i)),
    )

-- at the end, the file's length decides
end_is : (c : In_default) →
    sleds_of c.args.floor.now.columns c.args.floor.now.rows c.args.start false [] (drop c.args.start c.args.file.now)
    ≡ checked (eqb (length (drop c.loop-sled.at c.args.file.now)) 3) BytesAfterEnd (c.loop-sled.at + 3) (Ok (sleds_told c.loop-sled.sleds))
end_is c =
    let a = (goal.at.In_default c).After-read_sled in
    let sleds = sleds_told c.loop-sled.sleds in
    let end = read_is a ∙ ap (shown (option_map values_of)) c.in_ok-sled.was ∙ ap (λ o. Ok (option_map values_of o)) c.in_default.is in
    c.loop-sled.invariant.1 ∙ step_end _ _ c.loop-sled.at (ends_drawn sleds) sleds _ (sleds_few c.loop-sled.sleds) end

pub returns-then-file-at : goal.returns-then-file-at
returns-then-file-at c =
    let long = length-drop c.loop-sled.at c.args.file.now in
    let more = ne_eqb (length (drop c.loop-sled.at c.args.file.now)) 3 (λ e. c.if-file-at.true (omega (arith, long, e, c.loop-sled.invariant.0))) in
    ap Err c.at.ensures ∙ sym (end_is (goal.at.returns-then-file-at c).In_default ∙ cond-false _ _ _ more)

pub returns : goal.returns
returns c =
    let long = length-drop c.loop-sled.at c.args.file.now in
    let whole = eq-eqb (length (drop c.loop-sled.at c.args.file.now)) 3 (omega (arith, long, c.if-file-at.false)) in
    sym (end_is (goal.at.returns c).In_default ∙ cond-true _ _ _ whole)
