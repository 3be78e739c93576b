use Rattle.std.proofs.Common.{◌≡◌, ℕ, ◌++◌, List, length, get_or, map, take, sym, ap, subst, arith}
use Rattle.std.proofs.lemmas.List.{length-append}
use Rattle.text.specs.declared.Text.{Text}
use Rattle.text.specs.Texts.{Appends}
use Rattle.text.proofs.Written.{appends-put, appends-both, appends-nothing}
use Rattle.lines.specs.Plans.{places_text, place_text}
use Rattle.lines.proofs.Lengths.{between, between_later, between_short, places_more}
use Rattle.lines.proofs.route.put_places.Goals as goal
use Rattle.lines.proofs.route.put_places.Goals.{then-instant-gt0, else-instant-gt0}

pub loop-instant-init : goal.loop-instant-init
loop-instant-init c = record { text = appends-nothing c.args.text.now; short = omega arith }

pub loop-instant-preserved : goal.loop-instant-preserved
loop-instant-preserved c =
    let ps = c.args.route.now in
    let i = c.loop-instant.instant in
    let before = map place_text (take i ps) in
    let more = places_more ps i c.loop-instant-test.true in
    let here = c.put_place.ensures in
    let parted : Appends c.loop-instant.text (between 32 before) c.if-instant-gt0.text =
    elim c.if-instant-gt0.branch [
      | then-instant-gt0 w ↦
          subst (λ (t : Text). Appends c.loop-instant.text (between 32 before) t) (sym w.text-is)
          (subst (λ (l : List ℕ). Appends c.loop-instant.text l w.put.new.self) (sym (between_later ps i w.if-instant-gt0.true (omega (arith, c.loop-instant-test.true)))) (appends-put w.put.ensures))
      | else-instant-gt0 w ↦
          subst (λ (t : Text). Appends c.loop-instant.text (between 32 before) t) (sym w.text-is)
          (let first : 0 ≡ i = omega (arith, w.if-instant-gt0.false) in
          subst (λ (k : ℕ). Appends c.loop-instant.text (between 32 (map place_text (take k ps))) c.loop-instant.text) first (appends-nothing c.loop-instant.text))
    ] in
    record {
      text = subst (λ l. Appends c.args.text.now l c.put_place.new.text) (sym more) (appends-both c.loop-instant.invariant.text (appends-both parted here.text));
      short = omega
          (arith, ap length more, length-append (places_text (take i ps)) (between 32 before ++ place_text (get_or ps i 0)), length-append (between 32 before) (place_text (get_or ps i 0)), between_short before, here.short, c.loop-instant.invariant.short);
    }
