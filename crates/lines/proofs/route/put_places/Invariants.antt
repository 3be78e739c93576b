use Rattle.std.proofs.Common.{◌*◌, ◌≤◌, length, take}
use Rattle.text.specs.Texts.{Appends}
use Rattle.lines.specs.Plans.{places_text}
use Rattle.lines.proofs.route.put_places.Given as goal

-- the places so far are written
abbrev pub invariant-loop-instant : goal.invariant-loop-instant
invariant-loop-instant l = record {
  text : Appends l.initial.text (places_text (take l.instant l.route)) l.text;
  short : length (places_text (take l.instant l.route)) ≤ 6 * l.instant;
}
