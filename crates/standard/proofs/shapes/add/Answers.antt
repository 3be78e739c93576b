use Rattle.std.proofs.Common.{◌≡◌, true, sym, ◌∙◌, rules}
use Rattle.fleet.specs.Outlined.{is_drawn}
use Rattle.standard.proofs.Limits.{rectangle_taken, outline_taken}
use Rattle.standard.proofs.Offsets.{is_outline}
use Rattle.standard.proofs.shapes.add.Goals.{in-Rectangle, in-Drawing}
use Rattle.standard.proofs.shapes.add.Goals as goal

pub unreachable-requires : goal.unreachable-requires
unreachable-requires c =
    elim c.match-shape.branch [
      | in-Rectangle w ↦
          let ok = rw w.in-Rectangle.is at c.requires.sound in
          rectangle_taken w.in-Rectangle.width w.in-Rectangle.height c.args.rectangles.now _ _ _ ok c.requires.few_rectangles w.add-added.ensures (sym w.added-is ∙ c.in_default.is)
      | in-Drawing w ↦
          let ok = rw w.in-Drawing.is at c.requires.sound in
          let drawn : is_drawn w.in-Drawing.rows ≡ true = is_outline w.in-Drawing.rows (search rules) (λ k below. search rules) ok in
          outline_taken w.in-Drawing.rows c.args.outlines.now _ _ _ drawn c.requires.few_outlines w.add-added-in-Drawing.ensures (sym w.added-is ∙ c.in_default.is)
    ]
