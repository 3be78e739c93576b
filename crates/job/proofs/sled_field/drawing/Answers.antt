use Rattle.std.proofs.Common.{◌∙◌}
use Rattle.std.proofs.lemmas.List.{take_rest}
use Rattle.job.specs.declared.shape.Shape.TheVariants.{Drawing}
use Rattle.job.specs.Reading.{placed_of}
use Rattle.job.proofs.sled_field.drawing.Goals as goal

pub returns : goal.returns
returns c =
    let value = c.args.value.now in
    c.placed.ensures ∙ (λ i. placed_of (Drawing (c.copy_from_slice.ensures.after i)) (take_rest value 8 i))
