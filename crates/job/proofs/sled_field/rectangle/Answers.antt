use Rattle.std.proofs.Common.{get_or, ap, ◌∙◌}
use Rattle.std.proofs.lemmas.List.{take_rest}
use Rattle.job.specs.declared.shape.Shape.TheVariants.{Rectangle}
use Rattle.job.specs.Reading.{placed_of}
use Rattle.job.proofs.sled_field.rectangle.Goals as goal

pub returns : goal.returns
returns c =
    let value = c.args.value.now in
    c.placed.ensures ∙ ap (placed_of (Rectangle (get_or value 0 0) (get_or value 1 0))) (take_rest value 2)
