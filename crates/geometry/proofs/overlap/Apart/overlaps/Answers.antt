use Rattle.std.proofs.Common.{◌≡◌, ◌∙◌, true, false, ◌||◌, Bool, [], ◌∷◌, ap, refl, rules}
use Rattle.std.proofs.lemmas.Iterator.{YieldsList-from_slice}
use Rattle.std.proofs.lemmas.Iterator.Search.{any_from_yields_List}
use Rattle.std.proofs.Math.Bool.{or-false}
use Rattle.geometry.specs.declared.overlap.Moment.{Moment}
use Rattle.geometry.specs.declared.overlap.Moment.TheVariants.{Start, Middle, End}
use Rattle.geometry.specs.Overlaps.{overlap_at}
use Rattle.geometry.proofs.overlap.Apart.overlaps.Goals as goal

pub returns : goal.returns
returns c =
    let at = λ (t : Moment). overlap_at t c.args.self.x c.args.self.y c.args.step.dx c.args.step.dy in
    any_from_yields_List at _ _ _ c.any.ensures.ran (YieldsList-from_slice (Start ∷ (Middle ∷ (End ∷ []))) cc) (λ t b q k. (search rules, search rules))
    ∙ ap (λ b. at Start || (at Middle || b)) (or-false (at End))
