use Rattle.std.proofs.Common.{not, eqb, ◌∙◌, rules, tests}
use Rattle.std.proofs.lemmas.Iterator.{YieldsList-from_slice}
use Rattle.std.proofs.lemmas.Iterator.Search.{any_from_yields_List}
use Rattle.job.proofs.Scans.{some_row_by_any}
use Rattle.job.proofs.shape.has_cell.Goals as goal

pub returns : goal.returns
returns c =
    let rows = c.args.rows.now in
    any_from_yields_List (λ row. not (eqb row 0)) _ _ _ c.any.ensures.ran (YieldsList-from_slice rows cc) (λ x b q k. search (rules, tests)) ∙ some_row_by_any rows
