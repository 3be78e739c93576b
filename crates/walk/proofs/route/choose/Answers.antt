use Rattle.std.proofs.Common.{ℕ, Bool, false, ◌&&◌, find, get_or, sym, ap, ◌∙◌, rules, tests}
use Rattle.std.proofs.lemmas.Iterator.{YieldsList-from_slice}
use Rattle.std.proofs.lemmas.Iterator.Adapters.{option_map_id}
use Rattle.std.proofs.lemmas.Iterator.Consumers.{YieldsList-from_filter_map}
use Rattle.std.proofs.lemmas.Iterator.Search.{find_from_yields_List}
use Rattle.grid.specs.Board.{side, every_move}
use Rattle.walk.proofs.Sides.{next_is}
use Rattle.walk.proofs.route.choose.Goals as goal

pub returns : goal.returns
returns g c =
    let test : ℕ → Bool = λ q. g.S.Steps.step c.args.steps.now c.args.instant c.args.from q && get_or c.args.leads.now q false in
    sym (option_map_id c.find.result)
    ∙ find_from_yields_List test _ _ c.find.result c.find.ensures.ran
    (YieldsList-from_filter_map _ (side c.args.from) (YieldsList-from_slice every_move (cc)) c.filter_map.ensures.closure (λ x r q k. search (rules, tests)))
    (λ x b q k. search (rules, tests))
    ∙ ap (find test) (next_is c.args.from)
