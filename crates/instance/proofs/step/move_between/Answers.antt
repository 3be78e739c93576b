use Rattle.std.proofs.Common.{◌≡◌, ℕ, ◌<◌, length, Some, None, Option, MatchOption, arith, rules, tests}
use Rattle.std.specs.List.{AllWithin, HoldsAt}
use Rattle.std.proofs.lemmas.Iterator.{first_from_find, YieldsList-from_slice}
use Rattle.std.proofs.lemmas.Iterator.Consumers.{YieldsList-from_copied}
use Rattle.grid.specs.declared.moves.Move.{Move}
use Rattle.grid.specs.declared.moves.Move.TheVariants.{North, West, Wait, East, South}
use Rattle.grid.specs.Board.{Leads, side, every_move}
use Rattle.grid.proofs.Boards.{side_leads, leads_side}
use Rattle.instance.specs.Steps.{MoveTold}
use Rattle.instance.proofs.step.move_between.Goals as goal

module _ (u v : ℕ) where
  abbrev leads : Move → Type 0
  leads m = side u m ≡ Some v

  abbrev abides : Move → Type 0
  abides m = leads m → ⊥

  none_leads : AllWithin abides every_move 0 5 → (m : Move) → Leads u m v → ⊥
  none_leads h North l = h 0 North (omega arith) (omega arith) (leads_side u North v l)
  none_leads h West l = h 1 North (omega arith) (omega arith) (leads_side u West v l)
  none_leads h Wait l = h 2 North (omega arith) (omega arith) (leads_side u Wait v l)
  none_leads h East l = h 3 North (omega arith) (omega arith) (leads_side u East v l)
  none_leads h South l = h 4 North (omega arith) (omega arith) (leads_side u South v l)

  told : (r : Option Move) → MatchOption r (AllWithin abides every_move 0 (length every_move)) (λ x. leads x × (i : ℕ) × (i < length every_move) × HoldsAt (λ y. y ≡ x) every_move i × AllWithin abides every_move 0 i) → MoveTold u v r
  told None h = λ (m, l). none_leads h m l
  told (Some m) h = side_leads u m v h.0

pub returns : goal.returns
returns c =
    let u = c.args.from in
    let v = c.args.to in
    told u v c.find.result
    (first_from_find _ _ c.find.result (λ m. side u m ≡ Some v) (λ m. side u m ≡ Some v → ⊥) c.find.ensures.ran (YieldsList-from_copied (YieldsList-from_slice every_move cc)) (λ x q k. search (rules, tests)) (λ x q k. search (rules, tests)))
