use Rattle.std.proofs.Common.{◌≡◌, Bool, false, List, [], get_or, Some, None, Option, MatchOption, Bor, sym, ap, ◌∙◌, arith, rules}
use Rattle.grid.specs.Floors.{on_floor}
use Rattle.grid.specs.Places.{position_at}
use Rattle.tables.specs.TabledFleets.{tabled_sleds}
use Rattle.plans.specs.Instance.{stands_at}
use Rattle.instance.specs.Absent.{absent, nothing_stands}
use Rattle.instance.proofs.instance.Instance.stands.Goals as goal

by_row : (r meant : Bool) (o : Option (Bor (List Bool))) (N P : Type 0) (Y Q : Bor (List Bool) → Type 0) → MatchOption o N Y → MatchOption o P Q → (N → P → r ≡ meant) → ((x : Bor (List Bool)) → Y x → Q x → r ≡ meant) → r ≡ meant
by_row r meant None N P Y Q looked told none some = none looked told
by_row r meant (Some x) N P Y Q looked told none some = some x looked told

pub returns : goal.returns
unfolding stands_at
returns c =
    let i = c.args.self.now in
    let s = c.args.sled in
    let u = position_at c.args.place in
    let r = c.map_or_else.result in
    by_row r _ c.get.result _ _ _ _ c.get.ensures.lookup.3 c.map_or_else.ensures
    (λ past told.
    let is : r ≡ on_floor i.floor u.column u.row = search rules in
    is ∙ sym (nothing_stands (tabled_sleds i.fleet s) i.floor u (absent i.fleet s (omega (arith, i.fleet.few, past)))))
    (λ x (below, is_at) told.
    let is : r ≡ get_or x.now c.args.place false = search rules in
    is ∙ ap (λ (places : List Bool). get_or places c.args.place false) (is_at []) ∙ i.stands s c.args.place (omega arith, omega arith))
