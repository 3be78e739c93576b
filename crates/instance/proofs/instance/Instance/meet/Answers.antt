use Rattle.std.proofs.Common.{◌≡◌, sym, ◌∙◌, ⊎_elim, arith, rules}
use Rattle.grid.specs.Places.{position_of, position_at}
use Rattle.geometry.specs.Shares.{share_cell}
use Rattle.tables.specs.TabledFleets.{tabled_sleds}
use Rattle.plans.specs.Instance.{meets_at}
use Rattle.plans.proofs.Tests.{meets_on_board}
use Rattle.instance.specs.Instances.{task_in}
use Rattle.instance.specs.Absent.{absent, nothing_shares, shares_nothing}
use Rattle.instance.proofs.TwoSleds.{by_pair}
use Rattle.instance.proofs.instance.Instance.meet.Goals as goal

pub returns : goal.returns
returns c =
    let t = c.args.self.now.fleet in
    let few = t.few in
    let i = c.args.a.sled in
    let j = c.args.b.sled in
    let u = c.args.a.place in
    let v = c.args.b.place in
    let r = c.is_some_and.result in
    let on_board = meets_on_board (task_in c.args.self.now) i j u v (omega arith) (omega arith) in
    by_pair i j u v c.pair_at.result _ r (meets_at (task_in c.args.self.now) i j u v) c.pair_at.ensures c.is_some_and.ensures
    (λ beyond.
    on_board
    ∙ ⊎_elim
    (λ h. nothing_shares (tabled_sleds t i) (position_at u) (tabled_sleds t j) (position_at v) (absent t i (omega arith)))
    (λ h. shares_nothing (tabled_sleds t i) (position_at u) (tabled_sleds t j) (position_at v) (absent t j (omega arith))) beyond)
    (λ p (same_i, same_j, at_u, at_v) h.
    let is : r ≡ share_cell (tabled_sleds t p.i) (position_of p.u) (tabled_sleds t p.j) (position_of p.v) = search rules in
    is ∙ (λ x. share_cell (tabled_sleds t (same_i x)) (at_u x) (tabled_sleds t (same_j x)) (at_v x)) ∙ sym on_board)
