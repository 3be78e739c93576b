use Rattle.std.proofs.Common.{◌≡◌, ◌∙◌, ⊎_elim, arith, rules}
use Rattle.grid.specs.Places.{position_of, position_at}
use Rattle.geometry.specs.Collisions.{collide}
use Rattle.tables.specs.TabledFleets.{tabled_sleds}
use Rattle.instance.specs.Absent.{absent, nothing_collides, collides_nothing}
use Rattle.instance.proofs.TwoSleds.{by_pair}
use Rattle.instance.proofs.instance.Instance.collide_by.Goals as goal

pub returns : goal.returns
returns c =
    let t = c.args.self.now.fleet in
    let few = t.few in
    let i = c.args.a.sled in
    let j = c.args.b.sled in
    let u = c.args.a.place in
    let v = c.args.b.place in
    let a = c.args.first in
    let b = c.args.second in
    let r = c.is_some_and.result in
    by_pair i j u v c.pair_at.result _ r (collide (tabled_sleds t i) (position_at u) a (tabled_sleds t j) (position_at v) b) c.pair_at.ensures c.is_some_and.ensures
    (⊎_elim
    (λ h. nothing_collides (tabled_sleds t i) (position_at u) (tabled_sleds t j) (position_at v) a b (absent t i (omega arith)))
    (λ h. collides_nothing (tabled_sleds t i) (position_at u) (tabled_sleds t j) (position_at v) a b (absent t j (omega arith))))
    (λ p (same_i, same_j, at_u, at_v) h.
    let is : r ≡ collide (tabled_sleds t p.i) (position_of p.u) a (tabled_sleds t p.j) (position_of p.v) b = search rules in
    is ∙ (λ x. collide (tabled_sleds t (same_i x)) (at_u x) a (tabled_sleds t (same_j x)) (at_v x) b))
