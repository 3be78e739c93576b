use Rattle.std.proofs.Common.{◌≡◌, ℕ, ◌≤◌, false, Some, ◌⊎◌, ◌∙◌, inl, inr, ⊎_elim, arith, rules}
use Rattle.grid.specs.Places.{position_at}
use Rattle.geometry.specs.declared.pair.Pair.{Pair}
use Rattle.split.specs.declared.pair.Side.{Side}
use Rattle.split.specs.Situations.{Sets, situation}
use Rattle.tables.specs.TabledFleets.{tabled_sleds}
use Rattle.tables.specs.TabledTerms.{tabled_terms}
use Rattle.plans.specs.Instance.{situation_at, in_set, SplitTerms}
use Rattle.instance.specs.declared.instance.Instance.{Instance}
use Rattle.instance.specs.Instances.{task_in}
use Rattle.instance.specs.Absent.{absent}
use Rattle.instance.specs.Meetings.{PairTold}
use Rattle.instance.specs.Sets.{split_terms, none_in}
use Rattle.instance.proofs.TwoSleds.{by_pair}
use Rattle.instance.proofs.ruled.Ruled.contains.Goals as goal

module _ (n : Instance) (sets : Sets) (side : Side) (i j u v w : ℕ) where
  of_pair : (p : Pair) → PairTold i j u v (Some p) → sets (situation n.fleet.count (tabled_sleds n.fleet) p) side (position_at w) ≡ in_set (task_in n) sets side i j u v w
  unfolding in_set
  of_pair p (same_i, same_j, at_u, at_v) = λ x. sets (record { count = n.fleet.count; sleds = tabled_sleds n.fleet; i = same_i x; j = same_j x; u = at_u x; v = at_v x }) side (position_at w)

  of_nobody : SplitTerms sets → ((256 ≤ i) ⊎ (256 ≤ j)) → in_set (task_in n) sets side i j u v w ≡ false
  unfolding in_set
  of_nobody terms beyond =
      let few = n.fleet.few in
      none_in sets terms (situation_at (task_in n) i j u v) (tabled_terms n.fleet) side (position_at w)
      (⊎_elim (λ high. inl (absent n.fleet i (omega arith))) (λ high. inr (absent n.fleet j (omega arith))) beyond)

pub returns : goal.returns
returns g c =
    let n = c.args.self.now.instance.now in
    let r = c.args.self.now.rule.now in
    let rule = g.met.R.SplitRule in
    let sets = g.R.SplitRule.sets r in
    let side = c.args.side in
    let i = c.args.a.sled in
    let j = c.args.b.sled in
    let u = c.args.a.place in
    let v = c.args.b.place in
    let w = c.args.place in
    let held = c.is_some_and.result in
    by_pair i j u v c.pair_at.result _ held (in_set (task_in n) sets side i j u v w) c.pair_at.ensures c.is_some_and.ensures
    (of_nobody n sets side i j u v w (split_terms sets (rule.lower r) (rule.upper r) (rule.share r) (rule.only r)))
    (λ p is h.
    let of_rule : held ≡ sets (situation n.fleet.count (tabled_sleds n.fleet) p) side (position_at w) = search rules in
    of_rule ∙ of_pair n sets side i j u v w p is)
