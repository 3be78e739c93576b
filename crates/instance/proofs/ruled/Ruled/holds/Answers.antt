use Rattle.std.proofs.Common.{◌≡◌, ℕ, ◌<◌, false, sym, ap, ◌∙◌, arith}
use Rattle.split.specs.declared.pair.Side.{Side}
use Rattle.split.specs.declared.pair.Side.TheVariants.{Lower, Upper}
use Rattle.split.specs.Situations.{Sets}
use Rattle.tables.specs.TabledTerms.{tabled_terms}
use Rattle.grid.specs.Places.{position_at}
use Rattle.plans.specs.Instance.{situation_at, meets_at, in_set, SplitTerms}
use Rattle.plans.proofs.Tests.{meets_on_board}
use Rattle.instance.specs.declared.instance.Instance.{Instance}
use Rattle.instance.specs.Instances.{task_in}
use Rattle.instance.specs.Sets.{split_terms, apart_lower, apart_upper}
use Rattle.instance.proofs.ruled.Ruled.holds.Goals as goal
use Rattle.instance.proofs.ruled.Ruled.holds.Goals.{in-Lower, in-Upper}

module _ (n : Instance) (sets : Sets) (terms : SplitTerms sets) (i j u v w : ℕ) (u_on : u < 256) (v_on : v < 256) (w_on : w < 256) where
  lower_apart : meets_at (task_in n) i j w v ≡ false → in_set (task_in n) sets Lower i j u v w ≡ false
  unfolding in_set
  lower_apart apart = apart_lower sets terms (situation_at (task_in n) i j u v) (tabled_terms n.fleet) (position_at w) (sym (meets_on_board (task_in n) i j w v w_on v_on) ∙ apart)

  upper_apart : meets_at (task_in n) i j u w ≡ false → in_set (task_in n) sets Upper i j u v w ≡ false
  unfolding in_set
  upper_apart apart = apart_upper sets terms (situation_at (task_in n) i j u v) (tabled_terms n.fleet) (position_at w) (sym (meets_on_board (task_in n) i j u w u_on w_on) ∙ apart)

pub returns-else-meets : goal.returns-else-meets
returns-else-meets g c =
    let n = c.args.self.now.instance.now in
    let r = c.args.self.now.rule.now in
    let rule = g.met.R.SplitRule in
    let sets = g.R.SplitRule.sets r in
    let terms = split_terms sets (rule.lower r) (rule.upper r) (rule.share r) (rule.only r) in
    let i = c.args.a.sled in
    let j = c.args.b.sled in
    let u = c.args.a.place in
    let v = c.args.b.place in
    let w = c.args.place in
    let none : in_set (task_in n) sets c.args.side i j u v w ≡ false = elim c.match-side.branch [
      | in-Lower b ↦ ap (λ (side : Side). in_set (task_in n) sets side i j u v w) b.in-Lower.is
          ∙ lower_apart n sets terms i j u v w (omega arith) (omega arith) (omega arith) (cc)
      | in-Upper b ↦ ap (λ (side : Side). in_set (task_in n) sets side i j u v w) b.in-Upper.is
          ∙ upper_apart n sets terms i j u v w (omega arith) (omega arith) (omega arith) (cc)
    ] in
    c.if-meets.false ∙ sym none
