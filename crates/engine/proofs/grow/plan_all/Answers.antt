use Rattle.std.proofs.Common.{◌≡◌, ℕ, suc, ◌<◌, ◌≤◌, ◌≢◌, List, [], length, get_or, take, set, Some, Option, sym, ap, ◌∙◌, ⊎_elim, arith}
use Rattle.std.proofs.lemmas.List.{length-set, get_or-set_same, get_or-set_other}
use Rattle.std.proofs.lemmas.Bool.{cases_eq}
use Rattle.tree.specs.Choice.{first_choice}
use Rattle.std.specs.Option.{option_map}
use Rattle.engine.specs.Table.{plan_of}
use Rattle.engine.proofs.Growing.{front_size, front_routes, no_routes}
use Rattle.engine.proofs.grow.plan_all.Goals as goal

pub loop-sled-init : goal.loop-sled-init
loop-sled-init g c = (λ s h. absurd (omega arith), front_size _ _ _ c.sleds.ensures (g.met.P.Problem.keeps c.args.problem.now).few)

pub loop-sled-preserved : goal.loop-sled-preserved
loop-sled-preserved g c =
    let S = (g.P.Problem.model c.args.problem.now).setting in
    let rs = c.loop-sled.route-items in
    let n = c.loop-sled.sled in
    let r = c.in_ok-route.field-0 in
    let within : n < length rs = omega (arith, c.loop-sled-test.true) in
    let found = c.in_ok-route.ensures [] (c.nothing-forbidden.ensures.empty []) tt in (
      λ s h. ⊎_elim
          (λ (e : s ≡ n).
          ap (λ (k : ℕ). Some (take (suc S.horizon) (get_or (set rs n r) k []))) e
          ∙ ap {B = Option (List ℕ)} (λ (q : List ℕ). Some (take (suc S.horizon) q)) (get_or-set_same rs n r [] within)
          ∙ found ∙ ap (λ (k : ℕ). first_choice S k []) (sym e))
          (λ (e : s ≢ n). ap {B = Option (List ℕ)} (λ (q : List ℕ). Some (take (suc S.horizon) q)) (get_or-set_other rs n s r [] e) ∙ c.loop-sled.invariant.0 s (omega arith)) (cases_eq s n),
      length-set rs n r ∙ c.loop-sled.invariant.1,
    )

pub returns-in_err-route : goal.returns-in_err-route
returns-in_err-route g c =
    let m = g.P.Problem.model c.args.problem.now in
    let within : c.loop-sled.sled < length c.loop-sled.route-items = omega (arith, c.loop-sled-test.true) in
    ap (option_map (plan_of m.setting)) c.from_residual.ensures
    ∙ no_routes m c.loop-sled.sled (omega (arith, c.loop-sled.invariant.1)) (c.in_err-route.ensures [] (c.nothing-forbidden.ensures.empty []) tt)

pub returns : goal.returns
returns g c =
    let m = g.P.Problem.model c.args.problem.now in
    let all : length c.loop-sled.route-items ≤ c.loop-sled.sled = omega (arith, c.loop-sled-test.false) in
    front_routes m c.loop-sled.route-items _ c.loop-sled.invariant.1 (λ s h. c.loop-sled.invariant.0 s (omega (arith, c.loop-sled.invariant.1)))
