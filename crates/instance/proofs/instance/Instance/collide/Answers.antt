use Rattle.std.proofs.Common.{◌≡◌, ℕ, false, ◌&&◌, ◌||◌, Some, None, Option, sym, ap, subst, ◌∙◌, ⊎_elim}
use Rattle.std.specs.Option.{option_zip}
use Rattle.std.proofs.lemmas.Option.{none-some, same_Some}
use Rattle.std.proofs.lemmas.Bool.{cases_Bool, and_left, and_right}
use Rattle.grid.specs.declared.moves.Move.{Move}
use Rattle.grid.specs.Board.{Leads, Step}
use Rattle.geometry.specs.Collisions.{collide}
use Rattle.grid.specs.Places.{position_at}
use Rattle.tables.specs.TabledFleets.{tabled_sleds}
use Rattle.engine.specs.declared.problem.At.{At}
use Rattle.plans.specs.Tasks.{Task}
use Rattle.plans.specs.Instance.{is_step, meets_at}
use Rattle.plans.proofs.Steps.{step_told}
use Rattle.plans.proofs.Tests.{collides_by_moves, collides_without_step}
use Rattle.instance.specs.Instances.{task_in}
use Rattle.instance.specs.Steps.{MoveTold}
use Rattle.instance.proofs.instance.Instance.collide.Goals as goal

-- sleds at the same places meet alike
at : (K : Task) (a b x y : At) → a ≡ x → b ≡ y → meets_at K a.sled b.sled a.place b.place ≡ meets_at K x.sled y.sled x.place y.place
at K a b x y e h = λ i. meets_at K (e i).sled (h i).sled (e i).place (h i).place

no_step : (u v : ℕ) → (Step u v → ⊥) → is_step u v ≡ false
no_step u v none = ⊎_elim (λ e. absurd (none ((step_told u v).0 e))) (λ e. e) (cases_Bool (is_step u v))

module _ (u u2 v v2 : ℕ) where
  both_step : (a b : Move) (m n : Option Move) → MoveTold u u2 m → MoveTold v v2 n → Some (a, b) ≡ option_zip m n → Leads u a u2 × Leads v b v2
  both_step a b None n h k e = absurd (none-some (a, b) (sym e))
  both_step a b (Some x) None h k e = absurd (none-some (a, b) (sym e))
  both_step a b (Some x) (Some y) h k e =
      let same = same_Some (a, b) (x, y) e in
      (subst (λ m. Leads u m u2) (sym (ap (λ p. p.0) same)) h, subst (λ m. Leads v m v2) (sym (ap (λ p. p.1) same)) k)

  not_both : (m n : Option Move) → MoveTold u u2 m → MoveTold v v2 n → None ≡ option_zip m n → (is_step u u2 && is_step v v2) ≡ false
  not_both None n h k e = and_left (is_step u u2) (is_step v v2) (no_step u u2 h)
  not_both (Some x) None h k e = and_right (is_step u u2) (is_step v v2) (no_step v v2 k)
  not_both (Some x) (Some y) h k e = absurd (none-some (x, y) e)

pub returns-in-Some : goal.returns-in-Some
returns-in-Some c =
    let t = c.args.self.now.fleet in
    let x = c.args.a in
    let y = c.args.b in
    let m = c.in-Some.first in
    let n = c.in-Some.second in
    let (first, second) = both_step x.from x.to y.from y.to m n c.move_between.result c.move_between-2.result c.move_between.ensures c.move_between-2.ensures (sym c.in-Some.is ∙ c.zip.ensures) in
    c.collide_by.ensures
    ∙ (λ i. collide (tabled_sleds t (c.leaving.ensures i).sled) (position_at (c.leaving.ensures i).place) m (tabled_sleds t (c.leaving-in-Some.ensures i).sled) (position_at (c.leaving-in-Some.ensures i).place) n)
    ∙ sym (collides_by_moves (task_in c.args.self.now) x.sled y.sled x.from x.to y.from y.to m n first second)

pub returns-then-meet : goal.returns-then-meet
returns-then-meet c =
    let K = task_in c.args.self.now in
    let x = c.args.a in
    let y = c.args.b in
    let rest = not_both x.from x.to y.from y.to c.move_between.result c.move_between-2.result c.move_between.ensures c.move_between-2.ensures (sym c.in-None.is ∙ c.zip.ensures) in
    let met = c.meet.ensures ∙ at K c.leaving-in-None.result c.leaving-in-None-2.result (record { sled = x.sled; place = x.from }) (record { sled = y.sled; place = y.from }) c.leaving-in-None.ensures c.leaving-in-None-2.ensures in
    c.if-meet.true ∙ sym (collides_without_step K x.sled y.sled x.from x.to y.from y.to rest ∙ ap (λ met. met || meets_at K x.sled y.sled x.to y.to) (sym met ∙ c.if-meet.true))

pub returns-else-meet : goal.returns-else-meet
returns-else-meet c =
    let K = task_in c.args.self.now in
    let x = c.args.a in
    let y = c.args.b in
    let rest = not_both x.from x.to y.from y.to c.move_between.result c.move_between-2.result c.move_between.ensures c.move_between-2.ensures (sym c.in-None.is ∙ c.zip.ensures) in
    let met = c.meet.ensures ∙ at K c.leaving-in-None.result c.leaving-in-None-2.result (record { sled = x.sled; place = x.from }) (record { sled = y.sled; place = y.from }) c.leaving-in-None.ensures c.leaving-in-None-2.ensures in
    let later = c.meet-else-meet.ensures ∙ at K c.arriving.result c.arriving-else-meet.result (record { sled = x.sled; place = x.to }) (record { sled = y.sled; place = y.to }) c.arriving.ensures c.arriving-else-meet.ensures in
    later ∙ sym (collides_without_step K x.sled y.sled x.from x.to y.from y.to rest ∙ ap (λ met. met || meets_at K x.sled y.sled x.to y.to) (sym met ∙ c.if-meet.false))
