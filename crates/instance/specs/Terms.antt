-- What an instance is to a search keeps the terms of tasks, and with a splitting rule those of problems.
use Rattle.std.specs.Prelude.{◌≡◌, true, nat_lt}
use Rattle.std.proofs.lemmas.Bool.{and_parts, ltb-true}
use Rattle.grid.specs.declared.floor.Floor.{Floor}
use Rattle.grid.specs.declared.position.Position.{Position}
use Rattle.grid.specs.Floors.{on_floor}
use Rattle.fleet.specs.Offsets.{Offsets}
use Rattle.geometry.specs.Stands.{may_stand}
use Rattle.split.specs.Situations.{Sets}
use Rattle.split.specs.declared.pair.Side.TheVariants.{Lower, Upper}
use Rattle.tables.specs.TabledFleets.{tabled_sleds}
use Rattle.tables.specs.TabledTerms.{tabled_terms}
use Rattle.engine.specs.Model.{Keeps}
use Rattle.plans.specs.Tasks.{OfFloor, TaskTerms}
use Rattle.plans.specs.Instance.{SplitTerms}
use Rattle.plans.proofs.Tests.{goes_exactly}
use Rattle.plans.proofs.Terms.{setting_terms, rule_terms, sets_on_board}
use Rattle.instance.specs.declared.instance.Instance.{Instance}
use Rattle.instance.specs.Instances.{task_in, model_of}

of_floor : (offsets : Offsets) (floor : Floor) (u : Position) → may_stand offsets floor u ≡ true → OfFloor floor u
of_floor offsets floor u e =
    let (on, _) = and_parts (on_floor floor u.column u.row) _ e in
    let (column, row) = and_parts (nat_lt u.column floor.columns) (nat_lt u.row floor.rows) on in
    (ltb-true u.column floor.columns column, ltb-true u.row floor.rows row)

module _ (i : Instance) where
  pub task_terms : TaskTerms (task_in i)
  task_terms =
      record {
        lasts = i.horizon.least;
        starts = λ s below. of_floor (tabled_sleds i.fleet s) i.floor ((task_in i).start s) (i.ends_stand s below).0;
        goals = λ s below. of_floor (tabled_sleds i.fleet s) i.floor ((task_in i).goal s) (i.ends_stand s below).1;
        fleet = tabled_terms i.fleet;
      }

  module _ (sets : Sets) (split : SplitTerms sets) where
    pub keeps_terms : Keeps (model_of (task_in i) sets)
    keeps_terms =
        record {
          setting = setting_terms (task_in i) task_terms;
          rule = rule_terms (task_in i) task_terms sets split;
          few = i.fleet.few;
          short = i.horizon.most;
          steps = λ s t. goes_exactly (task_in i) s;
          first_on = sets_on_board (task_in i) task_terms sets split Lower;
          second_on = sets_on_board (task_in i) task_terms sets split Upper;
        }
