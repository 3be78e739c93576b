-- Where the tables say that a sled stands at its start and at its goal, it does so in the task of the job.
use Rattle.std.proofs.Common.{◌≡◌, ℕ, ◌<◌, length, Bool, false, List, [], get_or, Some, None, Option, Decides, ◌∙◌, arith}
use Rattle.std.specs.Option.{unwrap_or}
use Rattle.std.proofs.lemmas.Bool.Decides.{Decides-at, Decides-and}
use Rattle.grid.specs.declared.floor.Floor.{Floor}
use Rattle.grid.specs.declared.position.Position.{Position}
use Rattle.fleet.specs.Offsets.{Sleds, AllNear}
use Rattle.geometry.specs.Stands.{may_stand, Standing}
use Rattle.geometry.proofs.Meetings.{stand_told}
use Rattle.job.specs.declared.job.Job.{Job}
use Rattle.job.specs.Facts.{facts}
use Rattle.plans.specs.Tasks.{task_of, sled_of}
use Rattle.instance.specs.declared.ends.Ends.{Ends}
use Rattle.instance.specs.Ends.{ends_at, EndsAre, EndsTold, EndsOf, can_stay, both_stand}
use Rattle.instance.specs.Numbers.{Numbers}
use Rattle.instance.specs.Worked.{StandsTold}
use Rattle.instance.specs.Instances.{EndsStand}
use Rattle.instance.proofs.Past.{few_sleds, ends_past}

module _ (job : Job) where
  are : (s : ℕ) (o : Option Ends) → EndsTold job s o → EndsAre (sled_of job s) (unwrap_or o (record { start = 0; goal = 0 }))
  are s None beyond = ends_past job s beyond
  are s (Some ends) (below, is) = is

  of_sled : (places : List Bool) (s : ℕ) (o : Option Ends) → EndsTold job s o → can_stay places o ≡ false → s < length (facts job).sleds
  of_sled places s None beyond e = absurd cc
  of_sled places s (Some ends) (below, is) e = below

  module _ (ends : List (Option Ends)) (of_job : EndsOf job ends) where
    -- also past the last sled
    pub ends_are : (s : ℕ) → EndsAre (sled_of job s) (ends_at ends s)
    ends_are s = are s _ (of_job s)

    module _ (standing : List (List Bool)) where
      -- only a sled of the job is stuck
      pub stuck_below : (s : ℕ) → both_stand standing ends s ≡ false → s < length (facts job).sleds
      stuck_below s e = of_sled _ s _ (of_job s) e

      -- the fleet and the floor that the tables were made of have the offsets and the cells of the task
      module _ (sleds : Sleds) (floor : Floor) (told : StandsTold sleds floor standing) (offsets : Sleds) (near : AllNear offsets) (same : sleds ≡ offsets) (laid : floor ≡ job.floor) where
        at_number : (s n : ℕ) (u : Position) → s < 6 → Numbers n u → Decides (get_or (get_or standing s []) n false) (Standing (offsets s) job.floor u)
        at_number s n u few (on_board, place) = Decides-at _ _ (told s n (few, on_board) ∙ λ x. may_stand (same x s) (laid x) (place x)) (stand_told (offsets s) job.floor u (near s))

        at_both : (s : ℕ) (o : Option Ends) → s < length (facts job).sleds → EndsTold job s o → Decides (can_stay (get_or standing s []) o) (EndsStand (task_of job offsets) s)
        at_both s None below beyond = absurd (omega arith)
        at_both s (Some e) below (_, is) =
            let few = few_sleds job in
            Decides-and _ _ (at_number s e.start (sled_of job s).start (omega arith) is.start) (at_number s e.goal (sled_of job s).goal (omega arith) is.goal)

        pub ends_told : (s : ℕ) → s < length (facts job).sleds → Decides (both_stand standing ends s) (EndsStand (task_of job offsets) s)
        ends_told s below = at_both s _ below (of_job s)
