-- The sleds of a job, and what comes past the last: starts and goals are the place of number 0.
use Rattle.std.proofs.Common.{◌≡◌, ℕ, ◌≤◌, length, sym, ap, arith}
use Rattle.std.proofs.lemmas.List.{get_or_past}
use Rattle.job.specs.declared.job.Job.{Job}
use Rattle.job.specs.declared.sled_value.SledValue.{SledValue}
use Rattle.job.specs.Facts.{facts}
use Rattle.job.specs.Jobs.{smallest_sled}
use Rattle.job.proofs.SledLists.{sleds_few}
use Rattle.plans.specs.Tasks.{sled_of}
use Rattle.instance.specs.Ends.{EndsAre}

module _ (job : Job) where
  pub some_sleds : 1 ≤ length (facts job).sleds
  some_sleds = job.some_sled

  pub few_sleds : length (facts job).sleds ≤ 6
  few_sleds = sleds_few job.sleds

  pub ends_past : (s : ℕ) → length (facts job).sleds ≤ s → EndsAre (sled_of job s) (record { start = 0; goal = 0 })
  ends_past s beyond =
      let last : sled_of job s ≡ smallest_sled = get_or_past (facts job).sleds s smallest_sled beyond in
      record { start = (omega arith, sym (ap (λ (v : SledValue). v.start) last)); goal = (omega arith, sym (ap (λ (v : SledValue). v.goal) last)) }
