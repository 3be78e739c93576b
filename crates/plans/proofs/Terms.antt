-- A job is a task, and the tree's setting and rule of a task keep the tree's terms, on the board of 256 places.
use Rattle.std.proofs.Common.{◌≡◌, ℕ, ◌<◌, true, ◌&&◌, length, refl, ◌∙◌, ⊎_elim}
use Rattle.std.proofs.lemmas.Bool.{and_parts, and_from, or_left, or_right, cases_Bool, lt-ltb}
use Rattle.grid.specs.Board as board
use Rattle.grid.specs.Places.{position_at}
use Rattle.geometry.proofs.Meetings.{collide_start, collide_end}
use Rattle.job.specs.Jobs.{sleds_told}
use Rattle.job.proofs.Limits.{OnFloor, found_on_floor}
use Rattle.split.specs.declared.pair.Side.{Side}
use Rattle.split.specs.declared.pair.Side.TheVariants.{Lower, Upper}
use Rattle.split.specs.Situations.{Sets, meet, on_board}
use Rattle.tree.specs.Setting.{SettingTerms}
use Rattle.tree.specs.Search.{RuleTerms}
use Rattle.plans.specs.Tasks.{Task, TaskTerms, sled_of}
use Rattle.plans.specs.Instance.{is_step, meets_at, collides_in, setting_of, situation_at, in_set, rule_of, SplitTerms}
use Rattle.plans.specs.Theorems.{JobsAreTasks, InstanceIsTrueToWords, InstanceKeepsTerms}
use Rattle.plans.proofs.Steps.{number_below, board_told, step_told, step_in, next_ascends}
use Rattle.plans.proofs.Tests.{near, goes_told, meets_told, meets_on_board, collides_by_moves, collides_without_step, standing_below, true_to_words}

pub jobs_are_tasks : JobsAreTasks
jobs_are_tasks job offsets fleet =
    let on : (s : ℕ) → s < length (sleds_told job.sleds) → OnFloor job.floor.columns job.floor.rows (sled_of job s) =
    λ s l. found_on_floor (sleds_told job.sleds) job.floor.columns job.floor.rows s (sled_of job s) job.sound l refl in
    record {
      lasts = job.horizon.least;
      starts = λ s l. ((on s l).start_column, (on s l).start_row);
      goals = λ s l. ((on s l).goal_column, (on s l).goal_row);
      fleet = fleet;
    }

module _ (K : Task) (terms : TaskTerms K) where
  -- all places are on the board
  pub starts_on_board : (s : ℕ) → s < K.sleds → (setting_of K).start s < 256
  starts_on_board s l = number_below K.floor (K.start s) (terms.starts s l)

  pub goals_on_board : (s : ℕ) → s < K.sleds → (setting_of K).goal s < 256
  goals_on_board s l = number_below K.floor (K.goal s) (terms.goals s l)

  pub steps_on_board : (s t u v : ℕ) → (setting_of K).step s t u v ≡ true → (u < 256) × (v < 256)
  steps_on_board s t u v e = let (from, to, _) = goes_told K s u v e in (standing_below K terms s u from, standing_below K terms s v to)

  -- sleds that meet at an end of a step collide in it
  module _ (i j u u' v v' : ℕ) where
    both_step : (is_step u u' && is_step v v') ≡ true → board.Step u u' × board.Step v v'
    both_step e = let (a, b) = and_parts (is_step u u') (is_step v v') e in ((step_told u u').0 a, (step_told v v').0 b)

    collides_before : meets_at K i j u v ≡ true → collides_in K i j u u' v v' ≡ true
    collides_before e =
        ⊎_elim
        (λ both.
        let ((a, h), (b, k)) = both_step both in
        collides_by_moves K i j u u' v v' a b h k ∙ collide_start (K.offsets i) (position_at u) a (K.offsets j) (position_at v) b (near K terms i) (near K terms j) (meets_told K i j u v e).2)
        (λ none. collides_without_step K i j u u' v v' none ∙ or_left (meets_at K i j u v) (meets_at K i j u' v') e) (cases_Bool (is_step u u' && is_step v v'))

    collides_after : meets_at K i j u' v' ≡ true → collides_in K i j u u' v v' ≡ true
    collides_after e =
        ⊎_elim
        (λ both.
        let ((a, h), (b, k)) = both_step both in
        collides_by_moves K i j u u' v v' a b h k ∙
        collide_end (K.offsets i) (position_at u) a (K.offsets j) (position_at v) b (near K terms i) (near K terms j)
        (position_at u') (position_at v') (h.column, h.row) (k.column, k.row) (meets_told K i j u' v' e).2)
        (λ none. collides_without_step K i j u u' v v' none ∙ or_right (meets_at K i j u v) (meets_at K i j u' v') e) (cases_Bool (is_step u u' && is_step v v'))

  pub setting_terms : SettingTerms (setting_of K)
  setting_terms =
      record {
        has_step = terms.lasts;
        reached = λ s t u v e. step_in u v (goes_told K s u v e).2;
        ascending = next_ascends;
        meets_before = λ i j u u' v v'. collides_before i j u u' v v';
        meets_after = λ i j u u' v v'. collides_after i j u u' v v';
      }

  -- sleds that meet are a situation in which the rule has its sets
  meeting : (i j u v : ℕ) → i < j → meets_at K i j u v ≡ true → meet (situation_at K i j u v) ≡ true
  meeting i j u v less e =
      let (a, b, share) = meets_told K i j u v e in
      and_from _ _ (and_from _ _ (lt-ltb i j less) (and_from (on_board (position_at u)) (on_board (position_at v)) ((board_told u).1 a) ((board_told v).1 b))) share

  module _ (sets : Sets) (keeps : SplitTerms sets) where
    pub sets_on_board : (side : Side) (i j u v w : ℕ) → in_set K sets side i j u v w ≡ true → w < 256
    unfolding in_set
    sets_on_board side i j u v w e = (board_told w).0 (keeps.only_meeting (situation_at K i j u v) side (position_at w) terms.fleet e).1

    pub rule_terms : RuleTerms (setting_of K) (rule_of K sets)
    unfolding in_set
    rule_terms =
        record {
          has_u = λ trail t i j u v less few e. keeps.holds_u (situation_at K i j u v) terms.fleet (meeting i j u v less e);
          has_v = λ trail t i j u v less few e. keeps.holds_v (situation_at K i j u v) terms.fleet (meeting i j u v less e);
          all_meet = λ trail t i j u v less few e a b in-first in-second.
              meets_on_board K i j a b (sets_on_board Lower i j u v a in-first) (sets_on_board Upper i j u v b in-second) ∙
              keeps.all_share (situation_at K i j u v) (position_at a) (position_at b) terms.fleet in-first in-second;
        }

pub instance_is_true_to_words : InstanceIsTrueToWords
instance_is_true_to_words = true_to_words

pub instance_keeps_terms : InstanceKeepsTerms
instance_keeps_terms K terms = (setting_terms K terms, rule_terms K terms)
