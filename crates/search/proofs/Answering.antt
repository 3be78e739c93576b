-- The answer to each call.
use Rattle.std.proofs.Common.{ℕ, Ok, Err, Option, Result, refl}
use Rattle.fault.specs.declared.cause.Fault.{Fault}
use Rattle.grid.specs.declared.place.Place.{Place}
use Rattle.split.specs.Situations.{Sets}
use Rattle.tree.specs.Calls as tree
use Rattle.plans.specs.Tasks.{Task}
use Rattle.search.specs.declared.verdict.Verdict.{Verdict}
use Rattle.search.specs.declared.call.Answer.TheVariants.{Advanced, Bounded, Judged, Placed}
use Rattle.search.specs.declared.state.Search.{Search}
use Rattle.search.specs.States.{tree_after, SameParts}
use Rattle.search.specs.Telling.{TellsBound, TellsVerdict, TellsPlace}
use Rattle.search.specs.Advancing.{AdvancesAt, Advances}
use Rattle.search.specs.Workings.{AnswersAt, Answers}
use Rattle.search.proofs.Going.{stays}

module _ {F R : Type 0} (sets : R → Sets) (s : Search F R) where
  same : SameParts s s
  same = record { fleet_kept = refl; rule_kept = refl }

  pub answers_bound : (r : Result (Option ℕ) Fault) → TellsBound sets s r → Answers sets s s tree.ask_bound (Bounded r)
  unfolding tree.reply
  answers_bound r h = record { at = λ K limit n o. record { told = rw (h.opened K limit n o); goes = stays o }; same = same }

  pub answers_verdict : (v : Verdict) → TellsVerdict sets s v → Answers sets s s tree.ask_verdict (Judged v)
  unfolding tree.reply
  answers_verdict v h =
      record {
        at = λ K limit n o. record { told = (tree.status_of (tree_after sets s K limit n).verdict, refl, h.opened K limit n o); goes = stays o };
        same = same;
      }

  pub answers_place : (i j : ℕ) (r : Result Place Fault) → TellsPlace sets s i j r → Answers sets s s (tree.ask_place i j) (Placed r)
  unfolding tree.reply
  answers_place i j r h = record { at = λ K limit n o. record { told = h.opened K limit n o; goes = stays o }; same = same }

  advances_at : (after : Search F R) (k : ℕ) (r : Result ℕ Fault) (K : Task) (limit n : ℕ) → AdvancesAt sets s after k r K limit n → AnswersAt sets s after (tree.advance k) (Advanced r) K limit n
  advances_at after k (Ok m) K limit n h =
      record { told = h.told; goes = rw h.told h.goes }
  advances_at after k (Err f) K limit n h =
      record { told = h.told; goes = rw h.told.1 h.goes }

  pub answers_advance : (after : Search F R) (k : ℕ) (r : Result ℕ Fault) → Advances sets s after k r → Answers sets s after (tree.advance k) (Advanced r)
  answers_advance after k r h = record { at = λ K limit n o. advances_at after k r K limit n (h.answer.opened K limit n o); same = h.same }
