-- Calls one after the other, from the root on.
use Rattle.std.proofs.Common.{◌≡◌, ℕ, ◌+◌, List, [], ◌∷◌, ◌++◌, map, refl, ap, ◌∙◌, subst, arith}
use Rattle.std.proofs.lemmas.List.{map-append}
use Rattle.fleet.specs.Offsets.{Sleds, FleetTerms}
use Rattle.split.specs.Situations.{Sets}
use Rattle.tree.specs.Search as search
use Rattle.tree.specs.Tree.{turns}
use Rattle.tree.specs.Calls as tree
use Rattle.tree.specs.Law.{granted}
use Rattle.engine.specs.declared.call.Call.{Call}
use Rattle.engine.specs.Calls.{call_of}
use Rattle.job.specs.declared.job.Job.{Job}
use Rattle.job.specs.Facts.{facts}
use Rattle.plans.specs.Tasks.{task_of}
use Rattle.plans.specs.Instance.{search_of, SplitTerms}
use Rattle.plans.specs.Promise.{Promise}
use Rattle.plans.proofs.Terms.{jobs_are_tasks}
use Rattle.plans.proofs.Promise.{every_run_keeps_the_promise}
use Rattle.instance.specs.Instances.{FitsJob}
use Rattle.search.specs.declared.call.Answer.{Answer}
use Rattle.search.specs.declared.state.Search.{Search}
use Rattle.search.specs.Words.{IsAnswer, AreAnswers}
use Rattle.search.specs.States.{planning}
use Rattle.search.specs.Workings.{events_of, Answers, AllAnswers}
use Rattle.search.proofs.Turns.{event_at, run_push, granted_push}

are_push : (es : List tree.Event) (rs : List Answer) (e : tree.Event) (r : Answer) → AreAnswers es rs → IsAnswer e.answer r → AreAnswers (es ++ e ∷ []) (rs ++ r ∷ [])
are_push [] [] e r h a = (a, tt)
are_push [] (x ∷ rs) e r h a = absurd h
are_push (x ∷ es) [] e r h a = absurd h
are_push (x ∷ es) (y ∷ rs) e r (b, h) a = (b, are_push es rs e r h a)

-- the events with one call more
events_push : (P : search.Search) (limit : ℕ) (cs : List Call) (c : Call) →
    events_of P limit (cs ++ c ∷ []) ≡ events_of P limit cs ++ event_at P limit (granted (events_of P limit cs)) (call_of c) ∷ []
events_push P limit cs c =
    ap (tree.run P limit (turns P limit 0)) (map-append call_of cs (c ∷ [])) ∙ run_push P limit (map call_of cs) (call_of c) 0 ∙
    ap (λ (n : ℕ). events_of P limit cs ++ event_at P limit n (call_of c) ∷ []) (let z : 0 + granted (events_of P limit cs) ≡ granted (events_of P limit cs) = omega arith in z)

module _ {F R : Type 0} (sets : R → Sets) (s : Search F R) where
  -- before the first call
  pub answers_none : AllAnswers sets s s [] []
  unfolding tree.run granted
  answers_none = record { at = λ K limit o. record { told = tt; goes = o }; same = record { fleet_kept = refl; rule_kept = refl } }

  -- one call more
  pub answers_push : (middle after : Search F R) (cs : List Call) (c : Call) (rs : List Answer) (r : Answer) →
      AllAnswers sets s middle cs rs → Answers sets middle after (call_of c) r → AllAnswers sets s after (cs ++ c ∷ []) (rs ++ r ∷ [])
  answers_push middle after cs c rs r h a =
      record {
        at = λ K limit o.
            let P = planning sets s K in
            let es = events_of P limit cs in
            let n = granted es in
            let before = h.at K limit o in
            let now = a.at K limit n before.goes in
            let rule = ap sets h.same.rule_kept in
            record {
              told = rw (events_push P limit cs c) (are_push es rs (event_at P limit n (call_of c)) r before.told (rw rule at now.told));
              goes = rw (events_push P limit cs c, granted_push es (event_at P limit n (call_of c))) (rw rule at now.goes);
            };
        same = record { fleet_kept = a.same.fleet_kept ∙ h.same.fleet_kept; rule_kept = a.same.rule_kept ∙ h.same.rule_kept };
      }

-- the events of every list of calls keep the promise
pub promise_kept : (job : Job) (size : ℕ) (offsets : Sleds) (sets : Sets) → FleetTerms size offsets → SplitTerms sets → FitsJob job size → (calls : List Call) →
    Promise (task_of job offsets) sets (facts job).limit (map call_of calls) (events_of (search_of (task_of job offsets) sets) (facts job).limit calls)
promise_kept job size offsets sets fleet rule fits calls =
    every_run_keeps_the_promise (task_of job offsets) sets (jobs_are_tasks job offsets (subst (λ (n : ℕ). FleetTerms n offsets) fits.1 fleet)) rule (facts job).limit (map call_of calls)
