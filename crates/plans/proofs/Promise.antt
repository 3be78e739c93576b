-- The law of searches, at the setting of a task, is the promise.
use Rattle.std.proofs.Common.{◌≡◌, ℕ, zero, suc, ◌<◌, ◌≤◌, ◌&&◌, ltb, leb, List, sym, refl, ap, ◌∙◌, arith}
use Rattle.std.proofs.lemmas.Bool.{cond-true, and_from, lt-ltb, le-leb}
use Rattle.split.specs.Situations.{Sets}
use Rattle.tree.specs.Plans as tree
use Rattle.tree.specs.Search.{Search}
use Rattle.tree.specs.Tree.{Tree, Verdict, is_working}
use Rattle.tree.specs.Calls as calls
use Rattle.tree.specs.Calls.{Call, advance, ask_place, Answer, made, stands, Event, reply, advanced, made_by, routes_at}
use Rattle.tree.specs.Law.{Lawful, TellsSolved, IsWorking, IsSolved}
use Rattle.tree.proofs.Choice.{planner_keeps_terms}
use Rattle.tree.proofs.Law.{runs_are_lawful}
use Rattle.plans.specs.Tasks.{Task, TaskTerms}
use Rattle.plans.specs.Instance.{setting_of, rule_of, search_of}
use Rattle.plans.specs.Promise.{Told, Solution, tree_at}
use Rattle.plans.specs.Theorems.{placed, LawfulKeepsThePromise, EveryRunKeepsThePromise}
use Rattle.plans.proofs.Steps.{number_position}
use Rattle.plans.proofs.Terms.{setting_terms, rule_terms}
use Rattle.plans.proofs.Plans.{bounds_carry_over, least_sums_carry_over, no_plan_carries_over}

abbrev event : Call → Answer → Event
event c a = record { call = c; answer = a }

-- what a search at a tree tells
module _ (P : Search) (limit : ℕ) (now : Tree) where
  made_told : (n : ℕ) → IsWorking now → 1 ≤ n → (m : ℕ) × (reply P limit now (advance n) ≡ made m)
  unfolding reply
  made_told zero works some = absurd (omega arith)
  made_told (suc n) works some = (made_by P limit (suc n) now, ap (λ (v : Verdict). advanced (is_working v) (suc n) (made_by P limit (suc n) now)) works)

  place_told : (s t : ℕ) → IsSolved now → s < P.setting.sleds → t ≤ P.setting.horizon → (u : ℕ) × (reply P limit now (ask_place s t) ≡ stands u)
  unfolding reply
  place_told s t (k, solved) few soon = (
    tree.place (routes_at now.nodes k) s t,
    ap (λ (v : Verdict). calls.placed P.setting now.nodes v s t) solved ∙
        cond-true (ltb s P.setting.sleds && leb t P.setting.horizon) _ _ (and_from (ltb s P.setting.sleds) (leb t P.setting.horizon) (lt-ltb _ _ few) (le-leb _ _ soon)),
  )

module _ (K : Task) (sets : Sets) (terms : TaskTerms K) (limit : ℕ) (calls : List Call) (events : List Event) (law : Lawful (search_of K sets) limit calls events) where
  solution : (k : ℕ) (c : Call) (a : Answer) → Told events k c a → TellsSolved a → Solution K events k
  solution k c a h solved =
      let (q, least, places, bounds) = law.plan k (event c a) h solved in
      record {
        plan = placed q;
        sum = tree.sum (setting_of K) q;
        least_sum = least_sums_carry_over K terms q least;
        told = λ l s t b later few soon m.
            let (u, is) = law.places_told k l (event c a) (event _ b) s t later h m solved refl few soon in
            is ∙ ap stands (places l (event _ b) s t u m refl is ∙ sym (number_position (tree.place q s t)));
        places = λ l s t u m. places l (event _ (stands u)) s t u m refl refl ∙ sym (number_position (tree.place q s t));
        bounds = λ l o later m. bounds l (event _ _) o later m refl;
      }

pub lawful_keeps_the_promise : LawfulKeepsThePromise
lawful_keeps_the_promise K sets terms limit calls events law =
    record {
      asked = law.asked;
      answers = λ k c a h. law.answers k (event c a) h;
      ended = λ k n a h. law.advance_ended k n (event _ a) h refl;
      no_turns = λ k n a h. law.advance_no_turns k n (event _ a) h refl;
      advance_granted = λ k n a h works some.
          let (m, is) = made_told (search_of K sets) limit (tree_at K sets limit events k) n works some in (m, law.answers k (event _ a) h ∙ is);
      not_solved = λ k s t a h. law.place_not_solved k s t (event _ a) h refl;
      too_high = λ k s t a h. law.place_too_high k s t (event _ a) h refl;
      place_granted = λ k s t a h solved few soon.
          let (u, is) = place_told (search_of K sets) limit (tree_at K sets limit events k) s t solved few soon in (u, law.answers k (event _ a) h ∙ is);
      bound_granted = λ k a h. law.bound_told k (event _ a) h refl;
      verdict_granted = λ k a h. law.verdict_told k (event _ a) h refl;
      bounds = λ k o h. bounds_carry_over K terms o (law.bounds k (event _ _) o h refl);
      never_fall = λ k l o p later h m. law.never_fall k l (event _ _) (event _ _) o p later h m refl refl;
      solved = solution K sets terms limit calls events law;
      none = λ k h. no_plan_carries_over K terms (law.unsolvable k (event _ _) h refl);
      ends = λ k many h. law.ends k (event _ _) h many refl;
      ends_refused = λ k n a many h. law.ends_refused k n (event _ a) h many refl;
      turns_few = law.turns_few;
    }

pub every_run_keeps_the_promise : EveryRunKeepsThePromise
every_run_keeps_the_promise K sets terms rule limit calls =
    lawful_keeps_the_promise K sets terms limit calls _
    (runs_are_lawful (search_of K sets) (planner_keeps_terms (setting_of K) (rule_of K sets) (setting_terms K terms) (rule_terms K terms sets rule)) limit calls)
