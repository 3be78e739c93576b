-- What the searches ask keeps the terms.
use Rattle.std.proofs.Common.{ℕ, zero, suc, ◌<◌, ◌≤◌, List, [], ◌∷◌, length, pos, refl, arith, rules, lit≤}
use Rattle.std.specs.List.{AllByRecursion}
use Rattle.grid.specs.declared.floor.Floor.{Floor}
use Rattle.grid.specs.declared.position.Position.{Position}
use Rattle.fleet.specs.Offsets.{FleetTerms}
use Rattle.fleet.specs.Lists.{sleds_of}
use Rattle.fleet.specs.SledLists.{sled_below, near_all, some_each}
use Rattle.fleet.specs.RectangleFleets.{rectangle}
use Rattle.split.specs.Rules.{single_sets}
use Rattle.plans.specs.Tasks.{OfFloor, TaskTerms}
use Rattle.plans.specs.Instance.{SplitTerms}
use Rattle.plans.proofs.Terms.{setting_terms, rule_terms}
use Rattle.trials.specs.Trials.{at, aisle, square, task_on, searches, trials, SearchKeepsTerms, AllOf, SearchesKeepTerms, KeepsTerms}
use Rattle.trials.proofs.Shown.{one_near}

one_of : (floor : Floor) (u : Position) → OfFloor floor u → AllOf floor (u ∷ [])
one_of floor u h zero below = h
one_of floor u h (suc s) below = absurd (omega arith)

two_of : (floor : Floor) (u v : Position) → OfFloor floor u → OfFloor floor v → AllOf floor (u ∷ v ∷ [])
two_of floor u v h k zero below = h
two_of floor u v h k (suc zero) below = k
two_of floor u v h k (suc (suc s)) below = absurd (omega arith)

single_terms : SplitTerms single_sets
single_terms = record { holds_u = search rules; holds_v = search rules; all_share = search rules; only_meeting = search rules }

fleet_terms : (us : List Position) → length us ≤ 6 → FleetTerms (length us) (sleds_of (λ _. rectangle 1 1) us)
fleet_terms us few = record {
  few = few;
  only = sled_below (λ _. rectangle 1 1) us;
  near = near_all (λ _. rectangle 1 1) (λ _. one_near) us;
  some = some_each (λ _. rectangle 1 1) (λ _. (pos 0, pos 0, refl)) us;
}

pub searches_keep_terms : SearchesKeepTerms
searches_keep_terms floor horizon starts goals lasts few same begin end =
    let terms : TaskTerms (task_on floor horizon starts goals) =
    record { lasts = lasts; starts = begin; goals = λ s below. end s (rw same below); fleet = fleet_terms starts few } in
    (setting_terms _ terms, rule_terms _ terms single_sets single_terms)

one : (floor : Floor) (horizon : ℕ) (u v : Position) → 1 ≤ horizon → OfFloor floor u → OfFloor floor v → SearchKeepsTerms floor horizon (u ∷ []) (v ∷ [])
one floor horizon u v lasts h k = searches_keep_terms floor horizon (u ∷ []) (v ∷ []) lasts (lit≤ tt) refl (one_of floor u h) (one_of floor v k)

-- two sleds that change their places
two : (floor : Floor) (horizon : ℕ) (u v : Position) → 1 ≤ horizon → OfFloor floor u → OfFloor floor v → SearchKeepsTerms floor horizon (u ∷ v ∷ []) (v ∷ u ∷ [])
two floor horizon u v lasts h k = searches_keep_terms floor horizon (u ∷ v ∷ []) (v ∷ u ∷ []) lasts (lit≤ tt) refl (two_of floor u v h k) (two_of floor v u k h)

ends : SearchKeepsTerms aisle 2 (at 0 0 ∷ at 2 0 ∷ []) (at 2 0 ∷ at 0 0 ∷ [])
ends = two aisle 2 (at 0 0) (at 2 0) (lit≤ tt) (lit≤ tt, lit≤ tt) (lit≤ tt, lit≤ tt)

corners : SearchKeepsTerms square 2 (at 0 0 ∷ at 1 1 ∷ []) (at 1 1 ∷ at 0 0 ∷ [])
corners = two square 2 (at 0 0) (at 1 1) (lit≤ tt) (lit≤ tt, lit≤ tt) (lit≤ tt, lit≤ tt)

searches_keep : AllByRecursion KeepsTerms searches
searches_keep = (
  one aisle 1 (at 0 0) (at 2 0) (lit≤ tt) (lit≤ tt, lit≤ tt) (lit≤ tt, lit≤ tt),
  (
    one aisle 2 (at 0 0) (at 2 0) (lit≤ tt) (lit≤ tt, lit≤ tt) (lit≤ tt, lit≤ tt),
    (ends, (ends, (ends, (ends, (one square 2 (at 1 0) (at 0 1) (lit≤ tt) (lit≤ tt, lit≤ tt) (lit≤ tt, lit≤ tt), (corners, (corners, tt))))))),
  ),
)

pub terms_kept : AllByRecursion KeepsTerms trials
terms_kept = (tt, (tt, (tt, (tt, (tt, (tt, (tt, (tt, (tt, (tt, (tt, searches_keep)))))))))))
