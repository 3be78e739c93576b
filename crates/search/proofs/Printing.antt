-- The lines of a report are those of the tree.
use Rattle.std.proofs.Common.{◌≡◌, ℕ, zero, suc, ◌<◌, List, [], ◌++◌, length, get_or, take, Some, Option, Result, sym, refl, ap, ◌∙◌, ap₂, arith}
use Rattle.std.proofs.lemmas.List.{append-nil, take-take}
use Rattle.fault.specs.declared.cause.Fault.{Fault}
use Rattle.fault.specs.Lines.{Writes}
use Rattle.lines.specs.declared.outcome.Outcome.{Outcome}
use Rattle.lines.specs.declared.outcome.Outcome.TheVariants as outcomes
use Rattle.lines.specs.declared.report.Report.{Report}
use Rattle.lines.specs.Plans.{outcome_line, route_line}
use Rattle.lines.specs.Reports.{plan_lines, lines_after, report_lines}
use Rattle.tree.specs.Setting.{Setting}
use Rattle.tree.specs.Plans.{route, sum}
use Rattle.tree.specs.Search as search
use Rattle.tree.specs.Tree.{Tree, Verdict, working, solved, none, full, bound}
use Rattle.tree.specs.Calls.{routes_at}
use Rattle.search.specs.Printing.{PrintsTree}
use Rattle.search.specs.Workings.{or_0, outcome_of}
use Rattle.search.proofs.Ending.{Bounded}

-- lists of routes that are alike up to the last instant have the same lines
plan_alike : (xs ys : List (List ℕ)) (last n : ℕ) → ((s : ℕ) → s < n → take (suc last) (get_or xs s []) ≡ take (suc last) (get_or ys s [])) → plan_lines xs last n ≡ plan_lines ys last n
unfolding plan_lines
plan_alike xs ys last zero h = refl
plan_alike xs ys last (suc n) h = ap₂ (λ (a b : List ℕ). a ++ b) (plan_alike xs ys last n (λ s l. h s (omega arith))) (ap (route_line n) (h n (omega arith)))

report_is : (r : Report) (o : Outcome) → r.outcome ≡ o → report_lines r ≡ outcome_line o r.turns ++ lines_after o (plan_lines r.routes.now r.last (length r.routes.now))
unfolding report_lines
report_is r o e = ap (λ (x : Outcome). outcome_line x r.turns ++ lines_after x (plan_lines r.routes.now r.last (length r.routes.now))) e

module _ (before after : List ℕ) (r : Result ℕ Fault) (P : search.Search) (t : Tree) where
  abbrev S : Setting
  S = P.setting

  -- the report's numbers and routes are the tree's
  module _ (x : Report) (same_sleds : length x.routes.now ≡ S.sleds) (same_last : x.last ≡ S.horizon)
      (same_routes : (k : ℕ) → t.verdict ≡ solved k → (s : ℕ) → s < S.sleds → take (suc S.horizon) (get_or x.routes.now s []) ≡ route (routes_at t.nodes k) s)
      (w : Writes (report_lines x) before after r) where
    writes : (o : Outcome) → x.outcome ≡ o → (lines : List ℕ) → lines_after o (plan_lines x.routes.now x.last (length x.routes.now)) ≡ lines → Writes (outcome_line o x.turns ++ lines) before after r
    writes o e lines q = rw (report_is x o e, q) at w

    writes_line : (o : Outcome) → x.outcome ≡ o → lines_after o (plan_lines x.routes.now x.last (length x.routes.now)) ≡ [] → Writes (outcome_line o x.turns) before after r
    writes_line o e q = rw append-nil at (writes o e [] q)

    plan_is : (k : ℕ) → t.verdict ≡ solved k → plan_lines x.routes.now x.last (length x.routes.now) ≡ plan_lines (routes_at t.nodes k) S.horizon S.sleds
    plan_is k e =
        ap₂ (plan_lines x.routes.now) same_last same_sleds ∙
        plan_alike x.routes.now (routes_at t.nodes k) S.horizon S.sleds
        (λ s l. sym (take-take (suc S.horizon) (suc S.horizon) (get_or x.routes.now s []) (omega arith)) ∙ ap (take (suc S.horizon)) (same_routes k e s l))

    pub printed : (v : Verdict) → t.verdict ≡ v → Bounded P t v → Some x.outcome ≡ outcome_of (bound S t) v → PrintsTree before after r S t x.turns v
    printed working e b o = absurd cc
    printed (solved k) e b o =
        let is : x.outcome ≡ outcomes.Solved (or_0 (bound S t)) = cc in
        writes (outcomes.Solved (sum S (routes_at t.nodes k))) (is ∙ ap (λ (m : Option ℕ). outcomes.Solved (or_0 m)) b) (plan_lines (routes_at t.nodes k) S.horizon S.sleds) (plan_is k e)
    printed none e b o = let is : x.outcome ≡ outcomes.NoPlan = cc in writes_line outcomes.NoPlan is refl
    printed full e (m, b) o =
        let is : x.outcome ≡ outcomes.Full (or_0 (bound S t)) = cc in
        (m, b, writes_line (outcomes.Full m) (is ∙ ap (λ (q : Option ℕ). outcomes.Full (or_0 q)) b) refl)
