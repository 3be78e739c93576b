-- A turn, by what the engine found.
use Rattle.std.proofs.Common.{◌≡◌, ℕ, ◌+◌, ◌<◌, ◌≤◌, ◌≢◌, false, ltb, List, [], length, get_or, Some, None, vec_items, vec_len, Option, sym, refl, ap, ◌∙◌, subst, arith}
use Rattle.std.proofs.lemmas.Bool.{lt-ltb, le-ltb, cond-true, cond-false}
use Rattle.std.specs.Option.{option_map, option_to_list}
use Rattle.tree.specs.Lists.{to_list}
use Rattle.tree.specs.Setting.{Setting}
use Rattle.tree.specs.Plans.{Plan}
use Rattle.tree.specs.Constraints as constraints
use Rattle.tree.specs.Conflicts.{IsFirst}
use Rattle.tree.specs.Conflicts as conflicts
use Rattle.tree.specs.Search as search
use Rattle.tree.specs.Tree as tree
use Rattle.tree.proofs.Conflicts.{conflict_is_first}
use Rattle.tree.proofs.Turns.{rests}
use Rattle.engine.specs.declared.node.Node.{Node}
use Rattle.engine.specs.declared.node.Verdict.{Verdict}
use Rattle.engine.specs.declared.node.Verdict.TheVariants.{Working, Solved, Unsolvable, Full}
use Rattle.engine.specs.declared.conflict.Conflict.{Conflict}
use Rattle.engine.specs.Model.{Model, search_of}
use Rattle.engine.specs.Table.{parent_of, plan_of, conflict_of, verdict_of, Tracks, MadeAs, Follows, blank, empty, found_of}
use Rattle.engine.specs.Least.{CheapestSoFar}
use Rattle.engine.specs.Engine.{Goes}
use Rattle.engine.specs.declared.state.Engine.{Engine}
use Rattle.engine.proofs.Tables.{push_tracks}
use Rattle.engine.proofs.Cheapest.{cheapest_of}

first_real : (S : Setting) (p : Plan) (c : conflicts.Conflict) → IsFirst S p (Some c) → conflicts.HasConflict S p c
first_real S p (conflicts.meeting t i j) h = h.0
first_real S p (conflicts.collision t i j) h = h.0

real_conflict : (S : Setting) (p : Plan) (c : Conflict) → Some (conflict_of c) ≡ conflicts.first_conflict S p → conflicts.HasConflict S p (conflict_of c)
real_conflict S p c e = first_real S p (conflict_of c) (subst (IsFirst S p) (sym e) (conflict_is_first S p))

module _ (m : Model) (limit : ℕ) (table : List Node) (t : tree.Tree) (f : Follows m table Working t) where
  abbrev P : search.Search
  P = search_of m

  abbrev S : Setting
  S = m.setting

  working_turn : tree.turn P limit t ≡ tree.turn_at P limit t.nodes (tree.cheapest S t.nodes)
  unfolding tree.turn
  working_turn = ap (tree.turn_from P limit t) f.verdict_is

  found_turn : (r : Option ℕ) → CheapestSoFar table (length table) r → tree.turn P limit t ≡ tree.turn_at P limit t.nodes (option_map (found_of t.nodes) r)
  found_turn r b = working_turn ∙ ap (tree.turn_at P limit t.nodes) (cheapest_of m table t.nodes f.tracks r b)

  turn_none : CheapestSoFar table (length table) None → Follows m table Unsolvable (tree.turn P limit t)
  unfolding tree.turn_at
  turn_none b = subst (Follows m table Unsolvable) (sym (found_turn None b)) (record { tracks = f.tracks; verdict_is = refl })

  module _ (k : ℕ) (b : CheapestSoFar table (length table) (Some k)) where
    abbrev rs : List (List ℕ)
    rs = (get_or table k empty).routes

    conflict_turn : (o : Option conflicts.Conflict) → o ≡ conflicts.first_conflict S (plan_of S rs) → tree.turn P limit t ≡ tree.turn_on P limit t.nodes (found_of t.nodes k) o
    unfolding tree.turn_at
    conflict_turn o e =
        found_turn (Some k) b
        ∙ ap (λ (p : Plan). tree.turn_on P limit t.nodes (found_of t.nodes k) (conflicts.first_conflict S p)) (f.tracks.each k b.below).routes
        ∙ ap (tree.turn_on P limit t.nodes (found_of t.nodes k)) (sym e)

    turn_solved : None ≡ conflicts.first_conflict S (plan_of S rs) → Follows m table (Solved k) (tree.turn P limit t)
    unfolding tree.turn_on
    turn_solved e = subst (Follows m table (Solved k)) (sym (conflict_turn None e)) (record { tracks = f.tracks; verdict_is = refl })

    module _ (c : Conflict) (e : Some (conflict_of c) ≡ conflicts.first_conflict S (plan_of S rs)) where
      turn_full : limit < length table + 2 → Follows m table Full (tree.turn P limit t)
      unfolding tree.turn_on
      turn_full l =
          let full = lt-ltb limit (length t.nodes + 2) (omega (arith, f.tracks.size)) in
          subst (Follows m table Full) (sym (conflict_turn (Some (conflict_of c)) e ∙ cond-true (ltb limit (length t.nodes + 2)) (tree.tree_of t.nodes tree.full) (tree.tree_of (tree.expand P t.nodes (found_of t.nodes k) (conflict_of c)) tree.working) full)) (record { tracks = f.tracks; verdict_is = refl })

      turn_on : length table + 2 ≤ limit → (after : List Node) → Tracks m after (tree.expand P t.nodes (found_of t.nodes k) (conflict_of c)) → Follows m after Working (tree.turn P limit t)
      unfolding tree.turn_on
      turn_on l after g =
          let more = le-ltb limit (length t.nodes + 2) (omega (arith, f.tracks.size)) in
          subst (Follows m after Working) (sym (conflict_turn (Some (conflict_of c)) e ∙ cond-false (ltb limit (length t.nodes + 2)) (tree.tree_of t.nodes tree.full) (tree.tree_of (tree.expand P t.nodes (found_of t.nodes k) (conflict_of c)) tree.working) more)) (record { tracks = g; verdict_is = refl })

-- a turn of an engine that works
module _ (m : Model) (e : Engine) (works : e.verdict ≡ Working) where
  abbrev rows : List Node
  rows = e.table.nodes.items

  -- the engine with a table and a verdict follows the turn of whatever tree it follows now
  abbrev Turned : List Node → Verdict → Type 0
  Turned table v = (t : tree.Tree) → Follows m rows e.verdict t → Follows m table v (tree.turn (search_of m) e.limit t)

  found : (r : Option ℕ) → CheapestSoFar rows (vec_len e.table.nodes) r → CheapestSoFar rows (length rows) r
  found r b = subst (λ (n : ℕ). CheapestSoFar rows n r) e.table.nodes.ok.0 b

  now : (t : tree.Tree) → Follows m rows e.verdict t → Follows m rows Working t
  now t f = subst (λ (v : Verdict). Follows m rows v t) works f

  pub goes_none : CheapestSoFar rows (vec_len e.table.nodes) None → Turned rows Unsolvable
  goes_none b t f = turn_none m e.limit rows t (now t f) (found None b)

  -- given the cheapest open node, as it was handed out, and what was found of its routes
  module _ (k : ℕ) (b : CheapestSoFar rows (vec_len e.table.nodes) (Some k)) (n : Node) (is : n ≡ get_or rows k empty) where
    told : (o : Option conflicts.Conflict) → o ≡ conflicts.first_conflict m.setting (plan_of m.setting n.routes) → o ≡ conflicts.first_conflict m.setting (plan_of m.setting (get_or rows k empty).routes)
    told o h = h ∙ ap (λ (n : Node). conflicts.first_conflict m.setting (plan_of m.setting n.routes)) is

    pub goes_solved : None ≡ conflicts.first_conflict m.setting (plan_of m.setting n.routes) → Turned rows (Solved k)
    goes_solved h t f = turn_solved m e.limit rows t (now t f) k (found (Some k) b) (told None h)

    module _ (c : Conflict) (h : Some (conflict_of c) ≡ conflicts.first_conflict m.setting (plan_of m.setting n.routes)) where
      pub is_real : conflicts.HasConflict m.setting (plan_of m.setting (get_or rows k empty).routes) (conflict_of c)
      is_real = real_conflict m.setting (plan_of m.setting (get_or rows k empty).routes) c (told (Some (conflict_of c)) h)

      pub goes_full : e.limit < vec_len e.table.nodes + 2 → Turned rows Full
      goes_full l t f = turn_full m e.limit rows t (now t f) k (found (Some k) b) c (told (Some (conflict_of c)) h) (omega (arith, l, e.table.nodes.ok.0))

      pub goes_on : vec_len e.table.nodes + 2 ≤ e.limit → (after : List Node) → ((t : tree.Tree) → Tracks m rows t.nodes → Tracks m after (tree.expand (search_of m) t.nodes (found_of t.nodes k) (conflict_of c))) → Turned after e.verdict
      goes_on l after h' t f =
          subst (λ (v : Verdict). Follows m after v (tree.turn (search_of m) e.limit t)) (sym works)
          (turn_on m e.limit rows t (now t f) k (found (Some k) b) c (told (Some (conflict_of c)) h) (omega (arith, l, e.table.nodes.ok.0)) after (h' t f.tracks))

over : (v : Verdict) → v ≢ Working → tree.is_working (verdict_of v) ≡ false
over Working h = absurd (h refl)
over (Solved k) h = refl
over Unsolvable h = refl
over Full h = refl

-- an engine that has ended stays where it is
pub engine_rests : (m : Model) (e : Engine) → e.verdict ≢ Working → Goes m e e (tree.turn (search_of m) e.limit)
engine_rests m e h =
    record { goes = λ t f. subst (Follows m (vec_items e.table.nodes) e.verdict) (sym (rests (search_of m) e.limit t (ap tree.is_working f.verdict_is ∙ over e.verdict h))) f; same_limit = refl }

-- the engine begins where the theory does
pub root_tracks : (m : Model) (limit : ℕ) (r : Option Node) → ((above : List constraints.SledConstraint) (k : ℕ) → MadeAs m above k r (tree.make_node (search_of m) 0 [])) → Follows m (option_to_list r) Working (tree.turns (search_of m) limit 0)
unfolding tree.turns tree.root
root_tracks m limit r h = record { tracks = start r (tree.make_node (search_of m) 0 []) (λ above. h above 0); verdict_is = refl }
  where
    none_yet : Tracks m [] []
    none_yet = record { size = refl; each = λ k l. absurd (omega arith) }

    start : (r : Option Node) (o : Option tree.Node) → ((above : List constraints.SledConstraint) → MadeAs m above 0 r o) → Tracks m (option_to_list r) (to_list o)
    start None None h = none_yet
    start None (Some x) h = absurd (h [])
    start (Some n) None h = absurd (h [])
    start (Some n) (Some x) h = push_tracks m [] [] none_yet n x (h (get_or [] (parent_of n.branch) blank).trail)
