-- All answers to a list of calls, taken together.
use Rattle.std.proofs.Common.{◌≡◌, ℕ, zero, suc, ◌+◌, ◌<◌, ◌≤◌, Bool, true, false, cond, ◌&&◌, ltb, leb, List, [], ◌∷◌, take, Some, Option, sym, refl, ap, ◌∙◌, subst, inl, inr, ⊎_elim, arith}
use Rattle.std.proofs.lemmas.Bool.{cond_both, and_parts, and_from, and_cases, ltb-true, ltb-false, lt-ltb, leb-true, leb-false, le-leb}
use Rattle.tree.specs.Lists.{Nth, Exactly}
use Rattle.tree.specs.Plans.{Plan, LeastSum, NoPlan, place, sum}
use Rattle.tree.specs.Search.{Search, Terms}
use Rattle.tree.specs.Tree.{Node, Tree, Verdict, working, solved, none, full, bound, turns, is_working, turns_made}
use Rattle.tree.specs.Calls.{Working, Solved, Unsolvable, Full, Call, advance, ask_bound, ask_verdict, ask_place, Answer, made, bounded, status, stands, refused, Event, status_of, made_by, routes_at, advanced, placed, reply, run, Ended, NoTurns, NotSolved, TooHigh}
use Rattle.tree.specs.Law.{TellsSolved, tree_at, IsWorking, IsSolved, Beyond, LowerBound, NotLower, granted, turns_told}
use Rattle.tree.specs.Theorems.{RunsAreLawful}
use Rattle.tree.proofs.Optimal.{bounds_never_exceed_a_plan, solved_is_least_sum, none_means_no_plan}
use Rattle.tree.proofs.Turns.{search_ends, counted, over_not, working_from}
use Rattle.tree.proofs.Calls.{Faithful, Told, faithful, told, calls_asked}
use Rattle.tree.proofs.Bounds.{bounds_never_fall}
use Rattle.tree.proofs.Limits.{rested, alike}

-- what an answer reveals of the tree that gave it
abbrev Reveals : Search → Tree → Call → Answer → Type 0
Reveals P tree c (made m) = Unit {0}
Reveals P tree c (bounded o) = bound P.setting tree ≡ o
Reveals P tree c (status v) = status_of tree.verdict ≡ v
Reveals P tree c (stands u) = (k : ℕ) × (tree.verdict ≡ solved k) × ((s t : ℕ) → c ≡ ask_place s t → place (routes_at tree.nodes k) s t ≡ u)
Reveals P tree c (refused r) = Unit {0}

reveals : (P : Search) (limit : ℕ) (tree : Tree) (c : Call) → Reveals P tree c (reply P limit tree c)
unfolding reply
reveals P limit tree (advance k) = go (is_working tree.verdict) k (made_by P limit k tree)
  where
    go : (b : Bool) (i m : ℕ) → Reveals P tree (advance k) (advanced b i m)
    go false i m = tt
    go true zero m = tt
    go true (suc i) m = tt
reveals P limit tree ask_bound = refl
reveals P limit tree ask_verdict = refl
reveals P limit tree (ask_place s t) = go tree.verdict refl
  where
    same_place : (k s' t' : ℕ) → ask_place s t ≡ ask_place s' t' → place (routes_at tree.nodes k) s' t' ≡ place (routes_at tree.nodes k) s t
    same_place k s' t' e = let a : s' ≡ s = cc in let b : t' ≡ t = cc in cc

    go : (v : Verdict) → tree.verdict ≡ v → Reveals P tree (ask_place s t) (placed P.setting tree.nodes v s t)
    go working e = tt
    go (solved k) e =
        cond_both (ltb s P.setting.sleds && leb t P.setting.horizon) _ _ (Reveals P tree (ask_place s t)) (λ _. (k, e, same_place k)) (λ _. tt)
    go none e = tt
    go full e = tt

status_solved : (v : Verdict) → status_of v ≡ Solved → (k : ℕ) × (v ≡ solved k)
status_solved working e = absurd (let z : ◌≡◌ {A = ℕ} 0 1 = cc in omega arith)
status_solved (solved k) e = (k, refl)
status_solved none e = absurd (let z : ◌≡◌ {A = ℕ} 0 1 = cc in omega arith)
status_solved full e = absurd (let z : ◌≡◌ {A = ℕ} 0 1 = cc in omega arith)

status_none : (v : Verdict) → status_of v ≡ Unsolvable → v ≡ none
status_none working e = absurd (let z : ◌≡◌ {A = ℕ} 0 1 = cc in omega arith)
status_none (solved k) e = absurd (let z : ◌≡◌ {A = ℕ} 0 1 = cc in omega arith)
status_none none e = refl
status_none full e = absurd (let z : ◌≡◌ {A = ℕ} 0 1 = cc in omega arith)

status_working : (v : Verdict) → status_of v ≡ Working → v ≡ working
status_working working e = refl
status_working (solved k) e = absurd (let z : ◌≡◌ {A = ℕ} 0 1 = cc in omega arith)
status_working none e = absurd (let z : ◌≡◌ {A = ℕ} 0 1 = cc in omega arith)
status_working full e = absurd (let z : ◌≡◌ {A = ℕ} 0 1 = cc in omega arith)

solved_told : (P : Search) (tree : Tree) (c : Call) (a : Answer) → Reveals P tree c a → TellsSolved a → (k : ℕ) × (tree.verdict ≡ solved k)
solved_told P tree c (made m) r h = absurd h
solved_told P tree c (bounded o) r h = absurd h
solved_told P tree c (status Working) r h = absurd h
solved_told P tree c (status Solved) r h = status_solved tree.verdict r
solved_told P tree c (status Unsolvable) r h = absurd h
solved_told P tree c (status Full) r h = absurd h
solved_told P tree c (stands u) r h = (r.0, r.1)
solved_told P tree c (refused x) r h = absurd h

routes_nth : (nodes : List Node) (k : ℕ) (x : Node) → Nth nodes k x → x.routes ≡ routes_at nodes k
unfolding routes_at
routes_nth [] k x h = absurd h
routes_nth (n ∷ ns) zero x h = ap (λ (y : Node). y.routes) (sym h)
routes_nth (n ∷ ns) (suc k) x h = routes_nth ns k x h

granted_take : (es : List Event) (k l : ℕ) → k ≤ l → granted (take k es) ≤ granted (take l es)
unfolding granted
granted_take es zero l h = omega arith
granted_take es (suc k) zero h = absurd (omega arith)
granted_take [] (suc k) (suc l) h = omega arith
granted_take (e ∷ es) (suc k) (suc l) h = omega (arith, granted_take es k l (omega arith))

-- when a search at a tree refuses
module _ (P : Search) (limit : ℕ) (tree : Tree) where
  ended_exactly : (n : ℕ) → Exactly (reply P limit tree (advance n) ≡ refused Ended) (IsWorking tree → ⊥)
  unfolding reply
  ended_exactly n = go (is_working tree.verdict) refl n (made_by P limit n tree)
    where
      go : (b : Bool) → is_working tree.verdict ≡ b → (n m : ℕ) → Exactly (advanced b n m ≡ refused Ended) (IsWorking tree → ⊥)
      go false e n m = (λ _. over_not tree.verdict e, λ _. refl)
      go true e zero m = (λ q. absurd (let z : ◌≡◌ {A = ℕ} 0 1 = cc in omega arith), λ h. absurd (h (working_from tree.verdict e)))
      go true e (suc n) m = (λ q. absurd (let z : ◌≡◌ {A = ℕ} 0 1 = cc in omega arith), λ h. absurd (h (working_from tree.verdict e)))

  no_turns_exactly : (n : ℕ) → Exactly (reply P limit tree (advance n) ≡ refused NoTurns) (IsWorking tree × (n ≡ 0))
  unfolding reply
  no_turns_exactly n = go (is_working tree.verdict) refl n (made_by P limit n tree)
    where
      go : (b : Bool) → is_working tree.verdict ≡ b → (n m : ℕ) → Exactly (advanced b n m ≡ refused NoTurns) (IsWorking tree × (n ≡ 0))
      go false e n m = (λ q. absurd (let z : ◌≡◌ {A = ℕ} 0 1 = cc in omega arith), λ h. over_not tree.verdict e h.0)
      go true e zero m = (λ _. (working_from tree.verdict e, refl), λ _. refl)
      go true e (suc n) m = (λ q. absurd (let z : ◌≡◌ {A = ℕ} 0 1 = cc in omega arith), λ h. absurd (omega (arith, h.1)))

  not_solved_exactly : (s t : ℕ) → Exactly (reply P limit tree (ask_place s t) ≡ refused NotSolved) (IsSolved tree → ⊥)
  unfolding reply
  not_solved_exactly s t = go tree.verdict refl
    where
      go : (v : Verdict) → tree.verdict ≡ v → Exactly (placed P.setting tree.nodes v s t ≡ refused NotSolved) (IsSolved tree → ⊥)
      go working e = (λ _ h. let q = h.1 in absurd (let z : ◌≡◌ {A = ℕ} 0 1 = cc in omega arith), λ _. refl)
      go (solved k) e =
          cond_both (ltb s P.setting.sleds && leb t P.setting.horizon) _ _ (λ a. Exactly (a ≡ refused NotSolved) (IsSolved tree → ⊥))
          (λ _. (λ q. absurd (let z : ◌≡◌ {A = ℕ} 0 1 = cc in omega arith), λ h. absurd (h (k, e)))) (λ _. (λ q. absurd (let z : ◌≡◌ {A = ℕ} 0 1 = cc in omega arith), λ h. absurd (h (k, e))))
      go none e = (λ _ h. let q = h.1 in absurd (let z : ◌≡◌ {A = ℕ} 0 1 = cc in omega arith), λ _. refl)
      go full e = (λ _ h. let q = h.1 in absurd (let z : ◌≡◌ {A = ℕ} 0 1 = cc in omega arith), λ _. refl)

  too_high_exactly : (s t : ℕ) → Exactly (reply P limit tree (ask_place s t) ≡ refused TooHigh) (IsSolved tree × Beyond P.setting s t)
  unfolding reply
  too_high_exactly s t = go tree.verdict refl
    where
      go : (v : Verdict) → tree.verdict ≡ v → Exactly (placed P.setting tree.nodes v s t ≡ refused TooHigh) (IsSolved tree × Beyond P.setting s t)
      go working e = (λ q. absurd (let z : ◌≡◌ {A = ℕ} 0 1 = cc in omega arith), λ h. let q = h.0.1 in absurd (let z : ◌≡◌ {A = ℕ} 0 1 = cc in omega arith))
      go (solved k) e =
          cond_both (ltb s P.setting.sleds && leb t P.setting.horizon) _ _ (λ a. Exactly (a ≡ refused TooHigh) (IsSolved tree × Beyond P.setting s t))
          (λ x.
          let in_both = and_parts (ltb s P.setting.sleds) (leb t P.setting.horizon) x in
          (λ q. absurd (let z : ◌≡◌ {A = ℕ} 0 1 = cc in omega arith), λ h. absurd (⊎_elim (λ (l : P.setting.sleds ≤ s). omega (arith, ltb-true s P.setting.sleds in_both.0)) (λ (l : P.setting.horizon < t). omega (arith, leb-true t P.setting.horizon in_both.1)) h.1)))
          (λ x. (
            λ _. ((k, e), ⊎_elim (λ l. inl (ltb-false s P.setting.sleds l)) (λ l. inr (leb-false t P.setting.horizon l)) (and_cases (ltb s P.setting.sleds) (leb t P.setting.horizon) x)),
            λ _. refl,
          ))
      go none e = (λ q. absurd (let z : ◌≡◌ {A = ℕ} 0 1 = cc in omega arith), λ h. let q = h.0.1 in absurd (let z : ◌≡◌ {A = ℕ} 0 1 = cc in omega arith))
      go full e = (λ q. absurd (let z : ◌≡◌ {A = ℕ} 0 1 = cc in omega arith), λ h. let q = h.0.1 in absurd (let z : ◌≡◌ {A = ℕ} 0 1 = cc in omega arith))

  place_told : (s t : ℕ) → IsSolved tree → s < P.setting.sleds → t ≤ P.setting.horizon → (u : ℕ) × (reply P limit tree (ask_place s t) ≡ stands u)
  unfolding reply
  place_told s t (k, e) l m = (
    place (routes_at tree.nodes k) s t,
    ap (λ (v : Verdict). placed P.setting tree.nodes v s t) e ∙
        ap (λ (b : Bool). cond b (stands (place (routes_at tree.nodes k) s t)) (refused TooHigh))
        (and_from (ltb s P.setting.sleds) (leb t P.setting.horizon) (lt-ltb s P.setting.sleds l) (le-leb t P.setting.horizon m)),
  )

-- any list of events of which every answer is that of the tree after the turns granted so far
module _ (P : Search) (ok : Terms P) (limit : ℕ) (es : List Event)
    (answers : (k : ℕ) (e : Event) → Nth es k e → e.answer ≡ reply P limit (turns P limit (granted (take k es))) e.call) where
  revealed : (k : ℕ) (e : Event) (a : Answer) → Nth es k e → e.answer ≡ a → Reveals P (turns P limit (granted (take k es))) e.call a
  revealed k e a p q =
      subst (Reveals P (turns P limit (granted (take k es))) e.call) (sym (answers k e p) ∙ q) (reveals P limit (turns P limit (granted (take k es))) e.call)

  at_call : (k : ℕ) (e : Event) (c : Call) → Nth es k e → e.call ≡ c → e.answer ≡ reply P limit (tree_at P limit es k) c
  at_call k e c p q = answers k e p ∙ ap (reply P limit (tree_at P limit es k)) q

  law_refused : (k : ℕ) (e : Event) (c : Call) (r : Answer) (X : Type 0) → Nth es k e → e.call ≡ c → Exactly (reply P limit (tree_at P limit es k) c ≡ r) X → Exactly (e.answer ≡ r) X
  law_refused k e c r X p q = subst (λ a. Exactly (a ≡ r) X) (sym (at_call k e c p q))

  law_bounds : (k : ℕ) (e : Event) (o : Option ℕ) → Nth es k e → e.answer ≡ bounded o → LowerBound P.setting o
  law_bounds k e o p q = subst (LowerBound P.setting) (revealed k e (bounded o) p q) (bounds_never_exceed_a_plan P ok limit (granted (take k es)))

  law_never_fall : (k l : ℕ) (e f : Event) (o p : Option ℕ) → k ≤ l → Nth es k e → Nth es l f → e.answer ≡ bounded o → f.answer ≡ bounded p → NotLower o p
  law_never_fall k l e f o p h a b x y =
      subst (λ w. NotLower w p) (revealed k e (bounded o) a x)
      (subst (NotLower (bound P.setting (turns P limit (granted (take k es))))) (revealed l f (bounded p) b y) (bounds_never_fall P ok limit (granted (take k es)) (granted (take l es)) (granted_take es k l h)))

  law_unsolvable : (k : ℕ) (e : Event) → Nth es k e → e.answer ≡ status Unsolvable → NoPlan P.setting
  law_unsolvable k e p q =
      none_means_no_plan P ok limit (granted (take k es)) (status_none (turns P limit (granted (take k es))).verdict (revealed k e (status Unsolvable) p q))

  law_ends : (k : ℕ) (e : Event) → Nth es k e → suc limit ≤ granted (take k es) → e.answer ≡ status Working → ⊥
  law_ends k e p h q = search_ends P limit (granted (take k es)) h (status_working (turns P limit (granted (take k es))).verdict (revealed k e (status Working) p q))

  law_places : (k l : ℕ) (e f : Event) (s t : ℕ) → k ≤ l → Nth es k e → Nth es l f → TellsSolved e.answer →
      f.call ≡ ask_place s t → s < P.setting.sleds → t ≤ P.setting.horizon → (u : ℕ) × (f.answer ≡ stands u)
  law_places k l e f s t m p q h c a b =
      let n = granted (take k es) in
      let j = solved_told P (turns P limit n) e.call e.answer (revealed k e e.answer p refl) h in
      let same = (rested P limit n (granted (take l es)) (granted_take es k l m) (ap is_working j.1)).tree in
      let told = place_told P limit (tree_at P limit es l) s t (j.0, ap (λ (x : Tree). x.verdict) same ∙ j.1) a b in
      (told.0, at_call l f (ask_place s t) q c ∙ told.1)

  law_plan : (k : ℕ) (e : Event) → Nth es k e → TellsSolved e.answer →
      (p : Plan) × LeastSum P.setting p ×
      ((l : ℕ) (f : Event) (s t u : ℕ) → Nth es l f → f.call ≡ ask_place s t → f.answer ≡ stands u → u ≡ place p s t) ×
      ((l : ℕ) (f : Event) (o : Option ℕ) → k ≤ l → Nth es l f → f.answer ≡ bounded o → o ≡ Some (sum P.setting p))
  law_plan k e p h =
      let n = granted (take k es) in
      let j = solved_told P (turns P limit n) e.call e.answer (revealed k e e.answer p refl) h in
      let x = solved_is_least_sum P ok limit n j.0 j.1 in
      let routes = routes_nth (turns P limit n).nodes j.0 x.0 x.1 in (
        routes_at (turns P limit n).nodes j.0,
        subst (LeastSum P.setting) routes x.2,
        (λ l f s t u q c a.
            let m = granted (take l es) in
            let r = revealed l f (stands u) q a in
            let same = (alike P limit n m (ap is_working j.1) (ap is_working r.1)).tree in
            let number : r.0 ≡ j.0 = same_solved (sym r.1 ∙ ap (λ (t : Tree). t.verdict) same ∙ j.1) in
            sym (r.2 s t c) ∙ ap (λ (t' : Tree). place (routes_at t'.nodes r.0) s t) same ∙ ap (λ (i : ℕ). place (routes_at (turns P limit n).nodes i) s t) number),
        λ l f o m q a.
            let same = (rested P limit n (granted (take l es)) (granted_take es k l m) (ap is_working j.1)).tree in
            sym (revealed l f (bounded o) q a) ∙ ap (bound P.setting) same ∙ x.3 ∙ ap (λ (r : Plan). Some (sum P.setting r)) routes,
      )
    where
      same_solved : {a b : ℕ} → solved a ≡ solved b → a ≡ b
      same_solved e = cc

pub runs_are_lawful : RunsAreLawful
unfolding Faithful Told turns_made reply
runs_are_lawful P ok limit cs =
    let es = run P limit (turns P limit 0) cs in
    let answers : (k : ℕ) (e : Event) → Nth es k e → e.answer ≡ reply P limit (turns P limit (granted (take k es))) e.call =
    λ k e p. faithful P limit cs 0 k e p ∙ ap (λ (m : ℕ). reply P limit (turns P limit m) e.call) (let q : 0 + granted (take k es) ≡ granted (take k es) = omega arith in q) in
    let turns_are : turns_told es ≡ turns_made P limit (granted es) = omega (arith, told P limit cs 0, ap (turns_made P limit) (let q : 0 + granted es ≡ granted es = omega arith in q)) in
    record {
      asked = calls_asked P limit cs (turns P limit 0);
      answers = answers;
      advance_ended = λ k n e p q. law_refused P ok limit es answers k e (advance n) (refused Ended) _ p q (ended_exactly P limit (tree_at P limit es k) n);
      advance_no_turns = λ k n e p q. law_refused P ok limit es answers k e (advance n) (refused NoTurns) _ p q (no_turns_exactly P limit (tree_at P limit es k) n);
      place_not_solved = λ k s t e p q. law_refused P ok limit es answers k e (ask_place s t) (refused NotSolved) _ p q (not_solved_exactly P limit (tree_at P limit es k) s t);
      place_too_high = λ k s t e p q. law_refused P ok limit es answers k e (ask_place s t) (refused TooHigh) _ p q (too_high_exactly P limit (tree_at P limit es k) s t);
      bound_told = λ k e p q. (bound P.setting (tree_at P limit es k), at_call P ok limit es answers k e ask_bound p q);
      verdict_told = λ k e p q. (status_of (tree_at P limit es k).verdict, at_call P ok limit es answers k e ask_verdict p q);
      bounds = law_bounds P ok limit es answers;
      never_fall = law_never_fall P ok limit es answers;
      plan = law_plan P ok limit es answers;
      places_told = law_places P ok limit es answers;
      unsolvable = law_unsolvable P ok limit es answers;
      turns_are = turns_are;
      turns_few = omega (arith, turns_are, (counted P limit (granted es)).few);
      ends = law_ends P ok limit es answers;
      ends_refused = λ k n e p h q. (law_refused P ok limit es answers k e (advance n) (refused Ended) _ p q (ended_exactly P limit (tree_at P limit es k) n)).1 (search_ends P limit (granted (take k es)) h);
    }
