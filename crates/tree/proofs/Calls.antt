-- A run answers from the tree after the turns granted so far, and tells the turns made.
use Rattle.std.proofs.Common.{◌≡◌, ℕ, zero, suc, ◌+◌, Bool, true, false, cond, ◌&&◌, ltb, leb, List, [], ◌∷◌, map, take, sym, refl, ap, ◌∙◌, subst, arith}
use Rattle.std.proofs.lemmas.Bool.{cond_both}
use Rattle.tree.specs.Lists.{Nth}
use Rattle.tree.specs.Search.{Search}
use Rattle.tree.specs.Tree.{Node, Tree, Verdict, working, solved, none, full, turn, turns, is_working, turns_made}
use Rattle.tree.specs.Calls.{Call, advance, ask_bound, ask_verdict, ask_place, Event, after_turns, made_by, advanced, placed, reply, after, run}
use Rattle.tree.specs.Law.{if_made, count, granted, turns_in, turns_told}
use Rattle.tree.proofs.Turns.{turns_suc}
use Rattle.tree.proofs.Limits.{rested}

module _ (P : Search) (limit : ℕ) where
  -- a call leaves the tree after as many turns more as it was granted
  turns_more : (k n : ℕ) → after_turns P limit k (turns P limit n) ≡ turns P limit (n + k)
  unfolding after_turns
  turns_more zero n = ap (turns P limit) (let e : n ≡ n + 0 = omega arith in e)
  turns_more (suc k) n =
      ap (after_turns P limit k) (sym (turns_suc P limit n)) ∙ turns_more k (suc n) ∙ ap (turns P limit) (let e : suc n + k ≡ n + suc k = omega arith in e)

  one_made : (n : ℕ) → is_working (turns P limit n).verdict ≡ true → turns_made P limit (suc n) ≡ suc (turns_made P limit n)
  unfolding turns_made
  one_made n w = ap (λ (b : Bool). cond b (suc (turns_made P limit n)) (turns_made P limit n)) w

  made_more : (k n : ℕ) → turns_made P limit n + made_by P limit k (turns P limit n) ≡ turns_made P limit (n + k)
  unfolding made_by
  made_more zero n = omega (arith, ap (turns_made P limit) (let e : n ≡ n + 0 = omega arith in e))
  made_more (suc k) n =
      cond_both (is_working (turns P limit n).verdict) (suc (made_by P limit k (turn P limit (turns P limit n)))) 0 (λ x. turns_made P limit n + x ≡ turns_made P limit (n + suc k))
      (λ w.
      let rest = made_more k (suc n) in
      let same = ap (made_by P limit k) (turns_suc P limit n) in
      let to = ap (turns_made P limit) (let e : suc n + k ≡ n + suc k = omega arith in e) in
      omega (arith, one_made n w))
      (λ w. omega (arith, (rested P limit n (n + suc k) (omega arith) w).count))

  -- what one call does, at the tree after n turns
  module _ (n : ℕ) where
    advance_after : (b : Bool) → is_working (turns P limit n).verdict ≡ b → (k m : ℕ) → after_turns P limit k (turns P limit n) ≡ turns P limit (n + if_made (advanced b k m) k)
    advance_after false w k m = turns_more k n ∙ (rested P limit n (n + k) (omega arith) w).tree ∙ ap (turns P limit) (let e : n ≡ n + 0 = omega arith in e)
    advance_after true w zero m = turns_more 0 n
    advance_after true w (suc k) m = turns_more (suc k) n

    advance_made : (b : Bool) (k : ℕ) → turns_made P limit n + turns_in (advanced b k (made_by P limit k (turns P limit n))) ≡ turns_made P limit (n + if_made (advanced b k (made_by P limit k (turns P limit n))) k)
    advance_made false k = omega (arith, ap (turns_made P limit) (let e : n ≡ n + 0 = omega arith in e))
    advance_made true zero = omega (arith, ap (turns_made P limit) (let e : n ≡ n + 0 = omega arith in e))
    advance_made true (suc k) = made_more (suc k) n

    after_is : (c : Call) → after P limit (turns P limit n) c ≡ turns P limit (n + count c (reply P limit (turns P limit n) c))
    unfolding after reply
    after_is (advance k) = advance_after (is_working (turns P limit n).verdict) refl k (made_by P limit k (turns P limit n))
    after_is ask_bound = ap (turns P limit) (let e : n ≡ n + 0 = omega arith in e)
    after_is ask_verdict = ap (turns P limit) (let e : n ≡ n + 0 = omega arith in e)
    after_is (ask_place s t) = ap (turns P limit) (let e : n ≡ n + 0 = omega arith in e)

    -- no answer but that to an advance tells turns
    placed_none : (nodes : List Node) (v : Verdict) (s t : ℕ) → turns_in (placed P.setting nodes v s t) ≡ 0
    placed_none nodes working s t = refl
    placed_none nodes (solved k) s t = cond_both (ltb s P.setting.sleds && leb t P.setting.horizon) _ _ (λ a. turns_in a ≡ 0) (λ _. refl) (λ _. refl)
    placed_none nodes none s t = refl
    placed_none nodes full s t = refl

    made_is : (c : Call) → turns_made P limit n + turns_in (reply P limit (turns P limit n) c) ≡ turns_made P limit (n + count c (reply P limit (turns P limit n) c))
    unfolding reply
    made_is (advance k) = advance_made (is_working (turns P limit n).verdict) k
    made_is ask_bound = omega (arith, ap (turns_made P limit) (let e : n ≡ n + 0 = omega arith in e))
    made_is ask_verdict = omega (arith, ap (turns_made P limit) (let e : n ≡ n + 0 = omega arith in e))
    made_is (ask_place s t) =
        omega (arith, placed_none (turns P limit n).nodes (turns P limit n).verdict s t, ap (turns_made P limit) (let e : n ≡ n + 0 = omega arith in e))

  -- a run from the tree after n turns goes on from that after as many more as its first call was granted
  run_cons : (c : Call) (cs : List Call) (n : ℕ) →
      run P limit (turns P limit n) (c ∷ cs) ≡ record { call = c; answer = reply P limit (turns P limit n) c } ∷ run P limit (turns P limit (n + count c (reply P limit (turns P limit n) c))) cs
  unfolding run
  run_cons c cs n = ap {B = List Event} (λ (t : Tree). record { call = c; answer = reply P limit (turns P limit n) c } ∷ run P limit t cs) (after_is n c)

  -- every answer is that of the tree after the turns granted so far
  unfoldable pub Faithful : ℕ → List Event → Type 0
  Faithful n es = (k : ℕ) (e : Event) → Nth es k e → e.answer ≡ reply P limit (turns P limit (n + granted (take k es))) e.call

  faithful_cons : (n : ℕ) (c : Call) (rest : List Event) → Faithful (n + count c (reply P limit (turns P limit n) c)) rest →
      Faithful n (record { call = c; answer = reply P limit (turns P limit n) c } ∷ rest)
  unfolding Faithful granted
  faithful_cons n c rest h zero e p =
      subst (λ (x : Event). x.answer ≡ reply P limit (turns P limit (n + 0)) x.call) p (ap (λ (m : ℕ). reply P limit (turns P limit m) c) (let q : n ≡ n + 0 = omega arith in q))
  faithful_cons n c rest h (suc k) e p =
      let d = count c (reply P limit (turns P limit n) c) in
      h k e p ∙ ap (λ (m : ℕ). reply P limit (turns P limit m) e.call) (let q : n + d + granted (take k rest) ≡ n + (d + granted (take k rest)) = omega arith in q)

  pub faithful : (cs : List Call) (n : ℕ) → Faithful n (run P limit (turns P limit n) cs)
  unfolding Faithful run
  faithful [] n = λ k e h. absurd h
  faithful (c ∷ cs) n = subst (Faithful n) (sym (run_cons c cs n)) (faithful_cons n c _ (faithful cs (n + count c (reply P limit (turns P limit n) c))))

  -- the turns told are those made
  unfoldable pub Told : ℕ → List Event → Type 0
  Told n es = turns_made P limit n + turns_told es ≡ turns_made P limit (n + granted es)

  told_cons : (n : ℕ) (c : Call) (rest : List Event) → Told (n + count c (reply P limit (turns P limit n) c)) rest → Told n (record { call = c; answer = reply P limit (turns P limit n) c } ∷ rest)
  unfolding Told granted turns_told
  told_cons n c rest h =
      let d = count c (reply P limit (turns P limit n) c) in
      omega (arith, made_is n c, h, ap (turns_made P limit) (let q : n + d + granted rest ≡ n + (d + granted rest) = omega arith in q))

  pub told : (cs : List Call) (n : ℕ) → Told n (run P limit (turns P limit n) cs)
  unfolding Told run granted turns_told
  told [] n = omega (arith, ap (turns_made P limit) (let e : n ≡ n + 0 = omega arith in e))
  told (c ∷ cs) n = subst (Told n) (sym (run_cons c cs n)) (told_cons n c _ (told cs (n + count c (reply P limit (turns P limit n) c))))

  pub calls_asked : (cs : List Call) (tree : Tree) → map (λ (e : Event). e.call) (run P limit tree cs) ≡ cs
  unfolding run
  calls_asked [] tree = refl
  calls_asked (c ∷ cs) tree = ap {B = List Call} (λ r. c ∷ r) (calls_asked cs (after P limit tree c))
