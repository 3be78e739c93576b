-- Turns that calls are granted, one call after the other.
use Rattle.std.proofs.Common.{◌≡◌, ℕ, zero, suc, ◌+◌, Bool, true, false, cond, List, [], ◌∷◌, ◌++◌, sym, refl, ap, ◌∙◌, arith}
use Rattle.std.proofs.Math.Nat.{add-zero}
use Rattle.std.proofs.lemmas.Bool.{cond_both}
use Rattle.tree.specs.Search.{Search}
use Rattle.tree.specs.Tree.{Tree, turn, turns, turns_made, is_working}
use Rattle.tree.specs.Calls.{Call, advance, ask_bound, ask_verdict, ask_place, Event, after_turns, made_by, advanced, reply, after, run}
use Rattle.tree.specs.Law.{if_made, count, granted}
use Rattle.tree.proofs.Turns.{turns_suc}
use Rattle.tree.proofs.Limits.{rested}

module _ (P : Search) (limit : ℕ) where
  pub turns_more : (k n : ℕ) → after_turns P limit k (turns P limit n) ≡ turns P limit (n + k)
  unfolding after_turns
  turns_more zero n = ap (turns P limit) (sym (add-zero n))
  turns_more (suc k) n =
      ap (after_turns P limit k) (sym (turns_suc P limit n)) ∙ turns_more k (suc n) ∙ ap (turns P limit) (let e : suc n + k ≡ n + suc k = omega arith in e)

  module _ (n : ℕ) where
    advance_after : (b : Bool) → is_working (turns P limit n).verdict ≡ b → (k m : ℕ) → after_turns P limit k (turns P limit n) ≡ turns P limit (n + if_made (advanced b k m) k)
    advance_after false w k m = turns_more k n ∙ (rested P limit n (n + k) (omega arith) w).tree ∙ ap (turns P limit) (sym (add-zero n))
    advance_after true w zero m = turns_more 0 n
    advance_after true w (suc k) m = turns_more (suc k) n

    -- a call leaves the tree after as many turns more as it was granted
    pub after_is : (c : Call) → after P limit (turns P limit n) c ≡ turns P limit (n + count c (reply P limit (turns P limit n) c))
    unfolding after reply
    after_is (advance k) = advance_after (is_working (turns P limit n).verdict) refl k (made_by P limit k (turns P limit n))
    after_is ask_bound = ap (turns P limit) (sym (add-zero n))
    after_is ask_verdict = ap (turns P limit) (sym (add-zero n))
    after_is (ask_place s t) = ap (turns P limit) (sym (add-zero n))

  -- the event of a call at the tree after n turns
  abbrev pub event_at : ℕ → Call → Event
  event_at n c = record { call = c; answer = reply P limit (turns P limit n) c }

  -- one call more
  pub run_push : (cs : List Call) (c : Call) (n : ℕ) →
      run P limit (turns P limit n) (cs ++ c ∷ []) ≡ run P limit (turns P limit n) cs ++ event_at (n + granted (run P limit (turns P limit n) cs)) c ∷ []
  unfolding run granted
  run_push [] c n = rw add-zero
  run_push (d ∷ ds) c n =
      let k = count d (reply P limit (turns P limit n) d) in
      let at : after P limit (turns P limit n) d ≡ turns P limit (n + k) = after_is n d in
      let rest = run P limit (turns P limit (n + k)) ds in
      ap {B = List Event} (λ (t : Tree). event_at n d ∷ run P limit t (ds ++ c ∷ [])) at ∙
      ap {B = List Event} (λ (es : List Event). event_at n d ∷ es) (run_push ds c (n + k)) ∙
      ap {B = List Event} (λ (m : ℕ). event_at n d ∷ (rest ++ event_at m c ∷ [])) (let e : n + k + granted rest ≡ n + (k + granted rest) = omega arith in e) ∙
      ap {B = List Event} (λ (t : Tree). event_at n d ∷ (run P limit t ds ++ event_at (n + (k + granted (run P limit t ds))) c ∷ [])) (sym at)

  -- the turns made so far and those of k turns more
  one_made : (n : ℕ) → is_working (turns P limit n).verdict ≡ true → turns_made P limit (suc n) ≡ suc (turns_made P limit n)
  unfolding turns_made
  one_made n w = ap (λ (b : Bool). cond b (suc (turns_made P limit n)) (turns_made P limit n)) w

  pub made_more : (k n : ℕ) → turns_made P limit n + made_by P limit k (turns P limit n) ≡ turns_made P limit (n + k)
  unfolding made_by
  made_more zero n = omega (arith, ap (turns_made P limit) (add-zero n))
  made_more (suc k) n =
      cond_both (is_working (turns P limit n).verdict) (suc (made_by P limit k (turn P limit (turns P limit n)))) 0 (λ x. turns_made P limit n + x ≡ turns_made P limit (n + suc k))
      (λ w.
      let rest = made_more k (suc n) in
      let same = ap (made_by P limit k) (turns_suc P limit n) in
      let to = ap (turns_made P limit) (let e : suc n + k ≡ n + suc k = omega arith in e) in
      omega (arith, one_made n w))
      (λ w. omega (arith, (rested P limit n (n + suc k) (omega arith) w).count))

pub granted_push : (es : List Event) (e : Event) → granted (es ++ e ∷ []) ≡ granted es + count e.call e.answer
unfolding granted
granted_push [] e = omega arith
granted_push (x ∷ es) e = omega (arith, granted_push es e)
