-- Calls one after the other, as a loop makes them.
use Rattle.std.proofs.Common.{◌≡◌, ℕ, ◌+◌, ◌<◌, ◌≤◌, List, [], ◌∷◌, ◌++◌, map, length, get_or, take, drop, set, sym, refl, ap, ◌∙◌, subst, ap₂, arith}
use Rattle.std.proofs.lemmas.List.{take_more, take_more_set, take_all, drop_more, drop_all, append_assoc, append-nil, length-take-le}
use Rattle.tree.specs.Search as search
use Rattle.tree.specs.Tree as tree
use Rattle.tree.specs.Calls as calls
use Rattle.tree.specs.Law as law
use Rattle.tree.proofs.Law.{runs_are_lawful}
use Rattle.tree.proofs.Choice.{planner_keeps_terms}
use Rattle.engine.specs.declared.call.Call.{Call}
use Rattle.engine.specs.declared.call.Answer.{Answer}
use Rattle.engine.specs.Model.{Model, Keeps, search_of, rule_of}
use Rattle.engine.specs.Calls.{call_of, answer_of, events_of}

events_push : (cs : List Call) (rs : List Answer) (c : Call) (r : Answer) → length cs ≡ length rs →
    events_of (cs ++ c ∷ []) (rs ++ r ∷ []) ≡ events_of cs rs ++ record { call = call_of c; answer = answer_of r } ∷ []
events_push [] [] c r e = refl
events_push [] (x ∷ rs) c r e = absurd (omega arith)
events_push (x ∷ cs) [] c r e = absurd (omega arith)
events_push (x ∷ cs) (y ∷ rs) c r e = ap (λ (es : List calls.Event). record { call = call_of x; answer = answer_of y } ∷ es) (events_push cs rs c r (omega arith))

module _ (P : search.Search) (limit : ℕ) where
  run_one : (u : tree.Tree) (c : calls.Call) (cs : List calls.Call) → calls.run P limit u (c ∷ cs) ≡ record { call = c; answer = calls.reply P limit u c } ∷ calls.run P limit (calls.after P limit u c) cs
  unfolding calls.run
  run_one u c cs = refl

  run_none : (u : tree.Tree) → calls.run P limit u [] ≡ []
  unfolding calls.run
  run_none u = refl

  module _ (cs : List Call) (t : tree.Tree) where
    abbrev pub SoFar : ℕ → List Answer → tree.Tree → Type 0
    SoFar k rs u = calls.run P limit t (map call_of cs) ≡ events_of (take k cs) (take k rs) ++ calls.run P limit u (map call_of (drop k cs))

    pub far_none : (rs : List Answer) → SoFar 0 rs t
    far_none rs = refl

    pub far_more : (k : ℕ) (rs : List Answer) (u : tree.Tree) (d : Call) (r : Answer) → k < length cs → k < length rs → SoFar k rs u →
        answer_of r ≡ calls.reply P limit u (call_of (get_or cs k d)) → SoFar (k + 1) (set rs k r) (calls.after P limit u (call_of (get_or cs k d)))
    far_more k rs u d r l n h a =
        let c = get_or cs k d in
        let event : calls.Answer → calls.Event = λ x. record { call = call_of c; answer = x } in
        let rest = calls.run P limit (calls.after P limit u (call_of c)) (map call_of (drop (k + 1) cs)) in
        let now = events_of (take k cs) (take k rs) in
        let left : calls.run P limit u (map call_of (drop k cs)) ≡ event (answer_of r) ∷ rest =
        ap (λ (xs : List Call). calls.run P limit u (map call_of xs)) (drop_more cs k d l) ∙ run_one u (call_of c) (map call_of (drop (k + 1) cs)) ∙ ap (λ (x : calls.Answer). event x ∷ rest) (sym a) in
        let made : events_of (take (k + 1) cs) (take (k + 1) (set rs k r)) ≡ now ++ event (answer_of r) ∷ [] =
        ap₂ events_of (take_more cs k d l) (take_more_set rs k r n)
        ∙ events_push (take k cs) (take k rs) c r (length-take-le k cs (omega arith) ∙ sym (length-take-le k rs (omega arith))) in
        h ∙ ap (λ (xs : List calls.Event). now ++ xs) left ∙ sym (append_assoc now (event (answer_of r) ∷ []) rest) ∙ ap (λ (xs : List calls.Event). xs ++ rest) (sym made)

    pub far_all : (k : ℕ) (rs : List Answer) (u : tree.Tree) → length cs ≤ k → SoFar k rs u → calls.run P limit t (map call_of cs) ≡ events_of cs (take k rs)
    far_all k rs u l h =
        h ∙ ap (λ (xs : List Call). events_of xs (take k rs) ++ calls.run P limit u (map call_of (drop k cs))) (take_all k cs l)
        ∙ ap (λ (xs : List Call). events_of cs (take k rs) ++ calls.run P limit u (map call_of xs)) (drop_all k cs l) ∙ ap (λ (xs : List calls.Event). events_of cs (take k rs) ++ xs) (run_none u) ∙ append-nil (events_of cs (take k rs))

pub all_lawful : (m : Model) → Keeps m → (limit : ℕ) (cs : List Call) (rs : List Answer) →
    calls.run (search_of m) limit (tree.turns (search_of m) limit 0) (map call_of cs) ≡ events_of cs rs → law.Lawful (search_of m) limit (map call_of cs) (events_of cs rs)
all_lawful m ok limit cs rs e =
    subst (law.Lawful (search_of m) limit (map call_of cs)) e (runs_are_lawful (search_of m) (planner_keeps_terms m.setting (rule_of m) ok.setting ok.rule) limit (map call_of cs))
