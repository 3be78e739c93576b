-- What becomes of an open search that is asked for turns.
use Rattle.std.proofs.Common.{◌≡◌, ℕ, suc, ◌+◌, ◌≤◌, Bool, true, Some, Ok, Err, Option, Result, sym, refl, subst, arith}
use Rattle.std.specs.Result.{IsErrAnd}
use Rattle.fault.specs.declared.cause.Fault.{Fault}
use Rattle.split.specs.Situations.{Sets}
use Rattle.tree.specs.Search as tree
use Rattle.tree.specs.Tree.{Tree, is_working}
use Rattle.tree.specs.Calls as calls
use Rattle.engine.specs.declared.state.Engine.{Engine}
use Rattle.engine.specs.declared.call.Refusal.{Refusal}
use Rattle.engine.specs.Calls.{refusal_of, fault_of}
use Rattle.engine.specs.Engine.{Answers}
use Rattle.engine.specs.Model.{Model}
use Rattle.instance.specs.Instances.{task_in, model_of}
use Rattle.search.specs.declared.state.Search.{Search}
use Rattle.search.specs.declared.state.Opened.{Opened}
use Rattle.search.specs.States.{planning, tree_after}
use Rattle.search.specs.Advancing.{Advances}
use Rattle.search.proofs.Going.{when_open, stays, told_at, few_turns, few_in_all, opened_on}

-- the turns told are those made
turns_of_made : (P : tree.Search) (limit k : ℕ) (t : Tree) (m : ℕ) → calls.made m ≡ calls.reply P limit t (calls.advance k) → m ≡ calls.made_by P limit k t
unfolding calls.reply
turns_of_made P limit k t m e = go (is_working t.verdict) k e
  where
    go : (b : Bool) (j : ℕ) → calls.made m ≡ calls.advanced b j (calls.made_by P limit k t) → m ≡ calls.made_by P limit k t
    go true (suc j) e = cc
    go b j e = cc

module _ {F R : Type 0} (sets : R → Sets) (s : Search F R) (x : Opened) (is_open : s.opened ≡ Some x) (count : ℕ) {m : Model} (same_model : m ≡ model_of (task_in x.instance) (sets s.rule)) where
  -- what the engine says of that model
  of_task : (e : Engine) (a : calls.Answer) → Answers m s.engine e (calls.advance count) a → Answers (model_of (task_in x.instance) (sets s.rule)) s.engine e (calls.advance count) a
  of_task e a = subst (λ (n : Model). Answers n s.engine e (calls.advance count) a) same_model

  -- the search with another engine and other turns
  abbrev pub become : Engine → Option Opened → Search F R
  become e o = record { fleet = s.fleet; rule = s.rule; engine = e; opened = o }

  pub refuses : (e : Engine) (why : Refusal) (r : Result ℕ Fault) → Answers m s.engine e (calls.advance count) (calls.refused (refusal_of why)) → e ≡ s.engine → IsErrAnd r (λ fault. fault ≡ fault_of (refusal_of why)) →
      Advances sets s (become e (Some x)) count r
  refuses e why (Ok made) answers same is = absurd is
  refuses e why (Err fault) answers same is =
      let kept : become e (Some x) ≡ s = λ i. become (same i) (sym is_open i) in
      subst (λ (after : Search F R). Advances sets s after count (Err fault)) (sym kept)
      (record {
        answer = when_open sets s x is_open
            (λ K limit n o held. record {
              told = (refusal_of why, sym (told_at sets s x K limit n o held e (calls.advance count) (calls.refused (refusal_of why)) (of_task e _ answers)), is);
              few = tt;
              goes = stays o;
            });
        kept = refl;
        same = record { fleet_kept = refl; rule_kept = refl };
      })

  pub advances : (e : Engine) (turns made : ℕ) → Answers m s.engine e (calls.advance count) (calls.made made) → (x.turns + made ≤ 513 → turns ≡ x.turns + made) →
      Advances sets s (become e (Some (record { instance = x.instance; turns = turns }))) count (Ok made)
  advances e turns made told counted =
      let answers = of_task e (calls.made made) told in
      record {
        answer = when_open sets s x is_open
            (λ K limit n o held.
            let told = told_at sets s x K limit n o held e (calls.advance count) (calls.made made) answers in
            let is = turns_of_made (planning sets s K) limit count (tree_after sets s K limit n) made told in
            record {
              told = sym told;
              few = omega (arith, few_turns sets s x K limit n o held count made is);
              goes = opened_on sets s x K limit n o held count made is turns e (calls.made made) answers (counted (few_in_all sets s x K limit n o held count made is));
            });
        kept = tt;
        same = record { fleet_kept = refl; rule_kept = refl };
      }
