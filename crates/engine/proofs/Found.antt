-- What `find_map` gives over the numbers from one to another.
use Rattle.std.proofs.Common.{◌≡◌, ℕ, ◌+◌, ◌-◌, ◌<◌, ◌≤◌, is_some, Some, None, Option, sym, ap, ◌∙◌, ⊎_elim, arith}
use Rattle.std.specs.Option.{MatchOption, IfSome, IsSomeAnd, option_map}
use Rattle.std.specs.Bool.{IsTrue}
use Rattle.std.specs.Fn.{Called}
use Rattle.std.specs.Iterator.Runs.{SomeRun, CallKeepsClosure, AllItemsGive, IsFirstToGive}
use Rattle.std.specs.declared.ops.Range.{Range}
use Rattle.std.proofs.lemmas.Bool.{false≢true, cases_lt}
use Rattle.std.proofs.iter.Yields.{nat_range_steps}
use Rattle.std.proofs.iter.runs.Sources.{range_runs}
use Rattle.tree.specs.Lists.{first_below}
use Rattle.engine.proofs.Below.{none_all, found_at}
use denote.Param.Members.{Mut}

-- the numbers below a give nothing
module _ {F B : Type 0} {g : Mut F (ℕ × Unit {0}) (Option B)} {f : F} (h : ℕ → Option B) (a n : ℕ) (low : (k : ℕ) → k < a → h k ≡ None)
    (keeps : (x : ℕ) (y : Option B) (q : F) → Called g f (x, tt) y q → q ≡ f) (gives : (x : ℕ) (y : Option B) → a ≤ x → x < n → Called g f (x, tt) y f → y ≡ h x) where
  all_keep : CallKeepsClosure g f
  all_keep x y q k = keeps x.0 y q k

  at_item : (o : Option ℕ) (k : ℕ) (y : Option B) → a ≤ k → k < n → option_map (λ x. x) o ≡ Some k → IfSome o (λ x. Called g f (x, tt) y f) → h k ≡ y
  at_item None k y m l e c = absurd (false≢true (ap is_some e))
  at_item (Some x) k y m l e c = let same : x ≡ k = cc in sym (gives x y (omega arith) (omega arith) c ∙ ap h same)

  at_some : (o : Option ℕ) (k : ℕ) (y : Option B) → a ≤ k → k < n → option_map (λ x. x) o ≡ Some k → IsSomeAnd o (λ x. Called g f (x, tt) y f) → h k ≡ y
  at_some None k y m l e c = absurd c
  at_some (Some x) k y m l e c = at_item (Some x) k y m l e c

  pub found_below : (s : Range ℕ) → s ≡ record { start = a; end = n } → (r : Option B) →
      SomeRun nat_range_steps s (λ p. MatchOption r (IsTrue p.whole × AllItemsGive p g f None) (λ y. (i : ℕ) × (i < p.len) × (p.len ≡ i + 1) × IsFirstToGive p g f (Some y) None i)) → r ≡ first_below h n
  found_below s e None (p, from, (whole, all)) =
      let up = range_runs p p.seen in
      let start : p.from.start ≡ a = ap (λ (q : Range ℕ). q.start) (from ∙ e) in
      let end : p.from.end ≡ n = ap (λ (q : Range ℕ). q.end) (from ∙ e) in
      let long = up.1 whole in
      sym (none_all h n (λ k l. ⊎_elim (low k) (λ (m : a ≤ k). at_item (p.at (k - a)) k None m l (up.3 (k - a) (omega arith) ∙ ap {B = Option ℕ} Some (omega arith)) (all all_keep (k - a))) (cases_lt k a)))
  found_below s e (Some y) (p, from, (i, within, long, first)) =
      let up = range_runs p p.seen in
      let start : p.from.start ≡ a = ap (λ (q : Range ℕ). q.start) (from ∙ e) in
      let end : p.from.end ≡ n = ap (λ (q : Range ℕ). q.end) (from ∙ e) in
      let short = up.0 in
      let at : (k : ℕ) → k < p.len → option_map (λ x. x) (p.at k) ≡ Some (a + k) = λ k l. up.3 k l ∙ ap {B = Option ℕ} Some (omega arith) in
      let below : a + i < n = omega arith in
      let before : (k : ℕ) → k < a + i → h k ≡ None = λ k l. ⊎_elim (low k)
      (λ (m : a ≤ k). at_some (p.at (k - a)) k None m (omega arith) (at (k - a) (omega arith) ∙ ap {B = Option ℕ} Some (omega arith)) ((first all_keep).1 (k - a) (omega arith))) (cases_lt k a) in
      sym (found_at h (a + i) n (none_all h (a + i) before) (at_some (p.at i) (a + i) (Some y) (omega arith) below (at i within) (first all_keep).0) below)
