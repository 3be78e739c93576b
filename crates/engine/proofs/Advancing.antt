-- Turns one after the other, as a loop makes them.
use Rattle.std.proofs.Common.{◌≡◌, ℕ, zero, suc, ◌+◌, ◌-◌, ◌<◌, ◌≤◌, Bool, true, false, cond, refl, ap, ◌∙◌, arith}
use Rattle.tree.specs.Search as search
use Rattle.tree.specs.Tree as tree
use Rattle.tree.specs.Calls.{made_by, after_turns}
use Rattle.tree.proofs.Turns.{rests}

module _ (P : search.Search) (limit : ℕ) where
  after_one : (k : ℕ) (t : tree.Tree) → after_turns P limit (suc k) t ≡ after_turns P limit k (tree.turn P limit t)
  unfolding after_turns
  after_one k t = refl

  made_one : (k : ℕ) (t : tree.Tree) → tree.is_working t.verdict ≡ true → made_by P limit (suc k) t ≡ suc (made_by P limit k (tree.turn P limit t))
  unfolding made_by
  made_one k t e = ap (λ (b : Bool). cond b (suc (made_by P limit k (tree.turn P limit t))) 0) e

  pub after_more : (n k : ℕ) (t u : tree.Tree) → k < n → after_turns P limit n t ≡ after_turns P limit (n - k) u → after_turns P limit n t ≡ after_turns P limit (n - (k + 1)) (tree.turn P limit u)
  after_more n k t u l e = e ∙ ap (λ j. after_turns P limit j u) (let z : n - k ≡ suc (n - (k + 1)) = omega arith in z) ∙ after_one (n - (k + 1)) u

  pub made_more : (n k : ℕ) (t u : tree.Tree) → k < n → tree.is_working u.verdict ≡ true → made_by P limit n t ≡ k + made_by P limit (n - k) u → made_by P limit n t ≡ (k + 1) + made_by P limit (n - (k + 1)) (tree.turn P limit u)
  made_more n k t u l w e =
      let z : n - k ≡ suc (n - (k + 1)) = omega arith in
      let s = ap (λ j. made_by P limit j u) z ∙ made_one (n - (k + 1)) u w in
      omega arith

  -- at the end nothing is left to do
  pub after_all : (n k : ℕ) (u : tree.Tree) → n ≤ k → after_turns P limit (n - k) u ≡ u
  unfolding after_turns
  after_all n k u l = ap (λ j. after_turns P limit j u) (let z : n - k ≡ 0 = omega arith in z)

  pub made_all : (n k : ℕ) (u : tree.Tree) → n ≤ k → made_by P limit (n - k) u ≡ 0
  unfolding made_by
  made_all n k u l = ap (λ j. made_by P limit j u) (let z : n - k ≡ 0 = omega arith in z)

  pub after_rest : (k : ℕ) (u : tree.Tree) → tree.is_working u.verdict ≡ false → after_turns P limit k u ≡ u
  unfolding after_turns
  after_rest zero u e = refl
  after_rest (suc k) u e = ap (after_turns P limit k) (rests P limit u e) ∙ after_rest k u e

  pub made_rest : (k : ℕ) (u : tree.Tree) → tree.is_working u.verdict ≡ false → made_by P limit k u ≡ 0
  unfolding made_by
  made_rest zero u e = refl
  made_rest (suc k) u e = ap (λ (b : Bool). cond b (suc (made_by P limit k (tree.turn P limit u))) 0) e
