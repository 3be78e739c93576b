-- How many items there are.
use Rattle.std.proofs.Common.{◌≡◌, ℕ, ◌≤◌, length, arith}
use Rattle.std.proofs.lemmas.List.{length-take}
use Rattle.few.specs.declared.Few.{Few}
use Rattle.few.specs.Told.{told}

module _ {T : Type 0} {N : ℕ} where
  pub count_is : (f : Few T N) → length (told f) ≡ f.count
  count_is f = let whole = f.whole in let few = f.few in simp length-take (omega arith)

  pub at_most : (f : Few T N) → length (told f) ≤ N
  at_most f = let few = f.few in omega (arith, count_is f)
