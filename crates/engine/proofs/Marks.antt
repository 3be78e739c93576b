-- One move more in a list.
use Rattle.std.proofs.Common.{◌≡◌, ℕ, ◌||◌, List, [], ◌∷◌, ◌++◌, sym, ap, ◌∙◌}
use Rattle.std.proofs.Math.Bool.{or-false, or_assoc}
use Rattle.walk.specs.declared.weight.Step.{Step}
use Rattle.engine.specs.Forbids.{is_move, listed}

pub listed_append : (ms : List Step) (m : Step) (t p q : ℕ) → listed (ms ++ m ∷ []) t p q ≡ (listed ms t p q || is_move m t p q)
listed_append [] m t p q = or-false (is_move m t p q)
listed_append (k ∷ ms) m t p q = ap (λ b. is_move k t p q || b) (listed_append ms m t p q) ∙ sym (or_assoc (is_move k t p q) (listed ms t p q) (is_move m t p q))
