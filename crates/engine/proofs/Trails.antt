-- The constraints of a trail, from a node to its parent.
use Rattle.std.proofs.Common.{◌≡◌, ℕ, zero, suc, ◌+◌, ◌<◌, ◌≤◌, Bool, true, cond, eqb, List, [], ◌∷◌, length, get_or, is_some, Some, None, Option, sym, refl, ap, ◌∙◌, subst, arith}
use Rattle.std.proofs.lemmas.Bool.{eq-eqb, ne_eqb, cond_both}
use Rattle.tree.specs.Setting.{Setting}
use Rattle.tree.specs.Constraints as constraints
use Rattle.tree.specs.Tree as tree
use Rattle.engine.specs.Model.{Model}
use Rattle.engine.specs.Table.{Tracks, Timely, LiesIn, blank, empty, parent_of, own, sled_constraint_of, constraint_of}
use Rattle.engine.specs.Forbids.{FitsTable, InTime}
use Rattle.std.specs.Option.{IfSome}
use Rattle.std.specs.List.{AllByRecursion}
use Rattle.engine.specs.declared.node.Constraint.{Constraint}
use Rattle.engine.specs.declared.node.Constraint.TheVariants.{Places, Move}
use Rattle.engine.specs.declared.node.SledConstraint.{SledConstraint}
use Rattle.engine.specs.declared.node.Branch.{Branch}
use Rattle.engine.specs.declared.node.Node.{Node}

pub timely_fits : (S : Setting) (b : Constraint) → S.horizon ≤ 63 → Timely S b → FitsTable b
timely_fits S (Places t set) h l = omega arith
timely_fits S (Move m) h l = omega arith

pub constraints_same : (s : ℕ) (b : SledConstraint) (tr : List constraints.SledConstraint) → b.sled ≡ s → constraints.constraints_on s (sled_constraint_of b ∷ tr) ≡ constraint_of b.constraint ∷ constraints.constraints_on s tr
unfolding constraints.constraints_on
constraints_same s b tr e = ap (λ (t : Bool). cond t (constraint_of b.constraint ∷ constraints.constraints_on s tr) (constraints.constraints_on s tr)) (eq-eqb b.sled s e)

pub constraints_other : (s : ℕ) (b : SledConstraint) (tr : List constraints.SledConstraint) → (b.sled ≡ s → ⊥) → constraints.constraints_on s (sled_constraint_of b ∷ tr) ≡ constraints.constraints_on s tr
unfolding constraints.constraints_on
constraints_other s b tr e = ap (λ (t : Bool). cond t (constraint_of b.constraint ∷ constraints.constraints_on s tr) (constraints.constraints_on s tr)) (ne_eqb b.sled s e)

pub constraints_none : (s : ℕ) → constraints.constraints_on s [] ≡ []
unfolding constraints.constraints_on
constraints_none s = refl

module _ (m : Model) (table : List Node) (xs : List tree.Node) (t : Tracks m table xs) (k : ℕ) (l : k < length table) where
  abbrev record_at : Node
  record_at = get_or table k empty

  abbrev trail_at : ℕ → List constraints.SledConstraint
  trail_at j = (get_or xs j blank).trail

  pub root_trail : record_at.branch ≡ None → trail_at k ≡ []
  root_trail e = (t.each k l).trail ∙ ap (λ (o : Option Branch). own o (trail_at (parent_of o))) e

  pub child_trail : (b : Branch) → record_at.branch ≡ Some b → trail_at k ≡ sled_constraint_of b.own ∷ trail_at b.parent
  child_trail b e = (t.each k l).trail ∙ ap (λ (o : Option Branch). own o (trail_at (parent_of o))) e

-- every constraint of a trail lies within the horizon
abbrev TimelyConstraint : Setting → constraints.SledConstraint → Type 0
TimelyConstraint S b = InTime S b.constraint

timely_in : (S : Setting) (b : Constraint) → Timely S b → InTime S (constraint_of b)
timely_in S (Places t set) h = h
timely_in S (Move m) h = h

own_timely : (S : Setting) (o : Option Branch) (above : List constraints.SledConstraint) → IfSome o (λ b. LiesIn S b.own) → (is_some o ≡ true → AllByRecursion (TimelyConstraint S) above) → AllByRecursion (TimelyConstraint S) (own o above)
own_timely S None above h k = tt
own_timely S (Some b) above h k = (timely_in S b.own.constraint h.1, k refl)

module _ (m : Model) (table : List Node) (xs : List tree.Node) (t : Tracks m table xs) where
  trail_timely_up : (n k : ℕ) → k < n → k < length table → AllByRecursion (TimelyConstraint m.setting) (get_or xs k blank).trail
  trail_timely_up zero k h l = absurd (omega arith)
  trail_timely_up (suc n) k h l =
      let e = t.each k l in
      subst (AllByRecursion (TimelyConstraint m.setting)) (sym e.trail)
      (own_timely m.setting (get_or table k empty).branch (get_or xs (parent_of (get_or table k empty).branch) blank).trail e.lies_in
      (λ some. let low = e.lower some in trail_timely_up n (parent_of (get_or table k empty).branch) (omega arith) (omega arith)))

  pub trail_timely : (k : ℕ) → k < length table → AllByRecursion (TimelyConstraint m.setting) (get_or xs k blank).trail
  trail_timely k l = trail_timely_up (k + 1) k (omega arith) l

constraints_timely : (S : Setting) (s : ℕ) (tr : List constraints.SledConstraint) → AllByRecursion (TimelyConstraint S) tr → AllByRecursion (InTime S) (constraints.constraints_on s tr)
unfolding constraints.constraints_on
constraints_timely S s [] h = tt
constraints_timely S s (b ∷ tr) h = cond_both (eqb b.sled s) (b.constraint ∷ constraints.constraints_on s tr) (constraints.constraints_on s tr) (AllByRecursion (InTime S)) (λ _. (h.0, constraints_timely S s tr h.1)) (λ _. constraints_timely S s tr h.1)

pub more_timely : (S : Setting) (s : ℕ) (b : SledConstraint) (tr : List constraints.SledConstraint) → Timely S b.constraint → AllByRecursion (TimelyConstraint S) tr → AllByRecursion (InTime S) (constraints.constraints_on s (sled_constraint_of b ∷ tr))
more_timely S s b tr h k = constraints_timely S s (sled_constraint_of b ∷ tr) (timely_in S b.constraint h, k)
