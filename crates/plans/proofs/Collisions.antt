-- Two sleds that each make a step collide by their moves exactly when they collide by where they come from and where they go; and it
-- does not matter which of them is told first.
use Rattle.std.proofs.Common.{◌≡◌, ℕ, zero, suc, ℤ, pos, negsuc, ◌+ℤ◌, ◌-ℤ◌, ◌*ℤ◌, neg_ℤ, Decides, sym, subst, arith}
use lib.IntN.{*ℤ-zero, *ℤ-negsuc}
use Rattle.std.proofs.lemmas.Int.{ints}
use Rattle.std.proofs.lemmas.Bool.Decides.{Decides-like}
use Rattle.grid.specs.declared.moves.Move.{Move}
use Rattle.grid.specs.declared.position.Position.{Position}
use Rattle.grid.specs.Moves.{across, down}
use Rattle.fleet.specs.Offsets.{Offsets, NearSet}
use Rattle.geometry.specs.Collisions.{Between, Leads, Collision, collide}
use Rattle.geometry.proofs.Meetings.{collide_told}
use Rattle.plans.specs.Plans.{relative, gap, Collide}
use Rattle.plans.specs.Theorems.{CollisionsAreMutual}

module _ (first : Offsets) (u u' : Position) (a : Move) (second : Offsets) (v v' : Position) (b : Move) (by_a : Leads u a u') (by_b : Leads v b v') where
  pub relative_across : relative u.column u'.column v.column v'.column ≡ across a -ℤ across b
  relative_across = omega (arith, ints, by_a.0, by_b.0)

  pub relative_down : relative u.row u'.row v.row v'.row ≡ down a -ℤ down b
  relative_down = omega (arith, ints, by_a.1, by_b.1)

  -- what is asked of the columns, and of the rows, where r is a − b
  abbrev Columns : (m n : ℕ) (p q r : ℤ) → Type 0
  Columns m n p q r = Between m (pos m *ℤ ((pos u.column +ℤ p) -ℤ (pos v.column +ℤ q)) +ℤ pos n *ℤ r)

  abbrev Rows : (m n : ℕ) (p q r : ℤ) → Type 0
  Rows m n p q r = Between m (pos m *ℤ ((pos u.row +ℤ p) -ℤ (pos v.row +ℤ q)) +ℤ pos n *ℤ r)

  from_moves : Collision first u a second v b → Collide first u u' second v v'
  from_moves c =
      record {
        p_across = c.p_across;
        p_down = c.p_down;
        q_across = c.q_across;
        q_down = c.q_down;
        m = c.m;
        n = c.n;
        of_first = c.of_first;
        of_second = c.of_second;
        some = c.some;
        within = c.within;
        columns = subst (Columns c.m c.n c.p_across c.q_across) (sym relative_across) c.columns;
        rows = subst (Rows c.m c.n c.p_down c.q_down) (sym relative_down) c.rows;
      }

  to_moves : Collide first u u' second v v' → Collision first u a second v b
  to_moves c =
      record {
        p_across = c.p_across;
        p_down = c.p_down;
        q_across = c.q_across;
        q_down = c.q_down;
        m = c.m;
        n = c.n;
        of_first = c.of_first;
        of_second = c.of_second;
        some = c.some;
        within = c.within;
        columns = subst (Columns c.m c.n c.p_across c.q_across) relative_across c.columns;
        rows = subst (Rows c.m c.n c.p_down c.q_down) relative_down c.rows;
      }

  pub moves_told : NearSet first → NearSet second → Decides (collide first u a second v b) (Collide first u u' second v v')
  moves_told near near' = Decides-like _ from_moves to_moves (collide_told first u a second v b near near')

-- opposite numbers, as often as one likes, are opposite
opposite : (m : ℕ) (x y : ℤ) → y ≡ neg_ℤ x → pos m *ℤ y ≡ neg_ℤ (pos m *ℤ x)
opposite m x y e = subst (λ z. pos m *ℤ z ≡ neg_ℤ (pos m *ℤ x)) (sym e) (negated x)
  where
    negated : (x : ℤ) → pos m *ℤ neg_ℤ x ≡ neg_ℤ (pos m *ℤ x)
    negated (pos zero) = omega (arith, ints, *ℤ-zero (pos m))
    negated (pos (suc n)) = *ℤ-negsuc (pos m) n
    negated (negsuc n) = omega (arith, ints, *ℤ-negsuc (pos m) n)

between_back : (m n : ℕ) (u u' : ℕ) (p : ℤ) (v v' : ℕ) (q : ℤ) → Between m (gap m n u u' p v v' q) → Between m (gap m n v v' q u u' p)
between_back m n u u' p v v' q (low, high) =
    let e = opposite m ((pos u +ℤ p) -ℤ (pos v +ℤ q)) ((pos v +ℤ q) -ℤ (pos u +ℤ p)) (omega (arith, ints)) in
    let f = opposite n (relative u u' v v') (relative v v' u u') (omega (arith, ints)) in
    (omega (arith, ints), omega (arith, ints))

pub collisions_are_mutual : CollisionsAreMutual
collisions_are_mutual first u u' second v v' c =
    record {
      p_across = c.q_across;
      p_down = c.q_down;
      q_across = c.p_across;
      q_down = c.p_down;
      m = c.m;
      n = c.n;
      of_first = c.of_second;
      of_second = c.of_first;
      some = c.some;
      within = c.within;
      columns = between_back c.m c.n u.column u'.column c.p_across v.column v'.column c.q_across c.columns;
      rows = between_back c.m c.n u.row u'.row c.p_down v.row v'.row c.q_down c.rows;
    }
