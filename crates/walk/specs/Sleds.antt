-- The steps of one sled on a floor, by the places where it may stand.
use Rattle.std.specs.Prelude.{◌≡◌, ℕ, ◌≤◌, ◌/◌, ◌%◌, Bool, true, false, ◌&&◌, List, ◌∷◌, length, nat_lt, slice_index_or}
use Rattle.std.specs.List.{AllByRecursion}
use Rattle.walk.specs.Plain.{Stepwise, Route}
use Rattle.walk.specs.Sequences.{end}

-- the places of a floor with so many columns and rows
abbrev pub open_floor : ℕ → ℕ → ℕ → Bool
open_floor columns rows p = nat_lt (p % 16) columns && nat_lt (p / 16) rows

-- whether the sled may stand at place p, by a table of answers
abbrev pub stands : List Bool → ℕ → Bool
stands answers p = slice_index_or answers p false

-- a step is allowed, at every instant alike, where the sled may stand at both its ends
abbrev pub both_ends : (ℕ → Bool) → ℕ → ℕ → ℕ → Bool
both_ends may t p q = may p && may q

-- a route of the sled: n steps through places where it may stand, from its start to its goal
pub record SledRoute (may : ℕ → Bool) (n start goal : ℕ) (s : List ℕ) : Type 0 where
  pub long : length s ≡ n
  pub stepwise : Stepwise start s
  pub standing : AllByRecursion (λ p. may p ≡ true) (start ∷ s)
  pub ends : end start s ≡ goal

-- the routes by allowed steps are the routes of the sled
pub record RoutesAreSledRoutes (may : ℕ → Bool) (n start goal : ℕ) (s : List ℕ) : Type 0 where
  pub sound : 1 ≤ n → Route (both_ends may) n start goal s → SledRoute may n start goal s
  pub complete : SledRoute may n start goal s → Route (both_ends may) n start goal s
