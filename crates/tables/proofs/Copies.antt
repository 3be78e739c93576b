-- Tables that say the offsets of each sled of a fleet are that fleet.
use Rattle.std.proofs.Common.{◌≡◌, ℕ, ◌<◌, true, ◌&&◌, ltb, List, get_or, ℤ, sym, ap, ◌∙◌, ⊎_elim, arith}
use Rattle.std.proofs.lemmas.Int.{ints}
use Rattle.std.proofs.lemmas.Bool.{cases_lt, false_from_ne_true, lt-ltb, le-ltb}
use Rattle.fleet.specs.Offsets.{Sleds, Near, OnlyBelow, AllNear, NoneEmpty}
use Rattle.fleet.specs.Scans.{within, some_offset}
use Rattle.fleet.specs.ScansLemmas.{offset_found}
use Rattle.tables.specs.declared.table.Table.{Table}
use Rattle.tables.specs.NoTables.{no_table}
use Rattle.tables.specs.Tables.{set_of, Says, each_below}
use Rattle.tables.specs.Entries.{says_set, each_from}

near_within : (z : ℤ) → Near z → within 7 z ≡ true
near_within z (low, high) = grind (arith, ints, low, high)

module _ (n : ℕ) (sleds : Sleds) (near : AllNear sleds) (tables : List (Table 7 15)) (all : (s : ℕ) → s < n → Says 7 (sleds s) (get_or tables s no_table).rows) where
  copied : (s : ℕ) → s < n → (x y : ℤ) → set_of 7 (get_or tables s no_table).rows x y ≡ sleds s x y
  copied s h = says_set 7 (sleds s) (get_or tables s no_table).rows (all s h) (λ x y has. let (near_x, near_y) = near s x y has in (near_within x near_x, near_within y near_y))

  pub copy_is : OnlyBelow n sleds → (s : ℕ) (x y : ℤ) → (ltb s n && set_of 7 (get_or tables s no_table).rows x y) ≡ sleds s x y
  copy_is only s x y =
      ⊎_elim
      (λ h. ap (λ t. t && set_of 7 (get_or tables s no_table).rows x y) (lt-ltb s n h) ∙ copied s h x y)
      (λ h. ap (λ t. t && set_of 7 (get_or tables s no_table).rows x y) (le-ltb s n h) ∙ sym (false_from_ne_true (sleds s x y) (λ has. let below = only s x y has in omega arith)))
      (cases_lt s n)

  pub copy_some : NoneEmpty n sleds → each_below (λ s. some_offset (set_of 7 (get_or tables s no_table).rows)) n ≡ true
  copy_some some =
      each_from (λ s. some_offset (set_of 7 (get_or tables s no_table).rows)) n
      (λ s h.
      let (x, y, has) = some s h in
      let (near_x, near_y) = near s x y has in
      offset_found (set_of 7 (get_or tables s no_table).rows) x y near_x near_y (copied s h x y ∙ has))
