-- Records stay sound.
use Rattle.std.proofs.Common.{◌≡◌, ℕ, ◌+◌, ◌<◌, ◌≤◌, true, ltb, List, [], ◌∷◌, ◌++◌, length, set, Some, None, Option, sym, subst, ⊎_elim, arith}
use Rattle.std.proofs.lemmas.Bool.{cases_lt, ltb-true, lt-ltb, and_parts, and_from}
use Rattle.std.proofs.lemmas.List.{length_push, get_or_append_left, get_or_push, append-nil}
use Rattle.std.specs.Option.{option_to_list}
use Rattle.engine.specs.declared.node.Node.{Node}
use Rattle.engine.specs.Table.{empty}
use Rattle.engine.specs.WellFormed.{is_in_table, well_formed_branch, WellFormed, AllWellFormed, MadeWellFormed}
use Rattle.engine.specs.Forbids.{FitsTable}
use Rattle.engine.specs.declared.node.Constraint.{Constraint}
use Rattle.engine.specs.declared.node.Constraint.TheVariants.{Places, Move}
use Rattle.engine.specs.declared.node.Branch.{Branch}

fits_from : (b : Constraint) → is_in_table b ≡ true → FitsTable b
fits_from (Places t set) e = ltb-true t 64 e
fits_from (Move m) e = ltb-true m.instant 64 e

fits_to : (b : Constraint) → FitsTable b → is_in_table b ≡ true
fits_to (Places t set) l = lt-ltb t 64 l
fits_to (Move m) l = lt-ltb m.instant 64 l

pub formed_lower : (k : ℕ) (n : Node) (b : Branch) → n.branch ≡ Some b → WellFormed k n → b.parent < k
formed_lower k n b e h = ltb-true b.parent k (and_parts (ltb b.parent k) (is_in_table b.own.constraint) (subst (λ (o : Option Branch). well_formed_branch k o ≡ true) e h)).0

pub formed_fits : (k : ℕ) (n : Node) (b : Branch) → n.branch ≡ Some b → WellFormed k n → FitsTable b.own.constraint
formed_fits k n b e h = fits_from b.own.constraint (and_parts (ltb b.parent k) (is_in_table b.own.constraint) (subst (λ (o : Option Branch). well_formed_branch k o ≡ true) e h)).1

pub formed_child : (k : ℕ) (b : Branch) → b.parent < k → FitsTable b.own.constraint → well_formed_branch k (Some b) ≡ true
formed_child k b l s = and_from (ltb b.parent k) (is_in_table b.own.constraint) (lt-ltb b.parent k l) (fits_to b.own.constraint s)

formed_push : (rows : List Node) (n : Node) → AllWellFormed rows → WellFormed (length rows) n → AllWellFormed (rows ++ n ∷ [])
formed_push rows n h new j m =
    let m' : j < length rows + 1 = omega (arith, length_push rows n) in
    ⊎_elim (λ (l : j < length rows). subst (WellFormed j) (sym (get_or_append_left rows (n ∷ []) empty j l)) (h j l))
    (λ (l : length rows ≤ j).
    let e : length rows ≡ j = omega arith in
    subst (WellFormed j) (sym (get_or_push rows n empty j e)) (subst (λ (i : ℕ). WellFormed i n) e new)) (cases_lt j (length rows))

pub formed_extend : (rows : List Node) (r : Option Node) → AllWellFormed rows → MadeWellFormed (length rows) r → AllWellFormed (rows ++ option_to_list r)
formed_extend rows None h m = subst AllWellFormed (sym (append-nil rows)) h
formed_extend rows (Some n) h m = formed_push rows n h m
