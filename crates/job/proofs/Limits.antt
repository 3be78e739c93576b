-- Each sled of a job is within its limits.
use Rattle.std.proofs.Common.{◌≡◌, ℕ, zero, suc, ◌<◌, Bool, true, false, not, ◌&&◌, ◌||◌, ltb, leb, List, [], ◌∷◌, length, get_or, Ok, Err, Result, sym, ap, subst, arith}
use Rattle.std.specs.Result.{MatchResult, IsErrAnd}
use Rattle.std.proofs.lemmas.Bool.{and_parts}
use Rattle.std.proofs.lemmas.Bool.Decides.{nat_tests}
use Rattle.fault.specs.declared.cause.Cause.{Cause}
use Rattle.fault.specs.declared.cause.Fault.{Fault}
use Rattle.fault.specs.Causes.{fault_at}
use Rattle.job.specs.Values.{refused_at}
use Rattle.job.specs.declared.sled_value.SledValue.{SledValue}
use Rattle.job.specs.Jobs.{smallest_sled}
use Rattle.job.specs.Shapes.{sled_ok, shape_ok, outgrown}
use Rattle.job.specs.Sound.{sound_sled, sound_sleds, is_drawing, eight_rows}

-- a fault that a check told is the one at the field
pub refused_by : {P : Cause → Fault → Type 0} (o : Result (Unit {0}) Cause) (at : ℕ) (r : Result (Unit {0}) Fault) → ((cause : Cause) (fault : Fault) → P cause fault → fault ≡ fault_at cause at) → MatchResult o (λ u. r ≡ Ok u) (λ cause. IsErrAnd r (P cause)) → r ≡ refused_at o at
refused_by (Ok u) at r told h = h
refused_by (Err cause) at (Err fault) told h = ap Err (told cause fault h)
refused_by (Err cause) at (Ok u) told h = absurd h

pub sound_at : (sleds : List SledValue) (columns rows : ℕ) (drawn : Bool) (n : ℕ) → sound_sleds columns rows drawn sleds ≡ true → n < length sleds → sound_sled columns rows (get_or sleds n smallest_sled) ≡ true
sound_at [] columns rows drawn n sound below = absurd (omega arith)
sound_at (s ∷ ss) columns rows drawn zero sound below =
    let (first, others) = and_parts (sound_sled columns rows s && (is_drawing s || not drawn)) (sound_sleds columns rows (is_drawing s) ss) sound in
    (and_parts (sound_sled columns rows s) (is_drawing s || not drawn) first).0
sound_at (s ∷ ss) columns rows drawn (suc n) sound below =
    sound_at ss columns rows (is_drawing s) n (and_parts (sound_sled columns rows s && (is_drawing s || not drawn)) (sound_sleds columns rows (is_drawing s) ss) sound).1 (omega arith)

-- start and goal are on the floor
pub record OnFloor (columns rows : ℕ) (s : SledValue) : Type 0 where
  pub start_column : s.start.column < columns
  pub start_row : s.start.row < rows
  pub goal_column : s.goal.column < columns
  pub goal_row : s.goal.row < rows

pub sound_on_floor : (columns rows : ℕ) (s : SledValue) → sound_sled columns rows s ≡ true → OnFloor columns rows s
sound_on_floor columns rows s sound =
    let ok = (and_parts (sled_ok columns rows s) (not (outgrown s.shape s.skirt)) (and_parts (eight_rows s.shape) _ sound).1).0 in
    let places = (and_parts (leb s.skirt 3) _ (and_parts (shape_ok s.shape) _ ok).1).1 in
    let a = and_parts (ltb s.start.column columns) _ places in
    let b = and_parts (ltb s.start.row rows) _ a.1 in
    let c = and_parts (ltb s.goal.column columns) (ltb s.goal.row rows) b.1 in
    record { start_column = grind (arith, nat_tests, a.0); start_row = grind (arith, nat_tests, b.0); goal_column = grind (arith, nat_tests, c.0); goal_row = grind (arith, nat_tests, c.1) }

-- the values found at a number of a job's sleds
pub found_on_floor : (sleds : List SledValue) (columns rows n : ℕ) (v : SledValue) → sound_sleds columns rows false sleds ≡ true → n < length sleds → v ≡ get_or sleds n smallest_sled → OnFloor columns rows v
found_on_floor sleds columns rows n v sound below is =
    subst (OnFloor columns rows) (sym is) (sound_on_floor columns rows (get_or sleds n smallest_sled) (sound_at sleds columns rows false n sound below))
