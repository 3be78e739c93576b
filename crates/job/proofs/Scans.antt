-- Scans of the numbers below a bound, and of the rows of a drawing.
use Rattle.std.proofs.Common.{◌≡◌, ℕ, ◌<◌, Bool, true, false, not, ◌||◌, eqb, List, [], ◌∷◌, length, get_or, Decides, MatchBool, sym, refl, ap, subst, ⊎_elim, arith}
use Rattle.std.specs.List.{AllWithin, HoldsAt, list_any, range_with_len}
use Rattle.std.proofs.lemmas.Bool.{both_ways, cases_Bool}
use Rattle.std.proofs.lemmas.Bool.Decides.{Decides-below_or}
use Rattle.std.proofs.lemmas.List.FromFn.{length-range_with_len, get_or-range_with_len}
use Rattle.job.specs.Shapes.{some_below, some_row}

some_told : (p : ℕ → Bool) (n : ℕ) → Decides (some_below p n) ((k : ℕ) × (k < n) × (p k ≡ true))
some_told p n = Decides-below_or p (λ k. p k ≡ true) (some_below p) (λ k. (λ e. e, λ e. e)) refl (λ _. refl) n

pub some_found : (p : ℕ → Bool) (n k : ℕ) → k < n → p k ≡ true → some_below p n ≡ true
some_found p n k below hit = (some_told p n).1 (k, below, hit)

pub some_none : (p : ℕ → Bool) (n : ℕ) → ((k : ℕ) → k < n → p k ≡ false) → some_below p n ≡ false
some_none p n none =
    ⊎_elim (λ e. let (k, below, hit) = (some_told p n).0 e in absurd (both_ways _ (none k below) hit)) (λ e. e) (cases_Bool (some_below p n))

-- what `any` answered over the numbers below n
pub some_by_any : (p : ℕ → Bool) (n : ℕ) (r : Bool) →
    MatchBool r ((k : ℕ) × (k < length (range_with_len 0 n)) × HoldsAt (λ x. p x ≡ true) (range_with_len 0 n) k) (AllWithin (λ x. p x ≡ false) (range_with_len 0 n) 0 (length (range_with_len 0 n))) → r ≡ some_below p n
some_by_any p n true h =
    let (k, below, hit) = h in
    let within : k < n = omega (arith, below, length-range_with_len 0 n) in
    let here : get_or (range_with_len 0 n) k 0 ≡ k = omega (arith, get_or-range_with_len 0 n k 0 within) in
    sym (some_found p n k within (subst (λ x. p x ≡ true) here (hit 0)))
some_by_any p n false h = sym (some_none p n (λ k below.
    let here : get_or (range_with_len 0 n) k 0 ≡ k = omega (arith, get_or-range_with_len 0 n k 0 below) in
    subst (λ x. p x ≡ false) here (h k 0 (omega arith) (omega (arith, below, length-range_with_len 0 n)))))

pub some_row_by_any : (rows : List ℕ) → list_any (λ row. not (eqb row 0)) rows ≡ some_row rows
some_row_by_any [] = refl
some_row_by_any (row ∷ rows) = ap (λ b. not (eqb row 0) || b) (some_row_by_any rows)
