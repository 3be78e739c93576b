-- How places and lines follow one another, and how long they are.
use Rattle.std.proofs.Common.{◌≡◌, ℕ, zero, suc, ◌∷◌, map, ◌+◌, ◌/◌, ◌%◌, ◌<◌, ◌≤◌, List, [], ◌++◌, length, get_or, take, sym, refl, ap, ◌∙◌, add-one, arith}
use Rattle.std.specs.List.{join_with_byte}
use Rattle.std.proofs.lemmas.List.{take_more, map-append, append_assoc, length-append}
use Rattle.std.proofs.lemmas.Fmt.{length-decimal-le}
use Rattle.lines.specs.Plans.{place_text, places_text, route_line}
use Rattle.lines.specs.declared.outcome.Outcome.{Outcome}
use Rattle.lines.specs.declared.outcome.Outcome.TheVariants.{Solved, NoPlan, Full}
use Rattle.lines.specs.Reports.{plan_lines, lines_after}

-- what stands before a piece that follows these
abbrev pub between : (c : ℕ) → List (List ℕ) → List ℕ
between c [] = []
between c (x ∷ xs) = c ∷ []

join_more : (c : ℕ) (xs : List (List ℕ)) (y : List ℕ) → join_with_byte c (xs ++ (y ∷ [])) ≡ join_with_byte c xs ++ (between c xs ++ y)
join_more c [] y = refl
join_more c (x ∷ []) y = refl
join_more c (x ∷ w ∷ xs) y = ap (λ l. x ++ (c ∷ l)) (join_more c (w ∷ xs) y) ∙ sym (append_assoc x (c ∷ join_with_byte c (w ∷ xs)) ((c ∷ []) ++ y))

pub places_more :
    (ps : List ℕ) (i : ℕ) → i < length ps →
    places_text (take (i + 1) ps) ≡ places_text (take i ps) ++ (between 32 (map place_text (take i ps)) ++ place_text (get_or ps i 0))
places_more ps i below =
    ap places_text (take_more ps i 0 below) ∙ ap (join_with_byte 32) (map-append place_text (take i ps) (get_or ps i 0 ∷ []))
    ∙ join_more 32 (map place_text (take i ps)) (place_text (get_or ps i 0))

pub between_short : (xs : List (List ℕ)) → length (between 32 xs) ≤ 1
between_short [] = omega arith
between_short (x ∷ xs) = omega arith

pub between_later : (ps : List ℕ) (i : ℕ) → 0 < i → 0 < length ps → between 32 (map place_text (take i ps)) ≡ 32 ∷ []
between_later [] i h below = absurd (omega arith)
between_later (p ∷ ps) zero h below = absurd (omega arith)
between_later (p ∷ ps) (suc i) h below = refl

-- columns and rows have two digits at most
pub place_short : (place : ℕ) → place < 256 → length (place_text place) ≤ 5
unfolding place_text
place_short place fits =
    let column = length-decimal-le 2 (place % 16) (omega arith) (omega arith) (omega arith) in
    let row = length-decimal-le 2 (place / 16) (omega arith) (omega arith) (omega arith) in
    simp length-append (omega arith)

-- one sled more
pub plan_more :
    (routes : List (List ℕ)) (last n shown : ℕ) → shown ≡ last + 1 → plan_lines routes last (n + 1) ≡ plan_lines routes last n ++ route_line n (take shown (get_or routes n []))
unfolding plan_lines
plan_more routes last n shown is =
    ap (plan_lines routes last) (add-one n) ∙ ap (λ k. plan_lines routes last n ++ route_line n (take k (get_or routes n []))) (sym (is ∙ add-one last))

-- the plan is told only after solved
pub only_solved : (o : Outcome) (plan : List ℕ) → ((sum : ℕ) → o ≡ Solved sum → ⊥) → lines_after o plan ≡ []
only_solved (Solved sum) plan other = absurd (other sum refl)
only_solved NoPlan plan other = refl
only_solved (Full bound) plan other = refl
