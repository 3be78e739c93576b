-- Bytes written one after the other into a buffer.
use Rattle.std.proofs.Common.{◌≡◌, ℕ, zero, suc, ◌+◌, ◌*◌, ◌/◌, ◌%◌, ◌^◌, ◌<◌, ◌≤◌, List, [], ◌∷◌, ◌++◌, length, take, drop, set, Some, None, decimal, Option, sym, refl, ap, ◌∙◌, add_assoc, add-one, subst, arith, length-drop}
use Prim.{absurd}
use Rattle.std.proofs.lemmas.List.{append_assoc, append-nil, length-append, length-take-le, take_at, drop_at, drop-drop, set_split, length_push}
use Rattle.std.specs.Option.{IfNone, IfSome, MatchOption}
use Rattle.std.proofs.lemmas.Fmt.{decimal_digit, decimal_step, decimal_nonempty, length-decimal-le}
use Rattle.text.specs.declared.Text.{Text}
use Rattle.text.specs.Texts.{written, PutsAt, Puts, TextOf, Appends}

pub set_written : (xs : List ℕ) (at b : ℕ) → at < length xs → set xs at b ≡ written xs at (b ∷ [])
set_written xs at b h = rw add-one (set_split xs at b h)

-- two pieces, the second right after the first
pub written_more : (xs : List ℕ) (at : ℕ) (xa xb : List ℕ) → at ≤ length xs → written (written xs at xa) (at + length xa) xb ≡ written xs at (xa ++ xb)
written_more xs at xa xb h =
    let front = take at xs in
    let n = at + length xa in
    let rest = drop n xs in
    let long : length (front ++ xa) ≡ n = rw (length-append, length-take-le at xs h) in
    let whole : written xs at xa ≡ (front ++ xa) ++ rest = sym (append_assoc front xa rest) in
    let kept : take n ((front ++ xa) ++ rest) ≡ front ++ xa = take_at (front ++ xa) rest n long in
    let after : drop (n + length xb) ((front ++ xa) ++ rest) ≡ drop (at + length (xa ++ xb)) xs =
    sym (drop-drop (length xb) n ((front ++ xa) ++ rest)) ∙ ap (drop (length xb)) (drop_at (front ++ xa) rest n long)
    ∙ drop-drop (length xb) n xs ∙ ap (λ k. drop k xs) (rw (length-append) (add_assoc at (length xa) (length xb))) in
    ap (λ w. take n w ++ (xb ++ drop (n + length xb) w)) whole
    ∙ (λ i. kept i ++ (xb ++ after i))
    ∙ append_assoc front xa (xb ++ drop (at + length (xa ++ xb)) xs)
    ∙ ap (λ l. front ++ l) (sym (append_assoc xa xb (drop (at + length (xa ++ xb)) xs)))

-- all digits but the last, and the last
pub last_digit : (n : ℕ) → 10 ≤ n → n < 2 ^ 64 → length (decimal n) ≡ length (decimal (n / 10)) + 1
last_digit n h fits = ap length (decimal_step n h fits) ∙ length_push (decimal (n / 10)) (48 + n % 10)

pub short_number : (n : ℕ) → n < 2 ^ 64 → length (decimal n) ≤ 20
short_number n fits = length-decimal-le 20 n (omega arith) (omega arith) fits

ten_pow : (k : ℕ) → 0 < 10 ^ k
ten_pow zero = omega arith
ten_pow (suc k) = omega (arith, ten_pow k)

-- from a power of ten on, a number has one digit more than the power
long_number : (k n : ℕ) → 10 ^ k ≤ n → n < 2 ^ 64 → k + 1 ≤ length (decimal n)
long_number zero n low fits = decimal_nonempty n fits
long_number (suc k) n low fits = omega (arith, last_digit n (omega (arith, low, ten_pow k)) fits, long_number k (n / 10) (omega (arith, low)) (omega (arith, fits)))

-- as many digits as the logarithm tells
pub counted : {P : ℕ → Type 0} (n : ℕ) (o : Option ℕ) (r : ℕ) → n < 2 ^ 64 → IfNone o (n ≡ 0) → IfSome o (λ k. 10 ^ k ≤ n) → IfSome o (λ k. n < 10 * 10 ^ k) → ((k : ℕ) → P k → r ≡ k + 1) → MatchOption o (r ≡ 1) P → r ≡ length (decimal n)
counted n None r fits none low high told is = is ∙ sym (ap length (decimal_digit n (omega (arith, none))))
counted n (Some k) r fits none low high told is =
    omega (arith, told k is, long_number k n low fits, length-decimal-le (suc k) n (omega arith) (omega (arith, high)) fits)

-- what is written fits, so the buffer keeps its length
pub length_written : (xs : List ℕ) (at : ℕ) (bytes : List ℕ) → at + length bytes ≤ length xs → length (written xs at bytes) ≡ length xs
length_written xs at bytes room =
    omega
    (arith, length-append (take at xs) (bytes ++ drop (at + length bytes) xs), length-append bytes (drop (at + length bytes) xs), length-take-le at xs (omega arith), length-drop (at + length bytes) xs)

-- one piece more
text-more :
    (before bytes now : List ℕ) (at : Option ℕ) (more after : List ℕ) (end : Option ℕ) → TextOf before bytes now at → PutsAt now at more after end
    → TextOf before (bytes ++ more) after end
text-more before bytes now (Some at) more after (Some end) text put =
    let whole = length-append bytes more in
    let kept = ap length text.2 ∙ length_written before 0 bytes (omega (arith, text.0)) in (
      omega (arith, whole, kept, put.0, text.1),
      omega (arith, whole, put.1, text.1),
      put.2 ∙ (λ i. written (text.2 i) (text.1 i) more) ∙ ap (λ n. written (written before 0 bytes) n more) (omega arith) ∙ written_more before 0 bytes more (omega arith),
    )
text-more before bytes now (Some at) more after None text put =
    let kept = ap length text.2 ∙ length_written before 0 bytes (omega (arith, text.0)) in
    (omega (arith, length-append bytes more, kept, put.0, text.1), ap length put.1 ∙ kept)
text-more before bytes now None more after (Some end) text put = absurd put
text-more before bytes now None more after None text put = (omega (arith, length-append bytes more, text.0), ap length put ∙ text.1)

-- what a single put appends
pub appends-put : {now after : Text} {bytes : List ℕ} → Puts now bytes after → Appends now bytes after
appends-put {now} {after} {bytes} p = record {
  same_buffer = p.same_buffer;
  behind = λ before front text. text-more before front now.out.now now.at bytes after.out.now after.at text p.put;
}

-- some bytes, and then others
pub appends-both : {now mid after : Text} {first second : List ℕ} → Appends now first mid → Appends mid second after → Appends now (first ++ second) after
appends-both {now} {mid} {after} {first} {second} one two = record {
  same_buffer = two.same_buffer ∙ one.same_buffer;
  behind = λ before front text. subst (λ l. TextOf before l after.out.now after.at) (append_assoc front first second) (two.behind before (front ++ first) (one.behind before front text));
}

-- no bytes at all
pub appends-nothing : (t : Text) → Appends t [] t
appends-nothing t = record { same_buffer = refl; behind = λ before front text. subst (λ l. TextOf before l t.out.now t.at) (sym (append-nil front)) text }

-- all that is put behind an empty text
pub whole-text : {buffer bytes : List ℕ} {now after : Text} {end : Option ℕ} → now.out.now ≡ buffer → now.at ≡ Some 0 → Appends now bytes after → end ≡ after.at
    → TextOf buffer bytes after.out.now end
whole-text {buffer} {bytes} {now} {after} {end} kept front all ends =
    subst (λ at. TextOf buffer bytes after.out.now at) (sym ends)
    (all.behind buffer [] (subst (λ at. TextOf buffer [] now.out.now at) (sym front) (omega arith, refl, kept)))
