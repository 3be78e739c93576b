-- Histories keep the law of runs.
use Rattle.std.proofs.Common.{◌≡◌, ℕ, zero, suc, ◌+◌, ◌<◌, ◌≤◌, Bool, true, false, cond, not, Some, Ok, ◌&&◌, eqb, ltb, List, [], ◌∷◌, ◌++◌, length, take, sym, refl, ap, ◌∙◌, subst, ◌⊎◌, ⊎_elim, inl, inr, true≢false, arith}
use Rattle.std.specs.List.{range_with_len}
use Rattle.std.proofs.lemmas.List.{append-nil}
use Rattle.std.proofs.lemmas.Bool.{and_parts, not-true, eqb-true}
use Rattle.deck.specs.declared.state.Deck.{Deck}
use Rattle.deck.specs.declared.slip.SlipNumbers.{SlipNumbers}
use Rattle.deck.specs.declared.call.Done.TheVariants.{Released, Finished, Recalled}
use Rattle.deck.specs.Decks.{ready, gone_out, slip_of, freed, fits}
use Rattle.deck.specs.Law.{Told, Grants, deck_after, History, given, taken, Gives, Takes, out_on, HistoriesAreLawful}

-- a deck that is ready is free, and a slip that fits has the run that the deck is out on
ready_free : (d : Deck) → ready d ≡ true → d.is_out ≡ false
ready_free d e = not-true d.is_out (and_parts (not d.is_out) (ltb d.runs 65535) e).0

fits_out : (s : SlipNumbers) (d : Deck) → fits s d ≡ true → (d.is_out ≡ true) × (s.run ≡ d.runs)
fits_out s d e =
    let (out, both) = and_parts d.is_out (eqb s.name d.name && eqb s.run d.runs) e in
    (out, eqb-true s.run d.runs (and_parts (eqb s.name d.name) (eqb s.run d.runs) both).1)

out_few : (d : Deck) → length (out_on d) ≤ 1
out_few d = few d.is_out
  where
    few : (b : Bool) → length (cond b (d.runs ∷ []) []) ≤ 1
    few true = omega arith
    few false = omega arith

-- of a deck that was handed a slip and took it
module _ (d : Deck) (x : SlipNumbers) (fit : fits x d ≡ true) where
  was_out : d.is_out ≡ true
  was_out = (fits_out x d fit).0

  run_is : x.run ≡ d.runs
  run_is = (fits_out x d fit).1

  took : (gs ts : List ℕ) → gs ≡ ts → out_on d ++ gs ≡ x.run ∷ ts
  took gs ts e = rw (was_out, run_is, e)

-- of a deck that gave a slip
module _ (d : Deck) (x : SlipNumbers) (free : ready d ≡ true) (new : x ≡ (slip_of d x.last).numbers) where
  next_run : x.run ≡ d.runs + 1
  next_run = ap (λ (y : SlipNumbers). y.run) new

  gave : (gs : List ℕ) → out_on d ++ (x.run ∷ gs) ≡ (d.runs + 1) ∷ gs
  gave gs = rw (ready_free d free, next_run)

-- what was out or given was taken, or is out
balance : (d e : Deck) (rs : List Told) → History d rs e → out_on d ++ given rs ≡ taken rs ++ out_on e
balance d e [] h = append-nil (out_on d) ∙ ap out_on (sym h)
balance d e (Some (Ok (Released x)) ∷ rs) h = gave d x h.0.0 h.0.1 (given rs) ∙ balance (gone_out d) e rs h.1
balance d e (Some (Ok (Finished x)) ∷ rs) h = took d x h.0.0 (given rs) (taken rs ++ out_on e) (balance (freed d) e rs h.1)
balance d e (Some (Ok (Recalled x)) ∷ rs) h = took d x h.0 (given rs) (taken rs ++ out_on e) (balance (freed d) e rs h.1)
balance d e (a ∷ rs) h = balance d e rs h.1

gapless : (d e : Deck) (rs : List Told) → History d rs e → given rs ≡ range_with_len (d.runs + 1) (length (given rs))
gapless d e [] h = refl
gapless d e (Some (Ok (Released x)) ∷ rs) h = rw (next_run d x h.0.0 h.0.1) (ap {B = List ℕ} (λ l. (d.runs + 1) ∷ l) (gapless (gone_out d) e rs h.1))
gapless d e (a ∷ rs) h = gapless (deck_after d a) e rs h.1

-- the first answers have a history of their own
first : (k : ℕ) (d e : Deck) (rs : List Told) → History d rs e → (m : Deck) × History d (take k rs) m
first zero d e rs h = (d, refl)
first (suc k) d e [] h = (d, refl)
first (suc k) d e (a ∷ rs) h = let (m, g) = first k (deck_after d a) e rs h.1 in (m, (h.0, g))

-- the deck took a slip of run r at once
taken_now : (d : Deck) (a : Told) (r : ℕ) → Grants d a → Takes (a ∷ []) 0 r → (d.is_out ≡ true) × (d.runs ≡ r) × (deck_after d a ≡ freed d)
taken_now d a r h (x, inl n, q) =
    let fit = (subst (λ (b : Told). Grants d b) n h).0 in
    (was_out d x fit, sym (run_is d x fit) ∙ q, ap (deck_after d) n)
taken_now d a r h (x, inr n, q) =
    let fit = subst (λ (b : Told). Grants d b) n h in
    (was_out d x fit, sym (run_is d x fit) ∙ q, ap (deck_after d) n)

-- runs only go up, and a deck that goes out goes out on the next
up : (d : Deck) (a : Told) → (d.runs ≤ (deck_after d a).runs) × (d.is_out ≡ false → ((deck_after d a).is_out ≡ false) ⊎ (d.runs < (deck_after d a).runs))
up d (Some (Ok (Released x))) = (omega arith, λ f. inr (omega arith))
up d (Some (Ok (Finished x))) = (omega arith, λ f. inl refl)
up d (Some (Ok (Recalled x))) = (omega arith, λ f. inl refl)
up d a = (omega arith, inl)

-- runs taken later are those of the deck and above, and above if it is free; runs given later are above
higher : (d e : Deck) (rs : List Told) → History d rs e → (l r : ℕ) → Takes rs l r → (d.runs ≤ r) × (d.is_out ≡ false → d.runs < r)
higher d e [] h l r (x, inl n, q) = absurd n
higher d e [] h l r (x, inr n, q) = absurd n
higher d e (a ∷ rs) h zero r t =
    let (out, run, _) = taken_now d a r h.0 t in
    (omega arith, λ f. absurd (true≢false (sym out ∙ f)))
higher d e (a ∷ rs) h (suc l) r t =
    let (low, above) = higher (deck_after d a) e rs h.1 l r t in
    let (more, free) = up d a in
    (omega arith, λ f. ⊎_elim (λ g. let over = above g in omega arith) (λ g. omega arith) (free f))

given_above : (d e : Deck) (rs : List Told) → History d rs e → (l r : ℕ) → Gives rs l r → d.runs < r
given_above d e [] h l r (x, n, q) = absurd n
given_above d e (a ∷ rs) h zero r (x, n, q) =
    let g = subst (λ (b : Told). Grants d b) n h.0 in
    omega (arith, next_run d x g.0 g.1)
given_above d e (a ∷ rs) h (suc l) r t = omega (arith, given_above (deck_after d a) e rs h.1 l r t, (up d a).0)

never_again : (d e : Deck) (rs : List Told) → History d rs e → (k l r : ℕ) → k < l → Takes rs k r → (Takes rs l r → ⊥) × (Gives rs l r → ⊥)
never_again d e [] h k l r lt (x, inl n, q) = absurd n
never_again d e [] h k l r lt (x, inr n, q) = absurd n
never_again d e (a ∷ rs) h k zero r lt t = absurd (omega arith)
never_again d e (a ∷ rs) h zero (suc l) r lt t =
    let (out, run, after) = taken_now d a r h.0 t in
    let rest = subst (λ (m : Deck). History m rs e) after h.1 in
    (λ u. let (_, above) = higher (freed d) e rs rest l r u in let over = above refl in omega arith, λ u. let over = given_above (freed d) e rs rest l r u in omega arith)
never_again d e (a ∷ rs) h (suc k) (suc l) r lt t = never_again (deck_after d a) e rs h.1 k l r (omega arith) t

pub histories_are_lawful : HistoriesAreLawful
histories_are_lawful d e rs h =
    record {
      gapless = gapless d e rs h;
      one_out = λ k. let (m, g) = first k d e rs h in (out_on m, out_few m, balance d m (take k rs) g);
      never_again = never_again d e rs h;
    }
