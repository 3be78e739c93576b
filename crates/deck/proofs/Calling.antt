-- Calls one after the other.
use Rattle.std.proofs.Common.{◌≡◌, ℕ, ◌+◌, ◌<◌, List, [], ◌∷◌, ◌++◌, length, get_or, take, drop, set, Some, None, Ok, Option, Result, refl, ap, append_assoc, arith, drop-drop, drop-set-lt}
use Rattle.std.proofs.lemmas.List.{append-nil, take_more_set, drop_more, drop_all}
use Rattle.fault.specs.declared.cause.Fault.{Fault}
use Rattle.split.specs.Situations.{Sets}
use Rattle.search.specs.declared.state.Search.{Search}
use Rattle.deck.specs.declared.state.Deck.{Deck}
use Rattle.deck.specs.declared.slip.Slip.{Slip}
use Rattle.deck.specs.declared.call.Call.{Call}
use Rattle.deck.specs.declared.call.Call.TheVariants.{Release}
use Rattle.deck.specs.declared.call.Done.TheVariants.{Recalled}
use Rattle.deck.specs.Law.{Told, Grants, deck_after, History}
use Rattle.deck.specs.Runs.{answer_to, hand_after, answers_to, hand_left, closing, Ran}
use Rattle.deck.specs.Workings.{InHand, Answers, MadeSoFar, Makes, Closes}
use Rattle.deck.proofs.Lawful.{histories_are_lawful}

-- one answer more
history_more : (d m e : Deck) (rs : List Told) (a : Told) → History d rs m → Grants m a → e ≡ deck_after m a → History d (rs ++ a ∷ []) e
history_more d m e [] a h g q = (rw h at g, rw h at q)
history_more d m e (b ∷ rs) a h g q = (h.0, history_more (deck_after d b) m e rs a h.1 g q)

hand_more : (hand : Option Slip) (rs : List Told) (a : Told) → hand_left hand (rs ++ a ∷ []) ≡ hand_after (hand_left hand rs) a
hand_more hand [] a = refl
hand_more hand (b ∷ rs) a = hand_more (hand_after hand b) rs a

module _ {F R : Type 0} {sets : R → Sets} {s : Search F R} {calls : List Call} {d : Deck} {before : List Told} where
  pub none_made : MadeSoFar sets s calls 0 d d before before None
  none_made = record { answers = record { idle = λ e. refl; opened = λ K limit n o. refl }; history = refl; hand_is = refl; in_hand = tt; beyond = refl }

  module _ {i : ℕ} {m : Deck} {rs : List Told} {hand : Option Slip} (h : MadeSoFar sets s calls i d m before rs hand) where
    -- one call more
    module _ {e : Deck} {a : Told} {hand' : Option Slip} (x : Answers sets s m e (get_or calls i Release) hand a hand') (l : i < length calls) (room : i < length rs) where
      told_more : (last : Result ℕ Fault) → take i rs ++ answers_to m last hand (drop i calls) ≡ answers_to d last None calls → a ≡ answer_to m last hand (get_or calls i Release) →
          take (i + 1) (set rs i a) ++ answers_to e last hand' (drop (i + 1) calls) ≡ answers_to d last None calls
      told_more last p q = rw (take_more_set rs i a room, x.leaves.deck_is, x.leaves.hand_is, append_assoc, q) (rw (drop_more calls i Release l) at p)

      pub one_more : MadeSoFar sets s calls (i + 1) d e before (set rs i a) hand'
      one_more =
          record {
            answers = record { idle = λ z. told_more _ (h.answers.idle z) (x.told.idle z); opened = λ K limit n o. told_more _ (h.answers.opened K limit n o) (x.told.opened K limit n o) };
            history = rw (take_more_set rs i a room) (history_more d m e (take i rs) a h.history x.leaves.grants x.leaves.deck_is);
            hand_is = rw (take_more_set rs i a room, hand_more, x.leaves.hand_is, h.hand_is);
            in_hand = x.leaves.in_hand;
            beyond = rw (drop-set-lt (i + 1) rs i a (omega arith), ← drop-drop 1 i rs, h.beyond, drop-drop 1 i before);
          }

    -- all of them
    module _ (e : i ≡ length calls) where
      cut : take i rs ≡ take (length calls) rs
      cut = ap (λ (k : ℕ). take k rs) e

      told_all : (last : Result ℕ Fault) → take i rs ++ answers_to m last hand (drop i calls) ≡ answers_to d last None calls → take (length calls) rs ≡ answers_to d last None calls
      told_all last p = rw (drop_all i calls (omega arith), append-nil, cut) at p

      pub all_made : Makes sets s calls d m before rs hand
      all_made =
          record {
            answers = record { idle = λ z. told_all _ (h.answers.idle z); opened = λ K limit n o. told_all _ (h.answers.opened K limit n o) };
            history = rw cut at h.history;
            hand_is = rw cut at h.hand_is;
            in_hand = h.in_hand;
            beyond = rw e at h.beyond;
          }

  -- a slip that is left is recalled
  module _ {m : Deck} {after : List Told} {hand : Option Slip} (h : Makes sets s calls d m before after hand) where
    closed : (e : Deck) (g : Option Slip) → InHand m g → Closes m e g → History d (take (length calls) after ++ closing g) e
    closed e None i c = rw (append-nil, c) h.history
    closed e (Some slip) i c = history_more d m e (take (length calls) after) (Some (Ok (Recalled slip.numbers))) h.history i c

    pub ran : {e : Deck} → Closes m e hand → Ran sets s calls d e before after
    ran {e} c =
        let all = rw h.hand_is at (closed e hand h.in_hand c) in
        record { answers = h.answers; history = all; law = histories_are_lawful d e _ all; beyond = h.beyond }
