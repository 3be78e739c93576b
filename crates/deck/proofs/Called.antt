-- Calls on one deck, each as its contract has it, make a history.
use Rattle.std.proofs.Common.{◌≡◌, List, [], ◌∷◌, Ok, Err, Result, inl, inr, ap}
use Rattle.deck.specs.declared.state.Deck.{Deck}
use Rattle.deck.specs.declared.slip.Slip.{Slip}
use Rattle.deck.specs.Law.{Told, Grants, deck_after, History}
use Rattle.deck.specs.Calls.{Called, released, moved, finished, recalled, AllCalled, CallsAreLawful}
use Rattle.deck.proofs.Lawful.{histories_are_lawful}

-- the answer to a call is one that the deck grants, and tells what becomes of it
granted : (d : Deck) (a : Told) (e : Deck) → Called d a e → Grants d a × (e ≡ deck_after d a)
granted d a e (released (Ok s) (free, is, out) q) = rw q ((free, ap (λ (t : Slip). t.numbers) is), out)
granted d a e (released (Err f) same q) = rw q (tt, same)
granted d a e (moved s (Ok t) on q same) = rw q (tt, same)
granted d a e (moved s (Err x) on q same) = rw q (tt, same)
granted d a e (finished s (Ok u) (fit, late, free) q) = rw q ((fit, late), free)
granted d a e (finished s (Err x) (inl other) q) = rw q (tt, other.2)
granted d a e (finished s (Err x) (inr early) q) = rw q (tt, early.3)
granted d a e (recalled s (Ok u) (fit, free) q) = rw q (fit, free)
granted d a e (recalled s (Err x) other q) = rw q (tt, other.2)

history : (d e : Deck) (rs : List Told) → AllCalled d rs e → History d rs e
history d e [] h = h
history d e (a ∷ rs) (m, call, rest) = let (grants, is) = granted d a m call in (grants, rw is at (history m e rs rest))

pub calls_are_lawful : CallsAreLawful
calls_are_lawful d e rs h = histories_are_lawful d e rs (history d e rs h)
