-- A route as it is traced, place by place.
use Rattle.std.proofs.Common.{◌≡◌, ℕ, suc, ◌+◌, ◌-◌, ◌<◌, ◌≤◌, Bool, true, false, ◌&&◌, eqb, List, [], ◌∷◌, ◌++◌, length, get_or, set, replicate, find, Some, None, Option, sym, refl, ap, ◌∙◌, arith}
use Rattle.std.specs.Option.{option_map}
use Rattle.std.proofs.ByRecursion.{All-weaker}
use Rattle.std.proofs.lemmas.Iterator.Adapters.{option_map_id}
use Rattle.std.proofs.lemmas.List.{append_assoc, set_at, length_push, replicate-append-replicate}
use Rattle.std.proofs.lemmas.Bool.{and_parts, eqb-true}
use Rattle.grid.specs.Board.{next}
use Rattle.walk.specs.Kinds.{either_both}
use Rattle.walk.specs.Laws.{either_both_laws}
use Rattle.walk.specs.Sequences.{sequences, total}
use Rattle.walk.specs.Workings.{waits, fitting, Charted, Traced}
use Rattle.walk.proofs.Adding.{more, more_is}
use Rattle.walk.proofs.Sides.{next_below}
use Rattle.walk.proofs.Firsts.{first_same, first_some, first_passes, first_holds, none_some}
use Rattle.walk.proofs.Fits.{fits}
use Rattle.walk.proofs.Reach.{first_step, first_stay, cond_same}
use Rattle.walk.proofs.Totals.{total_zero, total_first}

mapped_mapped : {A B C : Type 0} (f : B → C) (g : A → B) (k : A → C) → ((x : A) → f (g x) ≡ k x) → (o : Option A) → option_map f (option_map g o) ≡ option_map k o
mapped_mapped f g k h None = refl
mapped_mapped f g k h (Some x) = ap Some (h x)

module _ (a : ℕ → ℕ → ℕ → Bool) (goal c n start : ℕ) where
  -- At instant t the route stands at p, and the first t + 1 entries of the list tell how it came there.
  pub record Trail (t p : ℕ) (places : List ℕ) : Type 0 where
    pub come : List ℕ
    pub long : length come ≡ t
    pub held : places ≡ start ∷ (come ++ replicate (63 - t) goal)
    pub leads : total either_both a (c - t) t p goal ≡ true
    pub place : p < 256
    pub same : option_map (λ s. come ++ s) (find (fits a goal (c - t) t p) (sequences (n - t) p)) ≡ fitting a goal c n start

  -- the places from which the goal can be reached at instant c, t steps having been made
  abbrev pub Open : ℕ → List Bool → Type 0
  Open t row = (q : ℕ) → q < 256 → get_or row q false ≡ total either_both a (c - t) t q goal

  pub open_row : (table : List (List Bool)) → Charted a goal c table → (t : ℕ) → t < c → Open (t + 1) (get_or table (c - t - 1) [])
  open_row table rows t l q h =
      let left : c - t - 1 ≡ c - (t + 1) = omega arith in
      let at : c - (c - t - 1) ≡ t + 1 = omega arith in
      rows (c - t - 1) q (omega arith) h ∙ ap (λ i. total either_both a (c - t - 1) i q goal) at ∙ ap (λ i. total either_both a i (t + 1) q goal) left

  pub traced_none : (places : List ℕ) → start < 256 → places ≡ replicate 64 goal → total either_both a c 0 start goal ≡ true → Trail 0 start (set places 0 start)
  traced_none places place e go =
      let whole : c ≡ c - 0 = omega arith in
      let all : n ≡ n - 0 = omega arith in
      record {
        come = [];
        long = refl;
        held = ap (λ xs. set xs 0 start) e;
        leads = ap (λ i. total either_both a i 0 start goal) (sym whole) ∙ go;
        place = place;
        same = option_map_id _ ∙ ap (λ i. find (fits a goal i 0 start) (sequences (n - 0) start)) (sym whole) ∙ ap (λ i. find (fits a goal c 0 start) (sequences i start)) (sym all);
      }

  module _ (room : goal < 256) (c≤n : c ≤ n) (n≤63 : n ≤ 63) (kept : waits a goal c (n - c) ≡ true) (t p : ℕ) (places : List ℕ) (now : Trail t p places) where
    -- the choice by the table is the choice by what can be reached
    by_reach : (row : List Bool) → Open (t + 1) row → find (λ r. a t p r && get_or row r false) (next p) ≡ find (λ r. a t p r && total either_both a (c - (t + 1)) (t + 1) r goal) (next p)
    by_reach row h = first_same _ _ (next p) (All-weaker _ _ (λ r l. ap (λ b. a t p r && b) (h r l)) (next p) (next_below p))

    pub traced_some : (row : List Bool) → t < c → Open (t + 1) row → None ≡ find (λ r. a t p r && get_or row r false) (next p) → ⊥
    traced_some row l h none =
        let one_more : c - t ≡ suc (c - (t + 1)) = omega arith in
        let there = first_some (λ r. a t p r && total either_both a (c - (t + 1)) (t + 1) r goal) (next p)
        (sym (total_first either_both either_both_laws a (c - (t + 1)) t p goal) ∙ ap (λ i. total either_both a i t p goal) (sym one_more) ∙ now.leads) in
        none_some there.0 (none ∙ by_reach row h ∙ there.1)

    pub traced_more : (row : List Bool) (q : ℕ) → t < c → Open (t + 1) row → Some q ≡ find (λ r. a t p r && get_or row r false) (next p) → Trail (t + 1) q (set places (t + 1) q)
    traced_more row q l h e =
        let k = c - (t + 1) in
        let m = n - c in
        let one_more : c - t ≡ suc k = omega arith in
        let rest : n - (t + 1) ≡ more k m = omega (arith, more_is k m) in
        let whole : n - t ≡ suc (more k m) = omega (arith, more_is k m) in
        let at : t + suc k ≡ c = omega arith in
        let picked = sym (e ∙ by_reach row h) in
        let passed = and_parts (a t p q) (total either_both a k (t + 1) q goal) (first_passes (λ r. a t p r && total either_both a k (t + 1) r goal) (next p) q picked) in
        let left : 63 - t ≡ suc (63 - (t + 1)) = omega arith in
        record {
          come = now.come ++ q ∷ [];
          long = length_push now.come q ∙ ap (λ i. i + 1) now.long;
          held = ap (λ xs. set xs (t + 1) q) (now.held ∙ ap (λ i. start ∷ (now.come ++ replicate i goal)) left)
              ∙ set_at (start ∷ now.come) goal (replicate (63 - (t + 1)) goal) q (t + 1) (let long = now.long in omega arith)
              ∙ ap (λ xs. start ∷ xs) (sym (append_assoc now.come (q ∷ []) (replicate (63 - (t + 1)) goal)));
          leads = passed.1;
          place = first_holds (λ r. r < 256) _ (next p) q (next_below p) picked;
          same =
              sym (mapped_mapped (λ s. now.come ++ s) (λ s. q ∷ s) (λ s. (now.come ++ q ∷ []) ++ s) (λ s. sym (append_assoc now.come (q ∷ []) s)) _)
              ∙ ap (option_map (λ s. now.come ++ s))
              (ap (λ i. option_map (λ s. q ∷ s) (find (fits a goal k (t + 1) q) (sequences i q))) rest
              ∙ sym (first_step a goal room k m t p q (ap (λ i. waits a goal i m) at ∙ kept) picked)
              ∙ ap (λ i. find (fits a goal i t p) (sequences (suc (more k m)) p)) (sym one_more)
              ∙ ap (λ i. find (fits a goal (c - t) t p) (sequences i p)) (sym whole))
              ∙ now.same;
        }

    pub traced_all : t ≡ c → Traced a n start goal c places
    traced_all e =
        let none : c - t ≡ 0 = omega arith in
        let wait : n - t ≡ n - c = omega arith in
        let here : p ≡ goal = eqb-true p goal (sym (cond_same (eqb p goal)) ∙ sym (total_zero either_both either_both_laws a t p goal) ∙ ap (λ i. total either_both a i t p goal) (sym none) ∙ now.leads) in
        let left : (n - c) + (63 - n) ≡ 63 - t = omega arith in
        record {
          sequence = now.come ++ replicate (n - c) goal;
          fits = sym now.same
              ∙ ap (option_map (λ s. now.come ++ s))
              (ap (λ i. find (fits a goal i t p) (sequences (n - t) p)) none
              ∙ ap (λ i. find (fits a goal 0 t p) (sequences i p)) wait
              ∙ ap (λ r. find (fits a goal 0 t r) (sequences (n - c) r)) here
              ∙ first_stay a goal room (n - c) t (ap (λ i. waits a goal i (n - c)) e ∙ kept));
          places_are = now.held ∙ ap (λ xs. start ∷ xs)
              (ap (λ i. now.come ++ replicate i goal) (sym left)
              ∙ ap (λ xs. now.come ++ xs) (sym (replicate-append-replicate (n - c) (63 - n) goal))
              ∙ sym (append_assoc now.come (replicate (n - c) goal) (replicate (63 - n) goal)));
        }
