-- The scan by pairs is the theory's.
use Rattle.std.proofs.Common.{◌≡◌, ℕ, zero, suc, ◌+◌, ◌<◌, Bool, true, false, cond, ◌&&◌, ltb, List, Some, None, is_some, Option, sym, refl, ap, ◌∙◌, arith}
use Rattle.std.specs.Option.{MatchOption, option_map}
use Rattle.std.proofs.lemmas.Bool.{false≢true}
use Rattle.tree.specs.Lists.{or_else, first_below}
use Rattle.tree.specs.Setting.{Setting}
use Rattle.tree.specs.Plans.{Plan, meet_at, collide_in}
use Rattle.tree.specs.Conflicts.{Conflict, meeting, collision, scan, first_conflict}
use Rattle.engine.specs.Table.{plan_of, at_of, conflict_of}
use Rattle.engine.specs.Scans.{pair_of, at_pair, at_sled, at_time, scanned}
use Rattle.engine.specs.declared.scan.Pair.{Pair}
use Rattle.engine.specs.declared.conflict.Conflict as own
use Rattle.engine.specs.declared.conflict.Conflict.TheVariants.{Meeting, Collision}
use Rattle.engine.proofs.Plans.{place_of}

mapped_else : {A B : Type 0} (g : A → B) (o p : Option A) → option_map g (or_else o p) ≡ or_else (option_map g o) (option_map g p)
mapped_else g None p = refl
mapped_else g (Some x) p = refl

mapped_below : {A B : Type 0} (g : A → B) (f : ℕ → Option A) (h : ℕ → Option B) (n : ℕ) → ((k : ℕ) → k < n → option_map g (f k) ≡ h k) → option_map g (first_below f n) ≡ first_below h n
unfolding first_below
mapped_below g f h zero e = refl
mapped_below g f h (suc n) e =
    mapped_else g (first_below f n) (f n) ∙ ap (λ o. or_else o (option_map g (f n))) (mapped_below g f h n (λ k l. e k (omega arith))) ∙ ap (or_else (first_below h n)) (e n (omega arith))

mapped_cond : {A B : Type 0} (g : A → B) (b : Bool) (x : A) → option_map g (cond b (Some x) None) ≡ cond b (Some (g x)) None
mapped_cond g true x = refl
mapped_cond g false x = refl

module _ (sleds : ℕ) (make : (t i j : ℕ) → Conflict) (test : (t i j : ℕ) → Bool) (n : ℕ) where
  abbrev made : Pair → Conflict
  made p = make p.instant p.first p.second

  scan_is : option_map made (scanned sleds test n) ≡ scan sleds make test n
  unfolding scanned at_time at_sled at_pair scan
  scan_is =
      mapped_below made (at_time sleds test) _ n (λ t _.
      mapped_below made (at_sled sleds test t) _ sleds (λ i _.
      mapped_below made (at_pair sleds test t i) _ sleds (λ j _.
      mapped_cond made (ltb i j && test t i j) (pair_of t i j))))

module _ (S : Setting) (rs : List (List ℕ)) where
  abbrev plan : Plan
  plan = plan_of S rs

  pub meets_same : (t i j : ℕ) → t < S.horizon + 1 → i < j → j < S.sleds → S.meets i j (at_of rs i t) (at_of rs j t) ≡ meet_at S plan t i j
  meets_same t i j h l m =
      let a = place_of S rs i t (omega arith) (omega arith) in
      let b = place_of S rs j t m (omega arith) in
      cc

  pub collides_same : (t i j : ℕ) → t < S.horizon → i < j → j < S.sleds → S.collides i j (at_of rs i t) (at_of rs i (t + 1)) (at_of rs j t) (at_of rs j (t + 1)) ≡ collide_in S plan t i j
  collides_same t i j h l m =
      let a = place_of S rs i t (omega arith) (omega arith) in
      let b = place_of S rs j t m (omega arith) in
      let a' = place_of S rs i (suc t) (omega arith) (omega arith) in
      let b' = place_of S rs j (suc t) m (omega arith) in
      let e : t + 1 ≡ suc t = omega arith in
      cc

  abbrev collisions : Option Conflict
  collisions = scan S.sleds collision (collide_in S plan) S.horizon

  -- what the scan for meetings finds, and else the first collision
  after_meetings : (o : Option Pair) → o ≡ scanned S.sleds (meet_at S plan) (S.horizon + 1) → or_else (option_map (made S.sleds meeting (meet_at S plan) (suc S.horizon)) o) collisions ≡ first_conflict S plan
  unfolding first_conflict
  after_meetings o e =
      let all : S.horizon + 1 ≡ suc S.horizon = omega arith in
      ap (λ q. or_else (option_map (made S.sleds meeting (meet_at S plan) (suc S.horizon)) q) collisions) (e ∙ ap (scanned S.sleds (meet_at S plan)) all)
      ∙ ap (λ q. or_else q collisions) (scan_is S.sleds meeting (meet_at S plan) (suc S.horizon))

  collision_first : (o : Option Pair) → None ≡ scanned S.sleds (meet_at S plan) (S.horizon + 1) → o ≡ scanned S.sleds (collide_in S plan) S.horizon →
      option_map (λ (q : Pair). collision q.instant q.first q.second) o ≡ first_conflict S plan
  collision_first o none e =
      ap (option_map (λ (q : Pair). collision q.instant q.first q.second)) e
      ∙ scan_is S.sleds collision (collide_in S plan) S.horizon ∙ after_meetings None none

  conflict_same : (o : Option Pair) → option_map conflict_of (option_map Collision o) ≡ option_map (λ (q : Pair). collision q.instant q.first q.second) o
  conflict_same None = refl
  conflict_same (Some p) = refl

  -- r is the meeting that is found first, and else what `after` says of the collision that is
  pub conflict_first : {after : Type 0} (o : Option Pair) (w r : Option own.Conflict) → w ≡ option_map Meeting o → o ≡ scanned S.sleds (meet_at S plan) (S.horizon + 1) → MatchOption w after (λ x. r ≡ Some x) →
      (after → (q : Option Pair) × (q ≡ scanned S.sleds (collide_in S plan) S.horizon) × (r ≡ option_map Collision q)) → option_map conflict_of r ≡ first_conflict S plan
  conflict_first None None r same none e told =
      let h = told e in
      ap (option_map conflict_of) h.2 ∙ conflict_same h.0 ∙ collision_first h.0 none h.1
  conflict_first None (Some x) r same none e told = absurd (false≢true (sym (ap is_some same)))
  conflict_first (Some p) None r same some e told = absurd (false≢true (ap is_some same))
  conflict_first (Some p) (Some x) r same some e told = ap (option_map conflict_of) (e ∙ same) ∙ after_meetings (Some p) some
