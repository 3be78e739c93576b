-- A conflict of a node calls for two constraints, and a collision-free plan breaks at most one of them.
use Rattle.std.proofs.Common.{◌≡◌, ℕ, zero, suc, ◌<◌, ◌≤◌, Bool, true, false, cond, not, ◌&&◌, eqb, ltb, ◌⊎◌, List, ◌∷◌, Some, None, Option, sym, refl, subst, inl, inr, ⊎_elim, arith}
use Rattle.std.proofs.lemmas.Bool.{cases_lt, cases_order, cases_Bool, both_ways, and_parts, and_from, ltb-true, lt-ltb, eqb-true, true≢false, and_cases, cond_both}
use Rattle.tree.specs.Lists.{first_below}
use Rattle.tree.specs.Setting.{Setting, SettingTerms}
use Rattle.tree.specs.Plans.{Plan, CollisionFree, IsPlan, route, place, meet_at, collide_in}
use Rattle.tree.specs.Constraints.{Constraint, SledConstraint, allows, obeys, constraints_on, Obeys}
use Rattle.tree.specs.Conflicts.{Conflict, meeting, collision, HasConflict, scan, first_conflict, NotAfter, IsFirst}
use Rattle.tree.specs.Search.{Search, Terms}
use Rattle.tree.specs.Tree.{Node, first_constraint, second_constraint}
use Rattle.tree.specs.Theorems.{ConflictIsFirst, ConflictIsSettled}
use Rattle.tree.proofs.Lists.{absent, same_some, first_below_none, first_below_some, or_else_none, or_else_some}

-- sleds of a collision-free plan do not meet at any instant
pub free_apart : {S : Setting} → SettingTerms S → {p : Plan} → CollisionFree S p → (t i j : ℕ) → t < suc S.horizon → i < j → j < S.sleds → meet_at S p t i j ≡ true → ⊥
free_apart ok free zero i j h l m e = both_ways _ (free.apart 0 i j ok.has_step l m) (ok.meets_before i j _ _ _ _ e)
free_apart ok free (suc t) i j h l m e = both_ways _ (free.apart t i j (omega arith) l m) (ok.meets_after i j _ _ _ _ e)

-- what a scan finds
cond_some : {A : Type 0} {x y : A} (b : Bool) → cond b (Some x) None ≡ Some y → (b ≡ true) × (x ≡ y)
cond_some true e = (refl, same_some e)
cond_some false e = absent e refl

cond_none : {A : Type 0} (x : A) (b : Bool) → cond b (Some x) None ≡ None → b ≡ false
cond_none x true e = absent refl e
cond_none x false e = refl

module _ (sleds : ℕ) (conflict : (t i j : ℕ) → Conflict) (test : (t i j : ℕ) → Bool) where
  abbrev at_pair : (t i j : ℕ) → Option Conflict
  at_pair t i j = cond (ltb i j && test t i j) (Some (conflict t i j)) None

  abbrev at_sled : (t i : ℕ) → Option Conflict
  at_sled t i = first_below (at_pair t i) sleds

  abbrev at_time : ℕ → Option Conflict
  at_time t = first_below (at_sled t) sleds

  pair_none : (t i j : ℕ) → i < j → at_pair t i j ≡ None → test t i j ≡ false
  pair_none t i j l e =
      ⊎_elim (λ (g : ltb i j ≡ false). absurd (both_ways _ g (lt-ltb i j l))) (λ g. g) (and_cases (ltb i j) (test t i j) (cond_none (conflict t i j) (ltb i j && test t i j) e))

  sled_none : (t i j : ℕ) → i < j → j < sleds → at_sled t i ≡ None → test t i j ≡ false
  sled_none t i j l m e = pair_none t i j l (first_below_none (at_pair t i) sleds e j m)

  time_none : (t i j : ℕ) → i < j → j < sleds → at_time t ≡ None → test t i j ≡ false
  time_none t i j l m e = sled_none t i j l m (first_below_none (at_sled t) sleds e i (omega arith))

  scan_none : (n : ℕ) → scan sleds conflict test n ≡ None → (t i j : ℕ) → t < n → i < j → j < sleds → test t i j ≡ false
  unfolding scan
  scan_none n e t i j h l m = time_none t i j l m (first_below_none at_time n e t h)

  record Scanned (n : ℕ) (c : Conflict) : Type 0 where
    t : ℕ
    i : ℕ
    j : ℕ
    in_time : t < n
    ordered : i < j
    below : j < sleds
    passes : test t i j ≡ true
    is : conflict t i j ≡ c
    first : (t' i' j' : ℕ) → i' < j' → j' < sleds → test t' i' j' ≡ true → NotAfter t i j t' i' j'

  scan_some : (n : ℕ) (c : Conflict) → scan sleds conflict test n ≡ Some c → Scanned n c
  unfolding scan
  scan_some n c e =
      let by_t = first_below_some at_time n e in
      let t = by_t.0 in
      let by_i = first_below_some (at_sled t) sleds by_t.2 in
      let i = by_i.0 in
      let by_j = first_below_some (at_pair t i) sleds by_i.2 in
      let j = by_j.0 in
      let both = cond_some (ltb i j && test t i j) by_j.2 in
      let parts = and_parts (ltb i j) (test t i j) both.0 in
      record {
        t = t;
        i = i;
        j = j;
        in_time = by_t.1;
        ordered = ltb-true i j parts.0;
        below = by_j.1;
        passes = parts.1;
        is = both.1;
        first = λ t' i' j' l m x.
            ⊎_elim
            (λ (a : t ≡ t').
            let x₁ : test t i' j' ≡ true = subst (λ w. test w i' j' ≡ true) (sym a) x in
            inr (
              a,
              ⊎_elim
                  (λ (b : i ≡ i').
                  let x₂ : test t i j' ≡ true = subst (λ w. test t w j' ≡ true) (sym b) x₁ in
                  inr (b, ⊎_elim (λ (h : j' < j). absurd (both_ways _ (pair_none t i j' (omega arith) (by_j.3 j' h)) x₂)) (λ h. h) (cases_lt j' j)))
                  (λ b. ⊎_elim inl (λ (h : i' < i). absurd (both_ways _ (sled_none t i' j' l m (by_i.3 i' h)) x₁)) b) (cases_order i i'),
            ))
            (λ a. ⊎_elim inl (λ (h : t' < t). absurd (both_ways _ (time_none t' i' j' l m (by_t.3 t' h)) x)) a) (cases_order t t');
      }

module _ (S : Setting) (p : Plan) where
  abbrev meetings : Option Conflict
  meetings = scan S.sleds meeting (meet_at S p) (suc S.horizon)

  abbrev collisions : Option Conflict
  collisions = scan S.sleds collision (collide_in S p) S.horizon

  no_meeting : meetings ≡ None → (t i j : ℕ) → HasConflict S p (meeting t i j) → ⊥
  no_meeting e t i j (in_time, l, m, x) = both_ways _ (scan_none S.sleds meeting (meet_at S p) (suc S.horizon) e t i j (omega arith) l m) x

  first_found : (c : Conflict) → first_conflict S p ≡ Some c → IsFirst S p (Some c)
  unfolding first_conflict
  first_found c e =
      ⊎_elim
      (λ (g : meetings ≡ Some c).
      let r = scan_some S.sleds meeting (meet_at S p) (suc S.horizon) c g in
      subst (λ c. IsFirst S p (Some c)) r.is
      ((let h : r.t ≤ S.horizon = omega (arith, r.in_time) in h, r.ordered, r.below, r.passes), λ t i j x. r.first t i j x.1 x.2 x.3))
      (λ (g : (meetings ≡ None) × (collisions ≡ Some c)).
      let r = scan_some S.sleds collision (collide_in S p) S.horizon c g.1 in
      subst (λ c. IsFirst S p (Some c)) r.is ((r.in_time, r.ordered, r.below, r.passes), no_meeting g.0, λ t i j x. r.first t i j x.1 x.2 x.3))
      (or_else_some meetings collisions e)

  none_found : first_conflict S p ≡ None → IsFirst S p None
  unfolding first_conflict
  none_found e (meeting t i j) x = no_meeting (or_else_none meetings collisions e).0 t i j x
  none_found e (collision t i j) (in_time, l, m, x) =
      both_ways _ (scan_none S.sleds collision (collide_in S p) S.horizon (or_else_none meetings collisions e).1 t i j in_time l m) x

  pub conflict_is_one : (c : Conflict) → first_conflict S p ≡ Some c → HasConflict S p c
  conflict_is_one (meeting t i j) e = (first_found (meeting t i j) e).0
  conflict_is_one (collision t i j) e = (first_found (collision t i j) e).0

  pub no_conflict : first_conflict S p ≡ None → IsPlan S p → CollisionFree S p
  no_conflict e plan =
      record {
        plan = plan;
        apart = λ t i j h l m. ⊎_elim (λ (x : collide_in S p t i j ≡ true). absurd (none_found e (collision t i j) (h, l, m, x))) (λ x. x) (cases_Bool (collide_in S p t i j));
      }

pub conflict_is_first : ConflictIsFirst
conflict_is_first S p = go (first_conflict S p) refl
  where
    go : (o : Option Conflict) → first_conflict S p ≡ o → IsFirst S p o
    go None e = none_found S p e
    go (Some c) e = first_found S p c e

same_spot : (t i j t' i' j' : ℕ) → NotAfter t i j t' i' j' → NotAfter t' i' j' t i j → (t ≡ t') × (i ≡ i') × (j ≡ j')
same_spot t i j t' i' j' (inl a) (inl b) = absurd (omega arith)
same_spot t i j t' i' j' (inl a) (inr b) = absurd (omega (arith, b.0))
same_spot t i j t' i' j' (inr a) (inl b) = absurd (omega (arith, a.0))
same_spot t i j t' i' j' (inr (e, inl a)) (inr (g, inl b)) = absurd (omega arith)
same_spot t i j t' i' j' (inr (e, inl a)) (inr (g, inr b)) = absurd (omega (arith, b.0))
same_spot t i j t' i' j' (inr (e, inr a)) (inr (g, inl b)) = absurd (omega (arith, a.0))
same_spot t i j t' i' j' (inr (e, inr a)) (inr (g, inr b)) = (e, a.0, omega (arith, a.1, b.1))

same_first : (S : Setting) (p : Plan) (o q : Option Conflict) → IsFirst S p o → IsFirst S p q → o ≡ q
same_first S p None None h k = refl
same_first S p None (Some (meeting t i j)) h k = absurd (h (meeting t i j) k.0)
same_first S p None (Some (collision t i j)) h k = absurd (h (collision t i j) k.0)
same_first S p (Some (meeting t i j)) None h k = absurd (k (meeting t i j) h.0)
same_first S p (Some (collision t i j)) None h k = absurd (k (collision t i j) h.0)
same_first S p (Some (meeting t i j)) (Some (meeting t' i' j')) h k =
    let e = same_spot t i j t' i' j' (h.1 t' i' j' k.0) (k.1 t i j h.0) in
    cc (e.0, e.1, e.2)
same_first S p (Some (meeting t i j)) (Some (collision t' i' j')) h k = absurd (k.1 t i j h.0)
same_first S p (Some (collision t i j)) (Some (meeting t' i' j')) h k = absurd (h.1 t' i' j' k.0)
same_first S p (Some (collision t i j)) (Some (collision t' i' j')) h k =
    let e = same_spot t i j t' i' j' (h.2 t' i' j' k.0) (k.2 t i j h.0) in
    cc (e.0, e.1, e.2)

pub conflict_is_settled : ConflictIsSettled
conflict_is_settled S p o h = same_first S p (first_conflict S p) o (conflict_is_first S p) h

-- one constraint more, and one less
pub obeys_more : (S : Setting) (b : SledConstraint) (trail : List SledConstraint) (p : Plan) → Obeys S trail p → allows b.constraint (route p b.sled) ≡ true → Obeys S (b ∷ trail) p
unfolding constraints_on obeys
obeys_more S b trail p h a s l =
    cond_both (eqb b.sled s) (b.constraint ∷ constraints_on s trail) (constraints_on s trail) (λ constraints. obeys constraints (route p s) ≡ true)
    (λ e. and_from (allows b.constraint (route p s)) _ (subst (λ i. allows b.constraint (route p i) ≡ true) (eqb-true b.sled s e) a) (h s l)) (λ _. h s l)

without_constraint : (x : Bool) (b : Constraint) (constraints : List Constraint) (r : List ℕ) → obeys (cond x (b ∷ constraints) constraints) r ≡ true → obeys constraints r ≡ true
unfolding obeys
without_constraint true b constraints r e = (and_parts (allows b r) (obeys constraints r) e).1
without_constraint false b constraints r e = e

pub obeys_less : (S : Setting) (b : SledConstraint) (trail : List SledConstraint) (p : Plan) → Obeys S (b ∷ trail) p → Obeys S trail p
unfolding constraints_on
obeys_less S b trail p h s l = without_constraint (eqb b.sled s) b.constraint (constraints_on s trail) (route p s) (h s l)

-- of two tests that do not both pass, one fails
not_both : (x y : Bool) → (x ≡ true → y ≡ true → ⊥) → (not x ≡ true) ⊎ (not y ≡ true)
not_both false y h = inl refl
not_both true false h = inr refl
not_both true true h = absurd (h refl refl)

-- a collision-free plan that obeys a node's trail obeys the first or the second child's
module _ (P : Search) (ok : Terms P) (n : Node) (p : Plan) (free : CollisionFree P.setting p) (h : Obeys P.setting n.trail p) where
  pub split : (c : Conflict) → HasConflict P.setting n.routes c →
      Obeys P.setting (first_constraint P n c ∷ n.trail) p ⊎ Obeys P.setting (second_constraint P n c ∷ n.trail) p
  unfolding first_constraint second_constraint allows
  split (meeting t i j) (in_time, l, m, e) =
      let S = P.setting in
      let u = place n.routes i t in
      let v = place n.routes j t in
      ⊎_elim (λ a. inl (obeys_more S (first_constraint P n (meeting t i j)) n.trail p h a))
      (λ a. inr (obeys_more S (second_constraint P n (meeting t i j)) n.trail p h a))
      (not_both (P.rule.first n.trail t i j u v (place p i t)) (P.rule.second n.trail t i j u v (place p j t))
      (λ a b. free_apart ok.setting free t i j (omega arith) l m (ok.rule.all_meet n.trail t i j u v l m e (place p i t) (place p j t) a b)))
  split (collision t i j) (in_time, l, m, e) =
      let S = P.setting in
      let u = place n.routes i t in
      let u' = place n.routes i (suc t) in
      let v = place n.routes j t in
      let v' = place n.routes j (suc t) in
      ⊎_elim (λ a. inl (obeys_more S (first_constraint P n (collision t i j)) n.trail p h a))
      (λ a. inr (obeys_more S (second_constraint P n (collision t i j)) n.trail p h a))
      (not_both (eqb (place p i t) u && eqb (place p i (suc t)) u') (eqb (place p j t) v && eqb (place p j (suc t)) v')
      (λ a b.
      let x = and_parts (eqb (place p i t) u) (eqb (place p i (suc t)) u') a in
      let y = and_parts (eqb (place p j t) v) (eqb (place p j (suc t)) v') b in
      let x₀ = eqb-true (place p i t) u x.0 in
      let x₁ = eqb-true (place p i (suc t)) u' x.1 in
      let y₀ = eqb-true (place p j t) v y.0 in
      let y₁ = eqb-true (place p j (suc t)) v' y.1 in
      let f = free.apart t i j in_time l m in
      true≢false (cc)))
