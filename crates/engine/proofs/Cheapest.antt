-- The cheapest open record is the theory's cheapest open node.
use Rattle.std.proofs.Common.{◌≡◌, ℕ, zero, suc, ◌<◌, ◌≤◌, Bool, true, false, cond, List, [], ◌∷◌, length, get_or, slice_get, filter, is_some, Some, None, Option, Bor, sym, refl, ap, ap₂, ◌∙◌, subst, ⊎_elim, arith}
use Rattle.std.proofs.lemmas.Bool.{false≢true, both_ways, cases_Bool, cases_eq, cases_order}
use Rattle.std.proofs.lemmas.Option.{slice_get_past}
use Rattle.std.proofs.lemmas.Map.Keys.{ge_from_not_lt}
use Rattle.std.specs.Option.{MatchOption, IfSome, IsSomeAnd, option_map}
use Rattle.std.specs.Ordering.{nat_cmp, ordering_then, is_lt}
use Rattle.std.specs.Cmp.{nat_cmp_is}
use Rattle.std.specs.declared.cmp.Ordering.{Ordering}
use Rattle.std.specs.declared.cmp.Ordering.TheVariants.{Less, Equal, Greater}
use Rattle.std.specs.Fn.{Called, CalledAt}
use Rattle.std.specs.Iterator.{ActsAsAt}
use Rattle.std.specs.Iterator.Runs.{Run, SomeRun, WholeRun, EachRunFrom, AllItems, AnyItem, CallKeepsClosure, IsFilterRun, NoKeyBeyond}
use Rattle.std.proofs.iter.runs.Made.{at-is}
use Rattle.std.proofs.iter.runs.Sources.{iter_runs}
use Rattle.std.specs.Slice.Iter.{iter_rest, iter_steps}
use Rattle.std.specs.Iterator.Runs.{ProjectsRun}
use Rattle.std.specs.declared.slice.Iter.{Iter}
use Rattle.engine.specs.Table.{empty}
use denote.Param.Members.{Mut}
use Rattle.tree.specs.Lists.{Nth}
use Rattle.tree.specs.Setting.{Setting}
use Rattle.tree.specs.Plans.{sum}
use Rattle.tree.specs.Tree.{Found, CheapestOpen, cheapest}
use Rattle.tree.specs.Tree as tree
use Rattle.tree.proofs.Nodes.{cheapest_is_lowest}
use Rattle.tree.proofs.Lists.{nth_below}
use Rattle.engine.specs.Model.{Model}
use Rattle.engine.specs.declared.node.Node.{Node}
use Rattle.engine.specs.Table.{Tracks, blank, found_of}
use Rattle.engine.specs.Least.{open_at, sum_at, CheapestSoFar}

-- an item that passes the test is still there when those that fail it are left out
kept : {A : Type 0} (test : A → Bool) (Q : A → Type 0) (xs : List A) → ((k : ℕ) → IfSome (slice_get (filter test xs) k) Q) → (k : ℕ) (x : A) → slice_get xs k ≡ Some x → test x ≡ true → Q x
kept test Q [] all k x at pass = absurd (false≢true (ap is_some at))
kept test Q (y ∷ xs) all zero x at pass =
    let same : y ≡ x = cc in
    subst Q same (subst (λ b. IfSome (slice_get (cond b (y ∷ filter test xs) (filter test xs)) 0) Q) (ap test same ∙ pass) (all 0))
kept test Q (y ∷ xs) all (suc k) x at pass = kept test Q xs (later (test y) all) k x at pass
  where
    later : (b : Bool) → ((i : ℕ) → IfSome (slice_get (cond b (y ∷ filter test xs) (filter test xs)) i) Q) → (i : ℕ) → IfSome (slice_get (filter test xs) i) Q
    later true h i = h (suc i)
    later false h i = h i

both : {A : Type 0} {P Q : A → Type 0} (o : Option A) → IsSomeAnd o P → IfSome o Q → (x : A) × P x × Q x
both None e h = absurd e
both (Some x) e h = (x, e, h)

abbrev key_cmp : ℕ × ℕ → ℕ × ℕ → Ordering
key_cmp x y = ordering_then (nat_cmp x.0 y.0) (nat_cmp x.1 y.1)

front : (o p : Ordering) → is_lt (ordering_then o p) ≡ false → is_lt o ≡ false
front Less p e = e
front Equal p e = refl
front Greater p e = refl

-- a sum with its number that is not before another
not_before : (a b i j : ℕ) → is_lt (key_cmp (a, i) (b, j)) ≡ false → (b ≤ a) × (a ≡ b → j ≤ i)
not_before a b i j e = (
  ge_from_not_lt a b (front (nat_cmp a b) (nat_cmp i j) e),
  λ same. ge_from_not_lt i j (subst (λ o. is_lt (ordering_then o (nat_cmp i j)) ≡ false) (sym (nat_cmp_is a b Equal same)) e),
)

abbrev same_key : (x : ℕ × Bor Node) → ℕ × ℕ
same_key x = (x.1.now.sum, x.0)

abbrev test : ℕ × Bor Node → Bool
test x = x.1.now.is_open

same_of : (o : Option (ℕ × Bor Node)) (y x : ℕ × Bor Node) → IsSomeAnd o (λ z. z ≡ y) → o ≡ Some x → x ≡ y
same_of None y x h e = absurd h
same_of (Some z) y x h e = let zx : z ≡ x = cc in sym zx ∙ h

numbered_at : (k : ℕ) (v : Node) (o : Option (ℕ × Bor Node)) → IfSome o (λ x. x.0 ≡ k) → option_map (λ (y : Bor Node). y.now) (option_map (λ (x : ℕ × Bor Node). x.1) o) ≡ Some v → (x : ℕ × Bor Node) × (o ≡ Some x) × (x.0 ≡ k) × (x.1.now ≡ v)
numbered_at k v None h e = absurd (false≢true (ap is_some e))
numbered_at k v (Some x) h e = (x, refl, h, cc)

-- the least key of those records that are open
module _ (table : List Node) {S F : Type 0} {outer : S → Option (ℕ × Bor Node) → S → Type 0} {g : Mut F (Bor (ℕ × Bor Node) × Unit {0}) Bool} {f : F}
    (asks : CallKeepsClosure g f) (opens : (a : Bor (ℕ × Bor Node) × Unit {0}) (r : Bool) (q : F) → Called g f a r q → r ≡ a.0.now.1.now.is_open)
    (it : Iter Node) (all : iter_rest it ≡ table) {E : Type 0} {middle : E → Option (ℕ × Bor Node) → E → Type 0} (e : E)
    (numbered : EachRunFrom middle e (λ q. ((k : ℕ) → IfSome (q.at k) (λ x. x.0 ≡ k)) × SomeRun (iter_steps {A = Node}) it (λ u. ProjectsRun q u (λ x. x.1) × (u.whole ≡ q.whole))))
    (s : S) (filtered : EachRunFrom outer s (λ p. SomeRun middle e (λ q. IsFilterRun p q g f))) where
  acts : ActsAsAt g f test
  acts x r q c = (asks (c.shown, tt) r q c.called, opens (c.shown, tt) r q c.called ∙ ap test c.shows)

  module _ (p : Run outer) (from : p.from ≡ s) (whole : p.whole ≡ true) where
    abbrev source : SomeRun middle e (λ q. IsFilterRun p q g f)
    source = filtered p p.seen from

    pub pair_at : (k : ℕ) → k < length table → (x : ℕ × Bor Node) × (source.0.at k ≡ Some x) × (x.0 ≡ k) × (x.1.now ≡ get_or table k empty)
    pair_at k l =
        let n = numbered source.0 source.0.seen source.1 in
        let u = n.1.0 in
        let up = iter_runs u u.seen in
        let same : iter_rest u.from ≡ table = ap iter_rest n.1.1 ∙ all in
        let long = up.1 (n.1.2.1 ∙ source.2.0 ∙ whole) in
        numbered_at k (get_or table k empty) (source.0.at k) (n.0 k)
        (ap (option_map (λ (y : Bor Node). y.now)) (sym (n.1.2.0.2 k)) ∙ up.2 k empty (omega (arith, long, ap length same)) ∙ ap (λ (ns : List Node). Some (get_or ns k empty)) same)

    pub of_open : (Q : ℕ × Bor Node → Type 0) → AllItems p Q → (k : ℕ) → k < length table → open_at table k ≡ true → (x : ℕ × Bor Node) × Q x × (x.0 ≡ k) × (x.1.now ≡ get_or table k empty)
    of_open Q items k l stands =
        let x = pair_at k l in
        (x.0, kept test Q source.0.items (λ i. subst (λ (o : Option (ℕ × Bor Node)). IfSome o Q) (at-is p i ∙ ap (λ (xs : List (ℕ × Bor Node)). slice_get xs i) (source.2.4 test acts)) (items i)) k x.0 (sym (at-is source.0 k) ∙ x.1) (ap (λ (y : Node). y.is_open) x.3 ∙ stands), x.2, x.3)

    pub open_item : (m : ℕ × Bor Node) → AnyItem p (λ x. x ≡ m) → (m.0 < length table) × (m.1.now ≡ get_or table m.0 empty) × (m.1.now.is_open ≡ true)
    open_item m (i, l, any) =
        let in_range = both (p.at i) any (source.2.2 i) in
        let j = in_range.2.0 in
        let n = numbered source.0 source.0.seen source.1 in
        let up = iter_runs n.1.0 n.1.0.seen in
        let same : iter_rest n.1.0.from ≡ table = ap iter_rest n.1.1 ∙ all in
        let short : j < length table = omega (arith, in_range.2.1, n.1.2.0.0, up.0, ap length same) in
        let x = pair_at j short in
        let is : x.0 ≡ m = same_of (source.0.at j) in_range.0 x.0 in_range.2.2 x.1 ∙ in_range.1 in
        let passed = both (p.at i) any (source.2.3 asks i) in (
          subst (λ (z : ℕ × Bor Node). z.0 < length table) is (omega (arith, x.2, short)),
          subst (λ (z : ℕ × Bor Node). z.1.now ≡ get_or table z.0 empty) is (x.3 ∙ ap (λ (k : ℕ). get_or table k empty) (sym x.2)),
          sym (ap test passed.1) ∙ sym (acts passed.0 true f passed.2).1,
        )

  module _ {G : Type 0} {h : Mut G (Bor (ℕ × Bor Node) × Unit {0}) (ℕ × ℕ)} {key : G} (tells : CallKeepsClosure h key) (keys : (a : Bor (ℕ × Bor Node) × Unit {0}) (r : ℕ × ℕ) (q : G) → Called h key a r q → r ≡ same_key a.0.now) where
    key_of : (x : ℕ × Bor Node) (r : ℕ × ℕ) → CalledAt h key x r key → r ≡ same_key x
    key_of x r c = keys (c.shown, tt) r key c.called ∙ ap same_key c.shows

    pub least_of_open : (r : Option (ℕ × Bor Node)) → WholeRun outer s (λ p. MatchOption r (p.len ≡ 0) (λ m. AnyItem p (λ x. x ≡ m) × NoKeyBeyond p h key is_lt key_cmp m)) → CheapestSoFar table (length table) (option_map (λ (x : ℕ × Bor Node). x.0) r)
    least_of_open None (p, from, whole, none) = λ k l. ⊎_elim (λ (stands : open_at table k ≡ true).
        absurd (of_open p from whole (λ _. ⊥) (λ i. subst (λ (o : Option (ℕ × Bor Node)). IfSome o (λ _. ⊥)) (sym (at-is p i ∙ slice_get_past p.items i (omega (arith, p.long, none)))) tt) k l stands).1) (λ closed. closed) (cases_Bool (open_at table k))
    least_of_open (Some m) (p, from, whole, (any, beyond)) =
        let item = open_item p from whole m any in
        let best = beyond tells in
        let own : best.0 ≡ (sum_at table m.0, m.0) = key_of m best.0 best.1 ∙ ap {B = ℕ × ℕ} (λ (y : Node). (y.sum, m.0)) item.1 in
        let later : (k : ℕ) → k < length table → open_at table k ≡ true → (sum_at table m.0 ≤ sum_at table k) × (sum_at table k ≡ sum_at table m.0 → m.0 ≤ k) = λ k l stands.
        let other = of_open p from whole (λ x. (j : ℕ × ℕ) × CalledAt h key x j key × (is_lt (key_cmp j best.0) ≡ false)) best.2 k l stands in
        let theirs : other.1.0 ≡ (sum_at table k, k) = key_of other.0 other.1.0 other.1.1 ∙ ap {B = ℕ × ℕ} (λ (y : Node). (y.sum, other.0.0)) other.3 ∙ ap {B = ℕ × ℕ} (λ (n : ℕ). (sum_at table k, n)) other.2 in
        not_before (sum_at table k) (sum_at table m.0) k m.0 (ap₂ (λ (x y : ℕ × ℕ). is_lt (key_cmp x y)) (sym theirs) (sym own) ∙ other.1.2) in
        record {
          below = item.0;
          stands_open = sym (ap (λ (y : Node). y.is_open) item.1) ∙ item.2;
          least = λ k l stands. (later k l stands).0;
          lowest = λ k l stands.
              let after = later k (omega (arith, item.0)) stands in
              ⊎_elim (λ (same : sum_at table k ≡ sum_at table m.0). absurd (omega (arith, after.1 same))) (λ different. omega (arith, after.0, different)) (cases_eq (sum_at table k) (sum_at table m.0));
        }

pub nth_getD : {A : Type 0} (d : A) (xs : List A) (k : ℕ) → k < length xs → Nth xs k (get_or xs k d)
nth_getD d [] k h = absurd (omega arith)
nth_getD d (x ∷ xs) zero h = refl
nth_getD d (x ∷ xs) (suc k) h = nth_getD d xs k (omega arith)

pub getD_nth : {A : Type 0} (d x : A) (xs : List A) (k : ℕ) → Nth xs k x → get_or xs k d ≡ x
getD_nth d x [] k h = absurd h
getD_nth d x (y ∷ xs) zero h = h
getD_nth d x (y ∷ xs) (suc k) h = getD_nth d x xs k h

module _ (m : Model) (table : List Node) (nodes : List tree.Node) (t : Tracks m table nodes) where
  abbrev S : Setting
  S = m.setting

  abbrev node_at : ℕ → tree.Node
  node_at k = get_or nodes k blank

  nth_of : (k : ℕ) → k < length table → Nth nodes k (node_at k)
  nth_of k h = nth_getD blank nodes k (omega (arith, t.size))

  open_is : (k : ℕ) → k < length table → (node_at k).is_open ≡ open_at table k
  open_is k h = (t.each k h).is_open

  sum_is : (k : ℕ) → k < length table → sum_at table k ≡ sum S (node_at k).routes
  sum_is k h = (t.each k h).sum_is

  same_found : (o : Option Found) → CheapestOpen S nodes o → (r : Option ℕ) → CheapestSoFar table (length table) r → o ≡ option_map (found_of nodes) r
  same_found None h None b = refl
  same_found None h (Some k) b = absurd (h k (node_at k) (nth_of k b.below) (open_is k b.below ∙ b.stands_open))
  same_found (Some f) h None b =
      let l : f.number < length table = omega (arith, nth_below f.node nodes f.number h.stands, t.size) in
      let same = getD_nth blank f.node nodes f.number h.stands in
      absurd (both_ways _ (b f.number l) (sym (open_is f.number l) ∙ ap (λ (x : tree.Node). x.is_open) same ∙ h.is_open))
  same_found (Some f) h (Some k) b =
      let l : f.number < length table = omega (arith, nth_below f.node nodes f.number h.stands, t.size) in
      let same = getD_nth blank f.node nodes f.number h.stands in
      let open_f : open_at table f.number ≡ true = sym (open_is f.number l) ∙ ap (λ (x : tree.Node). x.is_open) same ∙ h.is_open in
      let open_k : (node_at k).is_open ≡ true = open_is k b.below ∙ b.stands_open in
      let sum_f : sum_at table f.number ≡ sum S f.node.routes = sum_is f.number l ∙ ap (λ (x : tree.Node). sum S x.routes) same in
      let sum_k = sum_is k b.below in
      let number : f.number ≡ k = ⊎_elim (λ e. e)
      (⊎_elim (λ (z : f.number < k). absurd (omega (arith, b.lowest f.number z open_f, h.least k (node_at k) (nth_of k b.below) open_k)))
      (λ (z : k < f.number). absurd (omega (arith, b.least f.number l open_f, h.lowest k (node_at k) z (nth_of k b.below) open_k))))
      (cases_order f.number k) in
      ap {B = Option Found} Some (λ i. record { number = number i; node = (sym same ∙ ap node_at number) i })

  pub cheapest_of : (r : Option ℕ) → CheapestSoFar table (length table) r → cheapest S nodes ≡ option_map (found_of nodes) r
  cheapest_of r b = same_found (cheapest S nodes) (cheapest_is_lowest S nodes) r b
