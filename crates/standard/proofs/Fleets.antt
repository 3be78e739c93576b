-- A fleet with the shapes of a job's sleds and with their skirts has the sets of the job.
use Rattle.std.proofs.Common.{◌≡◌, ℕ, ◌+◌, ◌-◌, ◌<◌, ◌≤◌, false, cond, ◌&&◌, ltb, leb, ◌≢◌, List, ◌++◌, map, length, get_or, set, ℤ, Some, None, sym, refl, ap, ◌∙◌, ⊎_elim, arith, below_more}
use Rattle.std.proofs.lemmas.List.{length-map, length-set, get_or-map, get_or-set_same, get_or-set_other}
use Rattle.std.proofs.lemmas.Bool.{and_from, and_left, and_right, cases_lt, le-ltb, lt-ltb, le-leb, cond-true, cond-false}
use Rattle.fault.specs.declared.cause.Fault.{Fault}
use Rattle.fleet.specs.declared.skirt.Skirt.{Skirt}
use Rattle.fleet.specs.declared.convoy.Convoy.{Convoy}
use Rattle.fleet.specs.Offsets.{Offsets}
use Rattle.fleet.specs.Lists.{sleds_of}
use Rattle.fleet.specs.ShapeFleets.{shapes_of, sled_count}
use Rattle.fleet.specs.RectangleFleets.{Rectangles, sides_of, all_sides, rectangle}
use Rattle.fleet.specs.OutlineFleets.{Outlines, all_rows}
use Rattle.fleet.specs.Outlined.{outline}
use Rattle.fleet.specs.Scans.{in_row}
use Rattle.fleet.specs.SkirtFleets.{skirt, is_cut, skirt_fault, margins_of, margin_of, no_margin}
use Rattle.fleet.specs.SledLists.{sled_at, no_sled}
use Rattle.fleet.specs.ScansLemmas.{within_none}
use Rattle.job.specs.declared.job.Job.{Job}
use Rattle.job.specs.declared.shape.Shape.TheVariants.{Drawing}
use Rattle.job.specs.declared.sled_value.SledValue.{SledValue}
use Rattle.job.specs.Facts.{facts}
use Rattle.job.specs.Jobs.{smallest_sled}
use Rattle.standard.specs.Collected.{all_sides_of, all_rows_of}
use Rattle.standard.specs.JobFleets.{shape_offsets, sled_offsets, job_sleds, convoy_offsets, fleet_size, fleet_sleds}
use Rattle.standard.proofs.Collecting.{all_collected}
use Rattle.standard.proofs.Limits.{told_limited, at_most_six}
use Rattle.standard.proofs.Offsets.{not_cut}
use Rattle.standard.proofs.Order.{rectangle_shape, shapes_in_order}
use Rattle.standard.proofs.SledLists.{sleds_of_append, sleds_of_map}

-- the fleet has the shapes of all sleds, and the skirts of the first n
pub record Built (sleds : List SledValue) (n : ℕ) (f : Skirt (Convoy Rectangles Outlines)) : Type 0 where
  pub rectangles : all_sides f.inner.first ≡ all_sides_of sleds
  pub outlines : all_rows f.inner.second ≡ all_rows_of sleds
  pub whole : length (margins_of f) ≡ 6
  pub skirts : (k : ℕ) → k < n → get_or (margins_of f) k 0 ≡ (get_or sleds k smallest_sled).skirt

-- one skirt more
pub built_next : (sleds : List SledValue) (n m : ℕ) (before after : Skirt (Convoy Rectangles Outlines)) → n < 6 → m ≡ (get_or sleds n smallest_sled).skirt → margins_of after ≡ set (margins_of before) n m → after.inner ≡ before.inner → Built sleds n before → Built sleds (n + 1) after
built_next sleds n m before after below is given same built =
    let whole = built.whole in
    let listed : n < length (margins_of before) = omega arith in
    record {
      rectangles = ap (λ c. all_sides c.first) same ∙ built.rectangles;
      outlines = ap (λ c. all_rows c.second) same ∙ built.outlines;
      whole = ap length given ∙ (length-set (margins_of before) n m ∙ whole);
      skirts =
          below_more _ n
          (λ k less. let other : k ≢ n = omega arith in ap (λ l. get_or l k 0) given ∙ (get_or-set_other (margins_of before) n k m 0 other ∙ built.skirts k less))
          (ap (λ l. get_or l n 0) given ∙ (get_or-set_same (margins_of before) n m 0 listed ∙ is));
    }

-- rectangles and then outlines, as one list of shapes
two_kinds : (sides : List (ℕ × ℕ)) (rows : List (List ℕ)) (s : ℕ) (x y : ℤ) → sleds_of shape_offsets (map rectangle_shape sides ++ map Drawing rows) s x y ≡ cond (ltb s (length sides)) (sleds_of (λ r. rectangle r.0 r.1) sides s x y) (sleds_of outline rows (s - length sides) x y)
two_kinds sides rows s x y =
    sleds_of_append shape_offsets (map rectangle_shape sides) (map Drawing rows) s x y
    ∙ rw (length-map sides rectangle_shape, sleds_of_map shape_offsets rectangle_shape sides s x y, sleds_of_map shape_offsets Drawing rows (s - length sides) x y)

-- a convoy of rectangles and outlines has the shapes that both were given
convoy_is : (c : Convoy Rectangles Outlines) (s : ℕ) (x y : ℤ) → convoy_offsets c s x y ≡ (ltb s 6 && cond (ltb s (length (all_sides c.first))) (sleds_of (λ r. rectangle r.0 r.1) (all_sides c.first) s x y) (sleds_of outline (all_rows c.second) (s - length (all_sides c.first)) x y))
convoy_is c s x y =
    let n = sled_count c.first in
    rw (length-map (shapes_of c.first) sides_of, sleds_of_map (λ r. rectangle r.0 r.1) sides_of (shapes_of c.first) s x y, sleds_of_map outline (λ o. o.rows) (shapes_of c.second) (s - n) x y)

-- a sled without offsets has none with a skirt
skirt_of_none : (m : ℕ) (x y : ℤ) → skirt m (λ _ _. false) x y ≡ false
unfolding in_row
skirt_of_none m x y = and_right _ _ (within_none m y _ (λ _ _. within_none m x _ (λ _ _. refl)))

module _ (j : Job) (n : ℕ) (f : Skirt (Convoy Rectangles Outlines)) (built : Built (facts j).sleds n f) where
  pub size_is : fleet_size f ≡ length (facts j).sleds
  size_is =
      let first = length-map (shapes_of f.inner.first) sides_of in
      let second = length-map (shapes_of f.inner.second) (λ o. o.rows) in
      let a = ap length built.rectangles in
      let b = ap length built.outlines in
      let all = all_collected (facts j).sleds in
      let six = at_most_six j in
      omega arith

  shapes_are : map (λ s. s.shape) (facts j).sleds ≡ map rectangle_shape (all_sides f.inner.first) ++ map Drawing (all_rows f.inner.second)
  shapes_are = rw (built.rectangles, built.outlines) (shapes_in_order (facts j).sleds j.floor.columns j.floor.rows false j.sound)

  -- sled by sled the convoy has the shapes of the job
  shape_of_each : (s : ℕ) (x y : ℤ) → convoy_offsets f.inner s x y ≡ sleds_of (λ v. shape_offsets v.shape) (facts j).sleds s x y
  shape_of_each s x y =
      ⊎_elim
      (λ below.
      let sides = all_sides f.inner.first in
      let rows = all_rows f.inner.second in
      convoy_is f.inner s x y
      ∙ (ap (λ b. b && cond (ltb s (length sides)) (sleds_of (λ r. rectangle r.0 r.1) sides s x y) (sleds_of outline rows (s - length sides) x y)) (lt-ltb s 6 below)
      ∙ (sym (two_kinds sides rows s x y)
      ∙ (ap (λ shapes. sleds_of shape_offsets shapes s x y) (sym shapes_are)
      ∙ sleds_of_map shape_offsets (λ v. v.shape) (facts j).sleds s x y))))
      (λ past. let six = at_most_six j in and_left _ _ (le-ltb s 6 past) ∙ sym (no_sled (λ v. shape_offsets v.shape) (facts j).sleds s (omega arith) x y))
      (cases_lt s 6)

  shape_at : (s : ℕ) → s < length (facts j).sleds → convoy_offsets f.inner s ≡ shape_offsets (get_or (facts j).sleds s smallest_sled).shape
  shape_at s below = λ i x y. (shape_of_each s x y ∙ sled_at (λ v. shape_offsets v.shape) (facts j).sleds s smallest_sled below x y) i

  none_at : (s : ℕ) → length (facts j).sleds ≤ s → convoy_offsets f.inner s ≡ (λ _ _. false)
  none_at s past = λ i x y. (shape_of_each s x y ∙ no_sled (λ v. shape_offsets v.shape) (facts j).sleds s past x y) i

  no_fault : (s : ℕ) (v : SledValue) → s < length (facts j).sleds → v ≡ get_or (facts j).sleds s smallest_sled → skirt_fault (fleet_size f) (convoy_offsets f.inner) s v.skirt ≡ None
  no_fault s v below is =
      let limits = told_limited j s v below is in
      let shape : convoy_offsets f.inner s ≡ shape_offsets v.shape = shape_at s below ∙ ap (λ v. shape_offsets v.shape) (sym is) in
      let uncut = ap (is_cut v.skirt) shape ∙ not_cut v.shape v.skirt limits.narrow limits.sound limits.near in
      let counted : s < fleet_size f = rw size_is below in
      let allowed = and_from (ltb s (fleet_size f)) (leb v.skirt 3) (lt-ltb s (fleet_size f) counted) (le-leb v.skirt 3 limits.narrow) in
      cond-true _ _ _ allowed ∙ cond-false _ _ _ uncut

  -- no skirt of the job is turned away
  pub never_refused : (s : ℕ) (v : SledValue) (fault : Fault) → s < length (facts j).sleds → v ≡ get_or (facts j).sleds s smallest_sled → skirt_fault (fleet_size f) (convoy_offsets f.inner) s v.skirt ≡ Some fault → ⊥
  never_refused s v fault below is refused =
      let none = sym (no_fault s v below is) ∙ refused in
      let clash : ◌≡◌ {A = ℕ} 0 1 = cc in
      omega arith

  pub sets_are : length (facts j).sleds ≤ n → (s : ℕ) (x y : ℤ) → fleet_sleds f s x y ≡ job_sleds (facts j).sleds s x y
  sets_are all s x y =
      let sleds = (facts j).sleds in
      ⊎_elim
      (λ below.
      let six = at_most_six j in
      let whole = simp length-map at built.whole in
      let margin = sym (get_or-map (λ m. m.cells) f.margins s no_margin 0 (omega arith)) ∙ built.skirts s (omega arith) in
      ap (λ m. skirt m (convoy_offsets f.inner s) x y) margin
      ∙ (ap (λ (set : Offsets). skirt (get_or sleds s smallest_sled).skirt set x y) (shape_at s below)
      ∙ sym (sled_at sled_offsets sleds s smallest_sled below x y)))
      (λ past. ap (λ (set : Offsets). skirt (margin_of f s) set x y) (none_at s past) ∙ (skirt_of_none (margin_of f s) x y ∙ sym (no_sled sled_offsets sleds s past x y)))
      (cases_lt s (length sleds))
