-- Two kinds of weight: yes or no, and counts that stop at 65,535.
use Rattle.std.specs.Prelude.{ℕ, ◌+◌, ◌*◌, min, Bool, true, false, ◌&&◌, ◌||◌}
use Rattle.std.proofs.Common.{arith}
use Rattle.walk.specs.Semiring.{Ops}
use Rattle.walk.specs.declared.count.Count.{Count}

-- whether some sequence passes: one of them, and every step of it
abbrev pub either_both : Ops Bool
either_both = record { nought = false; one = true; add = ◌||◌; mul = ◌&&◌ }

-- n, or 65,535 where it is more
abbrev pub count : ℕ → Count
count n = record { value = min 65535 n; most = omega arith }

-- how many sequences pass, as far as 65,535
abbrev pub capped : Ops Count
capped = record {
  nought = count 0;
  one = count 1;
  add = λ x y. count (x.value + y.value);
  mul = λ x y. count (x.value * y.value);
}
