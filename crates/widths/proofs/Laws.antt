-- Of numbers: no result is longer than its word, and a widened single is never subnormal, so that flushing would not change it. Assumes nothing.
use mathlib.Core.Bool.{Bool, true, false, cond}
use Prim.Native.Nat.{ℕ, ◌*◌, ◌/◌, ◌%◌, ◌<◌}
use lib.Dec.{lit<}
use lib.Ieee.{Float, nan, inf, fin, binary32, binary64, up, down, of_bits, to_bits, nan_bits}
use Rattle.rounding.specs.Rounding.{rounding_of}
use Rattle.exceptions.specs.Exceptions.{nan_exceptions, flushed_exceptions}
use Rattle.exceptions.proofs.Laws.{fraction_lt, nan_lt, flushed_lt}
use Rattle.widths.specs.Convert.{narrowed, narrowed_exceptions, narrow_exceptions, widen_exceptions}

-- ---- narrowing

-- ---- widening

abbrev field : ℕ → ℕ
field b = b % 0x8000_0000 / 0x80_0000

-- ---- what is raised

pub narrow_raises : (control b : ℕ) → narrow_exceptions control b < 32
unfolding narrow_exceptions narrowed_exceptions
narrow_raises control b = by (nan_bits binary64 b) (of_bits binary64 b)
  where
    value : (v : Float) → narrowed_exceptions (rounding_of control) binary32 v < 32
    value nan = lit< tt
    value (inf s) = lit< tt
    value (fin s m e) = fraction_lt (rounding_of control) binary32 s (m * up e) (down e)

    by : (t : Bool) (v : Float) → cond t (nan_exceptions binary64 b b) (flushed_exceptions binary32 control (to_bits binary32 (narrowed (rounding_of control) binary32 v)) (narrowed_exceptions (rounding_of control) binary32 v)) < 32
    by true v = nan_lt binary64 b b
    by false v = flushed_lt binary32 control (to_bits binary32 (narrowed (rounding_of control) binary32 v)) (narrowed_exceptions (rounding_of control) binary32 v) (value v)

pub widen_raises : (b : ℕ) → widen_exceptions b < 32
widen_raises b = nan_lt binary32 b b
