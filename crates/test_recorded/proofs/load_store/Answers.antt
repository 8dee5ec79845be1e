use mathlib.Core.Path.{sym}
use native.Mathlib.Omega.{arith}
use lib.Seq.{length-take-le}
use Rattle.test_recorded.proofs.load_store.Goals as goal

pub slice_bounds-fpu_coprocessor_load_store-end-then-count-window : goal.slice_bounds-fpu_coprocessor_load_store-end-then-count-window
slice_bounds-fpu_coprocessor_load_store-end-then-count-window c = sym (length-take-le _ _ (omega arith))
