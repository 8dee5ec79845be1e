use mathlib.Core.Path.{sym}
use lib.ListN.{replicate}
use lib.Seq.{length-take-le}
use Rattle.test_limits.proofs.tried.Goals as goal

pub slice_bounds-ran-end : goal.slice_bounds-ran-end
slice_bounds-ran-end g c = sym (length-take-le _ (replicate 16385 0) c.requires.1)

pub slice_bounds-ran-end-2 : goal.slice_bounds-ran-end-2
slice_bounds-ran-end-2 g c = sym (length-take-le _ (replicate 4097 0xEEB0_0A40) c.requires.0)
