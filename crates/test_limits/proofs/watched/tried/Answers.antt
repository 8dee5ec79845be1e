use lib.Seq.{length-take-le}
use lib.ListN.{replicate}
use mathlib.Core.Path.{sym}
use Rattle.test_limits.proofs.watched.tried.Goals as goal

pub slice_bounds-ran-end : goal.slice_bounds-ran-end
slice_bounds-ran-end g c = sym (length-take-le _ (replicate 16385 0x5A5A_5A5A) c.requires.1)

pub slice_bounds-ran-end-2 : goal.slice_bounds-ran-end-2
slice_bounds-ran-end-2 g c = sym (length-take-le _ (replicate 16385 1) c.requires.2)

pub slice_bounds-ran-end-3 : goal.slice_bounds-ran-end-3
slice_bounds-ran-end-3 g c = sym (length-take-le _ (replicate 4097 0xEEB0_0A40) c.requires.0)
