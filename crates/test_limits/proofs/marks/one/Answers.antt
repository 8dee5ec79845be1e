use mathlib.Core.Path.{sym}
use lib.ListN.{replicate}
use lib.Seq.{length-take-le}
use Rattle.test_limits.proofs.marks.one.Goals as goal

pub slice_bounds-answer_of-end : goal.slice_bounds-answer_of-end
slice_bounds-answer_of-end c = sym (length-take-le _ (replicate 16384 0x5A5A_5A5A) c.requires)

pub slice_bounds-answer_of-end-2 : goal.slice_bounds-answer_of-end-2
slice_bounds-answer_of-end-2 c = sym (length-take-le _ (replicate 16384 1) c.requires)
