use mathlib.Core.Bool.{false}
use mathlib.Core.Path.{sym, ◌∙◌}
use lib.Ieee.{binary32, binary64}
use Rattle.place_marks.specs.Word.{map_in}
use Rattle.place_marks.proofs.Places.{place-control}
use Rattle.processing.proofs.Done.{data_single, data_double, data_none}
use Rattle.hangs.proofs.Hangs.{both, data_known, undefined}
use Rattle.data_hangs.proofs.data.hang_data.Goals as goal

pub returns-then-is_known-core_known : goal.returns-then-is_known-core_known
returns-then-is_known-core_known c st w = let a = c.args in let known = both c.is_known.result c.core_known.result c.if-is_known-core_known.true in data_known st (map_in a.marks w) (sym (rw place-control at (c.is_known.ensures w)) ∙ known.0) (sym (c.core_known.ensures w) ∙ known.1) a.op

pub returns-then-coproc-eq10 : goal.returns-then-coproc-eq10
returns-then-coproc-eq10 c st w = let a = c.args in rw (data_single a.op false _ c.bits-coproc.ensures c.if-coproc-eq10.true, ← c.requires) (c.hang_operation.ensures binary32 a.op st w)

pub returns-then-coproc-eq11 : goal.returns-then-coproc-eq11
returns-then-coproc-eq11 c st w = let a = c.args in rw (data_double a.op false _ c.bits-coproc.ensures c.if-coproc-eq11.true, ← c.requires) (c.hang_operation-then-coproc-eq11.ensures binary64 a.op st w)

pub returns : goal.returns
returns c st w = let a = c.args in rw (data_none a.op false _ c.bits-coproc.ensures c.if-coproc-eq10.false c.if-coproc-eq11.false) ((rw (c.core_known-2.ensures w) at c.asked.ensures) ∙ undefined false a.op st (map_in a.marks w))
