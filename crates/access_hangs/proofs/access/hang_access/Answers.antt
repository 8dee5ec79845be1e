use lib.Ieee.{binary32, binary64}
use Rattle.meaning.proofs.Laws.{clear-go}
use Rattle.place_marks.specs.Word.{map_in}
use Rattle.hangs.proofs.Hangs.{access_single, access_double, access_none}
use Rattle.access_hangs.proofs.access.hang_access.Goals as goal

pub returns-then-coproc-eq10 : goal.returns-then-coproc-eq10
returns-then-coproc-eq10 c = λ b st w. rw (access_single b c.args.op _ c.bits-coproc.ensures c.if-coproc-eq10.true) (c.hang_base.ensures binary32 b st w)

pub returns-then-coproc-eq11 : goal.returns-then-coproc-eq11
returns-then-coproc-eq11 c = λ b st w. rw (access_double b c.args.op _ c.bits-coproc.ensures c.if-coproc-eq11.true) (c.hang_base-then-coproc-eq11.ensures binary64 b st w)

pub returns : goal.returns
returns c = λ b st w. rw (access_none b c.args.op _ c.bits-coproc.ensures c.if-coproc-eq10.false c.if-coproc-eq11.false) (clear-go _ st (map_in c.args.marks w))
