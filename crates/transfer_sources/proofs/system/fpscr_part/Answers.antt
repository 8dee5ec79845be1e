use borrow.Author.Tests.{not-true, not-false}
use Rattle.transfer_sources.proofs.Transfers.{part_flags, part_control, part_exceptions}
use Rattle.transfer_sources.proofs.system.fpscr_part.Goals as goal

pub returns-then-not-is_known : goal.returns-then-not-is_known
returns-then-not-is_known c = let a = c.args in part_flags a.marks _ c.is_known.ensures (not-true _ c.if-not-is_known.true-raw)

pub returns-then-not-is_known-2 : goal.returns-then-not-is_known-2
returns-then-not-is_known-2 c = let a = c.args in part_control a.marks _ c.is_known.ensures (not-false _ c.if-not-is_known.false-raw) _ c.is_known-2.ensures (not-true _ c.if-not-is_known-2.true-raw)

pub returns : goal.returns
returns c = let a = c.args in part_exceptions a.marks _ c.is_known.ensures (not-false _ c.if-not-is_known.false-raw) _ c.is_known-2.ensures (not-false _ c.if-not-is_known-2.false-raw)
