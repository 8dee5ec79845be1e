use Prim.Native.Nat.{◌%◌}
use lib.Ieee.{binary32}
use Rattle.step_sources.proofs.Words.{second, first, Tells-single, only}
use Rattle.step_sources.proofs.unknown.of_singles.Goals as goal

pub returns-then-is_known : goal.returns-then-is_known
returns-then-is_known c = let a = c.args in second a.marks binary32 a.a.0 _ (Tells-single a.marks a.a.0 _ c.is_known.ensures) (a.b.0 % 32) c.if-is_known.true a.b.0 (only a.marks a.b.0)

pub returns : goal.returns
returns c = let a = c.args in first a.marks binary32 a.a.0 _ (Tells-single a.marks a.a.0 _ c.is_known.ensures) (a.a.0 % 32) c.if-is_known.false a.b.0 (only a.marks a.a.0)
