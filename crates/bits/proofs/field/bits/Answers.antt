use lib.Bits.{and_mask}
use native.Mathlib.Omega.{arith}
use Prim.Native.Nat.{◌+◌, ◌-◌}
use mathlib.Core.Path.{◌≡◌}
use borrow.Author.Rules.{rules}
use Rattle.bits.proofs.Shift.{one_shl, field_above, field_rest}
use Rattle.bits.proofs.field.bits.Goals as goal

pub returns-then-lo-gt31 : goal.returns-then-lo-gt31
returns-then-lo-gt31 c = field_above c.args.value c.args.lo c.args.hi c.ranges.value.fits c.if-lo-gt31.true

pub returns-then-hi-lo-gt30 : goal.returns-then-hi-lo-gt30
returns-then-hi-lo-gt30 c = field_rest c.args.value c.args.lo c.args.hi c.ranges.value.fits c.if-hi-lo-gt30.true

pub returns : goal.returns
returns c = let e : c.args.hi + 1 - c.args.lo ≡ c.args.hi - c.args.lo + 1 = omega arith in
    simp (e, one_shl (c.args.hi - c.args.lo + 1) (search rules), and_mask)
