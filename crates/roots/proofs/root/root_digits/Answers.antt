use Rattle.roots.proofs.RootDigits.{narrow, more}
use native.Mathlib.Omega.{arith}
use Rattle.roots.proofs.root.root_digits.Goals as goal

pub digit-next-requires : goal.digit-next-requires
digit-next-requires c = (narrow c.args.x c.loop-i.i c.args.steps c.loop-i.root c.loop-i.rest c.loop-i.left c.loop-i.invariant.1 c.loop-i-test.true c.requires, c.loop-i.invariant.1.least, omega (arith, c.loop-i.invariant.1.fits))

pub loop-i-preserved : goal.loop-i-preserved
loop-i-preserved c = (omega arith, more c.args.x c.loop-i.i c.loop-i.root c.loop-i.rest c.loop-i.left c.digit-next.result.root c.digit-next.result.rest c.loop-i.invariant.1 c.digit-next.ensures.0 c.digit-next.ensures.1)
