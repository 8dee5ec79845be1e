use Rattle.bits.proofs.Shift.{bit_above}
use Rattle.bits.proofs.field.bit.Goals as goal

pub returns-then-n-gt31 : goal.returns-then-n-gt31
returns-then-n-gt31 c = bit_above c.args.value c.args.n c.ranges.value.fits c.if-n-gt31.true
