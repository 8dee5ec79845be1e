use Rattle.nans.proofs.Choosing.{quiet_kept, quiet_set}
use Rattle.nans.proofs.nan.quieted.Goals as goal

pub returns-then-n-quiet_bit-eq1 : goal.returns-then-n-quiet_bit-eq1
returns-then-n-quiet_bit-eq1 g c = quiet_kept g.W.Precision.format _ (rw (c.wide-n.ensures.value, c.quiet_bit.ensures) at c.if-n-quiet_bit-eq1.true)

pub returns-else-n-quiet_bit-eq1 : goal.returns-else-n-quiet_bit-eq1
returns-else-n-quiet_bit-eq1 g c =
    rw (c.of_wide.ensures, c.quiet_bit-else-n-quiet_bit-eq1.ensures, c.wide-n.ensures.value)
    (quiet_set g.W.Precision.format _ (rw (c.wide-n.ensures.value, c.quiet_bit.ensures) at c.if-n-quiet_bit-eq1.false))
