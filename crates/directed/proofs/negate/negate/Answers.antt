use Rattle.directed.proofs.Negation.{neg_word}
use Rattle.directed.proofs.negate.negate.Goals as goal

pub returns : goal.returns
returns g c =
    neg_word g.W.Precision.format _ _ c.wrapping_add.ensures.in_range.0
    (rw (c.of_wide.ensures, c.SIGN.ensures, g.met.W.Precision.sign_weight) at c.wrapping_add.ensures.value)
