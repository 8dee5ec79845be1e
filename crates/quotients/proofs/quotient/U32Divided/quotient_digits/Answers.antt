use Rattle.quotients.proofs.Divide.{single_folded}
use Rattle.quotients.proofs.quotient.U32Divided.quotient_digits.Goals as goal

pub returns : goal.returns
returns c =
    let d = c.requires.digits in
    single_folded _ _ _ d.0 d.1 d.2 d.3 c.requires.zeros.1 c.sticky.ensures
