use Rattle.products.proofs.Long.{short_folded}
use Rattle.products.proofs.product.U32Multiplied.product_digits.Goals as goal

pub returns : goal.returns
returns c =
    let d = c.requires.digits in
    short_folded _ _ d.0 d.1 d.2 d.3 c.requires.zeros.0 c.requires.zeros.1
