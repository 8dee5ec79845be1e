use Rattle.products.proofs.Long.{parts}
use native.Mathlib.Omega.{arith}
use Rattle.products.proofs.product.multiply.Goals as goal

pub returns : goal.returns
returns c = omega (arith, parts c.args.a c.args.b c.requires.0 c.requires.1)
