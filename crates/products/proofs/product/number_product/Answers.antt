use Rattle.std.proofs.Common.{refl}
use Rattle.exceptions.proofs.Values.{handed}
use Rattle.products.proofs.Numbers.{folded_product}
use Rattle.products.proofs.product.number_product.Goals as goal

pub returns : goal.returns
returns g c =
    handed (refl, c.settled.ensures)
    (folded_product c.args.mode g.W.Precision.format _ _ _ _ _ _ _ _ c.operand_of-p.ensures.value c.operand_of-q.ensures.value
    c.LEFT.result _ _ _ _ _ _ (rw c.LEFT.ensures g.met.W.Multiplied.left.0) (rw c.LEFT.ensures c.product_digits-m.ensures.0) (cc) c.raised-s.ensures)
