use native.Mathlib.Omega.{arith}
use Rattle.addresses.proofs.Block.{word_bound}
use Rattle.addresses.proofs.contiguous.is_contiguous.Goals as goal

pub overflow_add-end : goal.overflow_add-end
overflow_add-end c = omega (arith, word_bound c.args.base c.args.start)
