use mathlib.Core.Path.{◌∙◌, ap}
use Prim.Native.Nat.{ℕ, ◌+◌, ◌/◌, ◌^◌}
use native.Mathlib.Omega.{arith}
use lib.Dec.{lit≤, lit<}
use Rattle.rounding.specs.Rounding.{rounding_of}
use Rattle.rounding.proofs.Cutting.{increment-lt, cut_by_sum}
use Rattle.narrowing.proofs.narrow.directed.Goals as goal

pub overflow_add-result : goal.overflow_add-result
overflow_add-result c = omega (arith, c.directed_increment.ensures c.args.m, increment-lt (rounding_of c.args.control) c.args.negative c.args.m (2 ^ 29) (lit≤ tt))

pub returns : goal.returns
returns c = ap (λ (z : ℕ). (c.args.m + z) / 2 ^ 29) (c.directed_increment.ensures c.args.m) ∙ cut_by_sum c.args.m (2 ^ 28) (lit< tt) (rounding_of c.args.control) c.args.negative
