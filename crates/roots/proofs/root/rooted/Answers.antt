use Rattle.roots.proofs.RootDigits.{few_digits, rooted_is, at_top}
use Prim.Native.Nat.{ℕ, ◌+◌, ◌*◌, ◌/◌, ◌^◌}
use mathlib.Core.Path.{ap}
use native.Mathlib.Omega.{arith}
use Rattle.roots.proofs.root.rooted.Goals as goal

pub overflow_mul-r : goal.overflow_mul-r
overflow_mul-r c = omega (arith, few_digits _ c.args.steps c.root_digits-r.ensures.1 c.requires.1, c.root_digits-r.ensures.0.least)

pub overflow_mul-r-2 : goal.overflow_mul-r-2
overflow_mul-r-2 c = omega (arith, few_digits _ c.args.steps c.root_digits-r.ensures.1 c.requires.1)

pub overflow_add-r : goal.overflow_add-r
overflow_add-r c = omega (arith, few_digits _ c.args.steps c.root_digits-r.ensures.1 c.requires.1)

pub returns : goal.returns
returns c = rooted_is c.args.mode _ _ c.args.steps c.root_digits-r.result.root c.root_digits-r.result.rest _ _ c.root_digits-r.ensures.0 (ap (λ (x : ℕ). x * 2 ^ (c.args.steps + c.args.steps) / 2 ^ 64) (at_top c.args.m c.args.e c.requires.0)) c.root_digits-r.ensures.1 c.step.ensures.0 c.step.ensures.1
