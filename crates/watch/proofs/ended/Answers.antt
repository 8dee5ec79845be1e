use native.Mathlib.Omega.{arith}
use mathlib.Core.Path.{refl}
use Rattle.watch.proofs.ended.Goals as goal

pub overflow_add-known : goal.overflow_add-known
overflow_add-known c = omega (arith, c.known_before.ensures.1, c.requires)

pub returns : goal.returns
returns c = (refl, refl, c.machine-machine.ensures, refl, rw c.known_before.ensures.0)
