use native.Mathlib.Omega.{arith}
use borrow.Author.Rules.{rules}
use Rattle.layout.specs.State.{encode}
use Rattle.layout.proofs.Copied.{second_copied, last_five}
use Rattle.layout.proofs.state.encode.Goals as goal

pub returns : goal.returns
unfolding encode
returns c = rw (c.to_bits.ensures, c.control_of.ensures) (last_five c.loop-i-2.state c.args.machine.s c.args.machine.r _ _ _ _ _ c.loop-i-2.invariant.1 (second_copied c.loop-i-2.state c.args.machine.s c.args.machine.r c.loop-i-2.i (search rules) (omega arith) c.loop-i-2.invariant.2))
