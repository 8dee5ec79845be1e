use mathlib.Core.Bool.{true, false}
use Rattle.machine.specs.Place.{state}
use Rattle.transfers.specs.Transfer.{transfer_tree}
use Rattle.vfp.proofs.Replies.{transferred}
use Rattle.vfp.proofs.coprocessor_register.Goals as goal

pub returns-then-done : goal.returns-then-done
returns-then-done c = λ v. transferred true (transfer_tree c.args.machine.thumb c.args.op) (state c.args.machine v) _ (rw c.if-done.true at (c.coprocessor_register-done.ensures v))

pub returns : goal.returns
returns c = λ v. transferred false (transfer_tree c.args.machine.thumb c.args.op) (state c.args.machine v) _ (rw c.if-done.false at (c.coprocessor_register-done.ensures v))
