use Rattle.phases.proofs.Loops.{written, all_written, get_d_shared, length-shared}
use Rattle.phases.specs.Share.{shared}
use mathlib.Core.Path.{sym, ◌∙◌}
use lib.ListN.{length-set}
use native.Mathlib.Omega.{arith}
use Rattle.phases.proofs.phase.share_out.Goals as goal

pub loop-i-preserved : goal.loop-i-preserved
loop-i-preserved c = (omega arith, simp length-set c.loop-i.invariant.1, written c.loop-i.grants (shared c.args.shares.now c.args.left.now) c.loop-i.i c.smaller.result (omega arith) (omega (arith, length-shared c.args.shares.now c.args.left.now (omega arith))) (c.smaller.ensures ∙ sym (get_d_shared c.args.shares.now c.args.left.now c.loop-i.i)) c.loop-i.invariant.2)

pub returns : goal.returns
returns c = all_written c.loop-i.grants (shared c.args.shares.now c.args.left.now) c.loop-i.i (omega arith) (omega (arith, length-shared c.args.shares.now c.args.left.now (omega arith))) c.loop-i.invariant.2
