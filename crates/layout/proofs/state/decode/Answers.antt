use lib.Seq.{get_or-drop}
use lib.ListN.{length-set, length-drop, drop}
use native.Mathlib.Omega.{arith}
use Rattle.layout.proofs.Copied.{one_more, all_copied, decoded}
use Rattle.layout.proofs.state.decode.Goals as goal

pub loop-i-2-preserved : goal.loop-i-2-preserved
loop-i-2-preserved c = (omega arith, simp length-set c.loop-i-2.invariant.1, rw (← get_or-drop 32 c.args.state.now c.loop-i-2.i 0) (one_more c.loop-i-2.r (drop 32 c.args.state.now) c.loop-i-2.i (omega arith) (simp length-drop (omega (arith, c.requires.words))) c.loop-i-2.invariant.2))

pub returns : goal.returns
returns c = decoded c.args.state.now c.loop-i.s c.loop-i-2.r c.from_bits.result c.args.thumb (all_copied 32 c.loop-i.s c.args.state.now c.loop-i.i c.loop-i.invariant.1 (omega arith) c.loop-i.invariant.2) (all_copied 16 c.loop-i-2.r (drop 32 c.args.state.now) c.loop-i-2.i c.loop-i-2.invariant.1 (omega arith) c.loop-i-2.invariant.2) c.from_bits.ensures
