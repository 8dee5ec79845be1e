use Rattle.links.proofs.Laid.{Turning}
use Rattle.links.proofs.turn.Given as goal

abbrev pub invariant-loop-i : goal.invariant-loop-i
invariant-loop-i l = Turning l.n l.i l.j l.initial.pairs l.pairs

abbrev pub decreases-loop-i : goal.decreases-loop-i
decreases-loop-i l = l.j
