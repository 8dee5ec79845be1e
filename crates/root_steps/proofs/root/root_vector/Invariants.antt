use Prim.Native.Nat.{◌-◌}
use Rattle.short_vectors.proofs.Loop.{Iterating, both, on_both}
use Rattle.root_steps.specs.Root.{root_step}
use Rattle.root_steps.proofs.root.root_vector.Given as goal

abbrev pub invariant-loop-i : goal.invariant-loop-i
invariant-loop-i g l =
    Iterating on_both g.R.Word.Precision.format l.fn.control (λ d n m. root_step g.R.Word.Precision.format l.fn.control d m) (g.R.Register.number l.fn.d) (g.R.Register.number l.fn.d) (g.R.Register.number l.fn.m)
    l.vector (both l.fn.fpscr l.fn.s) (both l.after l.s) l.dn l.dn l.mn l.i

abbrev pub decreases-loop-i : goal.decreases-loop-i
decreases-loop-i g l = l.count - l.i
