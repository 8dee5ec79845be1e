use Rattle.std.proofs.Common.{◌-◌}
use Rattle.sign_steps.specs.Sign.{sign_step}
use Rattle.short_vectors.proofs.Loop.{Iterating, on_singles}
use Rattle.sign_steps.proofs.sign.sign_vector.Given as goal

abbrev pub invariant-loop-i : goal.invariant-loop-i
invariant-loop-i g l =
    Iterating on_singles g.R.Word.Precision.format l.fn.control (λ d n m. sign_step g.R.Word.Precision.format l.fn.sign d m) (g.R.Register.number l.fn.d) (g.R.Register.number l.fn.d) (g.R.Register.number l.fn.m)
    l.vector l.fn.s l.s l.dn l.dn l.mn l.i

abbrev pub decreases-loop-i : goal.decreases-loop-i
decreases-loop-i g l = l.count - l.i
