use native.Mathlib.Omega.{arith}
use mathlib.Core.Path.{ap, ◌∙◌}
use mathlib.Core.Bool.{false}
use Rattle.decoding.specs.Operation.{operation_of, number_of}
use Rattle.short_vectors.specs.Vector.{precision}
use Rattle.data_sources.proofs.Trees.{undefined_number, stepped, as_control, linked_once, number_named}
use Rattle.data_sources.proofs.operation_back.Goals as goal

pub returns-then-n-eq0 : goal.returns-then-n-eq0
returns-then-n-eq0 c = let a = c.args in λ st e. undefined_number st (precision a.double) a.op a.n a.index a.marks a.q a.k _ c.if-n-eq0.true

pub returns-then-n-lt14 : goal.returns-then-n-lt14
returns-then-n-lt14 c = let a = c.args in λ st e. stepped st a.index a.marks a.q a.k _ _ c.stepping_back.result (precision a.double) a.op a.n a.fpscr (omega (arith, c.if-n-eq0.false)) c.if-n-lt14.true e (as_control (precision a.double) a.n _ _ _ a.index a.marks a.q a.k _ _ c.stepping_back.result c.control_of.ensures c.stepping_back.ensures)

pub returns : goal.returns
returns c = let a = c.args in λ st e. linked_once st (precision a.double) a.op a.n a.index a.marks a.q a.k _ _ c.link.result c.once_source-s.result c.from.result c.from.ensures c.link.ensures (c.once_source-s.ensures false st (omega (arith, c.if-n-lt14.false, ap number_of c.from.ensures ∙ number_named a.n (operation_of a.op) c.requires.0)))
