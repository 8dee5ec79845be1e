use mathlib.Core.Path.{◌∙◌, ap}
use Rattle.machine.specs.Place.{control_of}
use Rattle.decoding.specs.Operation.{operation_numbered, arithmetic_of}
use Rattle.arithmetic_steps.specs.Arithmetic.{arithmetic_step}
use Rattle.processing.specs.Data.{named_tree}
use Rattle.scalars.proofs.Scalar.{accumulates_first, scalar_done, unchanged}
use Rattle.watched_scalars.proofs.Marks.{scalar_Marked, handed_on}
use Rattle.watched_scalars.proofs.arithmetic.watched_scalar.Goals as goal

pub quick_arithmetic-requires : goal.quick_arithmetic-requires
quick_arithmetic-requires g c =
    let a = c.args in
    let pre = c.requires in
    let few = g.met.R.Register.few in
    (accumulates_first a.number pre.0 pre.1 (c.arithmetic_of-kind.ensures ∙ ap arithmetic_of c.from.ensures), few _ c.d_of-d.ensures.1, few _ c.n_of-n.ensures.1, few _ c.m_of-m.ensures.1)

pub returns-then-quick_arithmetic : goal.returns-then-quick_arithmetic
returns-then-quick_arithmetic g c =
    let a = c.args in
    let pre = c.requires in
    handed_on (named_tree _ a.op (operation_numbered a.number)) a.op a.s.now a.fpscr _ _ a.marks _ _ c.after.ensures
    (scalar_done _ a.op a.s.now a.fpscr _ pre.2 a.number pre.0 pre.1 _ (c.arithmetic_of-kind.ensures ∙ ap arithmetic_of c.from.ensures) c.d_of-d.ensures.0 c.n_of-n.ensures.0 c.m_of-m.ensures.0
    (c.quick_arithmetic.ensures.0 c.if-quick_arithmetic.true))
    (scalar_Marked _ a.op a.fpscr a.marks _ pre.2 a.number pre.0 pre.1 (c.arithmetic_of-kind.ensures ∙ ap arithmetic_of c.from.ensures) c.d_of-d.ensures.0 c.n_of-n.ensures.0 c.m_of-m.ensures.0
    (c.mark_sum-known.ensures (control_of a.fpscr)))

pub returns : goal.returns
returns g c =
    let a = c.args in
    let pre = c.requires in
    handed_on (named_tree _ a.op (operation_numbered a.number)) a.op a.s.now a.fpscr _ _ a.marks _ _ c.after-2.ensures
    (scalar_done _ a.op a.s.now a.fpscr _ pre.2 a.number pre.0 pre.1 _ (c.arithmetic_of-kind.ensures ∙ ap arithmetic_of c.from.ensures) c.d_of-d.ensures.0 c.n_of-n.ensures.0 c.m_of-m.ensures.0
    (unchanged (arithmetic_step _ (control_of a.fpscr) _ _ _ _) a.fpscr _ _ (c.quick_arithmetic.ensures.1 c.if-quick_arithmetic.false) c.rounded_arithmetic.ensures))
    (scalar_Marked _ a.op a.fpscr a.marks _ pre.2 a.number pre.0 pre.1 (c.arithmetic_of-kind.ensures ∙ ap arithmetic_of c.from.ensures) c.d_of-d.ensures.0 c.n_of-n.ensures.0 c.m_of-m.ensures.0
    (c.mark_sum-known.ensures (control_of a.fpscr)))
