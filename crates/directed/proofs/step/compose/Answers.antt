use Rattle.directed.proofs.Composing.{accumulated_by, alone_by}
use Rattle.directed.specs.Exceptions.{last_exceptions}
use Rattle.directed.specs.Directed.{applied_by}
use Rattle.nans.specs.Nan.{negation}
use mathlib.Core.Path.{refl, ap, ◌∙◌}
use Rattle.directed.proofs.step.compose.Goals as goal

pub returns-in-MultiplyAccumulate : goal.returns-in-MultiplyAccumulate
unfolding applied_by last_exceptions
returns-in-MultiplyAccumulate g c = rw c.in-MultiplyAccumulate.is (accumulated_by g.W.Precision.format c.args.control refl c.multiplied.ensures.0 c.multiplied.ensures.1 c.accumulated.ensures)

pub returns-in-MultiplySubtract : goal.returns-in-MultiplySubtract
unfolding applied_by last_exceptions
returns-in-MultiplySubtract g c = rw c.in-MultiplySubtract.is (accumulated_by g.W.Precision.format c.args.control refl (c.negated.ensures.0 ∙ ap (negation g.W.Precision.format c.args.control) c.multiplied-in-MultiplySubtract.ensures.0) (c.negated.ensures.1 ∙ c.multiplied-in-MultiplySubtract.ensures.1) c.accumulated-in-MultiplySubtract.ensures)

pub returns-in-NegateMultiplySubtract : goal.returns-in-NegateMultiplySubtract
unfolding applied_by last_exceptions
returns-in-NegateMultiplySubtract g c = rw c.in-NegateMultiplySubtract.is (accumulated_by g.W.Precision.format c.args.control c.negation.ensures c.multiplied-in-NegateMultiplySubtract.ensures.0 c.multiplied-in-NegateMultiplySubtract.ensures.1 c.accumulated-in-NegateMultiplySubtract.ensures)

pub returns-in-NegateMultiplyAccumulate : goal.returns-in-NegateMultiplyAccumulate
unfolding applied_by last_exceptions
returns-in-NegateMultiplyAccumulate g c = rw c.in-NegateMultiplyAccumulate.is (accumulated_by g.W.Precision.format c.args.control c.negation-in-NegateMultiplyAccumulate.ensures (c.negated-in-NegateMultiplyAccumulate.ensures.0 ∙ ap (negation g.W.Precision.format c.args.control) c.multiplied-in-NegateMultiplyAccumulate.ensures.0) (c.negated-in-NegateMultiplyAccumulate.ensures.1 ∙ c.multiplied-in-NegateMultiplyAccumulate.ensures.1) c.accumulated-in-NegateMultiplyAccumulate.ensures)

pub returns-in-Multiply : goal.returns-in-Multiply
unfolding applied_by last_exceptions
returns-in-Multiply g c = rw c.in-Multiply.is (alone_by c.alone.ensures c.multiplied-in-Multiply.ensures)

pub returns-in-NegateMultiply : goal.returns-in-NegateMultiply
unfolding applied_by last_exceptions
returns-in-NegateMultiply g c = rw c.in-NegateMultiply.is (alone_by c.alone-in-NegateMultiply.ensures ((c.negated-in-NegateMultiply.ensures.0 ∙ ap (negation g.W.Precision.format c.args.control) c.multiplied-in-NegateMultiply.ensures.0), (c.negated-in-NegateMultiply.ensures.1 ∙ c.multiplied-in-NegateMultiply.ensures.1)))

pub returns-in-Add : goal.returns-in-Add
unfolding applied_by last_exceptions
returns-in-Add g c = rw c.in-Add.is (alone_by c.alone-in-Add.ensures c.added.ensures)

pub returns-in-Subtract : goal.returns-in-Subtract
unfolding applied_by last_exceptions
returns-in-Subtract g c = rw c.in-Subtract.is (alone_by c.alone-in-Subtract.ensures c.subtracted.ensures)

pub returns-in-Divide : goal.returns-in-Divide
unfolding applied_by last_exceptions
returns-in-Divide g c = rw c.in-Divide.is (alone_by c.alone-in-Divide.ensures c.divided.ensures)
