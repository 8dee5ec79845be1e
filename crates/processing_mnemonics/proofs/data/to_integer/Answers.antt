use mathlib.Core.List.{append_assoc}
use Rattle.text.proofs.Chain.{more, ended}
use Rattle.mnemonics.proofs.Precision.{at_precision}
use Rattle.mnemonics.specs.Parts.{precise_text}
use Rattle.processing_mnemonics.specs.Data.{to_integer_text}
use Rattle.processing_mnemonics.proofs.data.to_integer.Goals as goal

pub returns-then-double : goal.returns-then-double
unfolding to_integer_text
returns-then-double c = rw (c.if-double.true, ← c.d_of.ensures.0, ← c.m_of.ensures.0) (ended _ _ _ (more _ _ _ _ (more _ _ _ _ (more _ _ _ _ (at_precision c.args.t _ (λ f. precise_text f c.args.op c.args.name.now) c.if-double.true c.precise.ensures) c.register.ensures) c.add-start.ensures) c.register-then-double.ensures) (simp append_assoc))

pub returns : goal.returns
unfolding to_integer_text
returns c = rw (c.if-double.false, ← c.d_of.ensures.0, ← c.m_of-2.ensures.0) (ended _ _ _ (more _ _ _ _ (more _ _ _ _ (more _ _ _ _ (at_precision c.args.t _ (λ f. precise_text f c.args.op c.args.name.now) c.if-double.false c.precise.ensures) c.register.ensures) c.add-start.ensures) c.register-2.ensures) (simp append_assoc))
