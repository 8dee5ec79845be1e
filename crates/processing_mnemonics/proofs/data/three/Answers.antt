use mathlib.Core.List.{append_assoc}
use Rattle.text.proofs.Chain.{more, ended}
use Rattle.mnemonics.proofs.Precision.{at_precision}
use Rattle.processing_mnemonics.specs.Data.{one_text, three_text}
use Rattle.processing_mnemonics.proofs.data.three.Goals as goal

pub returns-then-double : goal.returns-then-double
unfolding three_text
returns-then-double c = rw (c.if-double.true, ← c.n_of.ensures.0, ← c.m_of.ensures.0) (ended _ _ _ (more _ _ _ _ (more _ _ _ _ (more _ _ _ _ (more _ _ _ _ (at_precision c.args.t _ (λ f. one_text f c.args.op c.args.name.now) c.if-double.true c.one.ensures) c.add-start.ensures) c.register.ensures) c.add.ensures) c.register-then-double.ensures) (simp append_assoc))

pub returns : goal.returns
unfolding three_text
returns c = rw (c.if-double.false, ← c.n_of-2.ensures.0, ← c.m_of-2.ensures.0) (ended _ _ _ (more _ _ _ _ (more _ _ _ _ (more _ _ _ _ (more _ _ _ _ (at_precision c.args.t _ (λ f. one_text f c.args.op c.args.name.now) c.if-double.false c.one.ensures) c.add-start.ensures) c.register-2.ensures) c.add-2.ensures) c.register-3.ensures) (simp append_assoc))
