use mathlib.Core.List.{append_assoc}
use Rattle.text.proofs.Chain.{more, ended}
use Rattle.mnemonics.proofs.Precision.{at_precision}
use Rattle.mnemonics.specs.Parts.{precise_text}
use Rattle.processing_mnemonics.specs.Data.{one_text}
use Rattle.processing_mnemonics.proofs.data.one.Goals as goal

pub returns-then-double : goal.returns-then-double
unfolding one_text
returns-then-double c = rw (c.if-double.true, ← c.d_of.ensures.0) (ended _ _ _ (more _ _ _ _ (at_precision c.args.t _ (λ f. precise_text f c.args.op c.args.name.now) c.if-double.true c.precise-start.ensures) c.register.ensures) (simp append_assoc))

pub returns : goal.returns
unfolding one_text
returns c = rw (c.if-double.false, ← c.d_of-2.ensures.0) (ended _ _ _ (more _ _ _ _ (at_precision c.args.t _ (λ f. precise_text f c.args.op c.args.name.now) c.if-double.false c.precise-start.ensures) c.register-2.ensures) (simp append_assoc))
