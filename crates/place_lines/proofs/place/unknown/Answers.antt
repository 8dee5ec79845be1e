use Rattle.place_lines.specs.Place.{unknown_text}
use Rattle.text.proofs.Chain.{begun, more, ended}
use mathlib.Core.List.{append_assoc}
use Rattle.place_lines.proofs.place.unknown.Goals as goal

pub returns-then-first : goal.returns-then-first
unfolding unknown_text
returns-then-first c = rw (c.if-first.true, ← c.number-n.ensures) (ended _ _ _ (more _ _ _ _ (more _ _ _ _ (begun _ c.new.ensures) c.add.ensures) c.named.ensures) (simp append_assoc))

pub returns : goal.returns
unfolding unknown_text
returns c = rw (c.if-first.false, ← c.number-n.ensures) (ended _ _ _ (more _ _ _ _ (more _ _ _ _ (begun _ c.new-2.ensures) c.add-2.ensures) c.named-2.ensures) (simp append_assoc))
