use mathlib.Core.List.{append_assoc}
use Rattle.text.proofs.Chain.{begun, more, ended}
use Rattle.place_lines.specs.Exceptions.{exceptions_text}
use Rattle.place_lines.proofs.exceptions.exceptions.Goals as goal

pub returns : goal.returns
unfolding exceptions_text
returns c = ended _ _ _ (more _ _ _ _ (more _ _ _ _ (more _ _ _ _ (more _ _ _ _ (more _ _ _ _ (more _ _ _ _ (more _ _ _ _ (begun _ c.new.ensures) c.add-a.ensures) c.also-b.ensures) c.also-c.ensures) c.also-d.ensures) c.also-e.ensures) c.also-f.ensures) c.also.ensures) (simp append_assoc)
