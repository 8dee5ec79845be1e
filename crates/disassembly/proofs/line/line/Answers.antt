use mathlib.Core.List.{append_assoc}
use Rattle.text.proofs.Chain.{more, ended}
use Rattle.disassembly.specs.Line.{line_of}
use Rattle.disassembly.proofs.line.line.Goals as goal

pub returns : goal.returns
unfolding line_of
returns c = ended _ _ _ (more _ _ _ _ (more _ _ _ _ (more _ _ _ _ (more _ _ _ _ c.address_or_unknown.ensures c.add.ensures) c.add_hex.ensures) c.add-start.ensures) c.word.ensures) (simp append_assoc)
