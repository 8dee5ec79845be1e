use mathlib.Core.Path.{◌∙◌}
use Rattle.decoding.proofs.Entries.{numbered_number}
use Rattle.decode_table.proofs.table.operation.Goals as goal

pub returns : goal.returns
returns c = c.from.ensures ∙ rw c.number.ensures (numbered_number _)
