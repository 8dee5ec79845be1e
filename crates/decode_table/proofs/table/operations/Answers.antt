use mathlib.Core.Path.{refl}
use Rattle.decoding.specs.Operation.{extension_by, arithmetics, operation_by}
use Rattle.decoding.specs.Table.{operation_at, entries, operation_table}
use Rattle.decode_table.proofs.table.operations.Goals as goal

pub returns : goal.returns
unfolding operation_table entries operation_at operation_by extension_by arithmetics
returns c = refl
