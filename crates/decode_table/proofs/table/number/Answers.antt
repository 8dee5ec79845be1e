use Rattle.decoding.proofs.Entries.{entry_of_lem}
use Rattle.decode_table.proofs.table.number.Goals as goal

pub returns : goal.returns
returns c = rw (c.requires, c.index_of-i.ensures.0) (entry_of_lem c.args.op)
