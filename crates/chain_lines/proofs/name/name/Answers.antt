use Rattle.chain_lines.proofs.Spaces.{named}
use Rattle.chain_lines.specs.Name.{operation_name}
use Rattle.chain_lines.proofs.name.name.Goals as goal

pub returns : goal.returns
unfolding operation_name
returns c = named c.args.t _ _ _ _ _ c.add_before_space.ensures c.as_bytes.ensures.bytes c.word-line.ensures c.new.ensures
