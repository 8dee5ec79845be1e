use Rattle.chain_lines.specs.Chain.{later_text}
use Rattle.text.proofs.Chain.{more}
use Rattle.chain_lines.proofs.chain.later.Goals as goal

pub returns : goal.returns
unfolding later_text
returns c = more _ _ _ _ c.separator-start.ensures c.link.ensures
