use Rattle.records.proofs.Laws.{number_nth}
use mathlib.Core.Path.{◌∙◌}
use Rattle.record_numbers.proofs.nth.Goals as goal

pub returns : goal.returns
returns c = c.number_at.ensures ∙ number_nth c.args.bytes.now c.args.i c.requires
