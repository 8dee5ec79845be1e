use Rattle.widths.proofs.Laws.{narrow_raises}
use Rattle.width_steps.proofs.width.narrow_double.Goals as goal

pub raise-requires : goal.raise-requires
raise-requires c = rw c.narrow-narrowed.ensures.1 (narrow_raises _ _)
