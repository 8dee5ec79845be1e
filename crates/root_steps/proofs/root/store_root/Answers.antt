use Rattle.roots.proofs.Laws.{root_raises}
use Rattle.root_steps.proofs.root.store_root.Goals as goal

pub raise-requires : goal.raise-requires
raise-requires g c = rw c.square_root-x.ensures.1 (root_raises _ _)
