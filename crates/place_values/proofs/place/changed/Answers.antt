use Rattle.place_values.specs.Place.{changed_at}
use Rattle.place_values.proofs.place.changed.Goals as goal

pub returns : goal.returns
unfolding changed_at
returns c = rw (← c.is_known.ensures, ← c.value.ensures, ← c.is_known-2.ensures, ← c.value-2.ensures) c.differs.ensures
