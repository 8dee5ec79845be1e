use native.Mathlib.Omega.{arith}
use Rattle.place_marks.proofs.Places.{place-single}
use Rattle.registers.specs.Registers.{single_index}
use Rattle.register_marks.proofs.register.SingleMarkedRegister.known.Goals as goal

pub returns : goal.returns
returns c w = rw (place-single (single_index c.args.self.0) (omega arith)) at (c.is_known.ensures w)
