-- The claim of correct rounding, gathered from the crates that prove it. Assumes nothing.
use Rattle.correct_rounding.proofs.Rounded.{rounded_correct}
use Rattle.correct_rounding.proofs.Operations.{numbers_correct}
use Rattle.correct_rounding.proofs.Roots.{roots_correct}
use Rattle.claims.specs.Correct.{Correct}

pub correct : Correct
correct = record { rounding = rounded_correct; numbers = numbers_correct; roots = roots_correct }
