-- From what a run promises to what its exported function leaves.
use Prim.Native.Nat.{ℕ}
use mathlib.Core.Path.{◌≡◌}
use mathlib.Core.Bool.{Bool, true, false, not}
use mathlib.Core.List.{List}
use lib.Dec.{eqb}
use lib.ListN.{length}
use borrow.Author.Tests.{not-true, not-false}
use Rattle.machine.specs.declared.Machine.{Machine}
use Rattle.machine.specs.Place.{State, state}
use Rattle.meaning.specs.Stop.{report}
use Rattle.progress.specs.declared.Ran.{Ran}
use Rattle.run_word.specs.Stop.{stop_of}
use Rattle.run.specs.Run.{Reply, answered}
use Rattle.layout.specs.State.{encode, decode}
use Rattle.answer.specs.Answer.{answer_of}
use Rattle.outcomes.specs.Outcome.{outcome, invalid_argument, valid_call, decoded_state, ran}

module _ (y : State → Reply) (l w a : List ℕ) (thumb : ℕ) (b : Bool) (u : b ≡ valid_call l thumb (length a)) where
  pub not_run : not b ≡ true → outcome invalid_argument l w a ≡ ran y l w thumb a
  not_run e = rw (← u, not-true b e)

  pub has_run : (m : Machine) (x : Ran) (r : ℕ) (l' w' a' : List ℕ) → not b ≡ false → m ≡ decode (eqb thumb 1) l → answered x w' ≡ y (state m w)
      → l' ≡ encode x.machine → (r ≡ (report (stop_of x.stop)).kind) × (a' ≡ answer_of x.count (report (stop_of x.stop)) 0)
      → outcome r l' w' a' ≡ ran y l w thumb a
  has_run m x r l' w' a' e em ey el et = rw (← u, not-false b e, ← spoken, el, et.0, et.1)
    where
      spoken : answered x w' ≡ y (decoded_state l w thumb)
      spoken = rw (← em) ey
