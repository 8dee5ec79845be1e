-- From what a call promises to what its exported function leaves.
use Prim.Native.Nat.{ℕ}
use mathlib.Core.Path.{◌≡◌, sym, ◌∙◌}
use mathlib.Core.Bool.{Bool, true, false, not}
use mathlib.Core.List.{List}
use lib.Dec.{eqb, ltb}
use lib.ListN.{length}
use borrow.Author.Tests.{eqb-true, not-true, not-false}
use Rattle.machine.specs.declared.Machine.{Machine}
use Rattle.machine.specs.Place.{State, state}
use Rattle.vfp.specs.declared.Answer.{Answer}
use Rattle.vfp.specs.Call.{Reply, exit_report, answered}
use Rattle.layout.specs.State.{encode, decode, Valid}
use Rattle.layout.proofs.Both.{fst, snd}
use Rattle.layout.proofs.Words.{valid_facts}
use Rattle.answer.specs.Answer.{answer_of}
use Rattle.outcomes.specs.Outcome.{outcome, invalid_argument, valid_call, decoded_state, called}

-- a valid call as facts
module _ (l : List ℕ) (thumb n : ℕ) (b : Bool) (u : b ≡ valid_call l thumb n) (e : not b ≡ false) where
  so : valid_call l thumb n ≡ true
  so = sym u ∙ not-false b e

  pub Valid-call_state : Valid l
  unfolding valid_call
  Valid-call_state = valid_facts l (snd (eqb n 5) _ (snd (ltb thumb 2) _ so))

  pub valid_call_answer : n ≡ 5
  unfolding valid_call
  valid_call_answer = eqb-true n 5 (fst (eqb n 5) _ (snd (ltb thumb 2) _ so))

thumb_of_decode : (t : Bool) (l : List ℕ) (m : Machine) → m ≡ decode t l → m.thumb ≡ t
unfolding decode
thumb_of_decode t l m e = rw e

-- 255, and a call
module _ (y : Bool → State → Reply) (l w a : List ℕ) (thumb : ℕ) (b : Bool) (u : b ≡ valid_call l thumb (length a)) where
  pub not-called : not b ≡ true → outcome invalid_argument l w a ≡ called (y (eqb thumb 1)) l w thumb a
  not-called e = rw (← u, not-true b e)

  pub has_called : (m : Machine) (x : Answer) (r : ℕ) (l' w' a' : List ℕ) → not b ≡ false → m ≡ decode (eqb thumb 1) l → answered x w' ≡ y m.thumb (state m w)
      → l' ≡ encode x.machine → (r ≡ (exit_report x.exit).kind) × (a' ≡ answer_of 0 (exit_report x.exit) 0)
      → outcome r l' w' a' ≡ called (y (eqb thumb 1)) l w thumb a
  has_called m x r l' w' a' e em ey el et = rw (← u, not-false b e, ← spoken, el, et.0, et.1)
    where
      thumb_of : m.thumb ≡ eqb thumb 1
      thumb_of = thumb_of_decode (eqb thumb 1) l m em

      spoken : answered x w' ≡ y (eqb thumb 1) (decoded_state l w thumb)
      spoken = rw (← em, ← thumb_of) ey
