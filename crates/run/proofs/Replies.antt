-- From the words' promises to the run's.
use Prim.Native.Nat.{ℕ}
use mathlib.Core.Path.{◌≡◌, ap}
use mathlib.Core.Bool.{false}
use mathlib.Core.List.{List}
use lib.ListN.{length}
use borrow.Author.Tests.{ne_eqb}
use Rattle.machine.specs.declared.Machine.{Machine}
use Rattle.machine.specs.Machine.{assembled, controls_of}
use Rattle.machine.specs.Place.{State, state}
use Rattle.meaning.specs.Stop.{report}
use Rattle.meaning.specs.Run.{Ended, ended, run}
use Rattle.run_word.specs.declared.Stop.{Stop}
use Rattle.progress.specs.declared.Ran.{Ran}
use Rattle.limits.specs.Limit.{run_limit}
use Rattle.word_class.specs.Word.{meaning}
use Rattle.run_word.specs.Stop.{stop_of}
use Rattle.run.specs.Run.{Reply, answered, reply, run_reply}
use Rattle.meaning.specs.Stop as S

-- an answer of these parts
pub answered_as : (a : Ran) (stop : Stop) (count : ℕ) (m : Machine) (v : List ℕ) (e : Ended) → (a.stop ≡ stop) × (a.count ≡ count) × (a.machine ≡ m)
    → ended (state m v) count (stop_of stop) ≡ e → answered a v ≡ reply e
answered_as a stop count m v e p q = rw (p.0, p.1, p.2) (ap reply q)

-- a machine in ARM state is made of its parts
pub whole : (m : Machine) → m.thumb ≡ false → assembled m.s m.r (controls_of m) false ≡ m
whole m e = rw (← e)

module _ (base : ℕ) (list : List ℕ) (st : State) (n : ℕ) (l : n ≡ run_limit (length list) base (length st.window) st.machine.thumb) where
  pub allowed : (x : Reply) → n ≡ 0 → x ≡ reply (run (meaning base) list 0 st) → x ≡ run_reply base list st
  allowed x z e = rw (← l, z) e

  pub turned : (n ≡ 0 → ⊥) → record { report = report (S.refused n); count = 0; leaves = st } ≡ run_reply base list st
  turned z = rw (← l, ne_eqb _ _ z)
