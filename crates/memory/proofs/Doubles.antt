-- Registers in turn are their words in turn: k doubles move as 2 k singles do, from the low word of the first double on.
use mathlib.Core.Path.{◌≡◌, refl, ap, ◌∙◌}
use mathlib.Core.Bool.{Bool, true, false}
use mathlib.Core.List.{◌++◌}
use Prim.Native.Nat.{ℕ, zero, suc, ◌+◌, ◌*◌, ◌%◌, ◌^◌}
use native.Mathlib.Omega.{arith}
use lib.Ieee.{Format, binary32, binary64}
use Rattle.registers.specs.Registers.{single_index, low_index, high_index}
use Rattle.machine.specs.Place.{State}
use Rattle.meaning.specs.Step.{Step, step, after}
use Rattle.meaning.proofs.Laws.{after_one}
use Rattle.addresses.specs.Address.{words_in, first_word}
use Rattle.memory.specs.LoadStore.{access_step, access_at}

module _ (load : Bool) (base d a : ℕ) where
  -- the step of a double is that of its two words
  pub halves : (i : ℕ) → access_at binary64 load base d a i
      ≡ access_at binary32 load base (low_index d) a (2 * i) ++ access_at binary32 load base (low_index d) a (2 * i + 1)
  halves i = by load
    where
      low : low_index (d + i) ≡ single_index (low_index d + 2 * i)
      low = omega arith

      high : high_index (d + i) ≡ single_index (low_index d + (2 * i + 1))
      high = omega arith

      at_low : (a + 8 * i) % 2 ^ 32 ≡ (a + 4 * (2 * i)) % 2 ^ 32
      at_low = omega arith

      at_high : ((a + 8 * i) % 2 ^ 32 + 4) % 2 ^ 32 ≡ (a + 4 * (2 * i + 1)) % 2 ^ 32
      at_high = omega arith

      by : (l : Bool) → access_at binary64 l base d a i
          ≡ access_at binary32 l base (low_index d) a (2 * i) ++ access_at binary32 l base (low_index d) a (2 * i + 1)
      by true = rw (low, high, at_high, at_low)
      by false = rw (low, high, at_high, at_low)

-- a word that is read is none that the other half writes
pub in_turn : (load : Bool) (base n m a b : ℕ) (st : State) → step (access_step binary32 load base n a ++ access_step binary32 load base m b) st
    ≡ step (access_step binary32 load base m b) (step (access_step binary32 load base n a) st)
in_turn true base n m a b st = refl
in_turn false base n m a b st = refl

module _ (load : Bool) (base d a : ℕ) where
  doubles : (k : ℕ) (st : State) → after k (access_at binary64 load base d a) st ≡ after (2 * k) (access_at binary32 load base (low_index d) a) st
  unfolding after
  doubles zero st = refl
  doubles (suc k) st =
      let e : 2 * suc k ≡ 2 * k + 1 + 1 = omega arith in
      rw e (ap (λ (x : Step). step x (after k (access_at binary64 load base d a) st)) (halves load base d a k) ∙ in_turn load base _ _ _ _ _ ∙ after_one (2 * k + 1) _ st _ (after_one (2 * k) _ st _ (doubles k st)))

  pub in_words : (f : Format) (k : ℕ) (st : State)
      → after k (access_at f load base d a) st ≡ after (words_in f * k) (access_at binary32 load base (first_word f d) a) st
  in_words binary32 k st = let e : 1 * k ≡ k = omega arith in rw e
  in_words binary64 k st = doubles k st
