-- What steps of data processing write and read.
use Prim.Native.Nat.{ℕ, ◌+◌, ◌-◌, ◌*◌, ◌%◌, ◌≤◌, ◌<◌}
use native.Mathlib.Omega.{arith}
use native.Mathlib.Decide.{dec_lt}
use mathlib.Core.Path.{◌≡◌, refl}
use mathlib.Core.Logic.{◌⊎◌, inl, inr, ⊎_elim}
use mathlib.Core.List.{List, [], ◌∷◌, ◌++◌}
use lib.Ieee.{Format, binary32, binary64}
use Rattle.machine.specs.Place.{Place, flags, exceptions, number, s_word, low_word, high_word}
use Rattle.registers.specs.Registers.{low_index, high_index}
use Rattle.registers.proofs.Halves.{low_index_lem, high_index_lem}
use Rattle.meaning.specs.Step.{Write}
use Rattle.numbers.specs.declared.arithmetic.Arithmetic.{Arithmetic}
use Rattle.short_vectors.specs.Register.{words_of, written}
use Rattle.arithmetic_steps.specs.Arithmetic.{operands, arithmetic_step}
use Rattle.root_steps.specs.Root.{root_step}
use Rattle.sign_steps.specs.Sign.{sign_step}
use Rattle.sign_steps.specs.declared.sign.SignOperation.{SignOperation}
use Rattle.chains.specs.Origin.{Present}
use Rattle.sources.specs.Rule.{Outside, Rule, Copying}
use Rattle.sources.proofs.Picking.{single_place, low_place, high_place}
use Rattle.sources.proofs.Rules.{same_at, other_at}

out_of : (q n k j : ℕ) → Outside n k q → n ≤ j → j < n + k → q ≡ j → ⊥
out_of q n k j (inl h) a b e = omega arith
out_of q n k j (inr h) a b e = omega arith

low_or_high : (q k : ℕ) → k ≤ q → q < k + 2 → (q ≡ k) ⊎ (q ≡ k + 1)
low_or_high q k a b = by (dec_lt q (k + 1))
  where
    by : Dec (q < k + 1) → (q ≡ k) ⊎ (q ≡ k + 1)
    by (yes h) = inl (omega arith)
    by (no h) = inr (omega (arith, h))

-- a write of the cumulative exception bits
abbrev raised : List Place → (List ℕ → ℕ) → Write
raised t u = record { target = exceptions; sources = exceptions ∷ t; value = u }

module _ (s t : List Place) (v u : List ℕ → ℕ) where
  -- one write of a place before the cumulative exception bits
  one_Rule : (p : Place) → Present p → number p < number exceptions → Rule (record { target = p; sources = s; value = v } ∷ raised t u ∷ []) (number p) 1 s t
  one_Rule p h l =
      record {
        target = λ q a b.
            let e = same_at p h q (omega arith) in
            let n = other_at exceptions tt q (λ g. omega arith) in
            (rw (n, e) refl, rw (n, e) refl);
        raised = (refl, refl);
        other = λ q o n. rw (other_at exceptions tt q n, other_at p h q (out_of q (number p) 1 (number p) o (omega arith) (omega arith))) refl;
      }

  pub flags-Rule : Rule (record { target = flags; sources = s; value = v } ∷ raised t u ∷ []) (number flags) 1 s t
  flags-Rule = one_Rule flags tt (omega arith)

  pub single_Rule : (d : ℕ) → Rule (written binary32 d s v ++ (raised t u ∷ [])) (d % 32) 1 s t
  single_Rule d = one_Rule (s_word d) (omega arith) (omega arith)

  pub double_Rule : (d : ℕ) → Rule (written binary64 d s v ++ (raised t u ∷ [])) (d % 16 * 2) 2 s t
  double_Rule d =
      let i = low_index_lem d in
      let j = high_index_lem d in
      record {
        target = λ q a b.
            let n = other_at exceptions tt q (λ g. omega arith) in
            ⊎_elim (λ e. rw (n, other_at (high_word d) (omega arith) q (λ g. omega arith), same_at (low_word d) (omega arith) q (omega arith)) (refl, refl))
            (λ e. rw (n, same_at (high_word d) (omega arith) q (omega arith)) (refl, refl)) (low_or_high q (d % 16 * 2) a b);
        raised = (refl, refl);
        other = λ q o n.
            rw (
              other_at exceptions tt q n,
              other_at (high_word d) (omega arith) q (out_of q (d % 16 * 2) 2 (high_index d) o (omega arith) (omega arith)),
              other_at (low_word d) (omega arith) q (out_of q (d % 16 * 2) 2 (low_index d) o (omega arith) (omega arith)),
            ) refl;
      }

-- the first of a register's words, and how many they are
abbrev pub at_of : Format → ℕ → ℕ
at_of binary32 d = d % 32
at_of binary64 d = d % 16 * 2

abbrev pub many_of : Format → ℕ
many_of binary32 = 1
many_of binary64 = 2

register_Rule : (f : Format) (d : ℕ) (s t : List Place) (v u : List ℕ → ℕ) → Rule (written f d s v ++ (raised t u ∷ [])) (at_of f d) (many_of f) s t
register_Rule binary32 d s t v u = single_Rule s t v u d
register_Rule binary64 d s t v u = double_Rule s t v u d

module _ (f : Format) where
  pub arithmetic_Rule : (c : ℕ) (kind : Arithmetic) (d n m : ℕ) → let s = words_of f (operands kind d n m) in Rule (arithmetic_step f c kind d n m) (at_of f d) (many_of f) s s
  arithmetic_Rule c kind d n m = let s = words_of f (operands kind d n m) in register_Rule f d s s _ _

  pub root_Rule : (c d m : ℕ) → let s = words_of f (m ∷ []) in Rule (root_step f c d m) (at_of f d) (many_of f) s s
  root_Rule c d m = let s = words_of f (m ∷ []) in register_Rule f d s s _ _

-- moves and sign changes
pub single_Copying : (sign : SignOperation) (d m : ℕ) → Copying (sign_step binary32 sign d m) (d % 32) 1 (m % 32)
single_Copying sign d m =
    record {
      target = λ q a b.
          let e = same_at (s_word d) (omega arith) q (omega arith) in
          let z : m % 32 + (q - d % 32) ≡ m % 32 = omega arith in
          (rw e refl, rw (e, z, single_place m) refl);
      other = λ q o. rw (other_at (s_word d) (omega arith) q (out_of q (d % 32) 1 (d % 32) o (omega arith) (omega arith))) refl;
    }

pub double_Copying : (sign : SignOperation) (d m : ℕ) → Copying (sign_step binary64 sign d m) (d % 16 * 2) 2 (m % 16 * 2)
double_Copying sign d m =
    let i = low_index_lem d in
    let j = high_index_lem d in
    record {
      target = λ q a b.
          ⊎_elim (λ e.
          let z : m % 16 * 2 + (q - d % 16 * 2) ≡ m % 16 * 2 = omega arith in
          rw (z, low_place m, other_at (high_word d) (omega arith) q (λ g. omega arith), same_at (low_word d) (omega arith) q (omega arith)) (refl, refl))
          (λ e.
          let z : m % 16 * 2 + (q - d % 16 * 2) ≡ m % 16 * 2 + 1 = omega arith in
          rw (z, high_place m, same_at (high_word d) (omega arith) q (omega arith)) (refl, refl)) (low_or_high q (d % 16 * 2) a b);
      other = λ q o.
          rw (
            other_at (high_word d) (omega arith) q (out_of q (d % 16 * 2) 2 (high_index d) o (omega arith) (omega arith)),
            other_at (low_word d) (omega arith) q (out_of q (d % 16 * 2) 2 (low_index d) o (omega arith) (omega arith)),
          ) refl;
    }
