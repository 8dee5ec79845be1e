-- The flags as four bits and back.
use mathlib.Core.Path.{◌≡◌, refl}
use mathlib.Core.Bool.{Bool, true, false}
use Prim.Native.Nat.{ℕ, zero, suc, ◌+◌, ◌*◌, ◌/◌, ◌%◌, ◌^◌, ◌<◌}
use native.Mathlib.Omega.{arith}
use native.Mathlib.Nat.{div-div-eq-div-mul}
use lib.Dec.{eqb}
use Rattle.bits.specs.declared.psr.Psr.{Psr}
use Rattle.bits.specs.Field.{bit_of}
use Rattle.bits.specs.Psr.{one_of, nzcv_of, psr_of}

abbrev pub flags_of : Bool → Bool → Bool → Bool → Psr
flags_of n z c v = record { n = n; z = z; c = c; v = v }

-- reading the four bits gives the flags back
pub psr_nzcv : (p : Psr) → psr_of (nzcv_of p) ≡ p
psr_nzcv p = by p.n p.z p.c p.v
  where
    by : (n z c v : Bool) → psr_of (nzcv_of (flags_of n z c v)) ≡ flags_of n z c v
    by true true true true = refl
    by true true true false = refl
    by true true false true = refl
    by true true false false = refl
    by true false true true = refl
    by true false true false = refl
    by true false false true = refl
    by true false false false = refl
    by false true true true = refl
    by false true true false = refl
    by false true false true = refl
    by false true false false = refl
    by false false true true = refl
    by false false true false = refl
    by false false false true = refl
    by false false false false = refl

bit_value : (k : ℕ) → k < 2 → one_of (eqb k 1) ≡ k
bit_value zero h = refl
bit_value (suc zero) h = refl
bit_value (suc (suc k)) h = absurd (omega arith)

-- and four bits are the flags' bits
pub nzcv_psr : (k : ℕ) → k < 2 ^ 4 → nzcv_of (psr_of k) ≡ k
nzcv_psr k h =
    rw (bit_value (k / 2 ^ 3 % 2) (omega arith), bit_value (k / 2 ^ 2 % 2) (omega arith), bit_value (k / 2 ^ 1 % 2) (omega arith), bit_value (k % 2) (omega arith))
    (four k (k / 2 ^ 1) (k / 2 ^ 2) (k / 2 ^ 3) h refl (div-div-eq-div-mul k 2 2) (div-div-eq-div-mul k 4 2))
  where
    four : (k a b c : ℕ) → k < 2 ^ 4 → k / 2 ≡ a → a / 2 ≡ b → b / 2 ≡ c → c % 2 * 8 + b % 2 * 4 + a % 2 * 2 + k % 2 ≡ k
    four k a b c h p q r = omega arith

-- the flags in the top four bits of a word, bit by bit
pub top_bits : (w : ℕ) → flags_of (bit_of w 31) (bit_of w 30) (bit_of w 29) (bit_of w 28) ≡ psr_of (w / 2 ^ 28)
top_bits w = rw (div-div-eq-div-mul w (2 ^ 28) (2 ^ 3), div-div-eq-div-mul w (2 ^ 28) (2 ^ 2), div-div-eq-div-mul w (2 ^ 28) (2 ^ 1))
