-- Bits of a word replaced by a mask: the code's one expression for one mark and for a double's two.
use mathlib.Core.Path.{◌≡◌, sym, ap, ap₂, ◌∙◌}
use mathlib.Core.Bool.{Bool}
use Prim.Native.Nat.{ℕ, zero, suc, ◌+◌, ◌-◌, ◌*◌, ◌/◌, ◌%◌, ◌^◌, ◌<◌, ◌≤◌}
use native.Mathlib.Omega.{arith}
use native.Mathlib.Nat.{pow-suc, mul_assoc, mul-one, min-zero, max-zero, add-zero, zero-add, zero-mul, div-add-mod'}
use lib.Pow.{pow_pos, shl_exact}
use lib.Dec.{eqb, lit<}
use lib.Bits.{bit_and, bit_or, and_step, or_step, and_le_l, and_mask, or_zero_r, or_block}
use Rattle.bits.specs.Psr.{one_of}
use Rattle.machine.specs.Place.{before}
use Rattle.registers.specs.Registers.{low_index}
use Rattle.place_marks.specs.Word.{with_bit}
use Rattle.place_marks.proofs.Word.{half, odd, one_lt, bit_value}

-- m with the ones of a mask c from bit p on replaced by the bits of v
abbrev pub replaced : ℕ → ℕ → ℕ → ℕ → ℕ
replaced c v m p = bit_or (m - bit_and m (c * 2 ^ p)) (v * 2 ^ p)

even_half : (a : ℕ) → a * 2 / 2 ≡ a
even_half a = omega arith

even : (a : ℕ) → a * 2 % 2 ≡ 0
even a = omega arith

up : (a p : ℕ) → a * 2 ^ suc p ≡ a * 2 ^ p * 2
up a p = ap (λ (x : ℕ). a * x) (pow-suc 2 p) ∙ sym (mul_assoc a (2 ^ p) 2)

-- below the mask the word stays
replaced-suc : (c v m p : ℕ) → replaced c v m (suc p) ≡ replaced c v (m / 2) p * 2 + m % 2
replaced-suc c v m p =
    rw (up c p, up v p, and_step m (c * 2 ^ p * 2), even_half (c * 2 ^ p), even (c * 2 ^ p), min-zero (m % 2))
    (by (bit_and (m / 2) (c * 2 ^ p)) (and_le_l (m / 2) (c * 2 ^ p)))
  where
    by : (a : ℕ) → a ≤ m / 2 → bit_or (m - (a * 2 + 0)) (v * 2 ^ p * 2) ≡ bit_or (m / 2 - a) (v * 2 ^ p) * 2 + m % 2
    by a h =
        let d : (m - (a * 2 + 0)) / 2 ≡ m / 2 - a = omega (arith, h) in
        let e : (m - (a * 2 + 0)) % 2 ≡ m % 2 = omega (arith, h) in
        or_step (m - (a * 2 + 0)) (v * 2 ^ p * 2) ∙ rw (d, e, even_half (v * 2 ^ p), even (v * 2 ^ p), max-zero (m % 2))

-- the low k bits
lowest : (k v m : ℕ) → v < 2 ^ k → replaced (2 ^ k - 1) v m 0 ≡ m / 2 ^ k * 2 ^ k + v
lowest k v m h =
    rw (mul-one (2 ^ k - 1), mul-one v, and_mask m k, cleared)
    (ap₂ bit_or (sym (add-zero (m / 2 ^ k * 2 ^ k))) (sym (zero-add v) ∙ ap (λ (x : ℕ). x + v) (sym (zero-mul (2 ^ k)))) ∙ or_block k (m / 2 ^ k) 0 0 v (pow_pos k) h ∙ ap (λ (x : ℕ). x * 2 ^ k + v) (or_zero_r (m / 2 ^ k)))
  where
    cleared : m - m % 2 ^ k ≡ m / 2 ^ k * 2 ^ k
    cleared = omega (arith, div-add-mod' m (2 ^ k))

-- one bit
pub replaced_one : (m p : ℕ) (b : Bool) → replaced 1 (one_of b) m p ≡ with_bit m p b
unfolding with_bit
replaced_one m zero b = lowest 1 (one_of b) m (one_lt b)
replaced_one m (suc p) b = replaced-suc 1 (one_of b) m p ∙ ap (λ (x : ℕ). x * 2 + m % 2) (replaced_one (m / 2) p b)

-- two bits
pub replaced_two : (v m p : ℕ) → v < 4 → replaced 3 v m p ≡ with_bit (with_bit m p (eqb (v % 2) 1)) (suc p) (eqb (v / 2) 1)
unfolding with_bit
replaced_two v m zero h = lowest 2 v m h ∙ two v h
  where
    both : (a b : ℕ) → a < 2 → b < 2 → m / 4 * 4 + (b * 2 + a) ≡ ((m / 2 * 2 + one_of (eqb a 1)) / 2 / 2 * 2 + one_of (eqb b 1)) * 2 + (m / 2 * 2 + one_of (eqb a 1)) % 2
    both a b l k = rw (bit_value a l, bit_value b k) (omega arith)

    two : (v : ℕ) → v < 4 → m / 4 * 4 + v ≡ ((m / 2 * 2 + one_of (eqb (v % 2) 1)) / 2 / 2 * 2 + one_of (eqb (v / 2) 1)) * 2 + (m / 2 * 2 + one_of (eqb (v % 2) 1)) % 2
    two v l = let e : v / 2 * 2 + v % 2 ≡ v = omega arith in ap (λ (x : ℕ). m / 4 * 4 + x) (sym e) ∙ both (v % 2) (v / 2) (omega arith) (omega arith)
replaced_two v m (suc p) h =
    let b = eqb (v % 2) 1 in
    replaced-suc 3 v m p ∙ ap (λ (x : ℕ). x * 2 + m % 2) (replaced_two v (m / 2) p h)
    ∙ rw (half (with_bit (m / 2) p b) (m % 2) (omega arith), odd (with_bit (m / 2) p b) (m % 2) (omega arith))

-- as the code has it: nothing is shifted out of 64 bits
pub set_one : (m p : ℕ) (b : Bool) → p < before → bit_or (m - bit_and m ((1 * 2 ^ p) % 2 ^ 64)) ((one_of b * 2 ^ p) % 2 ^ 64) ≡ with_bit m p b
set_one m p b h = rw (shl_exact {a = 1} 1 p 64 (lit< tt) (omega arith), shl_exact 1 p 64 (one_lt b) (omega arith)) (replaced_one m p b)

pub set_two : (v m n : ℕ) → v < 4
    → bit_or (m - bit_and m ((3 * 2 ^ low_index n) % 2 ^ 64)) ((v * 2 ^ low_index n) % 2 ^ 64) ≡ with_bit (with_bit m (low_index n) (eqb (v % 2) 1)) (suc (low_index n)) (eqb (v / 2) 1)
set_two v m n h = rw (shl_exact {a = 3} 2 (low_index n) 64 (lit< tt) (omega arith), shl_exact 2 (low_index n) 64 h (omega arith)) (replaced_two v m (low_index n) h)
