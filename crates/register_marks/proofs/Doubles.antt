-- The marks of registers by their bits: a single's, and the two of a double, which are neighbours.
use mathlib.Core.Path.{◌≡◌, refl, sym, ap, ap₂, ◌∙◌}
use mathlib.Core.Bool.{Bool, ◌&&◌}
use mathlib.Core.List.{List}
use Prim.Native.Nat.{ℕ, zero, suc, ◌/◌, ◌%◌, ◌^◌, ◌<◌}
use native.Mathlib.Omega.{arith}
use lib.Dec.{eqb}
use lib.Ieee.{binary64}
use Rattle.bits.specs.Field.{bit_of}
use Rattle.registers.specs.Registers.{low_index, high_index}
use Rattle.machine.specs.Place.{single}
use Rattle.meaning.specs.Map.{Map, known, mark}
use Rattle.place_marks.specs.Word.{map_in, with_bit}
use Rattle.register_marks.specs.Register.{known_in}
use Rattle.place_marks.proofs.Places.{place-single}
use Rattle.place_marks.proofs.Word.{next, known_in_lem, mark_in}

-- a bit and the next one as two bits
pub low_of : (m i : ℕ) → eqb (m / 2 ^ i % 4 % 2) 1 ≡ bit_of m i
low_of m i = let e : m / 2 ^ i % 4 % 2 ≡ m / 2 ^ i % 2 = omega arith in rw e

pub high_of : (m i : ℕ) → eqb (m / 2 ^ i % 4 / 2) 1 ≡ bit_of m (suc i)
high_of m i = let e : m / 2 ^ i % 4 / 2 ≡ m / 2 ^ i / 2 % 2 = omega arith in rw (e, next m i)

both_set : (v : ℕ) → v < 4 → eqb v 3 ≡ (eqb (v / 2) 1 && eqb (v % 2) 1)
both_set zero h = refl
both_set (suc zero) h = refl
both_set (suc (suc zero)) h = refl
both_set (suc (suc (suc zero))) h = refl
both_set (suc (suc (suc (suc v)))) h = absurd (omega arith)

-- the high word is the low word's neighbour
pub neighbour : (n : ℕ) → high_index n ≡ suc (low_index n)
neighbour n = omega arith

module _ (m : ℕ) (w : List ℕ) where
  known_at : (n : ℕ) → n < 32 → known (map_in m w) (single n) ≡ bit_of m n
  known_at n h = rw (place-single n h) at (known_in_lem m w n (omega arith))

  mark_at : (n : ℕ) (b : Bool) → n < 32 → map_in (with_bit m n b) w ≡ mark (map_in m w) (single n) b
  mark_at n b h = rw (place-single n h) at (mark_in m w b n (omega arith))

  pub low_known : (n : ℕ) → eqb (m / 2 ^ low_index n % 4 % 2) 1 ≡ known (map_in m w) (single (low_index n))
  low_known n = low_of m (low_index n) ∙ sym (known_at (low_index n) (omega arith))

  pub high_known : (n : ℕ) → eqb (m / 2 ^ low_index n % 4 / 2) 1 ≡ known (map_in m w) (single (high_index n))
  high_known n = high_of m (low_index n) ∙ ap (bit_of m) (sym (neighbour n)) ∙ sym (known_at (high_index n) (omega arith))

  pub both_known : (n v : ℕ) → v ≡ m / 2 ^ low_index n % 4 → eqb v 3 ≡ known_in binary64 (map_in m w) n
  both_known n v e = rw e (both_set (m / 2 ^ low_index n % 4) (omega arith) ∙ ap₂ ◌&&◌ (high_known n) (low_known n))

pub both_marked : (m : ℕ) (w : List ℕ) (n : ℕ) (a b : Bool)
    → map_in (with_bit (with_bit m (low_index n) a) (high_index n) b) w ≡ mark (mark (map_in m w) (single (low_index n)) a) (single (high_index n)) b
both_marked m w n a b =
    mark_at (with_bit m (low_index n) a) w (high_index n) b (omega arith)
    ∙ ap (λ (μ : Map). mark μ (single (high_index n)) b) (mark_at m w (low_index n) a (omega arith))
