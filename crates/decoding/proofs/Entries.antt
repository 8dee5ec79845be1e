-- The table's rule at each index, and so of each word.
use Prim.Native.Nat.{ℕ, zero, suc, ◌+◌, ◌*◌, ◌/◌, ◌%◌, ◌^◌, ◌<◌}
use mathlib.Core.Path.{◌≡◌, refl, ◌∙◌}
use native.Mathlib.Nat.{add-zero, zero-add, add-suc, suc-add, le_of_suc-le-suc, not-suc-le-zero}
use native.Mathlib.Omega.{arith}
use lib.ListN.{get_or}
use Rattle.bits.specs.Field.{field}
use Rattle.decoding.specs.declared.operation.Operation.{Operation}
use Rattle.decoding.specs.Operation.{operation_of, number_of, operation_numbered}
use Rattle.decoding.specs.declared.operation.Operation.TheVariants.{Undefined, Fmac, Fnmac, Fmsc, Fnmsc, Fmul, Fnmul, Fadd, Fsub, Fdiv, Fcpy, Fabs, Fneg, Fsqrt, Fcmp, Fcmpe, Fcmpz, Fcmpez, Fcvt, Fuito, Fsito, Ftoui, Ftouiz, Ftosi, Ftosiz}
use Rattle.decoding.specs.Table.{index_of, operation_at, entries, operation_table}

-- ---- the index's fields are the word's

index_top : (a b c : ℕ) → a < 16 → b < 16 → c < 4 → (a * 64 + b * 4 + c) / 64 ≡ a
index_top a b c x y z = omega arith

word_top : (w : ℕ) → w / 2 ^ 20 % 16 / 8 % 2 ≡ w / 2 ^ 23 % 2
word_top w = omega arith

word_middle : (w : ℕ) → w / 2 ^ 20 % 16 % 4 ≡ w / 2 ^ 20 % 4
word_middle w = omega arith

divided_further : (i : ℕ) → i / 512 ≡ i / 64 / 8
divided_further i = omega arith

index_part : (w : ℕ) → index_of w / 64 ≡ field w 20 23
index_part w = index_top (field w 20 23) (field w 16 19) (field w 6 7) (omega arith) (omega arith) (omega arith)

top_kind : (w : ℕ) → field (index_of w) 9 9 ≡ field w 23 23
top_kind w = rw (divided_further (index_of w), index_part w) (word_top w)

middle_kind : (w : ℕ) → field (index_of w) 6 7 ≡ field w 20 21
middle_kind w = rw (index_part w) (word_middle w)

low_kind : (w : ℕ) → index_of w % 2 ≡ field w 6 6
low_kind w = omega arith

opc2_bits : (w : ℕ) → field (index_of w) 2 5 ≡ field w 16 19
opc2_bits w = omega arith

top_bit : (w : ℕ) → field (index_of w) 1 1 ≡ field w 7 7
top_bit w = omega arith

-- the ten bits alone decide
pub by_index : (w : ℕ) → operation_of w ≡ operation_at (index_of w)
unfolding operation_of operation_at
by_index w = rw (top_kind w, middle_kind w, low_kind w, opc2_bits w, top_bit w)

-- ---- the entries

from : (n i k : ℕ) → k < n → get_or (entries n i) k 0 ≡ number_of (operation_at (i + k))
unfolding entries
from zero i k h = absurd (not-suc-le-zero h)
from (suc n) i zero h = rw (add-zero i)
from (suc n) i (suc k) h = from n (suc i) k (le_of_suc-le-suc h) ∙ rw (suc-add i k, ← add-suc i k)

pub entry : (i : ℕ) → i < 1024 → get_or operation_table i 0 ≡ number_of (operation_at i)
unfolding operation_table
entry i h = from 1024 0 i h ∙ rw (zero-add i)

pub entry_of_lem : (w : ℕ) → get_or operation_table (index_of w) 0 ≡ number_of (operation_of w)
entry_of_lem w = entry (index_of w) (omega arith) ∙ rw (← by_index w)

-- ---- an operation is that of its number

pub numbered_number : (o : Operation) → operation_numbered (number_of o) ≡ o
unfolding operation_numbered
numbered_number Undefined = refl
numbered_number Fmac = refl
numbered_number Fnmac = refl
numbered_number Fmsc = refl
numbered_number Fnmsc = refl
numbered_number Fmul = refl
numbered_number Fnmul = refl
numbered_number Fadd = refl
numbered_number Fsub = refl
numbered_number Fdiv = refl
numbered_number Fcpy = refl
numbered_number Fabs = refl
numbered_number Fneg = refl
numbered_number Fsqrt = refl
numbered_number Fcmp = refl
numbered_number Fcmpe = refl
numbered_number Fcmpz = refl
numbered_number Fcmpez = refl
numbered_number Fcvt = refl
numbered_number Fuito = refl
numbered_number Fsito = refl
numbered_number Ftoui = refl
numbered_number Ftouiz = refl
numbered_number Ftosi = refl
numbered_number Ftosiz = refl
