-- The decode table: the rule at each index.
use Rattle.std.specs.Prelude.{ℕ, zero, suc, ◌+◌, ◌*◌, ◌%◌, ◌^◌, List, [], ◌∷◌}
use Rattle.bits.specs.Field.{field, bit_of}
use Rattle.decoding.specs.declared.operation.Operation.{Operation}
use Rattle.decoding.specs.Operation.{operation_by, number_of}

-- the index of a word: bits 23:20, 19:16, 7 and 6, bit 23 highest
abbrev pub index_of : ℕ → ℕ
index_of w = field w 20 23 * 2 ^ 6 + field w 16 19 * 2 ^ 2 + field w 6 7

-- the operation of the words of an index
unfoldable pub operation_at : ℕ → Operation
unfolding operation_by
operation_at i = operation_by (field i 9 9 * 8 + field i 6 7 * 2 + i % 2) (field i 2 5) (bit_of i 1)

-- the numbers of n operations from index i on
unfoldable pub entries : ℕ → ℕ → List ℕ
entries zero i = []
entries (suc n) i = number_of (operation_at i) ∷ entries n (suc i)

unfoldable pub operation_table : List ℕ
operation_table = entries 1024 0
