-- The two numberings of registers, and where a register's words stand among s0..s31.
use Rattle.std.specs.Prelude.{ℕ, ◌+◌, ◌*◌, ◌/◌, ◌%◌, ◌^◌, List, get_or, set}
use Rattle.std.specs.Float.{Format, binary32, binary64}

-- V × 2 + extra bit, and extra bit × 16 + V
abbrev pub sreg_of : ℕ → ℕ → ℕ
sreg_of v extra = v * 2 + extra

abbrev pub dreg_of : ℕ → ℕ → ℕ
dreg_of v extra = extra * 16 + v

-- a register's number in either precision
abbrev pub reg_of : Format → ℕ → ℕ → ℕ
reg_of binary32 v extra = sreg_of v extra
reg_of binary64 v extra = dreg_of v extra

-- indices are modulo 32; double N is s(2N), the low word, and s(2N+1)
abbrev pub single_index : ℕ → ℕ
single_index n = n % 32

abbrev pub low_index : ℕ → ℕ
low_index n = 2 * n % 32

abbrev pub high_index : ℕ → ℕ
high_index n = (2 * n + 1) % 32

-- the 64 bits of a double, of its low and its high word
abbrev pub double_of : ℕ → ℕ → ℕ
double_of low high = high * 2 ^ 32 + low

-- registers in a bank
abbrev pub bank_of : Format → ℕ
bank_of binary32 = 8
bank_of binary64 = 4

-- the word of a register, among s0..s31, and these with another word in it
abbrev pub value_in : Format → List ℕ → ℕ → ℕ
value_in binary32 s n = get_or s (single_index n) 0
value_in binary64 s n = double_of (get_or s (low_index n) 0) (get_or s (high_index n) 0)

abbrev pub stored_in : Format → List ℕ → ℕ → ℕ → List ℕ
stored_in binary32 s n v = set s (single_index n) v
stored_in binary64 s n v = set (set s (low_index n) (v % 2 ^ 32)) (high_index n) (v / 2 ^ 32)
