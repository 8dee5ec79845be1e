-- The flags as four bits, N highest, and the conditions over them.
use Rattle.std.specs.Prelude.{ℕ, ◌+◌, ◌*◌, ◌/◌, ◌%◌, List, [], ◌∷◌, Bool, true, false, cond, not, ◌&&◌, get_or, eqb, leb}
use Rattle.std.specs.Bool.{beq}
use Rattle.bits.specs.Field.{bit_of}
use Rattle.bits.specs.declared.psr.Psr.{Psr}

abbrev pub one_of : Bool → ℕ
one_of true = 1
one_of false = 0

abbrev pub nzcv_of : Psr → ℕ
nzcv_of p = one_of p.n * 8 + one_of p.z * 4 + one_of p.c * 2 + one_of p.v

abbrev pub psr_of : ℕ → Psr
psr_of k = record { n = bit_of k 3; z = bit_of k 2; c = bit_of k 1; v = eqb (k % 2) 1 }

-- The conditions (ARM DDI 0100I, A3.2): bits 3:1 name a test of the flags and bit 0 inverts it; 1110 and 1111 always hold, since a word
-- with 1111 is no conditional instruction.

-- EQ, CS, MI, VS, HI, GE, GT
abbrev pub tests : Psr → List Bool
tests p =
    p.z
    ∷ p.c
    ∷ p.n
    ∷ p.v
    ∷ (p.c && not p.z)
    ∷ beq p.n p.v
    ∷ (not p.z && beq p.n p.v)
    ∷ []

-- whether condition k, below 16, holds
unfoldable pub holds : ℕ → Psr → Bool
holds k p = cond (leb 14 k) true (cond (eqb (k % 2) 1) (not (get_or (tests p) (k / 2) true)) (get_or (tests p) (k / 2) true))
