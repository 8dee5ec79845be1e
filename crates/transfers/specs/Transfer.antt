-- The meaning of a register transfer (vfp.rs `coprocessor_register`; the high halves of doubles are the manual's). Bits 11:8 are looked at for opc1 1
-- alone.
use Rattle.std.specs.Prelude.{ℕ, ◌+◌, ◌*◌, ◌/◌, ◌^◌, Bool, true, false, cond, ◌&&◌, [], ◌∷◌, eqb}
use Rattle.bits.specs.Field.{field, bit_of}
use Rattle.registers.specs.Registers.{sreg_of, high_index}
use Rattle.machine.specs.Place.{Place, core, flags, control, exc, nzcv, exceptions, control_of, exceptions_of, s_word}
use Rattle.meaning.specs.Step.{Write, Step, fst, snd, rest, copy, constant, once, nothing}
use Rattle.meaning.specs.Tree.{Tree, Next, on, last, go, branch}
use Rattle.transfers.specs.declared.Transfer.{Transfer}
use Rattle.transfers.specs.declared.Transfer.TheVariants.{System, Single, Nothing}

-- what follows a transfer, by whether it branched
abbrev pub after_transfer : Bool → Next
after_transfer true = last
after_transfer false = on

-- FPSID: a VFPv2 of ARM's
abbrev pub fpsid : ℕ
fpsid = 0x4100_0000

-- a system register read: 0 is FPSID, 1 FPSCR, of its three places, 8 FPEXC, and the others give 0
abbrev pub read_system : ℕ → Place → Write
read_system reg p =
    cond (eqb reg 0) (constant p fpsid)
    (cond (eqb reg 1)
    (record { target = p; sources = flags ∷ control ∷ exceptions ∷ []; value = λ vs. fst vs * 2 ^ 28 + snd vs + snd (rest vs) })
    (cond (eqb reg 8) (copy p exc) (constant p 0)))

-- to r15 it sets NZCV from bits 31:28
abbrev pub read_flags : ℕ → Write
read_flags reg =
    cond (eqb reg 0) (constant nzcv (fpsid / 2 ^ 28))
    (cond (eqb reg 1) (copy nzcv flags)
    (cond (eqb reg 8) (record { target = nzcv; sources = exc ∷ []; value = λ vs. fst vs / 2 ^ 28 }) (constant nzcv 0)))

-- a system register written: 1, in its three places, and 8
abbrev pub write_system : ℕ → Place → Step
write_system reg p =
    cond (eqb reg 1)
    (record { target = flags; sources = p ∷ []; value = λ vs. fst vs / 2 ^ 28 }
    ∷ record { target = control; sources = p ∷ []; value = λ vs. control_of (fst vs) }
    ∷ record { target = exceptions; sources = p ∷ []; value = λ vs. exceptions_of (fst vs) }
    ∷ [])
    (cond (eqb reg 8) (copy exc p ∷ []) [])

-- a branch: the low two bits are cleared, in Thumb the lowest
abbrev pub target : Bool → ℕ → ℕ
target thumb v = cond thumb (v / 2 * 2) (v / 4 * 4)

-- opc1 7
abbrev pub system_tree : ℕ → Tree
system_tree w =
    let reg = field w 16 19 in
    let t = field w 12 15 in
    cond (bit_of w 20)
    (cond (eqb t 15) (go (once (read_flags reg ∷ []))) (go (once (read_system reg (core t) ∷ []))))
    (go (once (write_system reg (core t))))

-- single n and a core register; a single moved to r15 branches
abbrev pub single_tree : Bool → ℕ → ℕ → Tree
single_tree thumb n w =
    let t = field w 12 15 in
    cond (bit_of w 20)
    (cond (eqb t 15)
    (branch (once (record { target = core 15; sources = s_word n ∷ []; value = λ vs. target thumb (fst vs) } ∷ [])))
    (go (once (copy (core t) (s_word n) ∷ []))))
    (go (once (copy (s_word n) (core t) ∷ [])))

-- opc1 1 under coprocessor 11: the high half of a double
abbrev pub high_half : ℕ → Bool
high_half w = eqb (field w 21 23) 1 && eqb (field w 8 11) 11

-- which transfer a word is, by opc1, bits 23:21; the high half of double N is s(2N+1), N being bits 19:16, whatever bit 7 is; any other word does
-- nothing
unfoldable pub transfer_of : ℕ → Transfer
transfer_of w =
    let opc1 = field w 21 23 in
    let n = field w 16 19 in
    cond (eqb opc1 7) System
    (cond (eqb opc1 0) (Single (record { 0 = sreg_of n (field w 7 7) }))
    (cond (high_half w) (Single (record { 0 = high_index n })) Nothing))

abbrev pub transfer_by : Transfer → Bool → ℕ → Tree
transfer_by System thumb w = system_tree w
transfer_by (Single n) thumb w = single_tree thumb n.0 w
transfer_by Nothing thumb w = go nothing

unfoldable pub transfer_tree : Bool → ℕ → Tree
unfolding transfer_of
transfer_tree thumb w = transfer_by (transfer_of w) thumb w
