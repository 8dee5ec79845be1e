-- The meaning of a word of a run, which starts in ARM state: Foreign or one of the three classes, under its condition, with the unit enabled.
use Rattle.std.specs.Prelude.{ℕ, Bool, false, cond, not, ◌||◌, ◌&&◌, eqb}
use Rattle.bits.specs.Field.{field, bit_of}
use Rattle.bits.specs.Psr.{holds, psr_of}
use Rattle.machine.specs.Place.{exc, nzcv}
use Rattle.meaning.specs.Step.{nothing}
use Rattle.meaning.specs.Stop as Stop
use Rattle.meaning.specs.Tree.{Tree, stop, go, ask}
use Rattle.memory.specs.LoadStore.{load_store_tree}
use Rattle.processing.specs.Data.{undefined_tree, data_tree}
use Rattle.transfers.specs.Transfer.{transfer_tree}

-- bits 31:28 are 1111, or the coprocessor is neither 10 nor 11, or neither 27:25 are 110 nor 27:24 are 1110
abbrev pub foreign_word : ℕ → Bool
foreign_word w =
    (eqb (field w 28 31) 15 || not (eqb (field w 8 11) 10 || eqb (field w 8 11) 11)) || not (eqb (field w 25 27) 0b110 || eqb (field w 24 27) 0b1110)

-- 110 is load/store; with 1110 bit 4 chooses transfer or data processing
unfoldable pub class_tree : ℕ → ℕ → Tree
class_tree base w = cond (eqb (field w 25 27) 0b110) (load_store_tree base w) (cond (bit_of w 4) (transfer_tree false w) (data_tree false w))

-- a transfer of system register 0 or 8, in either direction, which runs with the unit off too
unfoldable pub exempt : ℕ → Bool
exempt w = (eqb (field w 24 27) 0b1110 && bit_of w 4) && (eqb (field w 21 23) 7 && (eqb (field w 16 19) 0 || eqb (field w 16 19) 8))

-- FPEXC bit 30 enables the unit: without it any other word is Undefined
unfoldable pub enabled : ℕ → Tree → Tree
unfolding exempt
enabled w t = cond (exempt w) t (ask exc (λ e. cond (bit_of e 30) t (undefined_tree false w)))

-- under condition c: 1110 asks for nothing, any other for NZCV; where it fails the word is skipped, and counts as run
unfoldable pub conditioned : ℕ → Tree → Tree
conditioned c t = cond (eqb c 14) t (ask nzcv (λ f. cond (holds c (psr_of f)) t (go nothing)))

unfoldable pub meaning : ℕ → ℕ → Tree
unfolding class_tree exempt enabled conditioned
meaning base w = cond (foreign_word w) (stop Stop.foreign) (conditioned (field w 28 31) (enabled w (class_tree base w)))
