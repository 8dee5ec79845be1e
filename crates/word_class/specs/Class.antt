-- The class of a word in a run under the flags as they are, and the meaning of each class.
use Rattle.std.specs.Prelude.{ℕ, false, cond, eqb}
use Rattle.bits.specs.Field.{field, bit_of}
use Rattle.bits.specs.Psr.{holds}
use Rattle.bits.specs.declared.psr.Psr.{Psr}
use Rattle.meaning.specs.Step.{nothing}
use Rattle.meaning.specs.Stop as Stop
use Rattle.meaning.specs.Tree.{Tree, stop, go}
use Rattle.memory.specs.LoadStore.{load_store_tree}
use Rattle.processing.specs.Data.{undefined_tree, data_tree}
use Rattle.transfers.specs.Transfer.{transfer_tree}
use Rattle.word_class.specs.Word.{foreign_word, exempt}
use Rattle.word_class.specs.declared.class.Class.{Class}
use Rattle.word_class.specs.declared.class.Class.TheVariants.{Data, Access, Transfer, Skipped, Foreign, Off}

abbrev pub class_of : ℕ → Psr → Class
class_of w flags =
    cond (foreign_word w) Foreign
    (cond (holds (field w 28 31) flags) (cond (eqb (field w 25 27) 0b110) Access (cond (bit_of w 4) Transfer Data)) Skipped)

-- with the unit off, and by FPEXC: bit 30 enables the unit
abbrev pub disabled_class : ℕ → Psr → Class
disabled_class w flags = cond (foreign_word w) Foreign (cond (holds (field w 28 31) flags) (cond (exempt w) Transfer Off) Skipped)

abbrev pub enabled_class : ℕ → Psr → ℕ → Class
enabled_class w flags e = cond (bit_of e 30) (class_of w flags) (disabled_class w flags)

abbrev pub tree_of : ℕ → ℕ → Class → Tree
tree_of base w Data = data_tree false w
tree_of base w Access = load_store_tree base w
tree_of base w Transfer = transfer_tree false w
tree_of base w Skipped = go nothing
tree_of base w Foreign = stop Stop.foreign
tree_of base w Off = undefined_tree false w
