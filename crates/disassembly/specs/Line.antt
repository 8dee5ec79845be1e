-- A word at an address.
use Rattle.std.specs.Prelude.{ℕ, Bool, cond, List, ◌++◌, eqb}
use Rattle.bits.specs.Field.{field, bit_of}
use Rattle.numerals.specs.Number.{hex_text}
use Rattle.decoding.specs.Operation.{operation_of}
use Rattle.addresses.specs.Address.{format_of}
use Rattle.word_class.specs.Word.{foreign_word}
use Rattle.mnemonics.specs.Ascii.{ascii}
use Rattle.processing_mnemonics.specs.Data.{data_text}
use Rattle.transfer_mnemonics.specs.Transfer.{transfer_text}
use Rattle.access_mnemonics.specs.LoadStore.{load_store_text}

-- by its class, as a run takes it; bit 8 tells coprocessor 11 from 10
unfoldable pub word_text : ℕ → List ℕ
word_text w =
    let f = format_of (bit_of w 8) in
    cond (foreign_word w) (ascii "foreign")
    (cond (eqb (field w 25 27) 0b110) (load_store_text f w)
    (cond (bit_of w 4) (transfer_text w) (data_text f w (operation_of w))))

-- an address that is not known has no digits
unfoldable pub address_text : Bool → ℕ → List ℕ
address_text known address = cond known (hex_text address) (ascii "????????")

-- a line of a list: the address, the word, and what it is
unfoldable pub line_of : Bool → ℕ → ℕ → List ℕ
line_of known address w = address_text known address ++ (ascii ": " ++ (hex_text w ++ (ascii " " ++ word_text w)))
