-- The meaning of a load or store (vfp.rs `coprocessor_load_store`), over a window from a base on.
use Rattle.std.specs.Prelude.{ℕ, ◌+◌, ◌*◌, ◌%◌, ◌^◌, Bool, cond, [], ◌∷◌, eqb}
use Rattle.std.specs.Float.{Format, binary32, binary64}
use Rattle.bits.specs.Field.{field, bit_of}
use Rattle.registers.specs.Registers.{reg_of}
use Rattle.machine.specs.Window.{word_at}
use Rattle.machine.specs.Place.{core, word, s_word, low_word, high_word}
use Rattle.meaning.specs.Step.{Step, Act, once, nothing}
use Rattle.meaning.specs.Tree.{Tree, go, ask}
use Rattle.addresses.specs.Address.{count_of, start_of, write_back}
use Rattle.pairs.specs.Pair.{moved, pair_step}

abbrev pub bytes : Format → ℕ
bytes binary32 = 4
bytes binary64 = 8

-- register n and the address a; of a double the low word comes first
abbrev pub access_step : Format → Bool → ℕ → ℕ → ℕ → Step
access_step binary32 load base n a = moved load (s_word n) (word (word_at base a)) ∷ []
access_step binary64 load base n a = moved load (low_word n) (word (word_at base a)) ∷ moved load (high_word n) (word (word_at base ((a + 4) % 2 ^ 32))) ∷ []

-- register i of the transfer, from register n and the address a on
abbrev pub access_at : Format → Bool → ℕ → ℕ → ℕ → ℕ → Step
access_at f load base n a i = access_step f load base (n + i) ((a + bytes f * i) % 2 ^ 32)

abbrev pub access_act : Format → ℕ → ℕ → ℕ → Act
access_act f base w a =
    record {
      count = count_of f w;
      each = access_at f (bit_of w 20) base (reg_of f (field w 12 15) (field w 22 22)) (start_of w a);
      tail = write_back w;
    }

unfoldable pub access_tree : Format → ℕ → ℕ → Tree
access_tree f base w =
    cond (eqb (field w 21 27) 0b110_0010) (go (once (pair_step f w)))
    (ask (core (field w 16 19)) (λ a. go (access_act f base w a)))

-- another coprocessor changes nothing
unfoldable pub load_store_tree : ℕ → ℕ → Tree
unfolding access_tree
load_store_tree base w =
    let coproc = field w 8 11 in
    cond (eqb coproc 10) (access_tree binary32 base w) (cond (eqb coproc 11) (access_tree binary64 base w) (go nothing))
