-- The enable bit, through the definition: words of every class and the exempt transfers, with FPEXC unknown, clear in bit 30 alone, and set in it alone.
use Prim.Native.Nat.{ℕ, ◌-◌, ◌^◌}
use mathlib.Core.Path.{◌≡◌, refl}
use mathlib.Core.Bool.{true, false}
use mathlib.Core.List.{List, [], ◌∷◌, map}
use lib.ListN.{replicate}
use Rattle.machine.specs.Machine.{new_machine, with_fpexc}
use Rattle.machine.specs.Place.{State, place, state}
use Rattle.meaning.specs.Map.{Map, map_of, mark}
use Rattle.meaning.specs.Stop.{undefined, hangs}
use Rattle.meaning.specs.Tree.{Seen, seen, Next, halt, watched}
use Rattle.word_class.specs.Word.{exempt, enabled, conditioned, meaning}
use Rattle.transfers.specs.Transfer.{transfer_tree}

-- arithmetic, a compare, a conversion, an Undefined word; a single's move, FPSCR, a register without a name, an opc1 that does nothing; pairs, loads and stores
abbrev pub words : List ℕ
words =
    0xEE300A00 ∷ 0xEE300B00 ∷ 0xEEB40A41 ∷ 0xEEBD0AC1 ∷ 0xEEB70A40 ∷ 0xEE001A10 ∷ 0xEE10FA10 ∷ 0xEEF11A10 ∷ 0xEEE11A10 ∷ 0xEEF41A10 ∷ 0xEE401A10
    ∷ 0xEC512A10 ∷ 0xED910A00 ∷ 0xEC810B02 ∷ []

-- system registers 0 and 8, read and written, to and from r15, by either coprocessor
abbrev pub exempt_words : List ℕ
exempt_words = 0xEEF01A10 ∷ 0xEEE01A10 ∷ 0xEEF81A10 ∷ 0xEEE81A10 ∷ 0xEEF0FA10 ∷ 0xEEF8FA10 ∷ 0xEEF81B10 ∷ 0xEEE8FB10 ∷ []

abbrev pub all : Map
all = map_of (record { s = replicate 32 true; r = replicate 16 true; flags = true; control = true; exc = true; nzcv = true; exceptions = true }) []

abbrev pub without : ℕ → Map → Map
without p μ = mark μ (place p) false

-- a new machine with another FPEXC
abbrev pub fpexc_is : ℕ → State
fpexc_is e = state (with_fpexc new_machine e) []

-- FPEXC with every bit but 30
abbrev pub off : State
off = fpexc_is 0xBFFF_FFFF

-- what is left of each word, and that it stops there with nothing changed
abbrev pub each : State → Map → List ℕ → List Seen
each st μ = map (λ w. watched (meaning 0 w) st μ)

abbrev pub stops : State → Map → (ℕ → Next) → List ℕ → List Seen
stops st μ n = map (λ w. seen st μ (n w))

pub record Enabling : Type 0 where
  -- FPEXC unknown: a hang on 50, with r15 unknown too, and whatever FPEXC holds
  pub unknown : each off (without 50 all) words ≡ stops off (without 50 all) (λ w. halt (hangs 50)) words
  pub unknown_first : each off (without 47 (without 50 all)) words ≡ stops off (without 47 (without 50 all)) (λ w. halt (hangs 50)) words
  pub unknown_set : each (fpexc_is 0x4000_0000) (without 50 all) words ≡ stops (fpexc_is 0x4000_0000) (without 50 all) (λ w. halt (hangs 50)) words
  -- clear: Undefined, or a hang on r15
  pub clear : each off all words ≡ stops off all (λ w. halt (undefined (2 ^ 32 - 8) w)) words
  pub clear_hangs : each off (without 47 all) words ≡ stops off (without 47 all) (λ w. halt (hangs 47)) words
  -- an exempt word does what the transfer does, whatever is known
  pub exempted : each off all exempt_words ≡ map (λ w. watched (transfer_tree false w) off all) exempt_words
  pub exempted_unknown : each off (without 50 all) exempt_words ≡ map (λ w. watched (transfer_tree false w) off (without 50 all)) exempt_words

pub enabling : Enabling
unfolding meaning conditioned exempt enabled watched place
enabling =
    record {
      unknown = refl;
      unknown_first = refl;
      unknown_set = refl;
      clear = refl;
      clear_hangs = refl;
      exempted = refl;
      exempted_unknown = refl;
    }
