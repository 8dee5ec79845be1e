-- The decoding by the ten bits 23:20, 19:16, 7 and 6, and its table.
use Rattle.std.specs.Prelude.{◌≡◌, ℕ, ◌+◌, ◌-◌, ◌%◌, ◌^◌, ◌<◌, Bool, cond, List, [], ◌∷◌, eqb, get_or}
use Rattle.std.specs.Float.{binary32, binary64}
use Rattle.bits.specs.Field.{field}
use Rattle.machine.specs.declared.Machine.{Machine}
use Rattle.machine.specs.Place.{state}
use Rattle.meaning.specs.Stop as Stop
use Rattle.meaning.specs.Stop.{report}
use Rattle.decoding.specs.declared.operation.Operation.{Operation}
use Rattle.decoding.specs.Operation.{operation_of, number_of, operation_numbered}
use Rattle.decoding.specs.Table.{index_of, operation_at, operation_table}
use Rattle.processing.specs.Data.{behind, operation_tree, data_tree}
use Rattle.vfp.specs.Call.{reply}

-- how many entries of a table are Undefined
unfoldable pub undefined_in : List ℕ → ℕ
undefined_in [] = 0
undefined_in (n ∷ ns) = cond (eqb n 0) 1 0 + undefined_in ns

-- the operation that a word's entry names
abbrev pub entry_of : ℕ → Operation
entry_of w = operation_numbered (get_or operation_table (index_of w) 0)

pub record Decoding : Type 0 where
  -- the ten bits alone decide
  pub by_index : (w : ℕ) → operation_of w ≡ operation_at (index_of w)
  -- the table is the rule at every index
  pub entries : (i : ℕ) → i < 1024 → get_or operation_table i 0 ≡ number_of (operation_at i)
  -- no two operations have the same number
  pub one_to_one : (o : Operation) → operation_numbered (number_of o) ≡ o
  -- so every word is the operation that its entry names
  pub by_entry : (w : ℕ) → operation_of w ≡ entry_of w
  -- and data processing does what the entry names, in the coprocessor's precision
  pub in_single : (thumb : Bool) (w : ℕ) → field w 8 11 ≡ 10 → data_tree thumb w ≡ operation_tree thumb binary32 w (entry_of w)
  pub in_double : (thumb : Bool) (w : ℕ) → field w 8 11 ≡ 11 → data_tree thumb w ≡ operation_tree thumb binary64 w (entry_of w)
  -- 418 of the 1,024 entries are Undefined
  pub undefined_entries : undefined_in operation_table ≡ 418
  -- document 01's 0xEEB70A40 is Undefined on every machine, with its address and word, and changes nothing
  pub widening_without_bit_7 : (m : Machine) (v : List ℕ)
      → reply (data_tree m.thumb 0xEEB7_0A40) (state m v)
      ≡ record {
        report = report (Stop.undefined ((get_or m.r 15 0 + (2 ^ 32 - behind m.thumb)) % 2 ^ 32) 0xEEB7_0A40);
        leaves = state m v;
      }
