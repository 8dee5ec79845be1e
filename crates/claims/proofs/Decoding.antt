-- The decoding's claims: laws of crate `decoding`, and two computations. Assumes nothing.
use Prim.Native.Nat.{ℕ}
use mathlib.Core.Path.{◌≡◌, refl, sym, ◌∙◌, ap}
use mathlib.Core.Bool.{Bool}
use lib.Ieee.{binary32, binary64}
use Rattle.bits.specs.Field.{field}
use Rattle.meaning.specs.Tree.{plain}
use Rattle.decoding.specs.Operation.{arithmetics, extension_by, operation_by, operation_of, operation_numbered}
use Rattle.decoding.specs.Table.{operation_at, entries, operation_table}
use Rattle.decoding.proofs.Entries.{by_index, entry, entry_of_lem, numbered_number}
use Rattle.processing.specs.Data.{operation_tree, data_tree}
use Rattle.claims.specs.Decoding.{undefined_in, entry_of, Decoding}

operation_entry : (w : ℕ) → operation_of w ≡ entry_of w
operation_entry w = sym (ap operation_numbered (entry_of_lem w) ∙ numbered_number _)

single_entry : (thumb : Bool) (w : ℕ) → field w 8 11 ≡ 10 → data_tree thumb w ≡ operation_tree thumb binary32 w (entry_of w)
unfolding data_tree
single_entry thumb w e = rw (e, operation_entry w)

double_entry : (thumb : Bool) (w : ℕ) → field w 8 11 ≡ 11 → data_tree thumb w ≡ operation_tree thumb binary64 w (entry_of w)
unfolding data_tree
double_entry thumb w e = rw (e, operation_entry w)

pub decoding : Decoding
unfolding undefined_in operation_table entries operation_at operation_of operation_by extension_by arithmetics data_tree operation_tree plain
decoding =
    record {
      by_index = by_index;
      entries = entry;
      one_to_one = numbered_number;
      by_entry = operation_entry;
      in_single = single_entry;
      in_double = double_entry;
      undefined_entries = refl;
      widening_without_bit_7 = λ m v. refl;
    }
