-- Document 01's proved values, each computed. Assumes nothing.
use mathlib.Core.Path.{refl}
use lib.Ieee.{of_bits, to_bits, nan_bits, eq, lt, is_nan}
use Rattle.machine.specs.Window.{word_at}
use Rattle.comparisons.specs.Compare.{compare_flags, compare_exceptions}
use Rattle.floats.specs.Flush.{flush}
use Rattle.rounding.specs.Rounding.{rounding_of, rounded, exact, over, tiny}
use Rattle.exceptions.specs.Exceptions.{fraction_exceptions}
use Rattle.widths.specs.Convert.{narrowed, narrow_number, narrow, narrowed_exceptions, narrow_exceptions}
use Rattle.integers.specs.Integer.{integer_of, to_integer, integer_exceptions, to_integer_exceptions}
use Rattle.meaning.specs.Step.{after}
use Rattle.meaning.specs.Tree.{plain}
use Rattle.memory.specs.LoadStore.{access_tree, load_store_tree}
use Rattle.decoding.specs.Operation.{extension_by, operation_by, operation_of}
use Rattle.short_vectors.specs.Vector.{step_of, second_of}
use Rattle.processing.specs.Data.{operation_tree, data_tree}
use Rattle.limits.specs.Limit.{window_limit}
use Rattle.claims.specs.Values.{Values}

pub values : Values
unfolding data_tree operation_tree operation_of operation_by extension_by step_of second_of after plain to_integer integer_of rounding_of compare_flags narrow narrow_number narrowed rounded narrow_exceptions narrowed_exceptions fraction_exceptions exact over tiny integer_exceptions to_integer_exceptions compare_exceptions flush of_bits to_bits nan_bits eq lt is_nan load_store_tree access_tree word_at window_limit
values =
    record {
      two_and_a_half = λ v. refl;
      two_and_a_half_double = λ v. refl;
      minus_half = λ v. refl;
      minus_half_double = λ v. refl;
      minus_one_and_a_half = λ v. refl;
      minus_one_and_a_half_double = λ v. refl;
      down_signed = λ v. refl;
      down_signed_double = λ v. refl;
      down_unsigned = λ v. refl;
      down_unsigned_double = λ v. refl;
      zeros = λ v. refl;
      zeros_double = λ v. refl;
      from_14 = λ v. refl;
      just_7 = λ v. refl;
      doubles_from_6 = λ v. refl;
      imm8_5 = refl;
      imm8_0 = refl;
      narrowed_tie = λ v. refl;
      narrowed_least = λ v. refl;
      narrowed_flushed = λ v. refl;
    }
