-- What compares and conversions write and read.
use Prim.Native.Nat.{ℕ, ◌*◌, ◌%◌}
use mathlib.Core.Bool.{Bool}
use mathlib.Core.List.{[], ◌∷◌}
use lib.Ieee.{Format, binary32, binary64}
use Rattle.machine.specs.Place.{flags, control, number}
use Rattle.short_vectors.specs.Register.{words_of}
use Rattle.compare_steps.specs.Compare.{compare_step, compare_zero_step}
use Rattle.width_steps.specs.Width.{widen_step, narrow_step}
use Rattle.integer_steps.specs.Integer.{from_step, truncate_step, round_step}
use Rattle.sources.specs.Rule.{Rule}
use Rattle.step_sources.proofs.Writes.{flags-Rule, single_Rule, double_Rule}

module _ (f : Format) where
  pub compare_Rule : (any : Bool) (d m : ℕ) → let s = words_of f (d ∷ m ∷ []) in Rule (compare_step f any d m) (number flags) 1 s s
  compare_Rule any d m = let s = words_of f (d ∷ m ∷ []) in flags-Rule s s _ _

  pub compare_zero_Rule : (any : Bool) (d : ℕ) → let s = words_of f (d ∷ []) in Rule (compare_zero_step f any d) (number flags) 1 s s
  compare_zero_Rule any d = let s = words_of f (d ∷ []) in flags-Rule s s _ _

  pub truncate_Rule : (sign : Bool) (d m : ℕ) → let s = words_of f (m ∷ []) in Rule (truncate_step f sign d m) (d % 32) 1 s s
  truncate_Rule sign d m = let s = words_of f (m ∷ []) in single_Rule s s _ _ d

  pub round_Rule : (sign : Bool) (d m : ℕ) → let s = control ∷ words_of f (m ∷ []) in Rule (round_step f sign d m) (d % 32) 1 s s
  round_Rule sign d m = let s = control ∷ words_of f (m ∷ []) in single_Rule s s _ _ d

pub widen_Rule : (d m : ℕ) → let s = words_of binary32 (m ∷ []) in Rule (widen_step d m) (d % 16 * 2) 2 (control ∷ s) s
widen_Rule d m = let s = words_of binary32 (m ∷ []) in double_Rule (control ∷ s) s _ _ d

pub narrow_Rule : (d m : ℕ) → let s = control ∷ words_of binary64 (m ∷ []) in Rule (narrow_step d m) (d % 32) 1 s s
narrow_Rule d m = let s = control ∷ words_of binary64 (m ∷ []) in single_Rule s s _ _ d

pub from_Rule-single : (sign : Bool) (d m : ℕ) → let s = words_of binary32 (m ∷ []) in Rule (from_step binary32 sign d m) (d % 32) 1 (control ∷ s) s
from_Rule-single sign d m = let s = words_of binary32 (m ∷ []) in single_Rule (control ∷ s) s _ _ d

pub from_Rule-double : (sign : Bool) (d m : ℕ) → let s = words_of binary32 (m ∷ []) in Rule (from_step binary64 sign d m) (d % 16 * 2) 2 s s
from_Rule-double sign d m = let s = words_of binary32 (m ∷ []) in double_Rule s s _ _ d
