-- What a square root comes to in IEEE 754's terms: its word is the exact root, correctly rounded. Assumes nothing.
use Rattle.std.specs.Prelude.{ℕ, ◌<◌, false, Float}
use Rattle.std.specs.Float.{Format}
use Rattle.std.specs.Float.Ieee.{of_bits, to_bits}
use Rattle.std.specs.Float.Ieee.Exact.{HasValue}
use Rattle.correct_rounding.specs.Rounded.{root, CorrectlyRounded}
use Rattle.rounding.specs.Rounding.{rounding_of}
use Rattle.rounding.specs.declared.rounding.Rounding.{Rounding}
use Rattle.roots.specs.Root.{sqrt_of, square_root}

-- of a / c, above 0
pub record Correct : Type 0 where
  pub roots : (mode : Rounding) (f : Format) (x : Float) (a c : ℕ) → 0 < c → 0 < a → HasValue x false a c
      → CorrectlyRounded mode f false (root a c) (to_bits f (sqrt_of mode f x))
  -- of a word by FPSCR 23:22, whether FZ is set or not
  pub square_roots : (f : Format) (control b a c : ℕ) → 0 < c → 0 < a → HasValue (of_bits f b) false a c
      → CorrectlyRounded (rounding_of control) f false (root a c) (square_root f control b)
