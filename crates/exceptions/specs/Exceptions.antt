-- The exceptions that an operation raises, as FPSCR bits 4:0 have them: request 2026-07. Assumes nothing.
use Rattle.std.specs.Prelude.{ℕ, ◌+◌, Bool, ◌&&◌, ◌||◌, cond}
use Rattle.std.specs.Float.{Format}
use Rattle.floats.specs.Flush.{flushes, subnormal}
use Rattle.nans.specs.Nan.{signalling}
use Rattle.rounding.specs.Rounding.{exact, over, tiny}
use Rattle.rounding.specs.declared.rounding.Rounding.{Rounding}

abbrev pub invalid : ℕ
invalid = 1

abbrev pub division_by_zero : ℕ
division_by_zero = 2

abbrev pub overflow : ℕ
overflow = 4

abbrev pub underflow : ℕ
underflow = 8

abbrev pub inexact : ℕ
inexact = 16

-- a rounded result, by what rounding tells: nothing was dropped, it is beyond the largest finite value, it was tiny before it was rounded.
-- What overflows is inexact; underflow is tiny and inexact.
abbrev pub settled_exceptions : Bool → Bool → Bool → ℕ
settled_exceptions x o t = cond o (overflow + inexact) (cond x 0 (cond t (underflow + inexact) inexact))

-- num / den of the sign s, rounded by the mode
unfoldable pub fraction_exceptions : Rounding → Format → Bool → ℕ → ℕ → ℕ
fraction_exceptions mode f s num den = settled_exceptions (exact f num den) (over mode f s num den) (tiny f num den)

-- of operands of which one is a NaN: a signalling one is invalid, a quiet one raises nothing
abbrev pub nan_exceptions : Format → ℕ → ℕ → ℕ
nan_exceptions f a b = cond (signalling f a || signalling f b) invalid 0

-- what is stored of a result w: where FZ makes a zero of it, underflow and not inexact, whatever rounding told
abbrev pub flushed_exceptions : Format → ℕ → ℕ → ℕ → ℕ
flushed_exceptions f control w raised = cond (flushes control && subnormal f w) underflow raised
