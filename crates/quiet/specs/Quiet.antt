-- Where a native result shows by its word what it raised. Assumes nothing.
use Rattle.std.specs.Prelude.{◌≡◌, ℕ, ◌*◌, ◌%◌, ◌<◌, Bool, false, ◌⊎◌}
use Rattle.std.specs.Float.{Format}
use Rattle.std.specs.Float.Ieee.{hid, ones, top}
use Rattle.numbers.specs.Arithmetic.{applied}
use Rattle.numbers.specs.declared.arithmetic.Arithmetic.{Arithmetic}
use Rattle.numbers.specs.declared.arithmetic.Arithmetic.TheVariants.{Multiply}
use Rattle.exceptions.specs.Exceptions.{inexact}
use Rattle.directed.specs.Directed.{arithmetic_by}
use Rattle.directed.specs.Exceptions.{exceptions_by}

-- strictly above the least normal value and finite, whatever the sign. The least normal value itself may have been tiny before it was rounded.
abbrev pub Within : Format → ℕ → Type 0
Within f w = (hid f < w % top f) × (w % top f < ones f * hid f)

abbrev pub IsFinite : Format → ℕ → Type 0
IsFinite f w = w % top f < ones f * hid f

abbrev pub IsZero : Format → ℕ → Type 0
IsZero f w = w % top f ≡ 0

-- a product of which a factor is a zero
abbrev pub ZeroProduct : Format → ℕ → ℕ → Type 0
ZeroProduct f n m = IsFinite f n × IsFinite f m × (IsZero f n ⊎ IsZero f m)

-- where it accumulates, the product shows it too: by its own word, or by a factor that is a zero
abbrev pub Product : Format → Bool → ℕ → ℕ → ℕ → Type 0
Product f accumulate n m d = (accumulate ≡ false) ⊎ (Within f (applied f Multiply n m d) ⊎ ZeroProduct f n m)

-- nothing is raised, or inexact alone
abbrev pub Quiet : ℕ → Type 0
Quiet x = (x ≡ 0) ⊎ (x ≡ inexact)

-- a native result that is stored as it is, whatever FZ says, and what it raises
pub record IsQuick (f : Format) (control : ℕ) (kind : Arithmetic) (n m d bits : ℕ) : Type 0 where
  pub word : bits ≡ arithmetic_by f control kind n m d
  pub raises : Quiet (exceptions_by f control kind n m d)
