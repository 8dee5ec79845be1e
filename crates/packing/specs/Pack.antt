-- The pattern of a rounded size: what packing gives. Assumes nothing.
use Rattle.std.specs.Prelude.{ℕ, ◌+◌, ◌-◌, ◌*◌, ◌/◌, ◌%◌, min, ◌≡◌, Bool, ◌&&◌, cond, leb, ltb, eqb}
use Rattle.std.specs.Float.{Format}
use Rattle.std.specs.Float.Ieee.{prec, low, hid, ones, top, to_bits}
use Rattle.rounding.specs.Rounding.{cut_to, rounded, exact, over, tiny}
use Rattle.rounding.specs.declared.rounding.Rounding.{Rounding}
use Rattle.rounding.specs.declared.rounding.Rounding.TheVariants.{Nearest, Up, Down, Zero}

-- the last pattern that a mode gives, without the sign: the infinity's, or that of the largest finite value, the one before it
abbrev pub ceiling : Rounding → Format → Bool → ℕ
ceiling Nearest f s = ones f * hid f
ceiling Up f s = cond s (ones f * hid f - 1) (ones f * hid f)
ceiling Down f s = cond s (ones f * hid f) (ones f * hid f - 1)
ceiling Zero f s = ones f * hid f - 1

-- how many of 62 digits the format drops, and from which e of m * 2 ^ e / 2 ^ 2209 on it drops no more
abbrev pub spare : Format → ℕ
spare f = 62 - prec f

abbrev pub edge : Format → ℕ
edge f = 2209 - low f - spare f

-- the pattern of c * 2 ^ k of the smallest values, and of what is too large
abbrev pub packed : Rounding → Format → Bool → ℕ → ℕ → ℕ
packed mode f s k c = cond s (top f) 0 + min (k * hid f + c) (ceiling mode f s)

-- m / u * 2 ^ k of the smallest values, for a k that is 0 or a whole part of m / u from hid on
pub record IsPacked (mode : Rounding) (f : Format) (s : Bool) (k m u bits : ℕ) (x o t : Bool) : Type 0 where
  pub bits_are : bits ≡ packed mode f s k (cut_to mode s m u)
  pub exact_is : x ≡ eqb (m % u) 0
  pub over_is : o ≡ leb (ones f * hid f) (k * hid f + cut_to mode s m u)
  pub tiny_is : t ≡ (ltb 0 m && ltb (m / u) (hid f))

-- num / den
pub record IsSettled (mode : Rounding) (f : Format) (s : Bool) (num den bits : ℕ) (x o t : Bool) : Type 0 where
  pub bits_are : bits ≡ to_bits f (rounded mode f s num den)
  pub exact_is : x ≡ exact f num den
  pub over_is : o ≡ over mode f s num den
  pub tiny_is : t ≡ tiny f num den
