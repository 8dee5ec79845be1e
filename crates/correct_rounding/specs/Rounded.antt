-- Correct rounding, in IEEE 754's sense, said of the word that comes out. Assumes nothing.
use Rattle.std.specs.Prelude.{ℕ, ◌+◌, ◌*◌, ◌%◌, ◌^◌, ◌≤◌, ◌<◌, ◌≡◌, Bool, true, false}
use Rattle.std.specs.Float.{Format}
use Rattle.std.specs.Float.Ieee.{prec, low, of_bits}
use Rattle.std.specs.Float.Ieee.Exact.{HasValue}
use Rattle.rounding.specs.Rounding.{limit, beyond}
use Rattle.rounding.specs.declared.rounding.Rounding.{Rounding}
use Rattle.rounding.specs.declared.rounding.Rounding.TheVariants.{Nearest, Up, Down, Zero}

-- the size of an exact result: num / den, or the square root of num / den
pub data Real : Type 0 where
  ratio root : ℕ → ℕ → Real

-- h halves of the format's smallest value are at most x, and at least x
abbrev pub AtMost : Format → ℕ → Real → Type 0
AtMost f h (ratio num den) = h * den ≤ 2 * (num * 2 ^ low f)
AtMost f h (root num den) = h * h * den ≤ 4 * (num * 2 ^ (low f + low f))

abbrev pub AtLeast : Format → ℕ → Real → Type 0
AtLeast f h (ratio num den) = 2 * (num * 2 ^ low f) ≤ h * den
AtLeast f h (root num den) = 4 * (num * 2 ^ (low f + low f)) ≤ h * h * den

-- of every value of the format, in its smallest values, were there no largest: q * 2 ^ j, q having at most `prec` digits
abbrev pub Each : Format → (ℕ → Type 0) → Type 0
Each f P = (q j : ℕ) → q < 2 ^ prec f → P (q * 2 ^ j)

-- nearest, ties to even: x is on r's side of the middle between r and any other value, and where it is that middle, the word is even
pub record NearestEven (f : Format) (x : Real) (r word : ℕ) : Type 0 where
  pub from_below : Each f (λ v. v < r → AtMost f (v + r) x)
  pub from_above : Each f (λ v. r < v → AtLeast f (v + r) x)
  pub even : Each f (λ v. (v ≡ r → ⊥) → AtMost f (v + r) x → AtLeast f (v + r) x → word % 2 ≡ 0)

pub record LargestNotAbove (f : Format) (x : Real) (r : ℕ) : Type 0 where
  pub not_above : AtMost f (2 * r) x
  pub largest : Each f (λ v. AtMost f (2 * v) x → v ≤ r)

pub record LeastNotBelow (f : Format) (x : Real) (r : ℕ) : Type 0 where
  pub not_below : AtLeast f (2 * r) x
  pub least : Each f (λ v. AtLeast f (2 * v) x → r ≤ v)

-- the size that a mode names for x of the sign s
abbrev pub Named : Rounding → Format → Bool → Real → ℕ → ℕ → Type 0
Named Nearest f s x r word = NearestEven f x r word
Named Up f false x r word = LeastNotBelow f x r
Named Up f true x r word = LargestNotAbove f x r
Named Down f false x r word = LargestNotAbove f x r
Named Down f true x r word = LeastNotBelow f x r
Named Zero f s x r word = LargestNotAbove f x r

-- the word is x of the sign s, correctly rounded: the value that the mode names, or what the mode gives for what is too large
pub record CorrectlyRounded (mode : Rounding) (f : Format) (s : Bool) (x : Real) (word : ℕ) : Type 0 where
  pub size : ℕ
  pub digits : (q : ℕ) × (j : ℕ) × (q < 2 ^ prec f) × (size ≡ q * 2 ^ j)
  pub named : Named mode f s x size word
  pub finite : size < limit f → HasValue (of_bits f word) s size (2 ^ low f)
  pub overflow : limit f ≤ size → of_bits f word ≡ beyond mode f s
