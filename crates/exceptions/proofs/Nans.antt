-- What operands raise of which one may be a NaN, by the tests that the code makes. Over the format. Assumes nothing.
use mathlib.Core.Path.{◌≡◌, refl, sym}
use mathlib.Core.Bool.{Bool, true, false, ◌||◌, cond}
use Prim.Native.Nat.{ℕ}
use lib.Ieee.{Float, Format, nan_bits}
use Rattle.nans.specs.Nan.{signalling}
use Rattle.exceptions.specs.Exceptions.{invalid, nan_exceptions}
use Rattle.exceptions.specs.Operators.{exceptions_on, operated_exceptions}

pub nans_told : (f : Format) (a b : ℕ) (p q t : Bool) → p ≡ signalling f a → q ≡ signalling f b → (p || q) ≡ t → cond t invalid 0 ≡ nan_exceptions f a b
nans_told f a b p q t d e h = rw (sym d, sym e, h) refl

pub numbers_raise : (f : Format) (op : Float → Float → ℕ) (a b : ℕ) (p q : Bool) → p ≡ nan_bits f a → q ≡ nan_bits f b → (p || q) ≡ false
    → exceptions_on f op a b ≡ operated_exceptions f op a b
unfolding operated_exceptions
numbers_raise f op a b p q d e h = rw (sym d, sym e, h) refl

pub nans_raise : (f : Format) (op : Float → Float → ℕ) (a b : ℕ) (p q : Bool) → p ≡ nan_bits f a → q ≡ nan_bits f b → (p || q) ≡ true
    → nan_exceptions f a b ≡ operated_exceptions f op a b
unfolding operated_exceptions
nans_raise f op a b p q d e h = rw (sym d, sym e, h) refl
