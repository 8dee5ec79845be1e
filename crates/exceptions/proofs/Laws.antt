-- What callers need: only FPSCR bits 4:0 are raised, and where nothing is flushed rounding alone tells. Assumes nothing.
use mathlib.Core.Path.{◌≡◌, ap, ◌∙◌}
use mathlib.Core.Logic.{inl, inr}
use mathlib.Core.Bool.{Bool, true, false, ◌&&◌, ◌||◌, cond, and-false}
use Prim.Native.Nat.{ℕ, ◌%◌, ◌<◌}
use native.Mathlib.Nat.{le_of_eq}
use lib.Dec.{ltb, lit<}
use lib.Ieee.{Format, hid, top}
use borrow.Author.Tests.{le-ltb}
use Rattle.floats.specs.Flush.{flushes, subnormal}
use Rattle.floats.proofs.Flushing.{NotSubnormal}
use Rattle.nans.specs.Nan.{signalling}
use Rattle.rounding.specs.Rounding.{exact, over, tiny}
use Rattle.rounding.specs.declared.rounding.Rounding.{Rounding}
use Rattle.exceptions.specs.Exceptions.{underflow, settled_exceptions, fraction_exceptions, nan_exceptions, flushed_exceptions}

pub settled_lt : (x o t : Bool) → settled_exceptions x o t < 32
settled_lt x true t = lit< tt
settled_lt true false t = lit< tt
settled_lt false false true = lit< tt
settled_lt false false false = lit< tt

pub fraction_lt : (mode : Rounding) (f : Format) (s : Bool) (num den : ℕ) → fraction_exceptions mode f s num den < 32
unfolding fraction_exceptions
fraction_lt mode f s num den = settled_lt (exact f num den) (over mode f s num den) (tiny f num den)

pub nan_lt : (f : Format) (a b : ℕ) → nan_exceptions f a b < 32
nan_lt f a b = go (signalling f a || signalling f b)
  where
    go : (t : Bool) → cond t 1 0 < 32
    go true = lit< tt
    go false = lit< tt

pub flushed_lt : (f : Format) (control w raised : ℕ) → raised < 32 → flushed_exceptions f control w raised < 32
flushed_lt f control w raised h = go (flushes control && subnormal f w)
  where
    go : (t : Bool) → cond t 8 raised < 32
    go true = lit< tt
    go false = h

-- what is no subnormal is not flushed
pub flushed_none : (f : Format) (control w raised : ℕ) → NotSubnormal f w → flushed_exceptions f control w raised ≡ raised
flushed_none f control w raised h = ap (λ (t : Bool). cond (flushes control && t) underflow raised) (none h) ∙ ap (λ (t : Bool). cond t underflow raised) (and-false (flushes control))
  where
    none : NotSubnormal f w → subnormal f w ≡ false
    none (inl z) = ap (λ (t : Bool). t && ltb (w % top f) (hid f)) (le-ltb 0 (w % top f) (le_of_eq z))
    none (inr l) = ap (λ (t : Bool). ltb 0 (w % top f) && t) (le-ltb (w % top f) (hid f) l) ∙ and-false (ltb 0 (w % top f))
