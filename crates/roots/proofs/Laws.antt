-- What callers need: the root of a number is not longer than its word and never subnormal, so that flushing changes none. Assumes nothing.
use mathlib.Core.Path.{◌≡◌, sym, ap, ◌∙◌, subst}
use mathlib.Core.Bool.{Bool, true, false, ◌||◌, cond}
use Prim.Native.Nat.{ℕ, zero, suc, ◌*◌, ◌/◌, ◌%◌, ◌^◌, ◌<◌}
use lib.Dec.{T, lit<}
use lib.Ieee.{Float, nan, inf, fin, Format, up, down, top, fits, of_bits, to_bits, nan_bits}
use lib.Ieee.Bits.{of_bits-fits}
use lib.Ieee.Fits.{down_pos}
use Rattle.nans.specs.Nan.{nan_of, signalling}
use Rattle.exceptions.specs.Exceptions.{nan_exceptions}
use Rattle.roots.specs.Root.{sqrt_of, root_number, square_root, exact_root, sqrt_exceptions, root_exceptions, IsSqrt}
use Rattle.rounding.specs.declared.rounding.Rounding.{Rounding}
use Rattle.rounding.specs.Rounding.{rounding_of}
use Rattle.rounding.specs.declared.rounding.Rounding.TheVariants.{Nearest}
use Rattle.floats.proofs.Flushing.{NotSubnormal, flush_none}
use Rattle.rounding.proofs.Cutting.{mode_nearest}
use Rattle.roots.proofs.RootFormed.{root_lt, root_normal}
use Rattle.packing.proofs.Words.{nan_word, inf_word, zero_word, reaches}

sqrt_word : (mode : Rounding) (f : Format) (v : Float) → T (fits f v) → (to_bits f (sqrt_of mode f v) < 2 * top f) × NotSubnormal f (to_bits f (sqrt_of mode f v))
unfolding sqrt_of
sqrt_word mode f nan t = nan_word f
sqrt_word mode f (inf true) t = nan_word f
sqrt_word mode f (inf false) t = inf_word f false
sqrt_word mode f (fin s zero e) t = zero_word f s e
sqrt_word mode f (fin true (suc m) e) t = nan_word f
sqrt_word mode f (fin false (suc m) e) t = (root_lt mode f (suc m * up e) (down e) (down_pos e), root_normal mode f (suc m * up e) (down e) (down_pos e) (reaches f false m e t))

module _ (f : Format) (control m : ℕ) where
  -- the control word gives the mode alone
  pub root_unflushed : root_number f control m ≡ to_bits f (sqrt_of (rounding_of control) f (of_bits f m))
  unfolding root_number
  root_unflushed = flush_none f control _ (sqrt_word (rounding_of control) f (of_bits f m) (of_bits-fits f m)).1

-- of any word
pub number_root : (f : Format) (control m : ℕ) → nan_bits f m ≡ false → to_bits f (sqrt_of (rounding_of control) f (of_bits f m)) ≡ square_root f control m
unfolding square_root
number_root f control m h = sym (root_unflushed f control m) ∙ sym (ap (λ (t : Bool). cond t (nan_of f control m m) (root_number f control m)) h)

raised_by : (f : Format) (m : ℕ) (t : Bool) → nan_bits f m ≡ t → root_exceptions f m ≡ cond t (nan_exceptions f m m) (sqrt_exceptions f (of_bits f m))
unfolding root_exceptions
raised_by f m t h = ap (λ (t : Bool). cond t (nan_exceptions f m m) (sqrt_exceptions f (of_bits f m))) h

pub root_number_lem : (f : Format) (control m bits raised : ℕ) → nan_bits f m ≡ false → IsSqrt (rounding_of control) f (of_bits f m) bits raised → (bits ≡ square_root f control m) × (raised ≡ root_exceptions f m)
root_number_lem f control m bits raised h p = (p.bits_are ∙ number_root f control m h, p.raised_is ∙ sym (raised_by f m false h))

pub root_nan : (f : Format) (control m bits raised : ℕ) → nan_bits f m ≡ true → bits ≡ nan_of f control m m → raised ≡ nan_exceptions f m m → (bits ≡ square_root f control m) × (raised ≡ root_exceptions f m)
unfolding square_root
root_nan f control m bits raised h p q = (p ∙ sym (ap (λ (t : Bool). cond t (nan_of f control m m) (root_number f control m)) h), q ∙ sym (raised_by f m true h))

-- in mode 00
pub root_nearest : (f : Format) (control m bits raised : ℕ) → control / 2 ^ 22 % 4 ≡ 0 → nan_bits f m ≡ false → IsSqrt Nearest f (of_bits f m) bits raised → (bits ≡ square_root f control m) × (raised ≡ root_exceptions f m)
root_nearest f control m bits raised e h p = root_number_lem f control m bits raised h (subst (λ (z : Rounding). IsSqrt z f (of_bits f m) bits raised) (mode_nearest control e) p)

-- ---- what is raised

pub root_raises : (f : Format) (m : ℕ) → root_exceptions f m < 32
unfolding root_exceptions sqrt_exceptions
root_raises f m = by (nan_bits f m) (signalling f m) (of_bits f m)
  where
    by : (t s : Bool) (v : Float) → cond t (cond (s || s) 1 0) (sqrt_exceptions f v) < 32
    by true true v = lit< tt
    by true false v = lit< tt
    by false s nan = lit< tt
    by false s (inf true) = lit< tt
    by false s (inf false) = lit< tt
    by false s (fin t zero e) = lit< tt
    by false s (fin true (suc m) e) = lit< tt
    by false s (fin false (suc m) e) = either (exact_root f (suc m * up e) (down e))
      where
        either : (x : Bool) → cond x 0 16 < 32
        either true = lit< tt
        either false = lit< tt
