-- The cumulative exception bits with those of an operation.
use Prim.Native.Nat.{ℕ, ◌+◌, ◌*◌, ◌/◌, ◌%◌, ◌^◌, ◌<◌}
use native.Mathlib.Nat.{div-add-mod', div-eq_of_lt, mod-mod}
use mathlib.Core.Path.{◌≡◌, sym, ap, ◌∙◌}
use lib.Bits.{bit_or, or_shr, or_mod, or_zero_r}
use Rattle.short_vectors.specs.Register.{raised_in}

pub raised_is : (fpscr e : ℕ) → e < 2 ^ 5 → bit_or fpscr e ≡ raised_in fpscr e
raised_is fpscr e h = sym (div-add-mod' (bit_or fpscr e) (2 ^ 5)) ∙ ap (λ (x : ℕ). x * 2 ^ 5 + bit_or fpscr e % 2 ^ 5) high ∙ ap (λ (x : ℕ). fpscr / 2 ^ 5 * 2 ^ 5 + x) low
  where
    high : bit_or fpscr e / 2 ^ 5 ≡ fpscr / 2 ^ 5
    high = or_shr fpscr e 5 ∙ ap (bit_or (fpscr / 2 ^ 5)) (div-eq_of_lt h) ∙ or_zero_r (fpscr / 2 ^ 5)

    low : bit_or fpscr e % 2 ^ 5 ≡ bit_or (fpscr % 2 ^ 5) e % 2 ^ 5
    low = or_mod fpscr e 5 ∙ sym (or_mod (fpscr % 2 ^ 5) e 5 ∙ ap (λ (x : ℕ). bit_or x (e % 2 ^ 5)) (mod-mod fpscr (2 ^ 5)))
