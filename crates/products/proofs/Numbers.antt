-- The product of two operands, from its digits. Over the mode and the format. Assumes nothing.
use mathlib.Core.Path.{◌≡◌, refl, sym, ap, ◌∙◌, subst}
use mathlib.Core.Bool.{Bool}
use Prim.Native.Nat.{ℕ, suc, ◌+◌, ◌-◌, ◌*◌, ◌^◌, ◌≤◌, ◌<◌}
use native.Mathlib.Nat.{mul-pos, le_of_eq}
use native.Mathlib.Omega.{arith}
use lib.Pow.{pow-add, pow_pos}
use lib.Ieee.{Float, Format, prec, unlike, to_bits}
use Rattle.rounding.specs.declared.rounding.Rounding.{Rounding}
use Rattle.operators.specs.Operators.{product}
use Rattle.digits.specs.Digits.{IsOperand, IsFolded}
use Rattle.packing.specs.Pack.{IsSettled}
use Rattle.exceptions.specs.Exceptions.{settled_exceptions}
use Rattle.exceptions.specs.Operators.{product_exceptions}
use Rattle.packing.proofs.Settle.{settled_same}
use Rattle.exceptions.proofs.Values.{product_settles}
use Rattle.digits.proofs.Sticky.{folded_settles}

module _ (mode : Rounding) (f : Format) (x y : Float) (s t : Bool) (a ea b eb : ℕ) (p : IsOperand x s a ea) (q : IsOperand y t b eb) where
  -- the word of the product, and what it raises
  abbrev Result : ℕ → Bool → Bool → Bool → Type 0
  Result bits i o j = (bits ≡ to_bits f (product mode f x y)) × (settled_exceptions i o j ≡ product_exceptions mode f x y)

  -- by any fraction that equals the product
  by : (num den bits : ℕ) (i o j : Bool) → 0 < den → num * (2 ^ 1126 * 2 ^ 1126) ≡ a * 2 ^ ea * (b * 2 ^ eb) * den → IsSettled mode f (unlike s t) num den bits i o j → Result bits i o j
  by num den bits i o j D e d =
      product_settles mode f x y s t (a * 2 ^ ea) (2 ^ 1126) (b * 2 ^ eb) (2 ^ 1126) bits i o j (pow_pos 1126) (pow_pos 1126) p.value q.value
      (settled_same mode f (unlike s t) num den (a * 2 ^ ea * (b * 2 ^ eb)) (2 ^ 1126 * 2 ^ 1126) bits i o j D (mul-pos (pow_pos 1126) (pow_pos 1126)) e d)

  -- l digits are left below
  pub folded_product : (l m bits : ℕ) (n i o j : Bool) → 44 ≤ l → IsFolded (prec f) (a * b) (2 ^ l) m → n ≡ unlike s t → IsSettled mode f n (m * 2 ^ (ea + eb + (l - 44))) (2 ^ 2209) bits i o j → Result bits i o j
  folded_product l m bits n i o j L w g d =
      let e = ea + eb + (l - 44) in
      by (a * b * 2 ^ suc e) (2 ^ l * 2 ^ 2209) bits i o j (mul-pos (pow_pos l) (pow_pos 2209)) same
      (folded_settles mode f (unlike s t) (prec f) (a * b) (2 ^ l) m e (le_of_eq refl) w bits i o j (subst (λ (z : Bool). IsSettled mode f z (m * 2 ^ e) (2 ^ 2209) bits i o j) g d))
    where
      exponents : (ea eb l : ℕ) → 44 ≤ l → suc (ea + eb + (l - 44)) + (1126 + 1126) ≡ ea + eb + (l + 2209)
      exponents ea eb l h = omega arith

      powers : 2 ^ suc (ea + eb + (l - 44)) * (2 ^ 1126 * 2 ^ 1126) ≡ 2 ^ ea * 2 ^ eb * (2 ^ l * 2 ^ 2209)
      powers =
          ap (λ (z : ℕ). 2 ^ suc (ea + eb + (l - 44)) * z) (sym (pow-add 2 1126 1126))
          ∙ sym (pow-add 2 (suc (ea + eb + (l - 44))) (1126 + 1126))
          ∙ ap (λ (z : ℕ). 2 ^ z) (exponents ea eb l L)
          ∙ pow-add 2 (ea + eb) (l + 2209)
          ∙ ap (λ (z : ℕ). z * 2 ^ (l + 2209)) (pow-add 2 ea eb)
          ∙ ap (λ (z : ℕ). 2 ^ ea * 2 ^ eb * z) (pow-add 2 l 2209)

      left : (a b k l : ℕ) → a * b * k * l ≡ a * b * (k * l)
      left a b k l = omega arith

      right : (a b g h n : ℕ) → a * b * (g * h * n) ≡ a * g * (b * h) * n
      right a b g h n = omega arith

      same : a * b * 2 ^ suc (ea + eb + (l - 44)) * (2 ^ 1126 * 2 ^ 1126) ≡ a * 2 ^ ea * (b * 2 ^ eb) * (2 ^ l * 2 ^ 2209)
      same = left a b (2 ^ suc (ea + eb + (l - 44))) (2 ^ 1126 * 2 ^ 1126) ∙ ap (λ (z : ℕ). a * b * z) powers ∙ right a b (2 ^ ea) (2 ^ eb) (2 ^ l * 2 ^ 2209)
