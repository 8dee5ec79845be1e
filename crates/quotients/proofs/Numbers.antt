-- The quotient of two operands, from its digits. Over the mode and the format. Assumes nothing.
use mathlib.Core.Path.{◌≡◌, refl, sym, ap, ◌∙◌, subst}
use mathlib.Core.Bool.{Bool}
use Prim.Native.Nat.{ℕ, suc, ◌+◌, ◌-◌, ◌*◌, ◌^◌, ◌≤◌, ◌<◌}
use native.Mathlib.Nat.{mul-pos, le_of_eq}
use native.Mathlib.Omega.{arith}
use lib.Pow.{pow-add, pow_pos}
use lib.Ieee.{Float, Format, prec, unlike, to_bits}
use Rattle.rounding.specs.declared.rounding.Rounding.{Rounding}
use Rattle.operators.specs.Operators.{quotient}
use Rattle.digits.specs.Digits.{IsOperand, IsFolded}
use Rattle.packing.specs.Pack.{IsSettled}
use Rattle.exceptions.specs.Exceptions.{settled_exceptions}
use Rattle.exceptions.specs.Operators.{quotient_exceptions}
use Rattle.packing.proofs.Settle.{settled_same}
use Rattle.exceptions.proofs.Values.{quotient_settles}
use Rattle.digits.proofs.Sticky.{folded_settles}

-- a quotient of digits, k of its own below the point
pub folded_quotient : (mode : Rounding) (f : Format) (x y : Float) (s t : Bool) (a ea b eb k m bits : ℕ) (g i o l : Bool) → IsOperand x s a ea → IsOperand y t b eb → k < 64 → IsFolded (prec f) (a * 2 ^ k) b m → g ≡ unlike s t
    → IsSettled mode f g (m * 2 ^ (ea + (2208 - k) - eb)) (2 ^ 2209) bits i o l → (bits ≡ to_bits f (quotient mode f x y)) × (settled_exceptions i o l ≡ quotient_exceptions mode f x y)
folded_quotient mode f x y s t a ea b eb k m bits g i o l p q few w sign h =
    let e = ea + (2208 - k) - eb in
    quotient_settles mode f x y s t (a * 2 ^ ea) (2 ^ 1126) (b * 2 ^ eb) (2 ^ 1126) bits i o l (pow_pos 1126) (pow_pos 1126) B p.value q.value
    (settled_same mode f (unlike s t) (a * 2 ^ k * 2 ^ suc e) (b * 2 ^ 2209) (a * 2 ^ ea * 2 ^ 1126) (b * 2 ^ eb * 2 ^ 1126) bits i o l (mul-pos (some b q.least) (pow_pos 2209)) (mul-pos B (pow_pos 1126)) same
    (folded_settles mode f (unlike s t) (prec f) (a * 2 ^ k) b m e (le_of_eq refl) w bits i o l (subst (λ (z : Bool). IsSettled mode f z (m * 2 ^ e) (2 ^ 2209) bits i o l) sign h)))
  where
    some : (b : ℕ) → 2 ^ 52 ≤ b → 0 < b
    some b h = omega arith

    B : 0 < b * 2 ^ eb
    B = mul-pos (some b q.least) (pow_pos eb)

    exponents : (ea eb k : ℕ) → eb < 2100 → k < 64 → k + suc (ea + (2208 - k) - eb) + eb ≡ ea + 2209
    exponents ea eb k h l = omega arith

    powers : 2 ^ k * 2 ^ suc (ea + (2208 - k) - eb) * 2 ^ eb ≡ 2 ^ ea * 2 ^ 2209
    powers =
        ap (λ (z : ℕ). z * 2 ^ eb) (sym (pow-add 2 k (suc (ea + (2208 - k) - eb))))
        ∙ sym (pow-add 2 (k + suc (ea + (2208 - k) - eb)) eb)
        ∙ ap (λ (z : ℕ). 2 ^ z) (exponents ea eb k q.range few)
        ∙ pow-add 2 ea 2209

    left : (a b k e g l : ℕ) → a * k * e * (b * g * l) ≡ a * b * l * (k * e * g)
    left a b k e g l = omega arith

    right : (a b l g n : ℕ) → a * b * l * (g * n) ≡ a * g * l * (b * n)
    right a b l g n = omega arith

    same : a * 2 ^ k * 2 ^ suc (ea + (2208 - k) - eb) * (b * 2 ^ eb * 2 ^ 1126) ≡ a * 2 ^ ea * 2 ^ 1126 * (b * 2 ^ 2209)
    same = left a b (2 ^ k) (2 ^ suc (ea + (2208 - k) - eb)) (2 ^ eb) (2 ^ 1126) ∙ ap (λ (z : ℕ). a * b * 2 ^ 1126 * z) powers ∙ right a b (2 ^ 1126) (2 ^ ea) (2 ^ 2209)
