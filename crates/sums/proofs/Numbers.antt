-- The sum of two operands, from its digits. Over the mode and the format. Assumes nothing.
use mathlib.Core.Path.{◌≡◌, refl, sym, ap, ◌∙◌, subst}
use mathlib.Core.Logic.{◌⊎◌, inl, inr}
use mathlib.Core.Bool.{Bool, true, false, cond, beq}
use Prim.Native.Nat.{ℕ, zero, suc, ◌+◌, ◌-◌, ◌*◌, ◌^◌, ◌≤◌, ◌<◌}
use native.Mathlib.Nat.{le_trans, le_of_eq, le_of_lt, lt_of_lt_of_le, mul-pos, mul_assoc, mul-le-mul, mul-le-mul_right, mul-lt-mul_of_pos_right, le_of_mul-le-mul_right, add-mul, zero-mul, eq-or-lt_of_le, pow-succ'}
use native.Mathlib.Decide.{dec_lt}
use native.Mathlib.Omega.{arith}
use borrow.Author.Tests.{eq-eqb, ne_eqb}
use lib.Dec.{eqb}
use lib.Pow.{pow-add, pow_pos, pow_mono}
use lib.Ieee.{Float, Format, top, unlike, to_bits}
use Rattle.rounding.specs.declared.rounding.Rounding.{Rounding}
use Rattle.packing.specs.Pack.{IsSettled}
use Rattle.operators.specs.Operators.{zero_sign, sum_size, sum_sign, sum}
use Rattle.digits.specs.Digits.{IsOperand, IsFolded}
use Rattle.sums.specs.Aligned.{IsAligned, IsSum}
use Rattle.exceptions.specs.Exceptions.{settled_exceptions}
use Rattle.exceptions.specs.Operators.{sum_exceptions}
use Rattle.packing.proofs.Settle.{settled_same}
use Rattle.operators.proofs.Sums.{sum_like, sum_more, sum_none, sum_swap}
use Rattle.operators.proofs.Words.{zero_settles}
use Rattle.exceptions.proofs.Values.{sum_settles}
use Rattle.digits.proofs.Sticky.{folded_settles, most_digits, folded_zero, zero_folded}
use Rattle.sums.proofs.Align.{sum_folded, add_room, sub_room, difference_folded}

-- ---- signs

pub beq_no : (s t : Bool) → unlike s t ≡ true → beq s t ≡ false
beq_no true true e = sym e
beq_no true false e = refl
beq_no false true e = refl
beq_no false false e = sym e

pub beq_yes : (s t : Bool) → unlike s t ≡ false → beq s t ≡ true
beq_yes true true e = refl
beq_yes true false e = sym e
beq_yes false true e = sym e
beq_yes false false e = refl

-- ---- which operand is the larger

-- the larger exponent has the larger number
above : (a ea b eb : ℕ) → 2 ^ 52 ≤ a → b < 2 ^ 53 → eb < ea → b * 2 ^ eb < a * 2 ^ ea
above a ea b eb A B h =
    lt_of_lt_of_le (mul-lt-mul_of_pos_right B (pow_pos eb))
    (le_trans (le_of_eq (twice (2 ^ eb) ∙ ap (λ (z : ℕ). 2 ^ 52 * z) (sym (pow-succ' 2 eb)))) (mul-le-mul A (pow_mono h)))
  where
    twice : (p : ℕ) → 2 ^ 53 * p ≡ 2 ^ 52 * (2 * p)
    twice p = omega arith

pub ordered : (a ea b eb : ℕ) → 2 ^ 52 ≤ a → a < 2 ^ 53 → 2 ^ 52 ≤ b → b < 2 ^ 53 → eb * 2 ^ 52 + b ≤ ea * 2 ^ 52 + a → (eb ≤ ea) × (b * 2 ^ eb ≤ a * 2 ^ ea)
ordered a ea b eb A A' B B' h = (first a ea b eb A' B h, go (dec_lt eb ea))
  where
    first : (a ea b eb : ℕ) → a < 2 ^ 53 → 2 ^ 52 ≤ b → eb * 2 ^ 52 + b ≤ ea * 2 ^ 52 + a → eb ≤ ea
    first a ea b eb A B h = omega arith

    level : (a ea b eb : ℕ) → eb ≤ ea → (eb < ea → ⊥) → eb * 2 ^ 52 + b ≤ ea * 2 ^ 52 + a → (ea ≡ eb) × (b ≤ a)
    level a ea b eb l n h = omega arith

    go : Dec (eb < ea) → b * 2 ^ eb ≤ a * 2 ^ ea
    go (yes l) = le_of_lt (above a ea b eb A B' l)
    go (no n) =
        let p = level a ea b eb (first a ea b eb A' B h) n h in
        subst (λ (z : ℕ). b * 2 ^ eb ≤ a * 2 ^ z) (sym p.0) (mul-le-mul_right (2 ^ eb) p.1)

-- ---- digits that stand for y * 2 ^ eb / 2 ^ 1126

module _ (ea eb d num x y m : ℕ) (D : ea ≡ d + eb) (p : IsFolded 53 x (2 ^ d) m) (e : x ≡ y * 128) (n : num ≡ y * 2 ^ eb) where
  stands : (mode : Rounding) (f : Format) (s : Bool) (bits : ℕ) (i o j : Bool) → IsSettled mode f s (m * 2 ^ (ea + 1075)) (2 ^ 2209) bits i o j → IsSettled mode f s num (2 ^ 1126) bits i o j
  stands mode f s bits i o j q =
      settled_same mode f s (x * 2 ^ suc (ea + 1075)) (2 ^ d * 2 ^ 2209) num (2 ^ 1126) bits i o j (mul-pos (pow_pos d) (pow_pos 2209)) (pow_pos 1126) scale
      (folded_settles mode f s 53 x (2 ^ d) m (ea + 1075) (most_digits f) p bits i o j q)
    where
      exponents : (ea eb d : ℕ) → ea ≡ d + eb → 7 + suc (ea + 1075) + 1126 ≡ eb + (d + 2209)
      exponents ea eb d h = omega arith

      powers : 2 ^ 7 * 2 ^ suc (ea + 1075) * 2 ^ 1126 ≡ 2 ^ eb * (2 ^ d * 2 ^ 2209)
      powers =
          ap (λ (z : ℕ). z * 2 ^ 1126) (sym (pow-add 2 7 (suc (ea + 1075))))
          ∙ sym (pow-add 2 (7 + suc (ea + 1075)) 1126)
          ∙ ap (λ (z : ℕ). 2 ^ z) (exponents ea eb d D)
          ∙ pow-add 2 eb (d + 2209)
          ∙ ap (λ (z : ℕ). 2 ^ eb * z) (pow-add 2 d 2209)

      left : (y k i l : ℕ) → y * k * i * l ≡ y * (k * i * l)
      left y k i l = omega arith

      scale : x * 2 ^ suc (ea + 1075) * 2 ^ 1126 ≡ num * (2 ^ d * 2 ^ 2209)
      scale =
          ap (λ (z : ℕ). z * 2 ^ suc (ea + 1075) * 2 ^ 1126) e
          ∙ left y (2 ^ 7) (2 ^ suc (ea + 1075)) (2 ^ 1126)
          ∙ ap (λ (z : ℕ). y * z) powers
          ∙ sym (mul_assoc y (2 ^ eb) (2 ^ d * 2 ^ 2209))
          ∙ ap (λ (z : ℕ). z * (2 ^ d * 2 ^ 2209)) (sym n)

  some : 0 < num → eqb m 0 ≡ false
  some h = ne_eqb m 0 (λ (z : m ≡ 0). not_zero num h (n ∙ ap (λ (k : ℕ). k * 2 ^ eb) (whole y (sym e ∙ zero_folded 53 x (2 ^ d) m p z)) ∙ zero-mul (2 ^ eb)))
    where
      whole : (y : ℕ) → y * 128 ≡ 0 → y ≡ 0
      whole y h = omega arith

      not_zero : (k : ℕ) → 0 < k → k ≡ 0 → ⊥
      not_zero k h z = omega arith

  none : num ≡ 0 → m ≡ 0
  none z = folded_zero 53 x (2 ^ d) m p (e ∙ ap (λ (k : ℕ). k * 128) (nothing y (2 ^ eb) (pow_pos eb) (sym n ∙ z)))
    where
      nothing : (y k : ℕ) → 0 < k → y * k ≡ 0 → y ≡ 0
      nothing zero k h z = refl
      nothing (suc y) k h z = absurd (no_sum (y * k) k h (sym (suc_times y k) ∙ z))
        where
          no_sum : (x k : ℕ) → 0 < k → x + k ≡ 0 → ⊥
          no_sum x k h z = omega arith

          suc_times : (y k : ℕ) → suc y * k ≡ y * k + k
          suc_times y k = omega arith

-- ---- of two operands, the larger one first

module _ (s t : Bool) (a ea b eb h l : ℕ) (A : 2 ^ 52 ≤ a) (A' : a < 2 ^ 53) (B : b < 2 ^ 53) (E : eb ≤ ea) (L : ea < 2100) (G : b * 2 ^ eb ≤ a * 2 ^ ea) (w : IsAligned b (ea - eb) h l) where
  abbrev gap : ℕ
  gap = ea - eb

  exps : ea ≡ gap + eb
  exps = back ea eb E
    where
      back : (x y : ℕ) → y ≤ x → x ≡ x - y + y
      back x y h = omega arith

  apart : a * 2 ^ ea ≡ a * 2 ^ gap * 2 ^ eb
  apart = ap (λ (z : ℕ). a * 2 ^ z) exps ∙ ap (λ (z : ℕ). a * z) (pow-add 2 gap eb) ∙ sym (mul_assoc a (2 ^ gap) (2 ^ eb))

  under : b ≤ a * 2 ^ gap
  under = le_of_mul-le-mul_right (le_trans G (le_of_eq apart)) (pow_pos eb)

  pub wide : b * 128 ≤ a * 128 * 2 ^ gap
  wide = le_trans (mul-le-mul_right 128 under) (le_of_eq (turn a (2 ^ gap)))
    where
      turn : (a p : ℕ) → a * p * 128 ≡ a * 128 * p
      turn a p = omega arith

  range : ea + 1075 < 4500
  range = omega arith

  signed : (mode : Rounding) (x : Bool) (m : ℕ) → eqb m 0 ≡ false → cond (eqb m 0) (zero_sign mode) x ≡ x
  signed mode x m e = ap (λ (z : Bool). cond z (zero_sign mode) x) e

  pub sum_is : unlike s t ≡ false → IsSum s (a * 2 ^ ea) t (b * 2 ^ eb) s ((a * 128 + h) * 2 + l) (ea + 1075)
  sum_is u = record {
    sign = λ (mode : Rounding).
        (sum_like mode s (a * 2 ^ ea) t (b * 2 ^ eb) (beq_yes s t u)).0
        ∙ sym (signed mode s m (some ea eb gap num x y m exps folded times units (more (a * 2 ^ ea) (b * 2 ^ eb) (mul-pos (pos a A) (pow_pos ea)))));
    same = λ (mode : Rounding) (f : Format) (σ : Bool) (bits : ℕ) (i o j : Bool) q.
        subst (λ (z : ℕ). IsSettled mode f σ z (2 ^ 1126) bits i o j) (sym (sum_like mode s (a * 2 ^ ea) t (b * 2 ^ eb) (beq_yes s t u)).1)
        (stands ea eb gap num x y m exps folded times units mode f σ bits i o j q);
    below = (add_room a b gap h l A A' B w).1;
    range = range;
  }
    where
      m : ℕ
      m = (a * 128 + h) * 2 + l

      x : ℕ
      x = a * 128 * 2 ^ gap + b * 128

      y : ℕ
      y = a * 2 ^ gap + b

      num : ℕ
      num = a * 2 ^ ea + b * 2 ^ eb

      folded : IsFolded 53 x (2 ^ gap) m
      folded = sum_folded a b gap h l A A' B w

      turn : (a b p : ℕ) → a * 128 * p + b * 128 ≡ (a * p + b) * 128
      turn a b p = omega arith

      times : x ≡ y * 128
      times = turn a b (2 ^ gap)

      units : num ≡ y * 2 ^ eb
      units = ap (λ (z : ℕ). z + b * 2 ^ eb) apart ∙ sym (add-mul (a * 2 ^ gap) b (2 ^ eb))

      pos : (a : ℕ) → 2 ^ 52 ≤ a → 0 < a
      pos a h = omega arith

      more : (x y : ℕ) → 0 < x → 0 < x + y
      more x y h = omega arith

  pub difference_is : unlike s t ≡ true → IsSum s (a * 2 ^ ea) t (b * 2 ^ eb) s ((a * 128 - h - l) * 2 + l) (ea + 1075)
  difference_is u = record {
    sign = λ (mode : Rounding). sign_by mode (eq-or-lt_of_le G);
    same = λ (mode : Rounding) (f : Format) (σ : Bool) (bits : ℕ) (i o j : Bool) q.
        subst (λ (z : ℕ). IsSettled mode f σ z (2 ^ 1126) bits i o j) (sym (size_by mode (eq-or-lt_of_le G))) (stands ea eb gap num x y m exps folded times units mode f σ bits i o j q);
    below = (sub_room a b gap h l A A' B w wide).2;
    range = range;
  }
    where
      m : ℕ
      m = (a * 128 - h - l) * 2 + l

      x : ℕ
      x = a * 128 * 2 ^ gap - b * 128

      y : ℕ
      y = a * 2 ^ gap - b

      num : ℕ
      num = a * 2 ^ ea - b * 2 ^ eb

      folded : IsFolded 53 x (2 ^ gap) m
      folded = difference_folded a b gap h l A A' B w wide

      off : (x y z : ℕ) → y ≤ x → x * z - y * z ≡ (x - y) * z
      off x y z h = last (x * z) (y * z) ((x - y) * z) (sym (add-mul (x - y) y z) ∙ ap (λ (w : ℕ). w * z) (back x y h))
        where
          back : (x y : ℕ) → y ≤ x → x - y + y ≡ x
          back x y h = omega arith

          last : (p q r : ℕ) → r + q ≡ p → p - q ≡ r
          last p q r e = omega arith

      turn : (a p : ℕ) → a * 128 * p ≡ a * p * 128
      turn a p = omega arith

      times : x ≡ y * 128
      times = ap (λ (z : ℕ). z - b * 128) (turn a (2 ^ gap)) ∙ off (a * 2 ^ gap) b 128 under

      units : num ≡ y * 2 ^ eb
      units = ap (λ (z : ℕ). z - b * 2 ^ eb) apart ∙ off (a * 2 ^ gap) b (2 ^ eb) under

      left : (x y : ℕ) → y < x → 0 < x - y
      left x y h = omega arith

      nothing : (x y : ℕ) → y ≡ x → x - y ≡ 0
      nothing x y h = omega arith

      sign_by : (mode : Rounding) → (b * 2 ^ eb ≡ a * 2 ^ ea) ⊎ (b * 2 ^ eb < a * 2 ^ ea) → sum_sign mode s (a * 2 ^ ea) t (b * 2 ^ eb) ≡ cond (eqb m 0) (zero_sign mode) s
      sign_by mode (inl e) =
          (sum_none mode s (a * 2 ^ ea) t (b * 2 ^ eb) (beq_no s t u) (sym e)).0
          ∙ ap (λ (k : Bool). cond k (zero_sign mode) s) (sym (eq-eqb m 0 (none ea eb gap num x y m exps folded times units (nothing (a * 2 ^ ea) (b * 2 ^ eb) e))))
      sign_by mode (inr k) =
          (sum_more mode s (a * 2 ^ ea) t (b * 2 ^ eb) (beq_no s t u) k).0
          ∙ sym (signed mode s m (some ea eb gap num x y m exps folded times units (left (a * 2 ^ ea) (b * 2 ^ eb) k)))

      size_by : (mode : Rounding) → (b * 2 ^ eb ≡ a * 2 ^ ea) ⊎ (b * 2 ^ eb < a * 2 ^ ea) → sum_size s (a * 2 ^ ea) t (b * 2 ^ eb) ≡ num
      size_by mode (inl e) = (sum_none mode s (a * 2 ^ ea) t (b * 2 ^ eb) (beq_no s t u) (sym e)).1 ∙ sym (nothing (a * 2 ^ ea) (b * 2 ^ eb) e)
      size_by mode (inr k) = (sum_more mode s (a * 2 ^ ea) t (b * 2 ^ eb) (beq_no s t u) k).1

pub swapped : (s : Bool) (a : ℕ) (t : Bool) (b : ℕ) (n : Bool) (m e : ℕ) → IsSum t b s a n m e → IsSum s a t b n m e
swapped s a t b n m e p = record {
  sign = λ (mode : Rounding). sym (sum_swap mode s a t b).0 ∙ p.sign mode;
  same = λ (mode : Rounding) (f : Format) (σ : Bool) (bits : ℕ) (i o j : Bool) q.
      subst (λ (z : ℕ). IsSettled mode f σ z (2 ^ 1126) bits i o j) (sum_swap mode s a t b).1 (p.same mode f σ bits i o j q);
  below = p.below;
  range = p.range;
}

-- ---- the word, and what was raised

module _ (mode : Rounding) (f : Format) (x y : Float) (s t n : Bool) (a ea b eb m e : ℕ) (p : IsOperand x s a ea) (q : IsOperand y t b eb) (w : IsSum s (a * 2 ^ ea) t (b * 2 ^ eb) n m e) where
  -- of the sign that the sum has, once its digits are settled
  by : (σ : Bool) (bits : ℕ) (i o j : Bool) → cond (eqb m 0) (zero_sign mode) n ≡ σ → IsSettled mode f σ (m * 2 ^ e) (2 ^ 2209) bits i o j
      → (bits ≡ to_bits f (sum mode f x y)) × (settled_exceptions i o j ≡ sum_exceptions mode f x y)
  by σ bits i o j z d =
      sum_settles mode f x y s t (a * 2 ^ ea) (b * 2 ^ eb) (2 ^ 1126) σ (sum_size s (a * 2 ^ ea) t (b * 2 ^ eb)) bits i o j (pow_pos 1126) p.value q.value (w.sign mode ∙ z, refl)
      (w.same mode f σ bits i o j d)

  pub none_word : (r : ℕ) → m ≡ 0 → r ≡ cond (zero_sign mode) (top f) 0 → (r ≡ to_bits f (sum mode f x y)) × (0 ≡ sum_exceptions mode f x y)
  none_word r z d =
      by (zero_sign mode) r true false false (ap (λ (k : Bool). cond k (zero_sign mode) n) (eq-eqb m 0 z))
      (subst (λ (k : ℕ). IsSettled mode f (zero_sign mode) (m * 2 ^ e) (2 ^ 2209) k true false false) (sym d)
      (zero_settles mode f (zero_sign mode) (m * 2 ^ e) (2 ^ 2209) (pow_pos 2209) (ap (λ (k : ℕ). k * 2 ^ e) z ∙ zero-mul (2 ^ e))))

  pub some_word : (r : ℕ) (i o j : Bool) → (m ≡ 0 → ⊥) → IsSettled mode f n (m * 2 ^ e) (2 ^ 2209) r i o j → (r ≡ to_bits f (sum mode f x y)) × (settled_exceptions i o j ≡ sum_exceptions mode f x y)
  some_word r i o j z d = by n r i o j (ap (λ (k : Bool). cond k (zero_sign mode) n) (ne_eqb m 0 z)) d
