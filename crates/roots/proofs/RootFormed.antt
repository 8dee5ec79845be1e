-- A root has the form c * 2 ^ k of the format's smallest values, with all digits of c in use. Over the mode and the format.
-- Assumes nothing.
use mathlib.Core.Path.{◌≡◌, sym, ap, ◌∙◌, subst}
use mathlib.Core.Logic.{inl, inr}
use mathlib.Core.Bool.{false}
use Prim.Native.Nat.{ℕ, suc, ◌+◌, ◌*◌, ◌/◌, ◌^◌, ◌≤◌, ◌<◌}
use native.Mathlib.Nat.{le_trans, le_of_eq, lt_of_lt_of_le, mul_comm, mul_assoc, mul-pos, mul-le-mul, mul-le-mul_left, mul-mul-mul_comm, div-mul-le_self, div-div-eq-div-mul, le-div_iff_mul-le, div-lt_iff_lt-mul}
use native.Mathlib.Omega.{arith}
use lib.Dec.{lit≤}
use lib.Pow.{pow-add, pow_pos}
use lib.Ieee.{Format, binary32, binary64, prec, low, hid, top, to_bits}
use lib.Ieee.Fits.{kept-lt}
use Rattle.rounding.specs.Rounding.{dropped}
use Rattle.packing.specs.Pack.{packed}
use Rattle.roots.specs.Root.{isqrt, root_cut, root_of}
use Rattle.rounding.specs.declared.rounding.Rounding.{Rounding}
use Rattle.floats.proofs.Units.{Lead}
use Rattle.rounding.proofs.Cutting.{move_ge, move-le}
use Rattle.packing.proofs.Written.{settled_bits}
use Rattle.roots.proofs.Squares.{is_Root, isqrt_unique, isqrt_ge}
use Rattle.floats.proofs.Flushing.{NotSubnormal}
use Rattle.roots.specs.Root.{isqrt, root_cut, root_of}
use Rattle.roots.proofs.Squares.{is_Root, isqrt_unique, isqrt_ge}
use Rattle.packing.proofs.Formed.{Lead-digit, keeps, packed-lt, packed_normal}

-- ---- a root

quarter : (y b : ℕ) → 0 < b → isqrt (y / (b * b)) ≡ isqrt y / b
quarter y b B =
    let s = isqrt y in
    let r = s / b in
    isqrt_unique (y / (b * b)) r
    ((le-div_iff_mul-le (mul-pos B B)).1
    (le_trans (le_of_eq (mul-mul-mul_comm r r b b)) (le_trans (mul-le-mul (div-mul-le_self s b) (div-mul-le_self s b)) (is_Root y).0)))
    ((div-lt_iff_lt-mul (mul-pos B B)).1
    (lt_of_lt_of_le (is_Root y).1 (le_trans (mul-le-mul (over s b B) (over s b B)) (le_of_eq (mul-mul-mul_comm (suc r) b (suc r) b)))))
  where
    over : (s b : ℕ) → 0 < b → suc s ≤ suc (s / b) * b
    over s b B = (div-lt_iff_lt-mul B).0 (lt-suc (s / b))
      where
        lt-suc : (x : ℕ) → x < suc x
        lt-suc x = omega arith

module _ (mode : Rounding) (f : Format) (num den : ℕ) (D : 0 < den) where
  abbrev root_n : ℕ
  root_n = num * 2 ^ (low f + low f)

  abbrev pub root_k : ℕ
  root_k = dropped f (isqrt (root_n / den))

  abbrev root_u : ℕ
  root_u = den * 2 ^ (root_k + root_k)

  abbrev pub root_c : ℕ
  root_c = root_cut mode root_n root_u

  root_whole : isqrt (root_n / den) / 2 ^ root_k ≡ isqrt (root_n / root_u)
  root_whole =
      sym (quarter (root_n / den) (2 ^ root_k) (pow_pos root_k))
      ∙ ap isqrt (ap (λ (x : ℕ). root_n / den / x) (sym (pow-add 2 root_k root_k)) ∙ div-div-eq-div-mul root_n den (2 ^ (root_k + root_k)))

  pub root_word : (root_c ≤ 2 ^ prec f) × Lead f root_k root_c × (to_bits f (root_of mode f num den) ≡ packed mode f false root_k root_c)
  unfolding root_of
  root_word =
      let most : root_c ≤ 2 ^ prec f = le_trans (move-le mode false (isqrt (root_n / root_u)) _ _) (subst (λ (x : ℕ). x < 2 ^ prec f) root_whole (kept-lt (prec f) (isqrt (root_n / den)))) in
      let lead : Lead f root_k root_c =
      elim (Lead-digit f (isqrt (root_n / den))) [
        | inl z ↦ inl z
        | inr g ↦ inr (le_trans (subst (λ (x : ℕ). hid f ≤ x) root_whole g) (move_ge mode false (isqrt (root_n / root_u)) _ _))
      ] in
      (most, lead, settled_bits mode f false root_c root_k most lead)

  pub root_lt : to_bits f (root_of mode f num den) < 2 * top f
  root_lt = subst (λ (x : ℕ). x < 2 * top f) (sym root_word.2) (packed-lt mode f false root_k root_c)

  -- the root of the smallest value is far above the smallest normal value
  pub root_keeps : den ≤ num * 2 ^ low f → hid f ≤ root_c
  root_keeps h =
      le_trans (subst (λ (x : ℕ). hid f ≤ x) root_whole (keeps f (isqrt (root_n / den)) (isqrt_ge (root_n / den) (hid f) (le_trans (deep f) ((le-div_iff_mul-le D).1 reach)))))
      (move_ge mode false (isqrt (root_n / root_u)) _ _)
    where
      deep : (f : Format) → hid f * hid f ≤ 2 ^ low f
      deep binary32 = lit≤ tt
      deep binary64 = lit≤ tt

      reach : 2 ^ low f * den ≤ num * 2 ^ (low f + low f)
      reach =
          le_trans (mul-le-mul_left (2 ^ low f) h)
          (le_of_eq (mul_comm (2 ^ low f) (num * 2 ^ low f) ∙ mul_assoc num (2 ^ low f) (2 ^ low f) ∙ ap (λ (x : ℕ). num * x) (sym (pow-add 2 (low f) (low f)))))

  pub root_normal : den ≤ num * 2 ^ low f → NotSubnormal f (to_bits f (root_of mode f num den))
  root_normal h = subst (NotSubnormal f) (sym root_word.2) (packed_normal mode f false root_k root_c (root_keeps h))
