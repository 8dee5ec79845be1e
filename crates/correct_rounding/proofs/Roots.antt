-- A root is correctly rounded: the whole root's squares say how halves of the format's smallest value compare with it. Over the mode and the format.
-- Assumes nothing.
use mathlib.Core.Path.{◌≡◌, refl, sym, ap, ◌∙◌, subst}
use mathlib.Core.Logic.{◌⊎◌, inl, inr}
use mathlib.Core.Bool.{Bool, true, false, cond}
use Prim.Native.Nat.{ℕ, zero, suc, ◌+◌, ◌-◌, ◌*◌, ◌/◌, ◌%◌, ◌^◌, ◌≤◌, ◌<◌, compare, Ordering}
use native.Mathlib.Nat.{le_trans, le_of_eq, le_of_lt, lt_of_lt_of_le, le_antisymm, not-le_of_lt, lt_of_not-le, le_of_suc-le-suc, mul_assoc, mul_comm, mul_right_comm, mul-mul-mul_comm, mul-pos, mul-le-mul, mul-le-mul_right, mul-lt-mul_of_pos_right, le_of_mul-le-mul_right, zero-mul, div-mul-le_self, div-lt_iff_lt-mul}
use native.Mathlib.Omega.{arith}
use lib.Dec.{eqb, compare_is_eq}
use lib.Pow.{pow-add, pow_pos}
use borrow.Author.Tests.{eqb-true, eqb-false}
use lib.Ieee.{Float, nan, inf, fin, Format, low, up, down, hid, of_bits, to_bits}
use lib.Ieee.Fits.{down_pos}
use lib.Ieee.Exact.{HasValue}
use lib.Ieee.Nearest.{div_same}
use Rattle.rounding.specs.Rounding.{rounding_of, move, settled, dropped}
use Rattle.correct_rounding.specs.Rounded.{Real, root, AtMost, AtLeast, NearestEven, LargestNotAbove, LeastNotBelow, Named, CorrectlyRounded}
use Rattle.rounding.specs.declared.rounding.Rounding.{Rounding}
use Rattle.rounding.specs.declared.rounding.Rounding.TheVariants.{Nearest, Up, Down, Zero}
use Rattle.rounding.proofs.Order.{compare_scale}
use Rattle.correct_rounding.proofs.Rounded.{from_below, from_above, evens, not_more, not_less, settled_correct, settled_even}
use Rattle.packing.proofs.Formed.{Lead-digit}
use Rattle.roots.specs.Root.{isqrt, root_cut, root_of, sqrt_of, NearRoot}
use Rattle.correct_rounding.specs.Roots.{Correct}
use Rattle.roots.proofs.RootFormed.{root_k, root_c, root_word}
use Rattle.roots.proofs.Squares.{is_Root}
use Rattle.roots.proofs.Laws.{number_root}
use Rattle.nans.proofs.Choosing.{valued_number}
use Rattle.roots.proofs.Sight.{root_near}

-- ---- equal fractions have the same rounded root

cut_scale : (mode : Rounding) (n u z : ℕ) → 0 < u → 0 < z → root_cut mode (n * z) (u * z) ≡ root_cut mode n u
cut_scale mode n u z P Z =
    let sq : ℕ → ℕ = λ q. (2 * q + 1) * (2 * q + 1) in
    let q = isqrt (n / u) in
    ap (λ (w : ℕ). move mode false (isqrt w) (compare (4 * (n * z)) (sq (isqrt w) * (u * z))) (eqb (isqrt w * isqrt w * (u * z)) (n * z))) (div_same (n * z) (u * z) n u (mul-pos P Z) P (cross n u z))
    ∙ ap (λ (o : Ordering). move mode false q o (eqb (q * q * (u * z)) (n * z)))
    (ap (λ (w : ℕ). compare w (sq q * (u * z))) (sym (mul_assoc 4 n z)) ∙ ap (compare (4 * n * z)) (sym (mul_assoc (sq q) u z)) ∙ compare_scale (4 * n) (sq q * u) z Z)
    ∙ ap (λ (x : Bool). move mode false q (compare (4 * n) (sq q * u)) x)
    (ap (λ (w : ℕ). eqb w (n * z)) (sym (mul_assoc (q * q) u z)) ∙ ap compare_is_eq (compare_scale (q * q * u) n z Z))
  where
    cross : (n u z : ℕ) → n * z * u ≡ n * (u * z)
    cross n u z = mul_assoc n z u ∙ ap (λ (x : ℕ). n * x) (mul_comm z u)

cut_same : (mode : Rounding) (n u m v : ℕ) → 0 < u → 0 < v → n * v ≡ m * u → root_cut mode n u ≡ root_cut mode m v
cut_same mode n u m v P Q e =
    sym (cut_scale mode n u v P Q) ∙ ap (λ (x : ℕ). root_cut mode x (u * v)) e ∙ ap (λ (x : ℕ). root_cut mode (m * u) x) (mul_comm u v) ∙ cut_scale mode m v u Q P

root_same : (mode : Rounding) (f : Format) (a b c d : ℕ) → 0 < b → 0 < d → a * d ≡ c * b → root_of mode f a b ≡ root_of mode f c d
unfolding root_of
root_same mode f a b c d B D e =
    ap (λ (w : ℕ). settled mode f false (root_cut mode (a * l) (b * 2 ^ (dropped f (isqrt w) + dropped f (isqrt w)))) (dropped f (isqrt w))) (div_same (a * l) b (c * l) d B D scaled)
    ∙ ap (λ (x : ℕ). settled mode f false x k) (cut_same mode (a * l) (b * 2 ^ (k + k)) (c * l) (d * 2 ^ (k + k)) (mul-pos B (pow_pos (k + k))) (mul-pos D (pow_pos (k + k)))
    (sym (mul_assoc (a * l) d (2 ^ (k + k))) ∙ ap (λ (z : ℕ). z * 2 ^ (k + k)) scaled ∙ mul_assoc (c * l) b (2 ^ (k + k))))
  where
    l : ℕ
    l = 2 ^ (low f + low f)

    k : ℕ
    k = dropped f (isqrt (c * l / d))

    scaled : a * l * d ≡ c * l * b
    scaled = mul_right_comm a l d ∙ ap (λ (z : ℕ). z * l) e ∙ mul_right_comm c b l

-- ---- halves h / 2 against the root of n / den, where c is the root in units of u

module _ (n den u : ℕ) (D : 0 < den) (P : 0 < u) where
  abbrev unit : ℕ
  unit = den * (u * u)

  -- a multiple of u, squared
  square : (x : ℕ) → x * u * (x * u) * den ≡ x * x * unit
  square x = ap (λ (y : ℕ). y * den) (mul-mul-mul_comm x u x u) ∙ mul_assoc (x * x) (u * u) den ∙ ap (λ (y : ℕ). x * x * y) (mul_comm (u * u) den)

  lower : (a b : ℕ) → a ≤ b → b * b * den ≤ 4 * n → a * a * den ≤ 4 * n
  lower a b h g = le_trans (mul-le-mul_right den (mul-le-mul h h)) g

  upper : (a b : ℕ) → a ≤ b → 4 * n ≤ a * a * den → 4 * n ≤ b * b * den
  upper a b h g = le_trans g (mul-le-mul_right den (mul-le-mul h h))

  order : (a b : ℕ) → a * a * den ≤ 4 * n → 4 * n ≤ b * b * den → a ≤ b
  order a b x y = le_of_suc-le-suc (lt_of_not-le (λ (l : suc b ≤ a). not-le_of_lt (more b (mul-le-mul l l)) (le_of_mul-le-mul_right (le_trans x y) D)))
    where
      more : (b : ℕ) → suc b * suc b ≤ a * a → b * b < a * a
      more b g = lt_of_lt_of_le (grows b) g
        where
          grows : (b : ℕ) → b * b < suc b * suc b
          grows b = omega arith

  -- in halves: (2c + 1) u, (2c - 1) u
  odd_up : (c : ℕ) → 2 * (c * u) + u ≡ (2 * c + 1) * u
  odd_up c = omega arith

  half_below : (c h : ℕ) → h + u ≤ 2 * (c * u) → h ≤ (2 * c - 1) * u
  half_below zero h l = absurd (omega arith)
  half_below (suc c) h l = le_trans (go c h l) (le_of_eq (ap (λ (x : ℕ). x * u) (sym (less c))))
    where
      less : (c : ℕ) → 2 * suc c - 1 ≡ 2 * c + 1
      less c = omega arith

      go : (c h : ℕ) → h + u ≤ 2 * (suc c * u) → h ≤ (2 * c + 1) * u
      go c h l = omega arith

  near_low : (c : ℕ) → NearRoot n unit c → (h : ℕ) → h + u ≤ 2 * (c * u) → h * h * den ≤ 4 * n
  near_low c e h l = lower h ((2 * c - 1) * u) (half_below c h l) (le_trans (le_of_eq (square (2 * c - 1))) e.0)

  near_high : (c : ℕ) → NearRoot n unit c → 4 * n ≤ (2 * (c * u) + u) * (2 * (c * u) + u) * den
  near_high c e = le_trans e.1 (le_of_eq (sym (ap (λ (x : ℕ). x * x * den) (odd_up c) ∙ square (2 * c + 1))))

  tie_low : (c : ℕ) → NearRoot n unit c → (h : ℕ) → h + u ≤ 2 * (c * u) → 4 * n ≤ h * h * den → c % 2 ≡ 0
  tie_low c e h l y = elim (e.3 (le_antisymm (le_trans (upper h ((2 * c - 1) * u) (half_below c h l) y) (le_of_eq (square (2 * c - 1)))) e.0)) [
    | inl z ↦ ap (λ (x : ℕ). x % 2) z
    | inr z ↦ z
  ]

  tie_high : (c : ℕ) → NearRoot n unit c → (2 * (c * u) + u) * (2 * (c * u) + u) * den ≤ 4 * n → c % 2 ≡ 0
  tie_high c e x = e.2 (le_antisymm e.1 (le_trans (le_of_eq (sym (ap (λ (x : ℕ). x * x * den) (odd_up c) ∙ square (2 * c + 1)))) x))

  -- the whole root and the next
  even_at : (c : ℕ) → 2 * (c * u) * (2 * (c * u)) * den ≡ 4 * (c * c * unit)
  even_at c = ap (λ (x : ℕ). x * den) (mul-mul-mul_comm 2 (c * u) 2 (c * u)) ∙ mul_assoc 4 (c * u * (c * u)) den ∙ ap (λ (x : ℕ). 4 * x) (square c)

  floor_low : (c : ℕ) → c * c * unit ≤ n → 2 * (c * u) * (2 * (c * u)) * den ≤ 4 * n
  floor_low c h = le_trans (le_of_eq (even_at c)) (times h)
    where
      times : {x y : ℕ} → x ≤ y → 4 * x ≤ 4 * y
      times h = omega arith

  floor_high : (c : ℕ) → n < suc c * suc c * unit → (2 * (c * u) + 2 * u) * (2 * (c * u) + 2 * u) * den ≤ 4 * n → ⊥
  floor_high c h x = none (le_trans (le_of_eq (sym (ap (λ (y : ℕ). y * y * den) (next c) ∙ even_at (suc c)))) x) h
    where
      next : (c : ℕ) → 2 * (c * u) + 2 * u ≡ 2 * (suc c * u)
      next c = omega arith

      none : {x y : ℕ} → 4 * x ≤ 4 * y → y < x → ⊥
      none a b = omega arith

  ceil_high : (c : ℕ) → n ≤ c * c * unit → 4 * n ≤ 2 * (c * u) * (2 * (c * u)) * den
  ceil_high c h = le_trans (times h) (le_of_eq (sym (even_at c)))
    where
      times : {x y : ℕ} → x ≤ y → 4 * x ≤ 4 * y
      times h = omega arith

  ceil_low : (c : ℕ) → ((b : ℕ) → suc b ≡ c → b * b * unit < n) → (h : ℕ) → h + 2 * u ≤ 2 * (c * u) → 4 * n ≤ h * h * den → ⊥
  ceil_low zero g h l y = absurd (omega arith)
  ceil_low (suc b) g h l y = none (le_trans (upper h (2 * (b * u)) (under b h l) y) (le_of_eq (even_at b))) (g b refl)
    where
      under : (b h : ℕ) → h + 2 * u ≤ 2 * (suc b * u) → h ≤ 2 * (b * u)
      under b h l = omega arith

      none : {x y : ℕ} → 4 * y ≤ 4 * x → x < y → ⊥
      none a b = omega arith

-- ---- the root of num / den

module _ (mode : Rounding) (f : Format) (num den : ℕ) (D : 0 < den) where
  abbrev n : ℕ
  n = num * 2 ^ (low f + low f)

  abbrev k : ℕ
  k = root_k mode f num den D

  abbrev c : ℕ
  c = root_c mode f num den D

  abbrev exact : Real
  exact = root num den

  units : den * 2 ^ (k + k) ≡ den * (2 ^ k * 2 ^ k)
  units = ap (λ (x : ℕ). den * x) (pow-add 2 k k)

  -- the whole root, in units of 2 ^ k
  abbrev q : ℕ
  q = isqrt (n / (den * 2 ^ (k + k)))

  least : q * q * (den * (2 ^ k * 2 ^ k)) ≤ n
  least = subst (λ (x : ℕ). q * q * x ≤ n) units (le_trans (mul-le-mul_right (den * 2 ^ (k + k)) (is_Root (n / (den * 2 ^ (k + k)))).0) (div-mul-le_self n (den * 2 ^ (k + k))))

  below : n < suc q * suc q * (den * (2 ^ k * 2 ^ k))
  below = subst (λ (x : ℕ). n < suc q * suc q * x) units ((div-lt_iff_lt-mul (mul-pos D (pow_pos (k + k)))).0 (is_Root (n / (den * 2 ^ (k + k)))).1)

  lead : (k ≡ 0) ⊎ AtMost f (2 * (hid f * 2 ^ k)) exact
  lead = elim (Lead-digit f (isqrt (n / den))) [
    | inl z ↦ inl z
    | inr g ↦ inr (floor_low n den (2 ^ k) D (pow_pos k) (hid f)
        (le_trans (le_of_eq (sym (square n den (2 ^ k) D (pow_pos k) (hid f))))
        (le_trans (mul-le-mul_right den (mul-le-mul (reach g) (reach g))) (le_trans (mul-le-mul_right den (is_Root (n / den)).0) (div-mul-le_self n den)))))
  ]
    where
      reach : hid f ≤ isqrt (n / den) / 2 ^ k → hid f * 2 ^ k ≤ isqrt (n / den)
      reach g = le_trans (mul-le-mul_right (2 ^ k) g) (div-mul-le_self (isqrt (n / den)) (2 ^ k))

  abbrev lo : (a b : ℕ) → a ≤ b → AtMost f b exact → AtMost f a exact
  lo = lower n den (2 ^ k) D (pow_pos k)

  abbrev hi : (a b : ℕ) → a ≤ b → AtLeast f a exact → AtLeast f b exact
  hi = upper n den (2 ^ k) D (pow_pos k)

  abbrev or : (a b : ℕ) → AtMost f a exact → AtLeast f b exact → a ≤ b
  or = order n den (2 ^ k) D (pow_pos k)

  not_above : c ≡ q → LargestNotAbove f exact (c * 2 ^ k)
  not_above e =
      subst (λ (x : ℕ). LargestNotAbove f exact (x * 2 ^ k)) (sym e)
      (record {
        not_above = floor_low n den (2 ^ k) D (pow_pos k) q least;
        largest = not_more f (λ h. AtMost f h exact) (λ h. AtLeast f h exact) lo hi or q k lead (floor_high n den (2 ^ k) D (pow_pos k) q below);
      })

  not_below : c ≡ cond (eqb (q * q * (den * 2 ^ (k + k))) n) q (suc q) → LeastNotBelow f exact (c * 2 ^ k)
  not_below e = subst (λ (x : ℕ). LeastNotBelow f exact (x * 2 ^ k)) (sym e) (go (eqb (q * q * (den * 2 ^ (k + k))) n) (eqb-true (q * q * (den * 2 ^ (k + k))) n) (eqb-false (q * q * (den * 2 ^ (k + k))) n))
    where
      over : (x : ℕ) → n ≤ x * x * (den * (2 ^ k * 2 ^ k)) → ((b : ℕ) → suc b ≡ x → b * b * (den * (2 ^ k * 2 ^ k)) < n) → LeastNotBelow f exact (x * 2 ^ k)
      over x h g =
          record {
            not_below = ceil_high n den (2 ^ k) D (pow_pos k) x h;
            least = not_less f (λ h. AtMost f h exact) (λ h. AtLeast f h exact) lo hi or x k lead (ceil_low n den (2 ^ k) D (pow_pos k) x g);
          }

      fewer : (b z : ℕ) → 0 < z → b * b * z < suc b * suc b * z
      fewer b z Z = mul-lt-mul_of_pos_right (grows b) Z
        where
          grows : (b : ℕ) → b * b < suc b * suc b
          grows b = omega arith

      strict : (x y : ℕ) → x ≤ y → (x ≡ y → ⊥) → x < y
      strict x y l d = omega arith

      same : (b q : ℕ) → suc b ≡ suc q → q ≡ b
      same b q e = omega arith

      go : (t : Bool) → (t ≡ true → q * q * (den * 2 ^ (k + k)) ≡ n) → (t ≡ false → q * q * (den * 2 ^ (k + k)) ≡ n → ⊥) → LeastNotBelow f exact (cond t q (suc q) * 2 ^ k)
      go true p m =
          let is : q * q * (den * (2 ^ k * 2 ^ k)) ≡ n = subst (λ (x : ℕ). q * q * x ≡ n) units (p refl) in
          over q (le_of_eq (sym is))
          (λ b g. lt_of_lt_of_le (fewer b (den * (2 ^ k * 2 ^ k)) (mul-pos D (mul-pos (pow_pos k) (pow_pos k)))) (le_of_eq (ap (λ (x : ℕ). x * x * (den * (2 ^ k * 2 ^ k))) g ∙ is)))
      go false p m =
          over (suc q) (le_of_lt below)
          (λ b g. subst (λ (x : ℕ). x * x * (den * (2 ^ k * 2 ^ k)) < n) (same b q g)
          (strict (q * q * (den * (2 ^ k * 2 ^ k))) n least (λ (z : q * q * (den * (2 ^ k * 2 ^ k)) ≡ n). m refl (subst (λ (x : ℕ). q * q * x ≡ n) (sym units) z))))

nearest_even : (f : Format) (num den : ℕ) (D : 0 < den) → NearestEven f (root num den) (c Nearest f num den D * 2 ^ k Nearest f num den D) (to_bits f (settled Nearest f false (c Nearest f num den D) (k Nearest f num den D)))
nearest_even f num den D =
    let i = k Nearest f num den D in
    let x = c Nearest f num den D in
    let m = n Nearest f num den D in
    let e : NearRoot m (den * (2 ^ i * 2 ^ i)) x = subst (λ (z : ℕ). NearRoot m z x) (units Nearest f num den D) (root_near m (den * 2 ^ (i + i)) (mul-pos D (pow_pos (i + i)))) in
    let nl = near_low m den (2 ^ i) D (pow_pos i) x e in
    let nh = near_high m den (2 ^ i) D (pow_pos i) x e in
    let tl = tie_low m den (2 ^ i) D (pow_pos i) x e in
    let th = tie_high m den (2 ^ i) D (pow_pos i) x e in
    let L : ℕ → Type 0 = λ h. AtMost f h (root num den) in
    let U : ℕ → Type 0 = λ h. AtLeast f h (root num den) in
    let a = lo Nearest f num den D in
    let b = hi Nearest f num den D in
    let o = or Nearest f num den D in
    let le = lead Nearest f num den D in
    let w = root_word Nearest f num den D in
    record {
      from_below = from_below f L U a b o x i le nl nh tl th;
      from_above = from_above f L U a b o x i le nl nh tl th;
      even = λ q j h g y z. settled_even f false x i w.0 w.1 (evens f L U a b o x i le nl nh tl th q j h g y z);
    }

named : (mode : Rounding) (f : Format) (num den : ℕ) (D : 0 < den)
    → Named mode f false (root num den) (c mode f num den D * 2 ^ k mode f num den D) (to_bits f (settled mode f false (c mode f num den D) (k mode f num den D)))
named Nearest f num den D = nearest_even f num den D
named Up f num den D = not_below Up f num den D refl
named Down f num den D = not_above Down f num den D refl
named Zero f num den D = not_above Zero f num den D refl

root_correct : (mode : Rounding) (f : Format) (num den : ℕ) → 0 < den → CorrectlyRounded mode f false (root num den) (to_bits f (root_of mode f num den))
unfolding root_of
root_correct mode f num den D =
    settled_correct mode f false (c mode f num den D) (k mode f num den D) (root_word mode f num den D).0 (root num den) (named mode f num den D)

roots : (mode : Rounding) (f : Format) (x : Float) (a c : ℕ) → 0 < c → 0 < a → HasValue x false a c → CorrectlyRounded mode f false (root a c) (to_bits f (sqrt_of mode f x))
unfolding sqrt_of
roots mode f nan a c C A h = absurd h
roots mode f (inf t) a c C A h = absurd h
roots mode f (fin t zero e) a c C A h = absurd (none (a * down e) (mul-pos A (down_pos e)) (sym h.1 ∙ ap (λ (y : ℕ). y * c) (zero-mul (up e)) ∙ zero-mul c))
  where
    none : (y : ℕ) → 0 < y → y ≡ 0 → ⊥
    none y p z = omega arith
roots mode f (fin t (suc m) e) a c C A h =
    subst (λ (v : Float). CorrectlyRounded mode f false (root a c) (to_bits f v))
    (sym (ap (λ (b : Bool). cond b nan (root_of mode f (suc m * up e) (down e))) h.0 ∙ root_same mode f (suc m * up e) (down e) a c (down_pos e) C h.1))
    (root_correct mode f a c C)

pub roots_correct : Correct
roots_correct =
    record {
      roots = roots;
      square_roots = λ f control b a c C A h. subst (CorrectlyRounded (rounding_of control) f false (root a c)) (number_root f control b (valued_number f b false a c h)) (roots (rounding_of control) f (of_bits f b) a c C A h);
    }
