-- The smaller operand moved down, and the digits of a sum and of a difference. Assumes nothing.
use mathlib.Core.Path.{◌≡◌, refl, sym, ap, ◌∙◌, subst}
use mathlib.Core.Logic.{◌⊎◌, inl, inr}
use Prim.Native.Nat.{ℕ, zero, suc, ◌+◌, ◌-◌, ◌*◌, ◌/◌, ◌%◌, ◌^◌, ◌≤◌, ◌<◌, min}
use native.Mathlib.Nat.{le_trans, le_of_eq, lt_of_lt_of_le, lt_of_le_of_lt, le_of_lt, lt_of_not-le, mul_assoc, add-mul, add_assoc, suc-mul, mod-lt, mod-le, mod-eq_of_lt, mul-mod_left, div-add-mod', div-eq_of_lt, div-div-eq-div-mul, div-le_self, div-mul-le_self, min-eq_left, min-eq_right, le_of_mul-le-mul_right, lt_of_mul-lt-mul_right, add-zero, sub-zero}
use native.Mathlib.Decide.{dec_le}
use native.Mathlib.Omega.{arith}
use lib.Dec.{lit≤}
use lib.Pow.{pow-add, pow_pos, pow_mono}
use Rattle.digits.specs.Digits.{sticky, IsFolded}
use Rattle.sums.specs.Aligned.{IsAligned}
use Rattle.digits.proofs.Raising.{sticky-le}

-- ---- moving down

-- past 63 places nothing of t is seen, so it does not matter how far
same_shift : (t d sh : ℕ) → t < 2 ^ 63 → sh ≡ min d 63 → (t / 2 ^ sh ≡ t / 2 ^ d) × (t % 2 ^ sh ≡ t % 2 ^ d)
same_shift t d sh h e = go (dec_le d 63)
  where
    go : Dec (d ≤ 63) → (t / 2 ^ sh ≡ t / 2 ^ d) × (t % 2 ^ sh ≡ t % 2 ^ d)
    go (yes l) =
        let x : sh ≡ d = e ∙ min-eq_left l in
        (ap (λ (z : ℕ). t / 2 ^ z) x, ap (λ (z : ℕ). t % 2 ^ z) x)
    go (no n) =
        let l : 63 ≤ d = le_of_lt (lt_of_not-le n) in
        let x : sh ≡ 63 = e ∙ min-eq_right l in
        let q : t < 2 ^ d = lt_of_lt_of_le h (pow_mono {i = 63} l) in
        (ap (λ (z : ℕ). t / 2 ^ z) x ∙ div-eq_of_lt h ∙ sym (div-eq_of_lt q), ap (λ (z : ℕ). t % 2 ^ z) x ∙ mod-eq_of_lt h ∙ sym (mod-eq_of_lt q))

few : (b : ℕ) → b < 2 ^ 53 → b * 128 < 2 ^ 63
few b h = omega arith

-- back up again it is no more
pub falls : (t sh : ℕ) → t / 2 ^ sh * 2 ^ sh % 2 ^ 64 ≤ t
falls t sh = le_trans (mod-le (t / 2 ^ sh * 2 ^ sh) (2 ^ 64)) (div-mul-le_self t (2 ^ sh))

pub aligned : (b d sh l : ℕ) → b < 2 ^ 53 → sh ≡ min d 63 → l ≡ sticky (b * 128 - b * 128 / 2 ^ sh * 2 ^ sh % 2 ^ 64) → IsAligned b d (b * 128 / 2 ^ sh) l
aligned b d sh l h e k = record { high_is = (same_shift t d sh (few b h) e).0; left_is = k ∙ ap sticky (left ∙ (same_shift t d sh (few b h) e).1) }
  where
    t : ℕ
    t = b * 128

    back : t / 2 ^ sh * 2 ^ sh % 2 ^ 64 ≡ t / 2 ^ sh * 2 ^ sh
    back = mod-eq_of_lt (lt_of_le_of_lt (div-mul-le_self t (2 ^ sh)) (lt_of_lt_of_le (few b h) (lit≤ tt)))

    off : (t x r : ℕ) → x + r ≡ t → t - x ≡ r
    off t x r e = omega arith

    left : t - t / 2 ^ sh * 2 ^ sh % 2 ^ 64 ≡ t % 2 ^ sh
    left = ap (λ (z : ℕ). t - z) back ∙ off t (t / 2 ^ sh * 2 ^ sh) (t % 2 ^ sh) (div-add-mod' t (2 ^ sh))

-- ---- x * v - (q * v + r) is (x - q - 1) * v + (v - r), or (x - q) * v where r is 0

record Borrowed (x q r v : ℕ) : Type 0 where
  pub rest : ℕ
  pub small : rest < v
  pub sum : (x - q - sticky r) * v + rest ≡ x * v - (q * v + r)
  pub same : sticky r ≡ sticky rest
  pub none : r ≡ 0 → rest ≡ 0
  pub room : q + sticky r ≤ x

borrow : (x q r v : ℕ) → r < v → q * v + r ≤ x * v → Borrowed x q r v
borrow x q zero v R h = record { rest = 0; small = R; sum = exact; same = refl; none = λ _. refl; room = le_trans (le_of_eq (add-zero q)) fits }
  where
    fits : q ≤ x
    fits = le_of_mul-le-mul_right (le_trans (le_of_eq (sym (add-zero (q * v)))) h) R

    back : (x q : ℕ) → q ≤ x → x ≡ x - q + q
    back x q l = omega arith

    plain : (nv qv : ℕ) → nv ≡ nv + qv - (qv + 0)
    plain nv qv = omega arith

    go : (n : ℕ) → x ≡ n + q → (n - 0) * v + 0 ≡ x * v - (q * v + 0)
    go n e = add-zero ((n - 0) * v) ∙ ap (λ (z : ℕ). z * v) (sub-zero n) ∙ plain (n * v) (q * v) ∙ ap (λ (z : ℕ). z - (q * v + 0)) (sym (add-mul n q v) ∙ ap (λ (z : ℕ). z * v) (sym e))

    exact : (x - q - 0) * v + 0 ≡ x * v - (q * v + 0)
    exact = go (x - q) (back x q fits)
borrow x q (suc r) v R h = record { rest = v - suc r; small = less v r R; sum = exact (x - q - 1) (back x q under); same = sym (sticky_pos (v - suc r) (pos v r R)); none = λ e. absurd (some_suc r e); room = le_trans (le_of_eq (next q)) under }
  where
    some_suc : (r : ℕ) → suc r ≡ 0 → ⊥
    some_suc r e = omega arith

    above : (a b r : ℕ) → a + suc r ≤ b → a < b
    above a b r h = omega arith

    under : q < x
    under = lt_of_mul-lt-mul_right v (above (q * v) (x * v) r h)

    next : (q : ℕ) → q + 1 ≡ suc q
    next q = omega arith

    less : (v r : ℕ) → suc r < v → v - suc r < v
    less v r h = omega arith

    pos : (v r : ℕ) → suc r < v → 0 < v - suc r
    pos v r h = omega arith

    back : (x q : ℕ) → q < x → x ≡ x - q - 1 + suc q
    back x q l = omega arith

    plain : (nv qv v r : ℕ) → suc r < v → nv + (v - suc r) ≡ nv + (qv + v) - (qv + suc r)
    plain nv qv v r h = omega arith

    exact : (n : ℕ) → x ≡ n + suc q → n * v + (v - suc r) ≡ x * v - (q * v + suc r)
    exact n e = plain (n * v) (q * v) v r R ∙ ap (λ (z : ℕ). z - (q * v + suc r)) (ap (λ (z : ℕ). n * v + z) (sym (suc-mul q v)) ∙ sym (add-mul n (suc q) v) ∙ ap (λ (z : ℕ). z * v) (sym e))

    sticky_pos : (y : ℕ) → 0 < y → sticky y ≡ 1
    sticky_pos zero h = absurd (no_zero h)
      where
        no_zero : 0 < 0 → ⊥
        no_zero h = omega arith
    sticky_pos (suc y) h = refl

-- ---- the digits

module _ (a b d h l : ℕ) (A : 2 ^ 52 ≤ a) (A' : a < 2 ^ 53) (B : b < 2 ^ 53) (w : IsAligned b d h l) where
  abbrev v : ℕ
  v = 2 ^ d

  abbrev t : ℕ
  t = b * 128

  one : l ≤ 1
  one = le_trans (le_of_eq w.left_is) (sticky-le (t % v))

  high : h ≤ t
  high = le_trans (le_of_eq w.high_is) (div-le_self t v)

  pub add_room : (a * 128 + h < 2 ^ 61) × ((a * 128 + h) * 2 + l < 2 ^ 62)
  add_room = room a b h l A' B high one
    where
      room : (a b h l : ℕ) → a < 2 ^ 53 → b < 2 ^ 53 → h ≤ b * 128 → l ≤ 1 → (a * 128 + h < 2 ^ 61) × ((a * 128 + h) * 2 + l < 2 ^ 62)
      room a b h l A B H L = omega arith

  pub sum_folded : IsFolded 53 (a * 128 * v + t) v ((a * 128 + h) * 2 + l)
  sum_folded = record {
    whole = a * 128 + h;
    rest = t % v;
    small = mod-lt t (pow_pos d);
    sum =
        ap (λ (z : ℕ). (a * 128 + z) * v + t % v) w.high_is
        ∙ ap (λ (z : ℕ). z + t % v) (add-mul (a * 128) (t / v) v)
        ∙ add_assoc (a * 128 * v) (t / v * v) (t % v)
        ∙ ap (λ (z : ℕ). a * 128 * v + z) (div-add-mod' t v);
    told = ap (λ (z : ℕ). (a * 128 + h) * 2 + z) w.left_is;
    enough = inl (least a h A);
    below = add_room.1;
  }
    where
      least : (a h : ℕ) → 2 ^ 52 ≤ a → 2 ^ 53 ≤ a * 128 + h
      least a h A = omega arith

  -- nothing is left within 7 places
  near : d ≤ 7 → t % v ≡ 0
  near k = ap (λ (z : ℕ). z % v) (ap (λ (z : ℕ). b * 2 ^ z) (back d k) ∙ ap (λ (z : ℕ). b * z) (pow-add 2 (7 - d) d) ∙ sym (mul_assoc b (2 ^ (7 - d)) v)) ∙ mul-mod_left (b * 2 ^ (7 - d)) v
    where
      back : (d : ℕ) → d ≤ 7 → 7 ≡ 7 - d + d
      back d k = omega arith

  far : (d ≤ 7 → ⊥) → h < 2 ^ 52
  far n = small b (t / 2 ^ 8) h B (div-add-mod' t (2 ^ 8)) (le_trans (le_of_eq w.high_is) lower)
    where
      lower : t / v ≤ t / 2 ^ 8
      lower = le_trans (le_of_eq (ap (λ (z : ℕ). t / z) (ap (λ (z : ℕ). 2 ^ z) (split d n) ∙ pow-add 2 8 (d - 8)) ∙ sym (div-div-eq-div-mul t (2 ^ 8) (2 ^ (d - 8))))) (div-le_self (t / 2 ^ 8) (2 ^ (d - 8)))
        where
          split : (d : ℕ) → (d ≤ 7 → ⊥) → d ≡ 8 + (d - 8)
          split d n = omega arith

      small : (b q h : ℕ) → b < 2 ^ 53 → q * 2 ^ 8 + b * 128 % 2 ^ 8 ≡ b * 128 → h ≤ q → h < 2 ^ 52
      small b q h B e k = omega arith

  module _ (H : t ≤ a * 128 * v) where
    lent : Borrowed (a * 128) (t / v) (t % v) v
    lent = borrow (a * 128) (t / v) (t % v) v (mod-lt t (pow_pos d)) (le_trans (le_of_eq (div-add-mod' t v)) H)

    pub sub_room : (h ≤ a * 128) × (l ≤ a * 128 - h) × ((a * 128 - h - l) * 2 + l < 2 ^ 62)
    sub_room = room a h l A' one (subst (λ (z : ℕ). z + l ≤ a * 128) (sym w.high_is) (subst (λ (z : ℕ). t / v + z ≤ a * 128) (sym w.left_is) lent.room))
      where
        room : (a h l : ℕ) → a < 2 ^ 53 → l ≤ 1 → h + l ≤ a * 128 → (h ≤ a * 128) × (l ≤ a * 128 - h) × ((a * 128 - h - l) * 2 + l < 2 ^ 62)
        room a h l A L R = omega arith

    pub difference_folded : IsFolded 53 (a * 128 * v - t) v ((a * 128 - h - l) * 2 + l)
    difference_folded = record {
      whole = a * 128 - h - l;
      rest = lent.rest;
      small = lent.small;
      sum =
          ap (λ (z : ℕ). (a * 128 - z - l) * v + lent.rest) w.high_is
          ∙ ap (λ (z : ℕ). (a * 128 - t / v - z) * v + lent.rest) w.left_is
          ∙ lent.sum
          ∙ ap (λ (z : ℕ). a * 128 * v - z) (div-add-mod' t v);
      told = ap (λ (z : ℕ). (a * 128 - h - l) * 2 + z) (w.left_is ∙ lent.same);
      enough = digits (dec_le d 7);
      below = sub_room.2;
    }
      where
        least : (a h l : ℕ) → 2 ^ 52 ≤ a → h < 2 ^ 52 → l ≤ 1 → 2 ^ 53 ≤ a * 128 - h - l
        least a h l A H L = omega arith

        digits : Dec (d ≤ 7) → (2 ^ 53 ≤ a * 128 - h - l) ⊎ (lent.rest ≡ 0)
        digits (yes k) = inr (lent.none (near k))
        digits (no n) = inl (least a h l A (far n) one)
