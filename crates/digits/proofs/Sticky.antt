-- What is left below enough leading digits is as good as one sticky digit. Over the mode and the format. Assumes nothing.
use mathlib.Core.Path.{◌≡◌, refl, sym, ap, ◌∙◌, subst}
use mathlib.Core.Logic.{◌⊎◌, inl, inr}
use mathlib.Core.Bool.{Bool, true, false, ◌&&◌}
use Prim.Native.Nat.{ℕ, zero, suc, ◌+◌, ◌-◌, ◌*◌, ◌/◌, ◌%◌, ◌^◌, ◌≤◌, ◌<◌, compare, Ordering}
use native.Mathlib.Nat.{mul_assoc, mul_comm, mul_right_comm, mul-pos, add-mul, suc-mul, mul-le-mul_right, le_trans, le_of_eq, div-add-mod', mod-lt, add_assoc, zero-lt-suc, zero-mul, mul-le-mul, le-div_iff_mul-le, div-div-eq-div-mul, div-one, div-le_self, div-lt_iff_lt-mul, not-le_of_lt, lt_of_not-le, le_of_suc-le-suc, pow-succ'}
use native.Mathlib.Decide.{dec_lt}
use native.Mathlib.Omega.{arith}
use borrow.Author.Tests.{lt-ltb, le-ltb}
use lib.Arith.{digits_div, digits_mod, digits_lt}
use lib.Dec.{T, leb, ltb, eqb, eqb→eq, lit≤}
use lib.Pow.{pow-add, pow_pos, pow_mono}
use lib.Ieee.{Format, binary32, binary64, prec, low, hid, to_bits}
use lib.Ieee.Fits.{kept-lt, eq→eqb}
use lib.Ieee.Nearest.{div_same}
use Rattle.rounding.specs.Rounding.{move, cut_to, limit, settled, dropped, rounded, exact, over, tiny}
use Rattle.rounding.specs.declared.rounding.Rounding.{Rounding}
use Rattle.packing.specs.Pack.{IsSettled}
use Rattle.digits.specs.Digits.{sticky, IsFolded}
use Rattle.floats.proofs.Units.{Lead, drop_is}
use Rattle.rounding.proofs.Cutting.{cut_same, rest_same}
use Rattle.rounding.proofs.Order.{Cmp, cmp, compare_is, compare_scale}
use Rattle.packing.proofs.Formed.{Lead-digit}
use Rattle.packing.proofs.Settle.{settled_same}

-- a number q * u + p and a part r / v of one, against a half: u is twice h
module _ (p h v r : ℕ) (R : r < v) where
  by : (o : Ordering) → Cmp o (p * v + r) (h * v) → Cmp o (2 * p + sticky r) (2 * h)
  by = go r R
    where
      mul-le : (a b : ℕ) → a < b → a * v + v ≤ b * v
      mul-le a b l = le_trans (le_of_eq (sym (suc-mul a v))) (mul-le-mul_right v l)

      below_not : (a b r : ℕ) → b ≤ a → a * v + r < b * v → ⊥
      below_not a b r l k = no (a * v) (b * v) r (mul-le-mul_right v l) k
        where
          no : (x y r : ℕ) → y ≤ x → x + r < y → ⊥
          no x y r l k = omega arith

      above_not : (a b r : ℕ) → r < v → a < b → b * v ≤ a * v + r → ⊥
      above_not a b r R l k = no (a * v) (b * v) r (mul-le a b l) R k
        where
          no : (x y r : ℕ) → x + v ≤ y → r < v → y ≤ x + r → ⊥
          no x y r l R k = omega arith

      nle : (a b : ℕ) → (b ≤ a → ⊥) → a < b
      nle a b f = omega arith

      nlt : (a b : ℕ) → (a < b → ⊥) → b ≤ a
      nlt a b f = omega arith

      go : (r : ℕ) → r < v → (o : Ordering) → Cmp o (p * v + r) (h * v) → Cmp o (2 * p + sticky r) (2 * h)
      go zero R Ordering.lt c = twice p h (nle p h (λ l. below_not p h 0 l c))
        where
          twice : (p h : ℕ) → p < h → 2 * p + 0 < 2 * h
          twice p h l = omega arith
      go (suc r) R Ordering.lt c = twice p h (nle p h (λ l. below_not p h (suc r) l c))
        where
          twice : (p h : ℕ) → p < h → 2 * p + 1 < 2 * h
          twice p h l = omega arith
      go zero R Ordering.eq c = twice p h (nlt p h (λ l. above_not p h 0 R l (le_of_eq (sym c)))) (nlt h p (λ l. over (h * v) (p * v) (mul-le h p l) c))
        where
          over : (x y : ℕ) → x + v ≤ y → y + 0 ≡ x → ⊥
          over x y l e = strict x y R l e
            where
              strict : (x y : ℕ) → 0 < v → x + v ≤ y → y + 0 ≡ x → ⊥
              strict x y R l e = omega arith

          twice : (p h : ℕ) → h ≤ p → p ≤ h → 2 * p + 0 ≡ 2 * h
          twice p h l k = omega arith
      go (suc r) R Ordering.eq c = absurd (odd (p * v) (h * v) p h r R (mul-le p h) (mul-le-mul_right v) c)
        where
          odd : (x y p h r : ℕ) → suc r < v → (p < h → x + v ≤ y) → (h ≤ p → y ≤ x) → x + suc r ≡ y → ⊥
          odd x y p h r R l m e = two (nlt p h (λ g. high (l g)))
            where
              high : x + v ≤ y → ⊥
              high g = omega arith

              two : h ≤ p → ⊥
              two g = low (m g)
                where
                  low : y ≤ x → ⊥
                  low g = omega arith
      go zero R Ordering.gt c = twice p h (nle h p (λ l. low (p * v) (h * v) (mul-le-mul_right v l) c))
        where
          low : (x y : ℕ) → x ≤ y → y < x + 0 → ⊥
          low x y l k = omega arith

          twice : (p h : ℕ) → h < p → 2 * h < 2 * p + 0
          twice p h l = omega arith
      go (suc r) R Ordering.gt c = twice p h (nlt p h (λ l. above_not p h (suc r) R l (weak (p * v + suc r) (h * v) c)))
        where
          weak : (x y : ℕ) → y < x → y ≤ x
          weak x y l = omega arith

          twice : (p h : ℕ) → h ≤ p → 2 * h < 2 * p + 1
          twice p h l = omega arith

pub sticky-lt : (r : ℕ) → sticky r < 2
sticky-lt zero = zero-lt-suc 1
sticky-lt (suc r) = le_of_eq refl

zero_both : (p v r : ℕ) → r < v → p * v + r ≡ 0 → 2 * p + sticky r ≡ 0
zero_both zero v zero R e = refl
zero_both zero v (suc r) R e = absurd (no (0 * v) r e)
  where
    no : (x r : ℕ) → x + suc r ≡ 0 → ⊥
    no x r e = omega arith
zero_both (suc p) v r R e = absurd (no (p * v) v r R (ap (λ (x : ℕ). x + r) (sym (suc-mul p v)) ∙ e))
  where
    no : (x v r : ℕ) → r < v → x + v + r ≡ 0 → ⊥
    no x v r R e = omega arith

both_zero : (p v r : ℕ) → 2 * p + sticky r ≡ 0 → p * v + r ≡ 0
both_zero zero v zero e = ap (λ (x : ℕ). x + 0) (zero-mul v)
both_zero zero v (suc r) e = absurd (no 0 e)
  where
    no : (p : ℕ) → 2 * p + 1 ≡ 0 → ⊥
    no p e = omega arith
both_zero (suc p) v r e = absurd (no p (sticky r) e)
  where
    no : (p b : ℕ) → 2 * suc p + b ≡ 0 → ⊥
    no p b e = omega arith

same_eqb : (a b : ℕ) → (a ≡ 0 → b ≡ 0) → (b ≡ 0 → a ≡ 0) → eqb a 0 ≡ eqb b 0
same_eqb a b f g = go (eqb a 0) (eqb b 0) (λ t. eq→eqb (f (eqb→eq a 0 t))) (λ t. eq→eqb (g (eqb→eq b 0 t)))
  where
    go : (x y : Bool) → (T x → T y) → (T y → T x) → x ≡ y
    go true true p q = refl
    go true false p q = absurd (p tt)
    go false true p q = absurd (q tt)
    go false false p q = refl

split : (a r v u : ℕ) → a * v + r ≡ a / u * (u * v) + (a % u * v + r)
split a r v u =
    ap (λ (z : ℕ). z * v + r) (sym (div-add-mod' a u))
    ∙ ap (λ (z : ℕ). z + r) (add-mul (a / u * u) (a % u) v ∙ ap (λ (z : ℕ). z + a % u * v) (mul_assoc (a / u) u v))
    ∙ add_assoc (a / u * (u * v)) (a % u * v) r

-- a and r of v, cut by u of v, is 2 * a and one more where r is not 0, cut by 2 * u
pub cut_sticky : (mode : Rounding) (s : Bool) (a r v u h : ℕ) → r < v → 0 < h → u ≡ 2 * h → cut_to mode s (a * v + r) (u * v) ≡ cut_to mode s (a * 2 + sticky r) (u * 2)
cut_sticky mode s a r v u h R H e =
    let U : 0 < u = pos u h H e in
    let q = a / u in
    let p = a % u in
    let p_lt : p < u = mod-lt a U in
    let x : a * v + r ≡ q * (u * v) + (p * v + r) = split a r v u in
    let y : a * 2 + sticky r ≡ q * (u * 2) + (p * 2 + sticky r) = split a (sticky r) 2 u in
    let x_lt : p * v + r < u * v = digits_lt p_lt R in
    let y_lt : p * 2 + sticky r < u * 2 = digits_lt p_lt (sticky-lt r) in
    let xq : (a * v + r) / (u * v) ≡ q = ap (λ (z : ℕ). z / (u * v)) x ∙ digits_div q x_lt in
    let xr : (a * v + r) % (u * v) ≡ p * v + r = ap (λ (z : ℕ). z % (u * v)) x ∙ digits_mod q x_lt in
    let yq : (a * 2 + sticky r) / (u * 2) ≡ q = ap (λ (z : ℕ). z / (u * 2)) y ∙ digits_div q y_lt in
    let yr : (a * 2 + sticky r) % (u * 2) ≡ p * 2 + sticky r = ap (λ (z : ℕ). z % (u * 2)) y ∙ digits_mod q y_lt in
    let o = compare (p * v + r) (h * v) in
    let xo : compare ((p * v + r) * 2) (u * v) ≡ o =
    ap (compare ((p * v + r) * 2)) (ap (λ (z : ℕ). z * v) (e ∙ mul_comm 2 h) ∙ mul_right_comm h 2 v) ∙ compare_scale (p * v + r) (h * v) 2 (zero-lt-suc 1) in
    let yo : compare ((p * 2 + sticky r) * 2) (u * 2) ≡ o =
    ap (λ (z : ℕ). compare ((p * 2 + sticky r) * 2) (z * 2)) e
    ∙ compare_scale (p * 2 + sticky r) (2 * h) 2 (zero-lt-suc 1)
    ∙ ap (λ (z : ℕ). compare (z + sticky r) (2 * h)) (mul_comm p 2)
    ∙ compare_is o (2 * p + sticky r) (2 * h) (by p h v r R o (cmp (p * v + r) (h * v))) in
    let z : eqb (p * v + r) 0 ≡ eqb (p * 2 + sticky r) 0 =
    same_eqb (p * v + r) (2 * p + sticky r) (zero_both p v r R) (both_zero p v r) ∙ ap (λ (z : ℕ). eqb (z + sticky r) 0) (mul_comm 2 p) in
    ap (λ (w : ℕ). move mode s w (compare ((a * v + r) % (u * v) * 2) (u * v)) (eqb ((a * v + r) % (u * v)) 0)) xq
    ∙ ap (λ (w : ℕ). move mode s q (compare (w * 2) (u * v)) (eqb w 0)) xr
    ∙ ap (λ (w : Ordering). move mode s q w (eqb (p * v + r) 0)) (xo ∙ sym yo)
    ∙ ap (λ (w : Bool). move mode s q (compare ((p * 2 + sticky r) * 2) (u * 2)) w) z
    ∙ sym (ap (λ (w : ℕ). move mode s w (compare ((a * 2 + sticky r) % (u * 2) * 2) (u * 2)) (eqb ((a * 2 + sticky r) % (u * 2)) 0)) yq
    ∙ ap (λ (w : ℕ). move mode s q (compare (w * 2) (u * 2)) (eqb w 0)) yr)
  where
    pos : (u h : ℕ) → 0 < h → u ≡ 2 * h → 0 < u
    pos u h H e = omega arith

-- and nothing is left of the one where nothing is left of the other
rest_sticky : (a r v u : ℕ) → r < v → 0 < u → eqb ((a * v + r) % (u * v)) 0 ≡ eqb ((a * 2 + sticky r) % (u * 2)) 0
rest_sticky a r v u R U =
    let p = a % u in
    ap (λ (z : ℕ). eqb z 0) (ap (λ (z : ℕ). z % (u * v)) (split a r v u) ∙ digits_mod (a / u) (digits_lt (mod-lt a U) R))
    ∙ same_eqb (p * v + r) (2 * p + sticky r) (zero_both p v r R) (both_zero p v r)
    ∙ ap (λ (z : ℕ). eqb (z + sticky r) 0) (mul_comm 2 p)
    ∙ sym (ap (λ (z : ℕ). eqb z 0) (ap (λ (z : ℕ). z % (u * 2)) (split a (sticky r) 2 u) ∙ digits_mod (a / u) (digits_lt (mod-lt a U) (sticky-lt r))))

-- ---- at a format: where the whole part alone has more digits than the format keeps, what is left below it may be folded into one digit

module _ (x l v D k w E : ℕ) (e : D + k ≡ E + l + w) where
  powers : 2 ^ E * 2 ^ l * 2 ^ w ≡ 2 ^ D * 2 ^ k
  powers = ap (λ (z : ℕ). z * 2 ^ w) (sym (pow-add 2 E l)) ∙ sym (pow-add 2 (E + l) w) ∙ ap (λ (z : ℕ). 2 ^ z) (sym e) ∙ pow-add 2 D k

  scale : x * 2 ^ E * 2 ^ l * (2 ^ w * v) ≡ x * (v * 2 ^ D * 2 ^ k)
  scale = left x (2 ^ E) (2 ^ l) (2 ^ w) v ∙ ap (λ (z : ℕ). x * v * z) powers ∙ right x v (2 ^ D) (2 ^ k)
    where
      left : (x e l w v : ℕ) → x * e * l * (w * v) ≡ x * v * (e * l * w)
      left x e l w v = omega arith

      right : (x v d k : ℕ) → x * v * (d * k) ≡ x * (v * d * k)
      right x v d k = omega arith

module _ (mode : Rounding) (f : Format) (s : Bool) (a v r E D : ℕ) (R : r < v) (A : 2 ^ prec f ≤ a) where
  abbrev n : ℕ
  n = (a * v + r) * 2 ^ E * 2 ^ low f

  abbrev den : ℕ
  den = v * 2 ^ D

  abbrev m : ℕ
  m = (a * 2 + sticky r) * 2 ^ E * 2 ^ low f

  abbrev k : ℕ
  k = dropped f (n / den)

  some_v : 0 < v
  some_v = omega arith

  DEN : 0 < den
  DEN = mul-pos some_v (pow_pos D)

  kept : n / den / 2 ^ k < 2 ^ prec f
  kept = kept-lt (prec f) (n / den)

  deep : E + low f < D + k
  deep = go (dec_lt (E + low f) (D + k))
    where
      go : Dec (E + low f < D + k) → E + low f < D + k
      go (yes l) = l
      go (no h) =
          let g : D + k ≤ E + low f = le_of_suc-le-suc (lt_of_not-le h) in
          let p : 2 ^ D * 2 ^ k ≤ 2 ^ E * 2 ^ low f = le_trans (le_of_eq (sym (pow-add 2 D k))) (le_trans (pow_mono g) (le_of_eq (pow-add 2 E (low f)))) in
          let q : a * (v * 2 ^ D * 2 ^ k) ≤ n = le_trans (le_of_eq (first a v (2 ^ D) (2 ^ k))) (le_trans (mul-le-mul (more (a * v)) p) (le_of_eq (last (a * v + r) (2 ^ E) (2 ^ low f)))) in
          absurd (not-le_of_lt kept (le_trans A (le_trans ((le-div_iff_mul-le (mul-pos DEN (pow_pos k))).1 q) (le_of_eq (sym (div-div-eq-div-mul n den (2 ^ k)))))))
        where
          first : (a v d k : ℕ) → a * (v * d * k) ≡ a * v * (d * k)
          first a v d k = omega arith

          more : (x : ℕ) → x ≤ x + r
          more x = omega arith

          last : (x e l : ℕ) → x * (e * l) ≡ x * e * l
          last x e l = omega arith

  abbrev w : ℕ
  w = D + k - (E + low f) - 1

  exps : D + k ≡ E + low f + suc w
  exps = back (D + k) (E + low f) deep
    where
      back : (x y : ℕ) → y < x → x ≡ y + suc (x - y - 1)
      back x y h = omega arith

  whole : (x y : ℕ) → y < x → (a * x + y) / (2 ^ suc w * x) ≡ a / 2 ^ suc w
  whole x y h = ap (λ (z : ℕ). (a * x + y) / z) (mul_comm (2 ^ suc w) x) ∙ sym (div-div-eq-div-mul (a * x + y) x (2 ^ suc w)) ∙ ap (λ (z : ℕ). z / 2 ^ suc w) (digits_div a h)

  -- both have the same whole part above the digits that are dropped
  alike : (x y : ℕ) → 0 < x → y < x → (a * x + y) * 2 ^ E * 2 ^ low f / (x * 2 ^ D) / 2 ^ k ≡ a / 2 ^ suc w
  alike x y P h =
      let N = (a * x + y) * 2 ^ E * 2 ^ low f in
      div-div-eq-div-mul N (x * 2 ^ D) (2 ^ k)
      ∙ div_same N (x * 2 ^ D * 2 ^ k) (a * x + y) (2 ^ suc w * x) (mul-pos (mul-pos P (pow_pos D)) (pow_pos k)) (mul-pos (pow_pos (suc w)) P) (scale (a * x + y) (low f) x D k (suc w) E exps)
      ∙ whole x y h

  same_kept : m / (2 * 2 ^ D) / 2 ^ k ≡ n / den / 2 ^ k
  same_kept = alike 2 (sticky r) (zero-lt-suc 1) (sticky-lt r) ∙ sym (alike v r some_v R)

  same_dropped : dropped f (m / (2 * 2 ^ D)) ≡ k
  same_dropped = drop_is f (m / (2 * 2 ^ D)) k (subst (λ (z : ℕ). z < 2 ^ prec f) (sym same_kept) kept) (subst (λ (z : ℕ). Lead f k z) (sym same_kept) (Lead-digit f (n / den)))

  same_cut : cut_to mode s n (den * 2 ^ k) ≡ cut_to mode s m (2 * 2 ^ D * 2 ^ k)
  same_cut =
      let u = 2 ^ suc w in
      cut_same mode s n (den * 2 ^ k) (a * v + r) (u * v) (mul-pos DEN (pow_pos k)) (mul-pos (pow_pos (suc w)) some_v) (scale (a * v + r) (low f) v D k (suc w) E exps)
      ∙ cut_sticky mode s a r v u (2 ^ w) R (pow_pos w) (pow-succ' 2 w)
      ∙ sym (cut_same mode s m (2 * 2 ^ D * 2 ^ k) (a * 2 + sticky r) (u * 2) (mul-pos (mul-pos (zero-lt-suc 1) (pow_pos D)) (pow_pos k)) (mul-pos (pow_pos (suc w)) (zero-lt-suc 1)) (scale (a * 2 + sticky r) (low f) 2 D k (suc w) E exps))

  pub rounded-sticky : rounded mode f s ((a * v + r) * 2 ^ E) (v * 2 ^ D) ≡ rounded mode f s ((a * 2 + sticky r) * 2 ^ E) (2 * 2 ^ D)
  unfolding rounded
  rounded-sticky =
      ap (λ (z : ℕ). settled mode f s z k) same_cut
      ∙ sym (ap (λ (z : ℕ). settled mode f s (cut_to mode s m (2 * 2 ^ D * 2 ^ z)) z) same_dropped)

  pub exact-sticky : exact f ((a * v + r) * 2 ^ E) (v * 2 ^ D) ≡ exact f ((a * 2 + sticky r) * 2 ^ E) (2 * 2 ^ D)
  unfolding exact
  exact-sticky =
      let u = 2 ^ suc w in
      rest_same n (den * 2 ^ k) (a * v + r) (u * v) (mul-pos DEN (pow_pos k)) (mul-pos (pow_pos (suc w)) some_v) (scale (a * v + r) (low f) v D k (suc w) E exps)
      ∙ rest_sticky a r v u R (pow_pos (suc w))
      ∙ sym (rest_same m (2 * 2 ^ D * 2 ^ k) (a * 2 + sticky r) (u * 2) (mul-pos (mul-pos (zero-lt-suc 1) (pow_pos D)) (pow_pos k)) (mul-pos (pow_pos (suc w)) (zero-lt-suc 1)) (scale (a * 2 + sticky r) (low f) 2 D k (suc w) E exps))
      ∙ sym (ap (λ (z : ℕ). eqb (m % (2 * 2 ^ D * 2 ^ z)) 0) same_dropped)

  pub over-sticky : over mode f s ((a * v + r) * 2 ^ E) (v * 2 ^ D) ≡ over mode f s ((a * 2 + sticky r) * 2 ^ E) (2 * 2 ^ D)
  unfolding over
  over-sticky =
      ap (λ (z : ℕ). leb (limit f) (z * 2 ^ k)) same_cut
      ∙ sym (ap (λ (z : ℕ). leb (limit f) (cut_to mode s m (2 * 2 ^ D * 2 ^ z) * 2 ^ z)) same_dropped)

  -- both are below the least normal value, or none is
  low_alike : (x y : ℕ) → Lead f k (x / 2 ^ k) → y / 2 ^ k ≡ x / 2 ^ k → x < hid f → y < hid f
  low_alike x y (inl z) e h = subst (λ (i : ℕ). i < hid f) (sym (sym (div-one y) ∙ ap (λ (j : ℕ). y / 2 ^ j) (sym z) ∙ e ∙ ap (λ (j : ℕ). x / 2 ^ j) z ∙ div-one x)) h
  low_alike x y (inr g) e h = absurd (not-le_of_lt h (le_trans g (div-le_self x (2 ^ k))))

  pub tiny-sticky : tiny f ((a * v + r) * 2 ^ E) (v * 2 ^ D) ≡ tiny f ((a * 2 + sticky r) * 2 ^ E) (2 * 2 ^ D)
  unfolding tiny
  tiny-sticky =
      ap (λ (z : Bool). z && ltb n (hid f * den)) (lt-ltb 0 ((a * v + r) * 2 ^ E) (positive v r some_v) ∙ sym (lt-ltb 0 ((a * 2 + sticky r) * 2 ^ E) (positive 2 (sticky r) (zero-lt-suc 1))))
      ∙ ap (λ (z : Bool). ltb 0 ((a * 2 + sticky r) * 2 ^ E) && z) (go (dec_lt n (hid f * den)) (dec_lt m (hid f * (2 * 2 ^ D))))
    where
      more : (x y : ℕ) → 0 < x → 0 < x + y
      more x y h = omega arith

      positive : (x y : ℕ) → 0 < x → 0 < (a * x + y) * 2 ^ E
      positive x y h = mul-pos (more (a * x) y (mul-pos (le_trans (pow_pos (prec f)) A) h)) (pow_pos E)

      two : 0 < 2 * 2 ^ D
      two = mul-pos (zero-lt-suc 1) (pow_pos D)

      there : n < hid f * den → m < hid f * (2 * 2 ^ D)
      there h = (div-lt_iff_lt-mul two).0 (low_alike (n / den) (m / (2 * 2 ^ D)) (Lead-digit f (n / den)) same_kept ((div-lt_iff_lt-mul DEN).1 h))

      back : m < hid f * (2 * 2 ^ D) → n < hid f * den
      back h =
          (div-lt_iff_lt-mul DEN).0
          (low_alike (m / (2 * 2 ^ D)) (n / den) (subst (λ (j : ℕ). Lead f j (m / (2 * 2 ^ D) / 2 ^ j)) same_dropped (Lead-digit f (m / (2 * 2 ^ D)))) (sym same_kept) ((div-lt_iff_lt-mul two).1 h))

      not_less : (x y : ℕ) → (x < y → ⊥) → y ≤ x
      not_less x y h = omega arith

      go : Dec (n < hid f * den) → Dec (m < hid f * (2 * 2 ^ D)) → ltb n (hid f * den) ≡ ltb m (hid f * (2 * 2 ^ D))
      go (yes h) d = lt-ltb n (hid f * den) h ∙ sym (lt-ltb m (hid f * (2 * 2 ^ D)) (there h))
      go (no i) (yes h) = absurd (i (back h))
      go (no i) (no j) = le-ltb n (hid f * den) (not_less n (hid f * den) i) ∙ sym (le-ltb m (hid f * (2 * 2 ^ D)) (not_less m (hid f * (2 * 2 ^ D)) j))

-- for the last stage, where the format keeps no more digits than there are
module _ (mode : Rounding) (f : Format) (s : Bool) (n x v m e : ℕ) (h : prec f ≤ n) (p : IsFolded n x v m) where
  abbrev top : ℕ
  top = p.whole

  abbrev rest : ℕ
  rest = p.rest

  some_divisor : 0 < v
  some_divisor = some rest v p.small
    where
      some : (r v : ℕ) → r < v → 0 < v
      some r v h = omega arith

  enough : 2 ^ n ≤ top → 2 ^ prec f ≤ top
  enough l = le_trans (pow_mono h) l

  two : 0 < 2 * 2 ^ 2209
  two = mul-pos (zero-lt-suc 1) (pow_pos 2209)

  -- with the sticky digit, and where nothing is left
  same : (top * 2 + sticky rest) * 2 ^ suc e * 2 ^ 2209 ≡ m * 2 ^ e * (2 * 2 ^ 2209)
  same = ap (λ (z : ℕ). z * 2 ^ suc e * 2 ^ 2209) (sym p.told) ∙ ap (λ (z : ℕ). m * z * 2 ^ 2209) (pow-succ' 2 e) ∙ halved m (2 ^ e) (2 ^ 2209)
    where
      halved : (m e d : ℕ) → m * (2 * e) * d ≡ m * e * (2 * d)
      halved m e d = omega arith

  same_exact : rest ≡ 0 → (top * v + rest) * 2 ^ suc e * 2 ^ 2209 ≡ m * 2 ^ e * (v * 2 ^ 2209)
  same_exact z =
      ap (λ (t : ℕ). (top * v + t) * 2 ^ suc e * 2 ^ 2209) z
      ∙ ap (λ (t : ℕ). (top * v + 0) * t * 2 ^ 2209) (pow-succ' 2 e)
      ∙ twice top v (2 ^ e) (2 ^ 2209)
      ∙ ap (λ (t : ℕ). (top * 2 + t) * 2 ^ e * (v * 2 ^ 2209)) (sym (ap sticky z))
      ∙ ap (λ (t : ℕ). t * 2 ^ e * (v * 2 ^ 2209)) (sym p.told)
    where
      twice : (a v e d : ℕ) → (a * v + 0) * (2 * e) * d ≡ (a * 2 + 0) * e * (v * d)
      twice a v e d = omega arith

  -- what rounding tells of the digits, it tells of what they stand for
  pub folded_settles : (bits : ℕ) (i o t : Bool) → IsSettled mode f s (m * 2 ^ e) (2 ^ 2209) bits i o t → IsSettled mode f s (x * 2 ^ suc e) (v * 2 ^ 2209) bits i o t
  folded_settles bits i o t q = subst (λ (z : ℕ). IsSettled mode f s (z * 2 ^ suc e) (v * 2 ^ 2209) bits i o t) p.sum (go p.enough)
    where
      go : (2 ^ n ≤ top) ⊎ (rest ≡ 0) → IsSettled mode f s ((top * v + rest) * 2 ^ suc e) (v * 2 ^ 2209) bits i o t
      go (inl l) =
          let w = settled_same mode f s (m * 2 ^ e) (2 ^ 2209) ((top * 2 + sticky rest) * 2 ^ suc e) (2 * 2 ^ 2209) bits i o t (pow_pos 2209) two (sym same) q in record {
            bits_are = w.bits_are ∙ ap (to_bits f) (sym (rounded-sticky mode f s top v rest (suc e) 2209 p.small (enough l)));
            exact_is = w.exact_is ∙ sym (exact-sticky mode f s top v rest (suc e) 2209 p.small (enough l));
            over_is = w.over_is ∙ sym (over-sticky mode f s top v rest (suc e) 2209 p.small (enough l));
            tiny_is = w.tiny_is ∙ sym (tiny-sticky mode f s top v rest (suc e) 2209 p.small (enough l));
          }
      go (inr z) = settled_same mode f s (m * 2 ^ e) (2 ^ 2209) ((top * v + rest) * 2 ^ suc e) (v * 2 ^ 2209) bits i o t (pow_pos 2209) (mul-pos some_divisor (pow_pos 2209)) (sym (same_exact z)) q

-- a double keeps 53 digits, a single fewer
pub most_digits : (f : Format) → prec f ≤ 53
most_digits binary32 = lit≤ tt
most_digits binary64 = le_of_eq refl

-- the digits are 0 where all is
pub folded_zero : (n x v m : ℕ) → IsFolded n x v m → x ≡ 0 → m ≡ 0
folded_zero n x v m p z = p.told ∙ ap (λ (t : ℕ). t + sticky p.rest) (mul_comm p.whole 2) ∙ zero_both p.whole v p.rest p.small (p.sum ∙ z)

pub zero_folded : (n x v m : ℕ) → IsFolded n x v m → m ≡ 0 → x ≡ 0
zero_folded n x v m p z = sym p.sum ∙ both_zero p.whole v p.rest (ap (λ (t : ℕ). t + sticky p.rest) (mul_comm 2 p.whole) ∙ sym p.told ∙ z)
