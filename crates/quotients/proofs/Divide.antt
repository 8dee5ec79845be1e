-- A quotient's digits. Assumes nothing.
use mathlib.Core.Path.{◌≡◌, refl, ap, ◌∙◌}
use mathlib.Core.Logic.{inl}
use Prim.Native.Nat.{ℕ, zero, suc, ◌+◌, ◌*◌, ◌/◌, ◌%◌, ◌^◌, ◌≤◌, ◌<◌}
use native.Mathlib.Nat.{le_trans, le_of_eq, lt_of_lt_of_le, mul-le-mul_right, mul_comm, mod-lt, div-add-mod', div-lt_iff_lt-mul, le-div_iff_mul-le}
use native.Mathlib.Decide.{dec_lt}
use native.Mathlib.Omega.{arith}
use lib.Pow.{pow_pos}
use Rattle.digits.specs.Digits.{sticky, IsFolded}
use Rattle.quotients.specs.Divided.{IsDivided}
use Rattle.digits.proofs.Raising.{sticky-le, sticky_some}

pos : (r d : ℕ) → r < d → 0 < d
pos r d h = omega arith

pub step_lt : (r d k : ℕ) → 0 < k → r < d → r * k / d < k
step_lt r d k K h = (div-lt_iff_lt-mul (pos r d h)).1 (lt_of_lt_of_le (strict (r * k) (d * k) k K (le_trans (le_of_eq (next r k)) (mul-le-mul_right k h))) (le_of_eq (mul_comm d k)))
  where
    next : (r k : ℕ) → r * k + k ≡ suc r * k
    next r k = omega arith

    strict : (x y k : ℕ) → 0 < k → x + k ≤ y → x < y
    strict x y k K h = omega arith

pub more_is : (q r d : ℕ) → r < d → IsDivided ((q * d + r) * 2048) d (q * 2048 + r * 2048 / d) (r * 2048 % d)
more_is q r d h = record { sum = sums q (r * 2048 / d) d (r * 2048 % d) r (div-add-mod' (r * 2048) d); small = mod-lt (r * 2048) (pos r d h) }
  where
    sums : (q p d t r : ℕ) → p * d + t ≡ r * 2048 → (q * 2048 + p) * d + t ≡ (q * d + r) * 2048
    sums q p d t r e = omega arith

-- ---- enough digits, with a sticky one below them

folded : (n x d q r t : ℕ) → IsDivided x d q r → t ≡ sticky r → 2 ^ n ≤ q → q < 2 ^ 60 → IsFolded n x d (q * 2 + t) × (0 < q * 2 + t)
folded n x d q r t p e l h = (
  record {
    whole = q;
    rest = r;
    small = p.small;
    sum = p.sum;
    told = ap (λ (z : ℕ). q * 2 + z) e;
    enough = inl l;
    below = below q t h (le_trans (le_of_eq e) (sticky-le r));
  },
  some q t (lt_of_lt_of_le (pow_pos n) l),
)
  where
    below : (q t : ℕ) → q < 2 ^ 60 → t ≤ 1 → q * 2 + t < 2 ^ 62
    below q t h k = omega arith

    some : (q t : ℕ) → 0 < q → 0 < q * 2 + t
    some q t h = omega arith

pub double_folded : (a b q r t : ℕ) → 2 ^ 52 ≤ a → b < 2 ^ 53 → IsDivided (a * 2 ^ 55) b q r → q < 2 ^ 56 → t ≡ sticky r → IsFolded 53 (a * 2 ^ 55) b (q * 2 + t) × (0 < q * 2 + t)
double_folded a b q r t A B p Q e = folded 53 (a * 2 ^ 55) b q r t p e (half (go (dec_lt q (2 ^ 54)))) (few Q)
  where
    clash : (a b r qb x : ℕ) → 2 ^ 52 ≤ a → b < 2 ^ 53 → r < b → qb + r ≡ a * 2 ^ 55 → qb + b ≤ x → x ≤ 2 ^ 54 * b → ⊥
    clash a b r qb x A B R e h k = omega arith

    next : (q b : ℕ) → q * b + b ≡ suc q * b
    next q b = omega arith

    not_less : (q n : ℕ) → (q < n → ⊥) → n ≤ q
    not_less q n h = omega arith

    go : Dec (q < 2 ^ 54) → 2 ^ 54 ≤ q
    go (yes l) = absurd (clash a b r (q * b) (suc q * b) A B p.small p.sum (le_of_eq (next q b)) (mul-le-mul_right b l))
    go (no n) = not_less q (2 ^ 54) n

    half : 2 ^ 54 ≤ q → 2 ^ 53 ≤ q
    half h = omega arith

    few : q < 2 ^ 56 → q < 2 ^ 60
    few h = omega arith

-- a single's digits: one division
pub short_bounds : (a b : ℕ) → 2 ^ 52 ≤ a → a < 2 ^ 53 → 2 ^ 52 ≤ b → b < 2 ^ 53
    → (0 < b / 0x2000_0000) × (2 ^ 24 ≤ a * 512 / (b / 0x2000_0000)) × (a * 512 / (b / 0x2000_0000) < 2 ^ 60)
short_bounds a b A A' B B' = (some b B, (le-div_iff_mul-le (some b B)).1 (low a b A B'), (div-lt_iff_lt-mul (some b B)).1 (high a b A' B))
  where
    some : (b : ℕ) → 2 ^ 52 ≤ b → 0 < b / 0x2000_0000
    some b h = omega arith

    low : (a b : ℕ) → 2 ^ 52 ≤ a → b < 2 ^ 53 → 2 ^ 24 * (b / 0x2000_0000) ≤ a * 512
    low a b h k = omega arith

    high : (a b : ℕ) → a < 2 ^ 53 → 2 ^ 52 ≤ b → a * 512 < 2 ^ 60 * (b / 0x2000_0000)
    high a b h k = omega arith

-- the last 29 digits of the divisor are 0, so that the rest has as many below it
pub single_folded : (a b t : ℕ) → 2 ^ 52 ≤ a → a < 2 ^ 53 → 2 ^ 52 ≤ b → b < 2 ^ 53 → b % 2 ^ 29 ≡ 0 → t ≡ sticky (a * 512 % (b / 0x2000_0000))
    → IsFolded 24 (a * 2 ^ 38) b (a * 512 / (b / 0x2000_0000) * 2 + t) × (0 < a * 512 / (b / 0x2000_0000) * 2 + t)
single_folded a b t A A' B B' z e =
    let d = b / 0x2000_0000 in
    let h = short_bounds a b A A' B B' in
    let r = a * 512 % d in
    folded 24 (a * 2 ^ 38) b (a * 512 / d) (r * 2 ^ 29) t (record { sum = moved a b (a * 512 / d) d r (whole b z) (div-add-mod' (a * 512) d); small = up b r d (whole b z) (mod-lt (a * 512) h.0) }) (e ∙ told r) h.1 h.2
  where
    whole : (b : ℕ) → b % 2 ^ 29 ≡ 0 → b ≡ b / 0x2000_0000 * 2 ^ 29
    whole b h = omega arith

    moved : (a b q d r : ℕ) → b ≡ d * 2 ^ 29 → q * d + r ≡ a * 512 → q * b + r * 2 ^ 29 ≡ a * 2 ^ 38
    moved a b q d r h k = ap (λ (x : ℕ). q * x + r * 2 ^ 29) h ∙ common q d r ∙ ap (λ (x : ℕ). x * 2 ^ 29) k ∙ more a
      where
        common : (q d r : ℕ) → q * (d * 2 ^ 29) + r * 2 ^ 29 ≡ (q * d + r) * 2 ^ 29
        common q d r = omega arith

        more : (a : ℕ) → a * 512 * 2 ^ 29 ≡ a * 2 ^ 38
        more a = omega arith

    up : (b r d : ℕ) → b ≡ d * 2 ^ 29 → r < d → r * 2 ^ 29 < b
    up b r d h l = omega arith

    told : (r : ℕ) → sticky r ≡ sticky (r * 2 ^ 29)
    told zero = refl
    told (suc r) = sticky_some (suc r * 2 ^ 29) (some r)
      where
        some : (r : ℕ) → suc r * 2 ^ 29 ≡ 0 → ⊥
        some r h = omega arith
