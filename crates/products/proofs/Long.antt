-- A product of two numbers of 53 digits by their halves. Assumes nothing.
use mathlib.Core.Path.{◌≡◌, refl, sym, ap, ◌∙◌}
use mathlib.Core.Logic.{inl}
use Prim.Native.Nat.{ℕ, zero, suc, ◌+◌, ◌-◌, ◌*◌, ◌/◌, ◌%◌, ◌^◌, ◌≤◌, ◌<◌}
use native.Mathlib.Nat.{le_trans, le_of_eq, mul-le-mul, mul-pos, mod-lt, div-add-mod'}
use native.Mathlib.Omega.{arith}
use lib.Dec.{lit<}
use Rattle.digits.specs.Digits.{sticky, IsFolded}
use Rattle.products.specs.Halves.{Halves}
use Rattle.digits.proofs.Raising.{sticky-le}

-- the four products of halves, and what they make
pub record Parts (a b : ℕ) : Type 0 where
  pub hh : a / 0x800_0000 * (b / 0x800_0000) ≤ 2 ^ 52
  pub hl : a / 0x800_0000 * (b % 0x800_0000) ≤ 2 ^ 53
  pub lh : a % 0x800_0000 * (b / 0x800_0000) ≤ 2 ^ 53
  pub ll : a % 0x800_0000 * (b % 0x800_0000) ≤ 2 ^ 54
  pub total : a * b ≤ (2 ^ 53 - 1) * (2 ^ 53 - 1)
  pub whole : a * b ≡ a / 0x800_0000 * (b / 0x800_0000) * 2 ^ 54 + (a / 0x800_0000 * (b % 0x800_0000) + a % 0x800_0000 * (b / 0x800_0000)) * 0x800_0000 + a % 0x800_0000 * (b % 0x800_0000)

product : (h l k m : ℕ) → (h * 0x800_0000 + l) * (k * 0x800_0000 + m) ≡ h * k * 2 ^ 54 + (h * m + l * k) * 0x800_0000 + l * m
product h l k m = omega arith

high : (a : ℕ) → a < 2 ^ 53 → a / 0x800_0000 ≤ 2 ^ 26
high a h = omega arith

low : (a : ℕ) → a % 0x800_0000 ≤ 2 ^ 27
low a = omega arith

pred : (a : ℕ) → a < 2 ^ 53 → a ≤ 2 ^ 53 - 1
pred a h = omega arith

pub parts : (a b : ℕ) → a < 2 ^ 53 → b < 2 ^ 53 → Parts a b
parts a b A B = record {
  hh = mul-le-mul (high a A) (high b B);
  hl = mul-le-mul (high a A) (low b);
  lh = mul-le-mul (low a) (high b B);
  ll = mul-le-mul (low a) (low b);
  total = mul-le-mul (pred a A) (pred b B);
  whole = sym (ap (λ (x : ℕ). x * b) (div-add-mod' a 0x800_0000)) ∙ sym (ap (λ (x : ℕ). (a / 0x800_0000 * 0x800_0000 + a % 0x800_0000) * x) (div-add-mod' b 0x800_0000)) ∙ product (a / 0x800_0000) (a % 0x800_0000) (b / 0x800_0000) (b % 0x800_0000);
}

pub product_folded : (a b h l t : ℕ) → 2 ^ 52 ≤ a → 2 ^ 52 ≤ b → Halves (a * b) h l → t ≡ sticky l → IsFolded 53 (a * b) (2 ^ 45) (h * 2 + t) × (0 < h * 2 + t)
product_folded a b h l t A B p e = (folded, some h t large)
  where
    least : (x h l : ℕ) → 2 ^ 52 * 2 ^ 52 ≤ x → h * 2 ^ 45 + l ≡ x → l < 2 ^ 45 → 2 ^ 53 ≤ h
    least x h l X e L = omega arith

    below : (h t : ℕ) → h < 2 ^ 61 → t ≤ 1 → h * 2 + t < 2 ^ 62
    below h t H k = omega arith

    some : (h t : ℕ) → 2 ^ 53 ≤ h → 0 < h * 2 + t
    some h t H = omega arith

    large : 2 ^ 53 ≤ h
    large = least (a * b) h l (mul-le-mul A B) p.sum p.small

    folded : IsFolded 53 (a * b) (2 ^ 45) (h * 2 + t)
    folded = record {
      whole = h;
      rest = l;
      small = p.small;
      sum = p.sum;
      told = ap (λ (z : ℕ). h * 2 + z) e;
      enough = inl large;
      below = below h t p.fits (le_trans (le_of_eq e) (sticky-le l));
    }

-- the last 29 digits of both are 0: 48 digits at most are left of the product, the last of them its sticky one
pub short_folded : (a b : ℕ) → 2 ^ 52 ≤ a → a < 2 ^ 53 → 2 ^ 52 ≤ b → b < 2 ^ 53 → a % 2 ^ 29 ≡ 0 → b % 2 ^ 29 ≡ 0
    → IsFolded 24 (a * b) (2 ^ 59) (a / 0x2000_0000 * (b / 0x2000_0000)) × (0 < a / 0x2000_0000 * (b / 0x2000_0000))
short_folded a b A A' B B' u v = (folded, mul-pos (some a A) (some b B))
  where
    some : (a : ℕ) → 2 ^ 52 ≤ a → 0 < a / 0x2000_0000
    some a h = omega arith

    few : (a : ℕ) → 2 ^ 52 ≤ a → 2 ^ 23 ≤ a / 0x2000_0000
    few a h = omega arith

    most : (a : ℕ) → a < 2 ^ 53 → a / 0x2000_0000 ≤ 2 ^ 24
    most a h = omega arith

    whole : (a : ℕ) → a % 2 ^ 29 ≡ 0 → a / 0x2000_0000 * 2 ^ 29 ≡ a
    whole a h = omega arith

    m : ℕ
    m = a / 0x2000_0000 * (b / 0x2000_0000)

    small : (m : ℕ) → m % 2 * 2 ^ 58 < 2 ^ 59
    small m = omega arith

    halved : (m : ℕ) → m / 2 * 2 ^ 59 + m % 2 * 2 ^ 58 ≡ m * 2 ^ 58
    halved m = omega arith

    moved : (c d : ℕ) → c * d * 2 ^ 58 ≡ c * 2 ^ 29 * (d * 2 ^ 29)
    moved c d = omega arith

    last : (m : ℕ) → m % 2 ≡ sticky (m % 2 * 2 ^ 58)
    last m = go (m % 2) (mod-lt m (lit< tt))
      where
        go : (r : ℕ) → r < 2 → r ≡ sticky (r * 2 ^ 58)
        go zero h = refl
        go (suc zero) h = refl
        go (suc (suc r)) h = absurd (omega arith)

    enough : (m : ℕ) → 2 ^ 23 * 2 ^ 23 ≤ m → 2 ^ 24 ≤ m / 2
    enough m h = omega arith

    below : (m : ℕ) → m ≤ 2 ^ 24 * 2 ^ 24 → m < 2 ^ 62
    below m h = omega arith

    told : (m : ℕ) → m ≡ m / 2 * 2 + m % 2
    told m = omega arith

    folded : IsFolded 24 (a * b) (2 ^ 59) m
    folded = record {
      whole = m / 2;
      rest = m % 2 * 2 ^ 58;
      small = small m;
      sum = halved m ∙ moved (a / 0x2000_0000) (b / 0x2000_0000) ∙ ap (λ (z : ℕ). z * (b / 0x2000_0000 * 2 ^ 29)) (whole a u) ∙ ap (λ (z : ℕ). a * z) (whole b v);
      told = told m ∙ ap (λ (z : ℕ). m / 2 * 2 + z) (last m);
      enough = inl (enough m (mul-le-mul (few a A) (few b B)));
      below = below m (mul-le-mul (most a A') (most b B'));
    }
