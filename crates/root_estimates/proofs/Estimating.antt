-- How large the numbers of a root's estimate are: no product of them is cut and no difference falls below 0. Assumes nothing.
use Rattle.std.proofs.Common.{ℕ, ◌-◌, ◌*◌, ◌/◌, ◌%◌, ◌^◌, ◌<◌, ◌≤◌, le_refl, le_of_lt, mul-le-mul, arith}
use Rattle.roots.proofs.RootNear.{product_lt}

-- ---- the parabola: c is a seed, t how far in its part the number lies
module _ (c t : ℕ) (T : t < 0x1_0000) where
  abbrev steep : ℕ
  steep = c % 0x1_0000 * t

  abbrev bend : ℕ
  bend = c / 0x1_0000 % 0x1_0000 * (t * t / 0x1_0000)

  abbrev line : ℕ
  line = (c / 0x1000_0000 - (steep - bend)) / 0x10_0000

  pub steep-lt : steep < 2 ^ 32
  steep-lt = product_lt (c % 0x1_0000) t 0x1_0000 0x1_0000 (omega arith) T

  pub square_lt : t * t < 2 ^ 32
  square_lt = product_lt t t 0x1_0000 0x1_0000 T T

  -- it falls, since it bends less than it is steep
  pub bend-le : c / 0x1_0000 % 0x1_0000 ≤ c % 0x1_0000 → bend ≤ steep
  bend-le h = mul-le-mul h (part (t * t) (mul-le-mul (le_refl t) (le_of_lt T)))
    where
      part : (s : ℕ) → s ≤ t * 0x1_0000 → s / 0x1_0000 ≤ t
      part s h = omega arith

  pub line-lt : c < 2 ^ 64 → line < 2 ^ 16
  line-lt h = omega arith

  -- the square of what it gives, and that times a number of 32 digits
  pub line_square_lt : c < 2 ^ 64 → line * line < 2 ^ 32
  line_square_lt h = product_lt line line (2 ^ 16) (2 ^ 16) (line-lt h) (line-lt h)

  pub line_cube_lt : (top : ℕ) → c < 2 ^ 64 → top < 2 ^ 32 → line * line * top < 2 ^ 64
  line_cube_lt top h l = product_lt (line * line) top (2 ^ 32) (2 ^ 32) (line_square_lt h) l

  pub next_lt : (s : ℕ) → c < 2 ^ 64 → s < 2 ^ 64 → line * (s / 0x1_0000_0000) < 2 ^ 48
  next_lt s h l = product_lt line (s / 0x1_0000_0000) (2 ^ 16) (2 ^ 32) (line-lt h) (omega arith)

-- ---- the root's digits: x is the radicand, n the inverse of its root
module _ (x n : ℕ) (X : x < 2 ^ 54) (N : n < 2 ^ 32) where
  pub whole_lt : x / 0x40_0000 * n < 2 ^ 64
  whole_lt = product_lt (x / 0x40_0000) n (2 ^ 32) (2 ^ 32) (omega arith) N

  pub single_lt : x / 0x40_0000 * n / 0x40_0000_0000 < 2 ^ 26
  single_lt = omega (arith, whole_lt)

  pub upper_lt : x / 0x40_0000 * n / 0x8_0000_0000 < 2 ^ 29
  upper_lt = omega (arith, whole_lt)

-- the lower digits, of what is left
module _ (a n : ℕ) (N : n < 2 ^ 32) where
  abbrev lower : ℕ
  lower = a % 0x1_0000_0000 * n / 0x1_0000_0000

  pub left_lt : a % 0x1_0000_0000 * n < 2 ^ 64
  left_lt = product_lt (a % 0x1_0000_0000) n (2 ^ 32) (2 ^ 32) (omega arith) N

  pub lower-lt : lower < 2 ^ 32
  lower-lt = omega (arith, left_lt)

  pub lower_square_lt : lower * lower < 2 ^ 64
  lower_square_lt = product_lt lower lower (2 ^ 32) (2 ^ 32) lower-lt lower-lt

  pub lower_small : a < 2 ^ 31 → lower < 2 ^ 31
  lower_small h = omega (arith, product_lt (a % 0x1_0000_0000) n (2 ^ 31) (2 ^ 32) (omega arith) N)

  pub cross_lt : (h : ℕ) → h < 2 ^ 29 → 2 * h * lower < 2 ^ 62
  cross_lt h l = product_lt (2 * h) lower (2 ^ 30) (2 ^ 32) (omega arith) lower-lt
