-- Rounding by a mode: of a fraction to a whole number, and of a fraction to a format's value. At `Nearest` it is `lib.Ieee.round`.
-- Assumes nothing.
use Prim.Native.Nat.{ℕ, suc, ◌+◌, ◌-◌, ◌*◌, ◌/◌, ◌%◌, ◌^◌, ◌≤◌, ◌<◌, compare, Ordering}
use Rattle.std.specs.Prelude.{◌≡◌, Bool, true, false, not, ◌&&◌, cond, ◌||◌, leb, ltb, eqb}
use lib.Ieee.{Float, inf, Format, prec, emax, low, hid, ones, size, odd, nearest}
use Rattle.rounding.specs.declared.rounding.Rounding.{Rounding}
use Rattle.rounding.specs.declared.rounding.Rounding.TheVariants.{Nearest, Up, Down, Zero}

-- FPSCR 23:22
unfoldable pub rounding_of : ℕ → Rounding
rounding_of control =
    let mode = control / 2 ^ 22 % 4 in
    cond (eqb mode 0) Nearest (cond (eqb mode 1) Up (cond (eqb mode 2) Down Zero))

-- A number of the sign s whose size has the whole part q: q, or the next one. o says how what is left compares with a half, and x that nothing is left.
abbrev pub move : Rounding → Bool → ℕ → Ordering → Bool → ℕ
move Nearest s q o x = nearest q o
move Up s q o x = cond (s || x) q (suc q)
move Down s q o x = cond (not s || x) q (suc q)
move Zero s q o x = q

-- the fraction a / b as a whole number
abbrev pub cut_to : Rounding → Bool → ℕ → ℕ → ℕ
cut_to mode s a b = move mode s (a / b) (compare (a % b * 2) b) (eqb (a % b) 0)

-- the largest finite value of a format
abbrev pub largest : Format → Bool → Float
largest f s = odd (prec f) s (2 ^ prec f - 1) (ones f - 2) (low f)

-- what is too large: an infinity, unless the mode goes the other way
abbrev pub beyond : Rounding → Format → Bool → Float
beyond Nearest f s = inf s
beyond Up f s = cond s (largest f s) (inf s)
beyond Down f s = cond s (inf s) (largest f s)
beyond Zero f s = largest f s

-- so many of the format's smallest values are too large
abbrev pub limit : Format → ℕ
limit f = 2 ^ (low f + suc (emax f))

-- c * 2 ^ k of the format's smallest values
abbrev pub settled : Rounding → Format → Bool → ℕ → ℕ → Float
settled mode f s c k = cond (ltb (c * 2 ^ k) (limit f)) (odd (suc (prec f)) s c k (low f)) (beyond mode f s)

-- how many digits of a size with the whole part w the format drops
abbrev pub dropped : Format → ℕ → ℕ
dropped f w = size w - prec f

-- num / den of the sign s. In the format's smallest values it is n / den, of whose whole part k digits are dropped.
unfoldable pub rounded : Rounding → Format → Bool → ℕ → ℕ → Float
rounded mode f s num den =
    let n = num * 2 ^ low f in
    let k = dropped f (n / den) in
    settled mode f s (cut_to mode s n (den * 2 ^ k)) k

-- exact: nothing that is dropped is left. Of what is too large it says nothing.
unfoldable pub exact : Format → ℕ → ℕ → Bool
exact f num den =
    let n = num * 2 ^ low f in
    let k = dropped f (n / den) in
    eqb (n % (den * 2 ^ k)) 0

-- overflow: rounded as if exponents had no bound, it is beyond the largest finite value
unfoldable pub over : Rounding → Format → Bool → ℕ → ℕ → Bool
over mode f s num den =
    let n = num * 2 ^ low f in
    let k = dropped f (n / den) in
    leb (limit f) (cut_to mode s n (den * 2 ^ k) * 2 ^ k)

-- tiny: before rounding it is not 0 and smaller than the least normal value, which is `hid` smallest values
unfoldable pub tiny : Format → ℕ → ℕ → Bool
tiny f num den = ltb 0 num && ltb (num * 2 ^ low f) (hid f * den)

-- ---- what the code's stages give

-- the rounding increment: what is added to m for its quotient by u, which is even, to be that of cut_to
abbrev pub increment : Rounding → Bool → ℕ → ℕ → ℕ
increment Nearest s m u = u / 2 - 1 + m / u % 2
increment Up s m u = cond s 0 (u - 1)
increment Down s m u = cond s (u - 1) 0
increment Zero s m u = 0

pub record IsCut (mode : Rounding) (s : Bool) (m u kept : ℕ) (exact : Bool) : Type 0 where
  pub kept_is : kept ≡ cut_to mode s m u
  pub exact_is : exact ≡ eqb (m % u) 0

-- ---- what a reader believes at sight

-- the whole numbers next to a / c
abbrev pub Floor : ℕ → ℕ → ℕ → Type 0
Floor a c q = (q * c ≤ a) × (a < suc q * c)

abbrev pub Ceil : ℕ → ℕ → ℕ → Type 0
Ceil a c q = (a ≤ q * c) × (q * c < a + c)

-- no further than a half from a / c, and even where it is just a half away
abbrev pub Near : ℕ → ℕ → ℕ → Type 0
Near a c q = (2 * a ≤ (2 * q + 1) * c) × (2 * q * c ≤ 2 * a + c) × ((2 * a ≡ (2 * q + 1) * c) → q % 2 ≡ 0) × ((2 * q * c ≡ 2 * a + c) → q % 2 ≡ 0)

-- q is the size of the whole number that the mode names for a / c of the sign s
abbrev pub Names : Rounding → Bool → ℕ → ℕ → ℕ → Type 0
Names Nearest s a c q = Near a c q
Names Up false a c q = Ceil a c q
Names Up true a c q = Floor a c q
Names Down false a c q = Floor a c q
Names Down true a c q = Ceil a c q
Names Zero s a c q = Floor a c q

-- how far two numbers are from each other
abbrev pub apart : ℕ → ℕ → ℕ
apart a b = (a - b) + (b - a)
