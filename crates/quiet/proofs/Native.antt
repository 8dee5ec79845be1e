-- What the nine kinds raise in mode 00, by the native result's word, whatever FZ and bit 25. Over the format. Assumes nothing.
use Rattle.std.proofs.Common.{◌≡◌, ℕ, ◌+◌, ◌-◌, ◌*◌, ◌/◌, ◌%◌, ◌^◌, ◌<◌, ◌≤◌, max, Bool, true, false, cond, ◌&&◌, ltb, ◌⊎◌, sym, refl, ap, ◌∙◌, subst, inl, inr, mod-lt, div-add-mod', arith, lit<, ltb-true}
use lib.Bits.{bit_or, or_step, or_block, or_zero_l, or_zero_r, or_self}
use lib.Ieee.{Float, nan, inf, fin, Format, binary32, binary64, hid, ones, top, is_nan, of_bits, to_bits, nan_bits}
use Rattle.rounding.specs.Rounding.{rounding_of}
use Rattle.rounding.specs.declared.rounding.Rounding.{Rounding}
use Rattle.rounding.specs.declared.rounding.Rounding.TheVariants.{Nearest}
use Rattle.operators.specs.Operators.{sum, difference, product, quotient}
use Rattle.nans.specs.Nan.{defaults, default_nan, negation}
use Rattle.exceptions.specs.Exceptions.{inexact}
use Rattle.exceptions.proofs.Laws.{flushed_none}
use Rattle.exceptions.specs.Operators.{sum_exceptions, difference_exceptions, product_exceptions, quotient_exceptions}
use Rattle.numbers.specs.Arithmetic.{accumulates, apply, applied}
use Rattle.numbers.specs.declared.arithmetic.Arithmetic.{Arithmetic}
use Rattle.numbers.specs.declared.arithmetic.Arithmetic.TheVariants.{MultiplyAccumulate, MultiplySubtract, NegateMultiplySubtract, NegateMultiplyAccumulate, Multiply, NegateMultiply, Add, Subtract, Divide}
use Rattle.directed.specs.Directed.{operated_by, applied_by, arithmetic_by}
use Rattle.directed.specs.Exceptions.{raised_by, first_exceptions, last_exceptions, exceptions_by}
use Rattle.floats.proofs.Flushing.{flush_none}
use Rattle.nans.proofs.Choosing.{negation_is}
use Rattle.exceptions.proofs.Nans.{numbers_raise}
use Rattle.numbers.proofs.Applying.{word_of_value}
use Rattle.directed.proofs.Values.{applied_lt}
use Rattle.directed.proofs.Nearest.{mode_nearest, native_applied}
use Rattle.quiet.specs.Quiet.{Within, IsFinite, IsZero, Product, Quiet, IsQuick}
use Rattle.quiet.proofs.Values.{sum-Quiet, difference-Quiet, product-Quiet, quotient-Quiet, operated-Quiet, both_numbers, product_zero}

-- a value that is not written as the default NaN is a number
a_number : (f : Format) (v : Float) → (to_bits f v ≡ default_nan f → ⊥) → is_nan v ≡ false
unfolding to_bits is_nan
a_number f nan h = absurd (h refl)
a_number f (inf s) h = refl
a_number f (fin s m e) h = refl

-- ---- in FPSCR

Quiet-or : (a b : ℕ) → Quiet a → Quiet b → Quiet (bit_or a b)
Quiet-or a b (inl p) q = subst Quiet (sym (ap (λ (x : ℕ). bit_or x b) p ∙ or_zero_l b)) q
Quiet-or a b (inr p) (inl q) = inr (ap (bit_or a) q ∙ or_zero_r a ∙ p)
Quiet-or a b (inr p) (inr q) = inr (ap (λ (x : ℕ). bit_or x b) p ∙ ap (bit_or inexact) q ∙ or_self inexact)

-- with bit 4 set nothing changes
pub nothing_new : (control x : ℕ) → control / 16 % 2 ≡ 1 → Quiet x → bit_or control x ≡ control
nothing_new control x b (inl e) = ap (bit_or control) e ∙ or_zero_r control
nothing_new control x b (inr e) =
    ap (bit_or control) e
    ∙ ap (λ (y : ℕ). bit_or y 16) (sym (div-add-mod' control 16))
    ∙ or_block 4 (control / 16) 1 (control % 16) 0 (mod-lt control (lit< tt)) (lit< tt)
    ∙ ap (λ (y : ℕ). y * 16 + bit_or (control % 16) 0) (odd_or (control / 16) b)
    ∙ ap (λ (y : ℕ). control / 16 * 16 + y) (or_zero_r (control % 16))
    ∙ div-add-mod' control 16
  where
    odd_or : (a : ℕ) → a % 2 ≡ 1 → bit_or a 1 ≡ a
    odd_or a b =
        or_step a 1
        ∙ ap (λ (y : ℕ). y * 2 + max (a % 2) 1) (or_zero_r (a / 2))
        ∙ ap (λ (y : ℕ). a / 2 * 2 + max y 1) b
        ∙ ap (λ (y : ℕ). a / 2 * 2 + y) (sym b)
        ∙ div-add-mod' a 2

-- ---- words

negation_rest : (f : Format) (control w : ℕ) → w < 2 * top f → (negation f control w < 2 * top f) × (negation f control w % top f ≡ w % top f)
negation_rest f control w h = by (defaults control && nan_bits f w) refl
  where
    turned : (f : Format) → w < 2 * top f → ((w + top f) % (top f * 2) < 2 * top f) × ((w + top f) % (top f * 2) % top f ≡ w % top f)
    turned binary32 h = (omega arith, omega arith)
    turned binary64 h = (omega arith, omega arith)

    by : (t : Bool) → (defaults control && nan_bits f w) ≡ t → (negation f control w < 2 * top f) × (negation f control w % top f ≡ w % top f)
    by true e = subst (λ (x : ℕ). (x < 2 * top f) × (x % top f ≡ w % top f)) (negation_is f control w (defaults control) (nan_bits f w) true refl refl e) (h, refl)
    by false e = subst (λ (x : ℕ). (x < 2 * top f) × (x % top f ≡ w % top f)) (negation_is f control w (defaults control) (nan_bits f w) false refl refl e) (turned f h)

not_default : (f : Format) (w : ℕ) → Within f w ⊎ IsZero f w → w ≡ default_nan f → ⊥
not_default f w (inl h) e = no f (subst (Within f) e h)
  where
    no : (f : Format) → Within f (default_nan f) → ⊥
    no binary32 h = omega arith
    no binary64 h = omega arith
not_default f w (inr z) e = no f (subst (IsZero f) e z)
  where
    no : (f : Format) → IsZero f (default_nan f) → ⊥
    no binary32 z = omega arith
    no binary64 z = omega arith

-- ---- where nothing is flushed

module _ (f : Format) (control : ℕ) (kind : Arithmetic) (n m d : ℕ) where
  abbrev w : ℕ
  w = applied_by f control kind n m d

  -- a word that is stored as it is raises what its operations did
  pub unflushed : Within f w ⊎ IsZero f w → (arithmetic_by f control kind n m d ≡ w) × (exceptions_by f control kind n m d ≡ bit_or (first_exceptions f control kind n m) (last_exceptions f control kind n m d))
  unfolding arithmetic_by exceptions_by
  unflushed h = (flush_none f control w (large h), ap (bit_or (first_exceptions f control kind n m)) (flushed_none f control w (last_exceptions f control kind n m d) (large h)))
    where
      before : (x y : ℕ) → x < y → x ≤ y
      before x y l = omega arith

      large : Within f w ⊎ IsZero f w → (w % top f ≡ 0) ⊎ (hid f ≤ w % top f)
      large (inl l) = inr (before (hid f) (w % top f) l.0)
      large (inr z) = inl z

-- ---- mode 00

module _ (f : Format) (control n m d : ℕ) (N : n < 2 * top f) (M : m < 2 * top f) (D : d < 2 * top f) (z : control / 2 ^ 22 % 4 ≡ 0) where
  -- an operator's law at `Nearest`, by FPSCR
  by_mode : (op : Rounding → Format → Float → Float → Float) (raise : Rounding → Format → Float → Float → ℕ) → ((x y : Float) → Within f (to_bits f (op Nearest f x y)) → Quiet (raise Nearest f x y))
      → (a b : ℕ) → a < 2 * top f → b < 2 * top f → Within f (operated_by op f control a b) → Quiet (raised_by raise f control a b)
  by_mode op raise q a b A B h =
      operated-Quiet f control (op (rounding_of control) f) (raise (rounding_of control) f) a b
      (subst (λ (mode : Rounding). (x y : Float) → Within f (to_bits f (op mode f x y)) → Quiet (raise mode f x y)) (sym (mode_nearest control z)) q) A B h

  made : operated_by product f control n m < 2 * top f
  unfolding applied_by
  made = applied_lt f control Multiply n m d N M D

  summed : (a b : ℕ) → a < 2 * top f → b < 2 * top f → Within f (operated_by sum f control a b) → Quiet (raised_by sum_exceptions f control a b)
  summed = by_mode sum sum_exceptions (sum-Quiet f)

  multiplied : Within f (operated_by product f control n m) → Quiet (raised_by product_exceptions f control n m)
  multiplied = by_mode product product_exceptions (product-Quiet f) n m N M

  last_Quiet : (kind : Arithmetic) → Within f (applied_by f control kind n m d) → Quiet (last_exceptions f control kind n m d)
  unfolding applied_by last_exceptions
  last_Quiet MultiplyAccumulate h = summed d (operated_by product f control n m) D made h
  last_Quiet MultiplySubtract h = summed d (negation f control (operated_by product f control n m)) D (negation_rest f control (operated_by product f control n m) made).0 h
  last_Quiet NegateMultiplySubtract h = summed (negation f control d) (operated_by product f control n m) (negation_rest f control d D).0 made h
  last_Quiet NegateMultiplyAccumulate h =
      summed (negation f control d) (negation f control (operated_by product f control n m)) (negation_rest f control d D).0 (negation_rest f control (operated_by product f control n m) made).0 h
  last_Quiet Multiply h = multiplied h
  last_Quiet NegateMultiply h = multiplied (subst (λ (x : ℕ). (hid f < x) × (x < ones f * hid f)) (negation_rest f control (operated_by product f control n m) made).1 h)
  last_Quiet Add h = summed n m N M h
  last_Quiet Subtract h = by_mode difference difference_exceptions (difference-Quiet f) n m N M h
  last_Quiet Divide h = by_mode quotient quotient_exceptions (quotient-Quiet f) n m N M h

  same_word : (kind : Arithmetic) → Within f (applied f kind n m d) ⊎ IsZero f (applied f kind n m d) → applied f kind n m d ≡ applied_by f control kind n m d
  same_word kind h =
      native_applied f control kind n m d N M D z
      (a_number f (apply f kind (of_bits f n) (of_bits f m) (of_bits f d)) (λ e. not_default f (applied f kind n m d) h (word_of_value f kind n m d ∙ e)))

  product_raises : Within f (applied f Multiply n m d) ⊎ (IsFinite f n × IsFinite f m × (IsZero f n ⊎ IsZero f m)) → Quiet (raised_by product_exceptions f control n m)
  unfolding applied_by
  product_raises (inl h) = multiplied (subst (Within f) (same_word Multiply (inl h)) h)
  product_raises (inr h) =
      inl
      (sym (numbers_raise f (product_exceptions (rounding_of control) f) n m (nan_bits f n) (nan_bits f m) refl refl (both_numbers f n m h.0 h.1))
      ∙ product_zero (rounding_of control) f n m h.0 h.1 h.2)

  first_Quiet : (kind : Arithmetic) → Product f (accumulates kind) n m d → Quiet (first_exceptions f control kind n m)
  first_Quiet kind (inl e) = inl (ap (λ (t : Bool). cond t (raised_by product_exceptions f control n m) 0) e)
  first_Quiet kind (inr h) = either (accumulates kind)
    where
      either : (t : Bool) → Quiet (cond t (raised_by product_exceptions f control n m) 0)
      either true = product_raises h
      either false = inl refl

  -- the native result is stored as it is, and at most inexact is raised
  pub native_Quiet : (kind : Arithmetic) → Product f (accumulates kind) n m d → Within f (applied f kind n m d)
      → (arithmetic_by f control kind n m d ≡ applied f kind n m d) × Quiet (exceptions_by f control kind n m d)
  native_Quiet kind p h =
      let e = same_word kind (inl h) in
      let g : Within f (applied_by f control kind n m d) = subst (Within f) e h in
      let k = unflushed f control kind n m d (inl g) in
      (k.0 ∙ sym e, subst Quiet (sym k.1) (Quiet-or (first_exceptions f control kind n m) (last_exceptions f control kind n m d) (first_Quiet kind p) (last_Quiet kind g)))
  -- ---- a sum or difference that is a zero raises nothing

-- ---- what the code takes

-- twice the word, less twice the least normal value and 2: what is within comes first
pub Within-doubled : (f : Format) (b x y : ℕ) → x ≡ (b + b) % (2 * top f) → y ≡ (x + (2 * top f - (2 * hid f + 2))) % (2 * top f)
    → ltb y (2 * (ones f * hid f) - (2 * hid f + 2)) ≡ true → Within f b
Within-doubled f b x y e g h = by f e g (ltb-true y (2 * (ones f * hid f) - (2 * hid f + 2)) h)
  where
    by : (f : Format) → x ≡ (b + b) % (2 * top f) → y ≡ (x + (2 * top f - (2 * hid f + 2))) % (2 * top f) → y < 2 * (ones f * hid f) - (2 * hid f + 2) → Within f b
    by binary32 e g l = (omega arith, omega arith)
    by binary64 e g l = (omega arith, omega arith)

pub taken : (f : Format) (control : ℕ) (kind : Arithmetic) (n m d bits : ℕ) → n < 2 * top f → m < 2 * top f → d < 2 * top f → control / 2 ^ 22 % 4 ≡ 0
    → bits ≡ applied f kind n m d → Within f bits → Product f (accumulates kind) n m d → IsQuick f control kind n m d bits
taken f control kind n m d bits N M D z e h p =
    let q = native_Quiet f control n m d N M D z kind p (subst (Within f) e h) in record { word = e ∙ sym q.0; raises = q.1 }
