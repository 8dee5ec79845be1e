-- Values of words: an operator's result and the nine kinds', whatever NaNs come out. Over the mode and the format. Assumes nothing.
use Rattle.std.proofs.Common.{◌≡◌, ℕ, ◌+◌, ◌*◌, ◌%◌, ◌<◌, Bool, true, false, not, ◌||◌, T, sym, refl, ap, ◌∙◌, subst, arith}
use lib.Ieee.{Float, nan, inf, fin, Format, binary32, binary64, top, neg, fits, is_nan, of_bits, to_bits, nan_bits}
use lib.Ieee.Bits.{of_bits-to_bits, to_bits-of_bits, to_bits-lt}
use Rattle.floats.proofs.Patterns.{reads_nan}
use Rattle.rounding.specs.Rounding.{rounding_of}
use Rattle.rounding.specs.declared.rounding.Rounding.{Rounding}
use Rattle.operators.specs.Operators.{sum, difference, product, quotient}
use Rattle.nans.specs.Nan.{default_nan, operated, nan_of, negation}
use Rattle.nans.proofs.Choosing.{nan_of_nan, nan_word, negation_nan, nan_pattern, numbers_operated, nans_operated, number_negated}
use Rattle.numbers.specs.declared.arithmetic.Arithmetic.{Arithmetic}
use Rattle.numbers.specs.declared.arithmetic.Arithmetic.TheVariants.{MultiplyAccumulate, MultiplySubtract, NegateMultiplySubtract, NegateMultiplyAccumulate, Multiply, NegateMultiply, Add, Subtract, Divide}
use Rattle.directed.specs.Directed.{apply_by, operated_by, applied_by}
use Rattle.directed.proofs.Fitting.{sum-fits, product-fits, quotient-fits}
use Rattle.directed.proofs.Negation.{neg_word}

-- ---- a NaN operand makes a NaN

sum-nan : (mode : Rounding) (f : Format) (x : Float) → sum mode f x nan ≡ nan
unfolding sum
sum-nan mode f nan = refl
sum-nan mode f (inf s) = refl
sum-nan mode f (fin s m e) = refl

difference-nan : (mode : Rounding) (f : Format) (x : Float) → difference mode f x nan ≡ nan
unfolding difference neg
difference-nan mode f x = sum-nan mode f x

product-nan : (mode : Rounding) (f : Format) (x : Float) → product mode f x nan ≡ nan
unfolding product
product-nan mode f nan = refl
product-nan mode f (inf s) = refl
product-nan mode f (fin s m e) = refl

quotient-nan : (mode : Rounding) (f : Format) (x : Float) → quotient mode f x nan ≡ nan
unfolding quotient
quotient-nan mode f nan = refl
quotient-nan mode f (inf s) = refl
quotient-nan mode f (fin s m e) = refl

-- ---- what is asked of an operator: of a NaN it makes a NaN, and its results are values of the format

record Operator (f : Format) (op : Float → Float → Float) : Type 0 where
  left : (y : Float) → op nan y ≡ nan
  right : (x : Float) → op x nan ≡ nan
  fitting : (x y : Float) → T (fits f (op x y))

sums : (mode : Rounding) (f : Format) → Operator f (sum mode f)
unfolding sum
sums mode f = record { left = λ y. refl; right = sum-nan mode f; fitting = sum-fits mode f }

differences : (mode : Rounding) (f : Format) → Operator f (difference mode f)
unfolding difference sum neg
differences mode f = record { left = λ y. refl; right = difference-nan mode f; fitting = λ x y. sum-fits mode f x (neg y) }

products : (mode : Rounding) (f : Format) → Operator f (product mode f)
unfolding product
products mode f = record { left = λ y. refl; right = product-nan mode f; fitting = product-fits mode f }

quotients : (mode : Rounding) (f : Format) → Operator f (quotient mode f)
unfolding quotient
quotients mode f = record { left = λ y. refl; right = quotient-nan mode f; fitting = quotient-fits mode f }

-- a word of the format and the value that it stands for
record Stands (f : Format) (w : ℕ) (v : Float) : Type 0 where
  word : w < 2 * top f
  value : of_bits f w ≡ v

read : (f : Format) (w : ℕ) → w < 2 * top f → Stands f w (of_bits f w)
read f w h = record { word = h; value = refl }

operated-Stands : (f : Format) (control : ℕ) (op : Float → Float → Float) (a b : ℕ) (x y : Float) → Operator f op → Stands f a x → Stands f b y → Stands f (operated f control op a b) (op x y)
operated-Stands f control op a b x y o p q = by (nan_bits f a) (nan_bits f b) refl refl
  where
    values : op (of_bits f a) (of_bits f b) ≡ op x y
    values = ap (λ (v : Float). op v (of_bits f b)) p.value ∙ ap (op x) q.value

    nan_out : (nan_bits f a || nan_bits f b) ≡ true → op (of_bits f a) (of_bits f b) ≡ nan → Stands f (operated f control op a b) (op x y)
    nan_out h e =
        let n = nan_of_nan f control a b p.word q.word h in
        subst (λ (w : ℕ). Stands f w (op x y)) (nans_operated f control op a b (nan_bits f a) (nan_bits f b) refl refl h)
        record { word = n.1; value = reads_nan f (nan_of f control a b) (nan_word f (nan_of f control a b) n) ∙ sym e ∙ values }

    by : (s t : Bool) → nan_bits f a ≡ s → nan_bits f b ≡ t → Stands f (operated f control op a b) (op x y)
    by true t e d = nan_out (ap (λ (u : Bool). u || nan_bits f b) e) (ap (λ (v : Float). op v (of_bits f b)) (reads_nan f a e) ∙ o.left (of_bits f b))
    by false true e d = nan_out (ap (λ (u : Bool). u || nan_bits f b) e ∙ d) (ap (op (of_bits f a)) (reads_nan f b d) ∙ o.right (of_bits f a))
    by false false e d =
        subst (λ (w : ℕ). Stands f w (op x y)) (numbers_operated f control op a b (nan_bits f a) (nan_bits f b) refl refl (ap (λ (u : Bool). u || nan_bits f b) e ∙ d))
        record {
          word = to_bits-lt f (op (of_bits f a) (of_bits f b)) (o.fitting (of_bits f a) (of_bits f b));
          value = of_bits-to_bits f (op (of_bits f a) (of_bits f b)) (o.fitting (of_bits f a) (of_bits f b)) ∙ values;
        }

twice : (f : Format) (w : ℕ) → ((w + top f) % (top f * 2) < 2 * top f) × ((w + top f) % (top f * 2) ≡ (w + top f) % (2 * top f))
twice binary32 w = (omega arith, omega arith)
twice binary64 w = (omega arith, omega arith)

negation-Stands : (f : Format) (control w : ℕ) (v : Float) → Stands f w v → Stands f (negation f control w) (neg v)
unfolding neg
negation-Stands f control w v p = by (nan_bits f w) refl
  where
    by : (t : Bool) → nan_bits f w ≡ t → Stands f (negation f control w) (neg v)
    by true e =
        let n = negation_nan f control w (nan_pattern f w p.word e) in
        record {
          word = n.1;
          value = reads_nan f (negation f control w) (nan_word f (negation f control w) n) ∙ ap neg (sym (reads_nan f w e) ∙ p.value);
        }
    by false e =
        subst (λ (x : ℕ). Stands f x (neg v)) (number_negated f control w e)
        record { word = (twice f w).0; value = neg_word f w ((w + top f) % (top f * 2)) p.word (twice f w).1 ∙ ap neg p.value }

-- ---- the nine kinds

applied_Stands : (f : Format) (control : ℕ) (kind : Arithmetic) (n m d : ℕ) → n < 2 * top f → m < 2 * top f → d < 2 * top f
    → Stands f (applied_by f control kind n m d) (apply_by (rounding_of control) f kind (of_bits f n) (of_bits f m) (of_bits f d))
unfolding applied_by difference
applied_Stands f control kind n m d p q r = by kind
  where
    mode : Rounding
    mode = rounding_of control

    made : Stands f (operated_by product f control n m) (product mode f (of_bits f n) (of_bits f m))
    made = operated-Stands f control (product mode f) n m _ _ (products mode f) (read f n p) (read f m q)

    less : Stands f (negation f control (operated_by product f control n m)) (neg (product mode f (of_bits f n) (of_bits f m)))
    less = negation-Stands f control _ _ made

    old : Stands f (negation f control d) (neg (of_bits f d))
    old = negation-Stands f control d _ (read f d r)

    by : (kind : Arithmetic) → Stands f (applied_by f control kind n m d) (apply_by (rounding_of control) f kind (of_bits f n) (of_bits f m) (of_bits f d))
    by MultiplyAccumulate = operated-Stands f control (sum mode f) d _ _ _ (sums mode f) (read f d r) made
    by MultiplySubtract = operated-Stands f control (sum mode f) d _ _ _ (sums mode f) (read f d r) less
    by NegateMultiplySubtract = operated-Stands f control (sum mode f) _ _ _ _ (sums mode f) old made
    by NegateMultiplyAccumulate = operated-Stands f control (sum mode f) _ _ _ _ (sums mode f) old less
    by Multiply = made
    by NegateMultiply = less
    by Add = operated-Stands f control (sum mode f) n m _ _ (sums mode f) (read f n p) (read f m q)
    by Subtract = operated-Stands f control (difference mode f) n m _ _ (differences mode f) (read f n p) (read f m q)
    by Divide = operated-Stands f control (quotient mode f) n m _ _ (quotients mode f) (read f n p) (read f m q)

-- a result's value is that of its operands' values
pub applied_value : (f : Format) (control : ℕ) (kind : Arithmetic) (n m d : ℕ) → n < 2 * top f → m < 2 * top f → d < 2 * top f
    → of_bits f (applied_by f control kind n m d) ≡ apply_by (rounding_of control) f kind (of_bits f n) (of_bits f m) (of_bits f d)
applied_value f control kind n m d p q r = (applied_Stands f control kind n m d p q r).value

pub applied_lt : (f : Format) (control : ℕ) (kind : Arithmetic) (n m d : ℕ) → n < 2 * top f → m < 2 * top f → d < 2 * top f
    → applied_by f control kind n m d < 2 * top f
applied_lt f control kind n m d p q r = (applied_Stands f control kind n m d p q r).word

-- and a result that is no NaN is its value's word, whatever bit 25
pub number_applied : (f : Format) (control : ℕ) (kind : Arithmetic) (n m d : ℕ) → n < 2 * top f → m < 2 * top f → d < 2 * top f
    → (to_bits f (apply_by (rounding_of control) f kind (of_bits f n) (of_bits f m) (of_bits f d)) ≡ default_nan f → ⊥)
    → to_bits f (apply_by (rounding_of control) f kind (of_bits f n) (of_bits f m) (of_bits f d)) ≡ applied_by f control kind n m d
unfolding to_bits is_nan
number_applied f control kind n m d p q r h = by (apply_by (rounding_of control) f kind (of_bits f n) (of_bits f m) (of_bits f d)) (applied_Stands f control kind n m d p q r) h
  where
    by : (v : Float) → Stands f (applied_by f control kind n m d) v → (to_bits f v ≡ default_nan f → ⊥) → to_bits f v ≡ applied_by f control kind n m d
    by nan s g = absurd (g refl)
    by (inf t) s g = ap (to_bits f) (sym s.value) ∙ to_bits-of_bits f _ s.word (subst (λ (x : Float). T (not (is_nan x))) (sym s.value) tt)
    by (fin t x e) s g = ap (to_bits f) (sym s.value) ∙ to_bits-of_bits f _ s.word (subst (λ (x : Float). T (not (is_nan x))) (sym s.value) tt)
