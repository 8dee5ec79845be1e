-- A number's digits are written from the last one on, and zeros in front are left out.
use Prim.Native.Nat.{ℕ, zero, suc, ◌+◌, ◌-◌, ◌/◌, ◌%◌, ◌≤◌, ◌<◌}
use native.Mathlib.Omega.{arith}
use native.Mathlib.Numerals.{add-one, sub-one}
use native.Mathlib.Nat.{mod-eq_of_lt, mod-lt}
use mathlib.Core.Path.{◌≡◌, refl, ◌∙◌, ap}
use mathlib.Core.List.{List, [], ◌∷◌, ◌++◌, append_assoc, append-nil}
use lib.ListN.{length, take, drop, set, length-set, length-append, length-drop}
use lib.Seq.{drop-cons, get_or-set_same, drop-set-lt, drop-length, take_all}
use mathlib.Core.Bool.{Bool, true, false, cond, not}
use lib.Dec.{eqb, ltb}
use borrow.Author.Tests.{ltb-false}
use native.Mathlib.Nat.{add_comm}
use lib.ListN.{length-take}
use Rattle.std.specs.Prelude.{Option, Some, None, unwrap_or}
use Rattle.std.proofs.lemmas.List.Sums.{prefix_len-le-length}
use Rattle.std.specs.List.{position_or_len}
use Rattle.numerals.specs.Number.{digit_text, digits_text, stripped, decimal_text}

-- the digit before those that stand already
one_more : (base : ℕ) (out : List ℕ) (j rest d : ℕ) → j < length out → d ≡ digit_text (rest % base) → digits_text base j (rest / base) ++ drop j (set out j d) ≡ digits_text base (suc j) rest ++ drop (suc j) out
unfolding digits_text
one_more base out j rest d h e =
    rw (drop-cons (set out j d) j 0 (rw (length-set) h), get_or-set_same out j d 0 h, drop-set-lt (suc j) out j d (omega arith), append_assoc, e)

pub digit_written : (base : ℕ) (out : List ℕ) (i rest d : ℕ) → (0 < base) × (base ≤ 16) → 0 < i → i ≤ length out → d ≡ digit_text (rest % base % 16) → digits_text base (i - 1) (rest / base) ++ drop (i - 1) (set out (i - 1) d) ≡ digits_text base i rest ++ drop i out
digit_written base out zero rest d b p h e = absurd (omega arith)
digit_written base out (suc j) rest d b p h e =
    rw (sub-one (suc j)) (one_more base out j rest d (omega arith) (e ∙ ap digit_text (mod-eq_of_lt (small b.0 b.1))))
  where
    small : 0 < base → base ≤ 16 → rest % base < 16
    small p q = omega (arith, mod-lt rest p)

pub digits_start : (base x : ℕ) (out : List ℕ) → digits_text base (length out) x ++ drop (length out) out ≡ digits_text base (length out) x
digits_start base x out = rw (drop-length out, append-nil)

pub digits_end : (base rest : ℕ) (out z : List ℕ) (i : ℕ) → i ≤ 0 → digits_text base i rest ++ drop i out ≡ z → out ≡ z
unfolding digits_text
digits_end base rest out z zero h e = e
digits_end base rest out z (suc i) h e = absurd (omega arith)

-- the zeros in front, among the first n bytes
module _ where
  abbrev pub other : ℕ → Bool
  other d = not (eqb d 48)

  pub strip_zeros : (n : ℕ) (t : List ℕ) → n ≤ length t → drop (position_or_len other (take n t)) t ≡ stripped n t
  unfolding stripped
  strip_zeros zero t h = refl
  strip_zeros (suc n) [] h = absurd (omega arith)
  strip_zeros (suc n) (b ∷ t) h = by (eqb b 48) (strip_zeros n t (omega arith))
    where
      by : (k : Bool) → drop (position_or_len other (take n t)) t ≡ stripped n t → drop (cond (not (not k)) (1 + position_or_len other (take n t)) 0) (b ∷ t) ≡ cond k (stripped n t) (b ∷ t)
      by true i = rw (add_comm 1, add-one) i
      by false i = refl

-- what is found among nine of ten digits, or nine
pub zeros_found : (t : List ℕ) (o : Option ℕ) (r : ℕ) → length t ≡ 10 → o ≡ cond (ltb (position_or_len other (take 9 t)) (length (take 9 t))) (Some (position_or_len other (take 9 t))) None → r ≡ unwrap_or o 9 → (r ≤ 9) × (drop r t ≡ stripped 9 t)
zeros_found t o r h e f =
    let p = position_or_len other (take 9 t) in
    let nine : length (take 9 t) ≡ 9 = omega (arith, length-take 9 t) in
    let few : p ≤ 9 = omega (arith, prefix_len-le-length (λ d. not (other d)) (take 9 t)) in
    let is : r ≡ p = by (ltb p (length (take 9 t))) refl e f in
    (omega arith, ap (λ (k : ℕ). drop k t) is ∙ strip_zeros 9 t (omega arith))
  where
    by : (b : Bool) → ltb (position_or_len other (take 9 t)) (length (take 9 t)) ≡ b → o ≡ cond b (Some (position_or_len other (take 9 t))) None → r ≡ unwrap_or o 9 → r ≡ position_or_len other (take 9 t)
    by true g e f = rw e at f
    by false g e f =
        let q : r ≡ 9 = rw e at f in
        omega (arith, ltb-false (position_or_len other (take 9 t)) (length (take 9 t)) g, length-take 9 t, prefix_len-le-length (λ d. not (other d)) (take 9 t))

pub digits_length : (base n x : ℕ) → length (digits_text base n x) ≡ n
unfolding digits_text
digits_length base zero x = refl
digits_length base (suc n) x =
    length-append (digits_text base n (x / base)) (digit_text (x % base) ∷ [])
    ∙ rw (digits_length base n (x / base)) (add-one n)

-- ten digits without the zeros in front
pub decimal_part : (d : List ℕ) (n x : ℕ) → d ≡ digits_text 10 10 x → drop n d ≡ stripped 9 d → take (10 - n) (drop n d) ≡ decimal_text x
unfolding decimal_text
decimal_part d n x e f = take_all (10 - n) (drop n d) (omega (arith, length-drop n d, ap length e, ten x)) ∙ f ∙ ap (stripped 9) e
  where
    ten : (x : ℕ) → length (digits_text 10 10 x) ≡ 10
    ten x = digits_length 10 10 x
