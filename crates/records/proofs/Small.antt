-- Numbers of 32 bits: in lists, in a record's parts and in bytes.
use Prim.Native.Nat.{ℕ, zero, suc, ◌+◌, ◌*◌, ◌/◌, ◌^◌, ◌<◌, ◌≤◌}
use native.Mathlib.Omega.{arith}
use native.Mathlib.Decide.{dec_lt}
use mathlib.Core.Path.{◌≡◌, ap, sym, ◌∙◌}
use mathlib.Core.List.{List, [], ◌∷◌, ◌++◌}
use lib.ListN.{length, length-append, get_or, take, drop, get_or-eq_default}
use lib.Seq.{get_or-drop}
use Rattle.machine.specs.Place.{before}
use Rattle.records.specs.Number.{number_at, numbers_of}
use Rattle.records.specs.Recorded.{layout_bit, numbers_for, marks_of_word, record_of, Writable}
use Rattle.records.proofs.Laws.{numbers_length, number_nth}
use Rattle.records.proofs.MarkWords.{marks_length}

-- every entry below a bound
abbrev pub Below : ℕ → List ℕ → Type 0
Below k l = (n : ℕ) → get_or l n 0 < k

module _ (k : ℕ) where
  pub Below-cons : (x : ℕ) (l : List ℕ) → x < k → Below k l → Below k (x ∷ l)
  Below-cons x l h s zero = h
  Below-cons x l h s (suc n) = s n

  pub Below-append : (a b : List ℕ) → Below k a → Below k b → Below k (a ++ b)
  Below-append [] b p q n = q n
  Below-append (x ∷ a) b p q zero = p 0
  Below-append (x ∷ a) b p q (suc n) = Below-append a b (λ i. p (suc i)) q n

  pub Below-take : (m : ℕ) (l : List ℕ) → Below k l → Below k (take m l)
  Below-take zero l p n = let h = p 0 in omega (arith, h)
  Below-take (suc m) [] p n = p n
  Below-take (suc m) (x ∷ l) p zero = p 0
  Below-take (suc m) (x ∷ l) p (suc n) = Below-take m l (λ i. p (suc i)) n

  pub Below-drop : (m : ℕ) (l : List ℕ) → Below k l → Below k (drop m l)
  Below-drop m l p n = rw (get_or-drop m l n 0) (p (m + n))

Below-marks : (n w : ℕ) → Below (2 ^ 32) (marks_of_word n w)
unfolding marks_of_word
Below-marks zero w i = omega arith
Below-marks (suc n) w zero = omega arith
Below-marks (suc n) w (suc i) = Below-marks n (w / 2) i

-- ---- a record's parts

module _ (state window marks list : List ℕ) (m base : ℕ) (places : length state ≡ before) (marked : length marks ≡ length window) where
  pub stated_is : length (state ++ window) ≡ before + length window
  stated_is = length-append state window ∙ ap (λ (n : ℕ). n + length window) places

  pub marks_are : length (marks_of_word before m ++ marks) ≡ before + length window
  marks_are = length-append (marks_of_word before m) marks ∙ (omega (arith, marks_length before m))

  abbrev known : List ℕ
  known = marks_of_word before m ++ marks

  abbrev after_values : List ℕ
  after_values = known ++ (base ∷ list)

  abbrev after_counts : List ℕ
  after_counts = (state ++ window) ++ after_values

  pub writable : Below (2 ^ 32) state → Below (2 ^ 32) window → Below (2 ^ 32) marks → base < 2 ^ 32 → Below (2 ^ 32) list → length list < layout_bit
      → before + length window < 2 ^ 32 → Writable (record_of state m window marks base list)
  unfolding numbers_for
  writable a b c d e f g =
      let s : length (state ++ window) < 2 ^ 32 = rw stated_is g in
      let p₁ = Below-append (2 ^ 32) (marks_of_word before m) marks (Below-marks before m) c in
      let p₂ = Below-append (2 ^ 32) known (base ∷ list) p₁ (Below-cons (2 ^ 32) base list d e) in
      let p₃ = Below-append (2 ^ 32) (state ++ window) after_values (Below-append (2 ^ 32) state window a b) p₂ in
      let p₄ = Below-cons (2 ^ 32) (length (state ++ window)) after_counts s p₃ in
      record {
        marked = marks_are ∙ sym stated_is;
        listed = f;
        stated = s;
        numbers = Below-cons (2 ^ 32) (layout_bit + length list) (length (state ++ window) ∷ after_counts) (omega (arith, f)) p₄;
      }

-- ---- bytes

number_Below : (b : List ℕ) (i : ℕ) → Below 256 b → number_at b i < 2 ^ 32
number_Below b i p = omega (arith, p i, p (i + 1), p (i + 2), p (i + 3))

-- the numbers of bytes have 32 bits
pub numbers_Below : (b : List ℕ) → Below 256 b → Below (2 ^ 32) (numbers_of b)
numbers_Below b p n = by (dec_lt n (length b / 4))
  where
    by : Dec (n < length b / 4) → get_or (numbers_of b) n 0 < 2 ^ 32
    by (yes h) = let e : 4 * n + 4 ≤ length b = omega arith in rw (sym (number_nth b n e)) (number_Below b (4 * n) p)
    by (no h) =
        let e : length (numbers_of b) ≤ n = rw (numbers_length b) (omega arith) in
        rw (get_or-eq_default (numbers_of b) 0 e) (omega arith)
