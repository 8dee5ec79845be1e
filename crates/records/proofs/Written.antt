-- What is written is read back, and what is read is written back: numbers as bytes, and a record's fields as numbers.
use Prim.Native.Nat.{ℕ, zero, suc, ◌+◌, ◌-◌, ◌*◌, ◌/◌, ◌%◌, ◌^◌, ◌<◌, ◌≤◌}
use native.Mathlib.Omega.{arith}
use mathlib.Core.Path.{◌≡◌, refl, ap, sym, ◌∙◌}
use mathlib.Core.Bool.{true}
use mathlib.Core.List.{List, [], ◌∷◌, ◌++◌}
use lib.Dec.{leb}
use lib.ListN.{length, length-append, length-drop, get_or, take, drop, take-append-drop}
use lib.Seq.{drop-cons, get_or-drop, drop-drop, take_at, drop_at, take_all, length-take-le}
use borrow.Author.Tests.{eqb-true, eq-eqb, leb-true, le-leb}
use Rattle.window_marks.specs.Marks.{bytes_of}
use Rattle.layout.proofs.Both.{fst, snd}
use Rattle.records.specs.Number.{first_numbers, numbers_of, written}
use Rattle.records.specs.Recorded.{Recorded, layout_bit, list_count, numbers_for, recorded_in, to_bytes, of_bytes, sized, Writable}
use Rattle.records.proofs.Laws.{numbers_length}
use Rattle.records.proofs.Small.{numbers_Below}

-- ---- numbers as bytes

four : (x : ℕ) → x < 2 ^ 32 → x % 256 + x / 256 % 256 * 0x100 + x / 256 / 256 % 256 * 0x1_0000 + x / 256 / 256 / 256 % 256 * 0x100_0000 ≡ x
four x h = omega arith

pub written-length : (l : List ℕ) → length (written l) ≡ 4 * length l
unfolding written bytes_of
written-length [] = refl
written-length (x ∷ l) = let e = written-length l in omega (arith, e)

first_written : (l : List ℕ) → ((n : ℕ) → get_or l n 0 < 2 ^ 32) → first_numbers (length l) (written l) ≡ l
unfolding first_numbers written bytes_of
first_written [] small = refl
first_written (x ∷ l) small = rw (four x (small 0), first_written l (λ n. small (suc n)))

-- numbers of 32 bits are read back
pub numbers_written : (l : List ℕ) → ((n : ℕ) → get_or l n 0 < 2 ^ 32) → numbers_of (written l) ≡ l
unfolding numbers_of
numbers_written l small =
    let e : length (written l) / 4 ≡ length l = rw (written-length l) (omega arith) in
    rw e (first_written l small)

bytes_four : (a b c d : ℕ) → a < 256 → b < 256 → c < 256 → d < 256 → bytes_of 4 (a + b * 0x100 + c * 0x1_0000 + d * 0x100_0000) ≡ a ∷ b ∷ c ∷ d ∷ []
unfolding bytes_of
bytes_four a b c d p q r s =
    let x = a + b * 0x100 + c * 0x1_0000 + d * 0x100_0000 in
    let e₁ : x / 256 ≡ b + c * 0x100 + d * 0x1_0000 = omega arith in
    let e₂ : (b + c * 0x100 + d * 0x1_0000) / 256 ≡ c + d * 0x100 = omega arith in
    let e₃ : (c + d * 0x100) / 256 ≡ d = omega arith in
    let f₀ : x % 256 ≡ a = omega arith in
    let f₁ : (b + c * 0x100 + d * 0x1_0000) % 256 ≡ b = omega arith in
    let f₂ : (c + d * 0x100) % 256 ≡ c = omega arith in
    let f₃ : d % 256 ≡ d = omega arith in
    rw (e₁, e₂, e₃, f₀, f₁, f₂, f₃)

written_first : (n : ℕ) (b : List ℕ) → length b ≡ 4 * n → ((i : ℕ) → get_or b i 0 < 256) → written (first_numbers n b) ≡ b
unfolding first_numbers written
written_first zero [] h small = refl
written_first zero (x ∷ b) h small = absurd (omega arith)
written_first (suc n) [] h small = absurd (omega arith)
written_first (suc n) (x ∷ []) h small = absurd (omega arith)
written_first (suc n) (x ∷ y ∷ []) h small = absurd (omega arith)
written_first (suc n) (x ∷ y ∷ z ∷ []) h small = absurd (omega arith)
written_first (suc n) (x ∷ y ∷ z ∷ w ∷ b) h small =
    rw (bytes_four x y z w (small 0) (small 1) (small 2) (small 3), written_first n b (omega arith) (λ i. small (suc (suc (suc (suc i))))))

-- whole numbers' bytes are written back
pub written_numbers : (b : List ℕ) (n : ℕ) → length b ≡ 4 * n → ((i : ℕ) → get_or b i 0 < 256) → written (numbers_of b) ≡ b
unfolding numbers_of
written_numbers b n h small =
    let e : length b / 4 ≡ n = omega arith in
    rw e (written_first n b h small)

-- ---- fields as numbers

module _ (x : Recorded) (h : length x.marks ≡ length x.values) (few : length x.list < layout_bit) where
  abbrev l : List ℕ
  l = numbers_for x

  abbrev words : ℕ
  words = length x.values

  from_values : drop 2 l ≡ x.values ++ (x.marks ++ (x.base ∷ x.list))
  unfolding numbers_for
  from_values = refl

  from_marks : drop (2 + words) l ≡ x.marks ++ (x.base ∷ x.list)
  from_marks = sym (drop-drop words 2 l) ∙ (ap (drop words) from_values ∙ drop_at x.values _ words refl)

  from_base : drop (2 + 2 * words) l ≡ x.base ∷ x.list
  from_base =
      let e : 2 + words + words ≡ 2 + 2 * words = omega arith in
      ap (λ (n : ℕ). drop n l) (sym e) ∙ (sym (drop-drop words (2 + words) l) ∙ (ap (drop words) from_marks ∙ drop_at x.marks _ words h))

  base_there : get_or l (2 + 2 * words) 0 ≡ x.base
  base_there =
      let e : 2 + 2 * words + 0 ≡ 2 + 2 * words = omega arith in
      ap (λ (n : ℕ). get_or l n 0) (sym e) ∙ (sym (get_or-drop (2 + 2 * words) l 0 0) ∙ ap (λ (y : List ℕ). get_or y 0 0) from_base)

  from_list : drop (3 + 2 * words) l ≡ x.list
  from_list =
      let e : 2 + 2 * words + 1 ≡ 3 + 2 * words = omega arith in
      ap (λ (n : ℕ). drop n l) (sym e) ∙ (sym (drop-drop 1 (2 + 2 * words) l) ∙ ap (drop 1) from_base)

  pub first : get_or l 0 0 ≡ layout_bit + length x.list
  unfolding numbers_for
  first = refl

  pub counted : list_count l ≡ length x.list
  counted = rw first (omega arith)

  pub stated : get_or l 1 0 ≡ words
  unfolding numbers_for
  stated = refl

  -- a record is what its numbers record
  pub recorded_numbers : recorded_in l ≡ x
  unfolding recorded_in
  recorded_numbers =
      let e₁ = take_at x.values (x.marks ++ (x.base ∷ x.list)) words refl in
      let e₂ = take_at x.marks (x.base ∷ x.list) words h in
      let e₃ = take_all (length x.list) x.list (omega arith) in
      rw (counted, stated, from_values, from_marks, base_there, from_list, e₁, e₂, e₃)

module _ (l : List ℕ) (h : length l ≡ 3 + 2 * get_or l 1 0 + list_count l) (bit : get_or l 0 0 ≡ layout_bit + list_count l) where
  abbrev stated_words : ℕ
  stated_words = get_or l 1 0

  rest_length : (n : ℕ) → length (drop n l) ≡ 3 + 2 * stated_words + list_count l - n
  rest_length n = length-drop n l ∙ ap (λ (k : ℕ). k - n) h

  values_length : length (take stated_words (drop 2 l)) ≡ stated_words
  values_length = length-take-le stated_words (drop 2 l) (rw (rest_length 2) (omega arith))

  all_list : take (list_count l) (drop (3 + 2 * stated_words) l) ≡ drop (3 + 2 * stated_words) l
  all_list = take_all (list_count l) (drop (3 + 2 * stated_words) l) (rw (rest_length (3 + 2 * stated_words)) (omega arith))

  list_length : length (drop (3 + 2 * stated_words) l) ≡ list_count l
  list_length = rest_length (3 + 2 * stated_words) ∙ (omega arith)

  base_first : get_or l (2 + 2 * stated_words) 0 ∷ drop (3 + 2 * stated_words) l ≡ drop (2 + 2 * stated_words) l
  base_first =
      let e : suc (2 + 2 * stated_words) ≡ 3 + 2 * stated_words = omega arith in
      sym (drop-cons l (2 + 2 * stated_words) 0 (omega arith) ∙ ap (λ (n : ℕ). get_or l (2 + 2 * stated_words) 0 ∷ drop n l) e)

  marks_first : take stated_words (drop (2 + stated_words) l) ++ drop (2 + 2 * stated_words) l ≡ drop (2 + stated_words) l
  marks_first =
      let e : 2 + stated_words + stated_words ≡ 2 + 2 * stated_words = omega arith in
      let f = ap (λ (n : ℕ). drop n l) (sym e) ∙ sym (drop-drop stated_words (2 + stated_words) l) in
      ap (λ (y : List ℕ). take stated_words (drop (2 + stated_words) l) ++ y) f ∙ take-append-drop stated_words (drop (2 + stated_words) l)

  values_first : take stated_words (drop 2 l) ++ drop (2 + stated_words) l ≡ drop 2 l
  values_first = ap (λ (y : List ℕ). take stated_words (drop 2 l) ++ y) (sym (drop-drop stated_words 2 l)) ∙ take-append-drop stated_words (drop 2 l)

  counts_first : get_or l 0 0 ∷ stated_words ∷ drop 2 l ≡ l
  counts_first = sym (drop-cons l 0 0 (omega arith) ∙ ap (λ (y : List ℕ). get_or l 0 0 ∷ y) (drop-cons l 1 0 (omega arith)))

  -- numbers are those of what they record
  pub numbers_recorded : numbers_for (recorded_in l) ≡ l
  unfolding numbers_for recorded_in
  numbers_recorded = rw (all_list, list_length, values_length, base_first, marks_first, values_first, ← bit) counts_first

-- ---- both ways

-- a record is what its bytes record
pub read_back : (x : Recorded) → Writable x → of_bytes (to_bytes x) ≡ x
read_back x w = rw (numbers_written (numbers_for x) w.numbers) (recorded_numbers x w.marked w.listed)

-- and has as many bytes as its counts call for
numbers_count : (x : Recorded) → length x.marks ≡ length x.values → length (numbers_for x) ≡ 3 + 2 * length x.values + length x.list
unfolding numbers_for
numbers_count x h = simp length-append (omega (arith, h))

pub written_sized : (x : Recorded) → Writable x → sized (to_bytes x) ≡ true
unfolding sized
written_sized x w =
    let e : length (to_bytes x) ≡ 4 * (3 + 2 * length x.values + length x.list) =
    written-length (numbers_for x) ∙ ap (λ (n : ℕ). 4 * n) (numbers_count x w.marked)
    in
    let f = first x w.marked w.listed in
    let b : leb layout_bit (layout_bit + length x.list) ≡ true = le-leb layout_bit (layout_bit + length x.list) (omega arith) in
    rw (numbers_written (numbers_for x) w.numbers, counted x w.marked w.listed, stated x w.marked w.listed, f, b) (eq-eqb _ _ e)

-- and bytes, as many as the counts call for, are those of what they record
pub written_back : (b : List ℕ) → sized b ≡ true → ((n : ℕ) → get_or b n 0 < 256) → to_bytes (of_bytes b) ≡ b
unfolding sized
written_back b e small =
    let l = numbers_of b in
    let n = 3 + 2 * get_or l 1 0 + list_count l in
    let h : length b ≡ 4 * n = eqb-true (length b) (4 * n) (snd (leb layout_bit (get_or l 0 0)) _ e) in
    let t : layout_bit ≤ get_or l 0 0 = leb-true layout_bit (get_or l 0 0) (fst (leb layout_bit (get_or l 0 0)) _ e) in
    let bit : get_or l 0 0 ≡ layout_bit + list_count l = omega (arith, t, numbers_Below b small 0) in
    let k : length l ≡ n = numbers_length b ∙ (omega (arith, h)) in
    rw (numbers_recorded l k bit) (written_numbers b n h small)
