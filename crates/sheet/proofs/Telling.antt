-- Equal lines and equal sheets tell the same, and what of a page is kept.
use Prim.Native.Nat.{ℕ, zero, suc, ◌*◌, ◌/◌, ◌%◌, ◌<◌}
use native.Mathlib.Omega.{arith}
use native.Mathlib.Decide.{dec_lt}
use mathlib.Core.Path.{◌≡◌, refl, sym, ◌∙◌, ap, subst}
use mathlib.Core.Bool.{Bool, true, false, cond}
use lib.Dec.{ltb}
use mathlib.Core.List.{List, ◌++◌}
use lib.ListN.{length, get_or, take, drop}
use lib.Seq.{take_at, drop_at}
use Rattle.numerals.specs.Number.{digits_text, hex_text}
use Rattle.numerals.proofs.Digits.{digits_length}
use Rattle.numerals.proofs.Back.{digits_same}
use Rattle.machine.specs.declared.Machine.{Machine}
use Rattle.registers.specs.Registers.{low_index, high_index}
use Rattle.machine.specs.Place.{single}
use Rattle.meaning.specs.Map.{Map, known}
use Rattle.sheet.specs.Line.{Line, line, spaces, letter_of, characters, line_text}
use Rattle.sheet.specs.Sheet.{line_of, lines_text, sheet_text, sheet_bytes, Reply, reply, laid_out}
use Rattle.sheet.specs.Telling.{Fits, LinesTell, Words, PagesTell, Kept, PagesKept}
use Rattle.sheet.proofs.Lines.{forty}
use Rattle.sheet.proofs.Pages.{lines_length}

-- two texts put together of parts of equal length
in_parts : (k : ℕ) (s s' t t' : List ℕ) → length s ≡ k → length s' ≡ k → s ++ t ≡ s' ++ t' → (s ≡ s') × (t ≡ t')
in_parts k s s' t t' h h' e =
    (sym (take_at s t k h) ∙ (ap (take k) e ∙ take_at s' t' k h'), sym (drop_at s t k h) ∙ (ap (drop k) e ∙ drop_at s' t' k h'))

-- ---- a line

letter_same : (a b : Bool) → letter_of a ≡ letter_of b → a ≡ b
unfolding letter_of
letter_same true true e = refl
letter_same false false e = refl
letter_same true false e = absurd (omega (arith, e))
letter_same false true e = absurd (omega (arith, e))

-- digits before a space
spaced : (base n x y : ℕ) (t t' : List ℕ) → digits_text base n x ++ (spaces 1 ++ t) ≡ digits_text base n y ++ (spaces 1 ++ t') → (digits_text base n x ≡ digits_text base n y) × (t ≡ t')
spaced base n x y t t' e =
    let parts = in_parts n (digits_text base n x) (digits_text base n y) (spaces 1 ++ t) (spaces 1 ++ t') (digits_length base n x) (digits_length base n y) e in
    (parts.0, (in_parts 1 (spaces 1) (spaces 1) t t' refl refl parts.1).1)

same_line : (n n' h h' l l' : ℕ) (a a' b b' : Bool) → n ≡ n' → h ≡ h' → l ≡ l' → a ≡ a' → b ≡ b' → line n h l a b ≡ line n' h' l' a' b'
same_line n n' h h' l l' a a' b b' en eh el ea eb = rw (en, eh, el, ea, eb)

pub lines_tell : LinesTell
unfolding characters hex_text
lines_tell x y f g e =
    let numbers = spaced 10 2 x.number y.number _ _ e in
    let highs = spaced 16 8 x.high y.high _ _ numbers.1 in
    let lows = spaced 16 8 x.low y.low _ _ highs.1 in
    let letters = lows.1 in
    let a : letter_of x.high_known ≡ letter_of y.high_known = ap (λ (t : List ℕ). get_or t 0 0) letters in
    let b : letter_of x.low_known ≡ letter_of y.low_known = ap (λ (t : List ℕ). get_or t 1 0) letters in
    same_line x.number y.number x.high y.high x.low y.low x.high_known y.high_known x.low_known y.low_known
    (digits_same 10 (omega arith) (omega arith) 2 x.number y.number f.number g.number numbers.0)
    (digits_same 16 (omega arith) (omega arith) 8 x.high y.high f.high g.high highs.0)
    (digits_same 16 (omega arith) (omega arith) 8 x.low y.low f.low g.low lows.0)
    (letter_same x.high_known y.high_known a)
    (letter_same x.low_known y.low_known b)

-- ---- a page

-- equal lines one after the other are equal each
each_line : (n : ℕ) (f g : ℕ → Line) → lines_text n f ≡ lines_text n g → (k : ℕ) → k < n → characters (f k) ≡ characters (g k)
unfolding lines_text line_text
each_line zero f g e k h = absurd (omega arith)
each_line (suc n) f g e k h = by (dec_lt k n) (each_line n f g parts.0 k)
  where
    parts : (lines_text n f ≡ lines_text n g) × (line_text (f n) ≡ line_text (g n))
    parts = in_parts (41 * n) (lines_text n f) (lines_text n g) (line_text (f n)) (line_text (g n)) (lines_length n f) (lines_length n g) e

    by : Dec (k < n) → (k < n → characters (f k) ≡ characters (g k)) → characters (f k) ≡ characters (g k)
    by (yes i) before = before i
    by (no i) before =
        let q : n ≡ k = omega arith in
        subst (λ (j : ℕ). characters (f j) ≡ characters (g j)) q (in_parts 40 (characters (f n)) (characters (g n)) _ _ (forty (f n)) (forty (g n)) parts.1).0

sheet_length : (m : Machine) (μ : Map) → length (sheet_text m μ) ≡ sheet_bytes
unfolding sheet_text
sheet_length m μ = lines_length 16 (line_of m.s μ)

pub pages_kept : PagesKept
unfolding laid_out
pages_kept m μ page = by (ltb (length page) sheet_bytes)
  where
    by : (b : Bool) → Kept page (cond b (reply 8 page) (reply 0 (sheet_text m μ ++ drop sheet_bytes page)))
    by true = record { refused = λ n. refl; beyond = refl }
    by false = record { refused = λ n. absurd (n refl); beyond = drop_at (sheet_text m μ) (drop sheet_bytes page) sheet_bytes (sheet_length m μ) }

-- the sheet stands at the start of a page that is not turned away
on_page : (m : Machine) (μ : Map) (page : List ℕ) → (laid_out m μ page).refusal ≡ 0 → take sheet_bytes (laid_out m μ page).page ≡ sheet_text m μ
unfolding laid_out
on_page m μ page = by (ltb (length page) sheet_bytes)
  where
    y : Bool → Reply
    y b = cond b (reply 8 page) (reply 0 (sheet_text m μ ++ drop sheet_bytes page))

    by : (b : Bool) → (y b).refusal ≡ 0 → take sheet_bytes (y b).page ≡ sheet_text m μ
    by true e = absurd (omega (arith, e))
    by false e = take_at (sheet_text m μ) (drop sheet_bytes page) sheet_bytes (sheet_length m μ)

-- equal in single n and in its mark
abbrev Alike : Machine → Machine → Map → Map → ℕ → Type 0
Alike m m' μ μ' n = (get_or m.s n 0 ≡ get_or m'.s n 0) × (known μ (single n) ≡ known μ' (single n))

module _ (m m' : Machine) (μ μ' : Map) (w : Words m) (w' : Words m') (e : sheet_text m μ ≡ sheet_text m' μ') where
  double : (k : ℕ) → k < 16 → line_of m.s μ k ≡ line_of m'.s μ' k
  unfolding sheet_text
  double k h = lines_tell (line_of m.s μ k) (line_of m'.s μ' k) (fits m μ w) (fits m' μ' w') (each_line 16 (line_of m.s μ) (line_of m'.s μ') e k h)
    where
      fits : (m : Machine) (μ : Map) → Words m → Fits (line_of m.s μ k)
      fits m μ w = record { number = omega arith; high = w (high_index k) (omega arith); low = w (low_index k) (omega arith) }

  -- single n is a half of double n / 2
  half : (n : ℕ) → n < 32 → Alike m m' μ μ' n
  half n h = by (dec_lt (n % 2) 1)
    where
      told : line_of m.s μ (n / 2) ≡ line_of m'.s μ' (n / 2)
      told = double (n / 2) (omega arith)

      by : Dec (n % 2 < 1) → Alike m m' μ μ' n
      by (yes i) = let q : low_index (n / 2) ≡ n = omega arith in subst (Alike m m' μ μ') q (ap Line.low told, ap Line.low_known told)
      by (no i) = let q : high_index (n / 2) ≡ n = omega arith in subst (Alike m m' μ μ') q (ap Line.high told, ap Line.high_known told)

pub pages_tell : PagesTell
pages_tell m m' μ μ' page page' w w' h h' e =
    let same = half m m' μ μ' w w' (sym (on_page m μ page h) ∙ (e ∙ on_page m' μ' page' h')) in
    record { words = λ n l. (same n l).0; marks = λ n l. (same n l).1 }
