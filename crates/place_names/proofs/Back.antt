-- What is printed of a place, read back: its name and its number.
use Prim.Native.Nat.{ℕ, suc, ◌+◌, ◌-◌, ◌^◌, ◌≤◌, ◌<◌}
use native.Mathlib.Omega.{arith}
use native.Mathlib.Nat.{zero-add}
use mathlib.Core.Path.{◌≡◌, refl, sym, ◌∙◌, ap}
use mathlib.Core.Bool.{Bool, true, false}
use mathlib.Core.List.{List, [], ◌∷◌}
use lib.Dec.{ltb}
use lib.ListN.{length}
use borrow.Author.Tests.{lt-ltb, ltb-true, ltb-false, ne_eqb}
use Rattle.machine.specs.Place.{before}
use Rattle.numerals.specs.Number.{Value}
use Rattle.numerals.specs.Number.{digit_of, decimal_of, digits_text, decimal_text}
use Rattle.place_names.specs.Place.{place_of, place_text, letter_of, same, within, flags_text, control_text, fpexc_text, nzcv_text, exceptions_text}
use Rattle.numerals.proofs.Digits.{digits_length}
use Rattle.numerals.proofs.Back.{Digits, more, Digits-all, decimal_back, strip_some, strip_all}
use Rattle.place_names.proofs.Names.{name_single, name_core, name_flags, name_control, name_fpexc, name_nzcv, name_exceptions, name_word}

-- ---- a place by its name

flags_back : place_of flags_text ≡ Value 48
unfolding place_of same
flags_back = refl

control_back : place_of control_text ≡ Value 49
unfolding place_of same
control_back = refl

fpexc_back : place_of fpexc_text ≡ Value 50
unfolding place_of same
fpexc_back = refl

nzcv_back : place_of nzcv_text ≡ Value 51
unfolding place_of same
nzcv_back = refl

exceptions_back : place_of exceptions_text ≡ Value 52
unfolding place_of same
exceptions_back = refl

module _ (p : ℕ) where
  -- a letter's number
  lettered : (n from count : ℕ) → n < 2 ^ 32 → n < count → within (decimal_of (decimal_text n)) from count ≡ Value (from + n)
  lettered n from count h k = rw (decimal_back n h, lt-ltb n count k)

  single_back : p < 32 → place_of (115 ∷ decimal_text p) ≡ Value p
  unfolding place_of same letter_of
  single_back h = lettered p 0 32 (omega arith) h ∙ ap Value (zero-add p)

  core_back : 32 ≤ p → p < 48 → place_of (114 ∷ decimal_text (p - 32)) ≡ Value p
  unfolding place_of same letter_of
  core_back g h = lettered (p - 32) 32 16 (omega arith) (omega arith) ∙ ap Value (up 32 g)
    where
      up : (k : ℕ) → k ≤ p → k + (p - k) ≡ p
      up k g = omega arith

  word_back : before ≤ p → p < before + 16384 → place_of (119 ∷ decimal_text (p - before)) ≡ Value p
  unfolding place_of same letter_of
  word_back g h = lettered (p - before) before 16384 (omega arith) (omega arith) ∙ ap Value (up before g)
    where
      up : (k : ℕ) → k ≤ p → k + (p - k) ≡ p
      up k g = omega arith

  at : (k : ℕ) (t : List ℕ) → place_of t ≡ Value k → k ≤ p → p < suc k → t ≡ place_text p → place_of (place_text p) ≡ Value p
  at k t e g h n = ap place_of (sym n) ∙ e ∙ ap Value (eq g h)
    where
      eq : k ≤ p → p < suc k → k ≡ p
      eq g h = omega arith

  -- the eight kinds of places
  pub place_back : p < before + 16384 → place_of (place_text p) ≡ Value p
  place_back top = by (ltb p 32) (ltb p 48) (ltb p 49) (ltb p 50) (ltb p 51) (ltb p 52) (ltb p before) refl refl refl refl refl refl refl
    where
      by : (a b c d e f g : Bool) → ltb p 32 ≡ a → ltb p 48 ≡ b → ltb p 49 ≡ c → ltb p 50 ≡ d → ltb p 51 ≡ e → ltb p 52 ≡ f → ltb p before ≡ g
          → place_of (place_text p) ≡ Value p
      by true b c d e f g i j k l m n o = ap place_of (sym (name_single p (ltb-true p 32 i))) ∙ single_back (ltb-true p 32 i)
      by false true c d e f g i j k l m n o =
          ap place_of (sym (name_core p (ltb-false p 32 i) (ltb-true p 48 j))) ∙ core_back (ltb-false p 32 i) (ltb-true p 48 j)
      by false false true d e f g i j k l m n o =
          at 48 flags_text flags_back (ltb-false p 48 j) (ltb-true p 49 k) (name_flags p (ltb-false p 48 j) (ltb-true p 49 k))
      by false false false true e f g i j k l m n o =
          at 49 control_text control_back (ltb-false p 49 k) (ltb-true p 50 l) (name_control p (ltb-false p 49 k) (ltb-true p 50 l))
      by false false false false true f g i j k l m n o =
          at 50 fpexc_text fpexc_back (ltb-false p 50 l) (ltb-true p 51 m) (name_fpexc p (ltb-false p 50 l) (ltb-true p 51 m))
      by false false false false false true g i j k l m n o =
          at 51 nzcv_text nzcv_back (ltb-false p 51 m) (ltb-true p 52 n) (name_nzcv p (ltb-false p 51 m) (ltb-true p 52 n))
      by false false false false false false true i j k l m n o =
          at 52 exceptions_text exceptions_back (ltb-false p 52 n) (ltb-true p before o) (name_exceptions p (ltb-false p 52 n) (ltb-true p before o))
      by false false false false false false false i j k l m n o =
          ap place_of (sym (name_word p (ltb-false p before o))) ∙ word_back (ltb-false p before o) top

-- ---- a place by its number

-- a byte that is no digit
other : (b k : ℕ) → digit_of b < 10 → 10 ≤ digit_of k → b ≡ k → ⊥
other b k h g e = omega (arith, ap digit_of e)

Digits-letter : (t : List ℕ) → 1 ≤ length t → Digits 10 t → place_of t ≡ within (decimal_of t) 0 (before + 16384)
unfolding place_of same letter_of digit_of
Digits-letter [] h k = absurd (omega arith)
Digits-letter (b ∷ t) h (more d k) =
    rw (ne_eqb b 102 (other b 102 d (omega arith)), ne_eqb b 99 (other b 99 d (omega arith)), ne_eqb b 110 (other b 110 d (omega arith)), ne_eqb b 101 (other b 101 d (omega arith)), ne_eqb b 115 (other b 115 d (omega arith)), ne_eqb b 114 (other b 114 d (omega arith)), ne_eqb b 119 (other b 119 d (omega arith)))

pub number_back : (p : ℕ) → p < before + 16384 → place_of (decimal_text p) ≡ Value p
unfolding decimal_text
number_back p h =
    Digits-letter (decimal_text p) (strip_some 9 (digits_text 10 10 p) (omega (arith, digits_length 10 10 p))) (strip_all 9 (Digits-all 10 (omega arith) (omega arith) 10 p))
    ∙ lettered p p 0 (before + 16384) (omega arith) h
    ∙ ap Value (zero-add p)
