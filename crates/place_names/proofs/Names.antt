-- Names of places.
use Prim.Native.Nat.{ℕ, ◌+◌, ◌-◌, ◌≤◌, ◌<◌}
use native.Mathlib.Omega.{arith}
use mathlib.Core.Path.{◌≡◌, refl, sym, ◌∙◌, ap}
use mathlib.Core.Bool.{Bool, true, false, cond, ◌&&◌}
use mathlib.Core.List.{List, [], ◌∷◌}
use lib.Dec.{eqb, ltb}
use lib.ListN.{length, get_or, take, drop}
use borrow.Author.Tests.{eq-eqb, ne_eqb, eqb-true, ltb-true, ltb-false, lt-ltb, le-ltb}
use mathlib.Core.Bool.{true≢false}
use Rattle.machine.specs.Place.{Place, single, core, word, exc, place, before}
use Rattle.numerals.specs.Number.{Number, Wrong, decimal_of, decimal_text}
use Rattle.place_names.specs.Place.{same, within, letter_of, name_of, place_text, flags_text, control_text, fpexc_text, nzcv_text, exceptions_text}
use Rattle.numerals.proofs.Reading.{rest}

-- ---- the same text

same_self : (t : List ℕ) → same t t ≡ true
unfolding same
same_self [] = refl
same_self (x ∷ t) = rw (eq-eqb x x refl, same_self t)

same_is : (s t : List ℕ) → same s t ≡ true → s ≡ t
unfolding same
same_is [] [] e = refl
same_is [] (y ∷ t) e = absurd (true≢false (sym e))
same_is (x ∷ s) [] e = absurd (true≢false (sym e))
same_is (x ∷ s) (y ∷ t) e = by (eqb x y) refl (λ k. same_is s t k) e
  where
    by : (b : Bool) → eqb x y ≡ b → (same s t ≡ true → s ≡ t) → (b && same s t) ≡ true → (x ∷ s) ≡ (y ∷ t)
    by true f i g = rw (eqb-true x y f, i g)
    by false f i g = let q : ◌≡◌ {A = ℕ} 0 1 = cc in absurd (omega arith)

-- what a comparison of two texts answers
pub compared : (b : Bool) (s t : List ℕ) → (b ≡ true → s ≡ t) × (s ≡ t → b ≡ true) → same s t ≡ b
compared true s t h = rw (h.0 refl) (same_self t)
compared false s t h = by (same s t) refl
  where
    by : (k : Bool) → same s t ≡ k → k ≡ false
    by true e = sym (h.1 (same_is s t e))
    by false e = refl

-- ---- a letter and a number

-- a text's first byte and what follows
module _ (from count : ℕ) where
  after : List ℕ → Number
  after t = within (decimal_of t) from count

  rest_after : (t : List ℕ) → after (take (length t - 1) (drop 1 t)) ≡ after (drop 1 t)
  rest_after t = ap after (rest t 1)

one_at : (t : List ℕ) → 1 ≤ length t → t ≡ get_or t 0 0 ∷ drop 1 t
one_at [] h = absurd (omega arith)
one_at (b ∷ t) h = refl

-- by the first byte
letter_by : (b : ℕ) (t : List ℕ) → letter_of (b ∷ t) ≡ cond (eqb b 115) (after 0 32 t) (cond (eqb b 114) (after 32 16 t) (cond (eqb b 119) (after before 16384 t) (after 0 (before + 16384) (b ∷ t))))
unfolding letter_of after
letter_by b t = refl

pub letter_empty : (t : List ℕ) → length t < 1 → Wrong ≡ letter_of t
unfolding letter_of
letter_empty [] h = refl
letter_empty (b ∷ t) h = absurd (omega arith)

module _ (t : List ℕ) (h : 1 ≤ length t) where
  split : letter_of t ≡ letter_of (get_or t 0 0 ∷ drop 1 t)
  split = ap letter_of (one_at t h)

  pub letter_s : get_or t 0 0 ≡ 115 → within (decimal_of (take (length t - 1) (drop 1 t))) 0 32 ≡ letter_of t
  unfolding after
  letter_s e = rest_after 0 32 t ∙ sym (split ∙ letter_by (get_or t 0 0) (drop 1 t) ∙ rw e)

  module _ (s : get_or t 0 0 ≡ 115 → ⊥) where
    pub letter_r : get_or t 0 0 ≡ 114 → within (decimal_of (take (length t - 1) (drop 1 t))) 32 16 ≡ letter_of t
    unfolding after
    letter_r e = rest_after 32 16 t ∙ sym (split ∙ letter_by (get_or t 0 0) (drop 1 t) ∙ rw e)

    module _ (r : get_or t 0 0 ≡ 114 → ⊥) where
      pub letter_w : get_or t 0 0 ≡ 119 → within (decimal_of (take (length t - 1) (drop 1 t))) before 16384 ≡ letter_of t
      unfolding after
      letter_w e = rest_after before 16384 t ∙ sym (split ∙ letter_by (get_or t 0 0) (drop 1 t) ∙ rw e)

      pub letter_none : (get_or t 0 0 ≡ 119 → ⊥) → within (decimal_of t) 0 (before + 16384) ≡ letter_of t
      unfolding after
      letter_none w =
          sym
          (split ∙ letter_by (get_or t 0 0) (drop 1 t)
          ∙ rw (ne_eqb (get_or t 0 0) 115 s, ne_eqb (get_or t 0 0) 114 r, ne_eqb (get_or t 0 0) 119 w) (ap (after 0 (before + 16384)) (sym (one_at t h))))

-- ---- which bits a place has

-- what holds of the places of whole words holds of all but four
module _ (P : Place → Type 0) (s : (n : ℕ) → P (single n)) (r : (n : ℕ) → P (core n)) (w : (n : ℕ) → P (word n)) (x : P exc) where
  pub by_word : (p : ℕ) → (p ≡ 48 → ⊥) → (p ≡ 49 → ⊥) → (p ≡ 51 → ⊥) → (p ≡ 52 → ⊥) → P (place p)
  unfolding place
  by_word p f c z v = by _ _ _ _ _ _ _ refl refl refl refl refl refl refl
    where
      by : (a b d e g h q : Bool) → ltb p 32 ≡ a → ltb p 48 ≡ b → ltb p 49 ≡ d → ltb p 50 ≡ e → ltb p 51 ≡ g → ltb p 52 ≡ h → ltb p before ≡ q → P (place p)
      by true b d e g h q i j k l m n o = rw i (s p)
      by false true d e g h q i j k l m n o = rw (i, j) (r (p - 32))
      by false false true e g h q i j k l m n o = absurd (f (omega (arith, ltb-false p 48 j, ltb-true p 49 k)))
      by false false false true g h q i j k l m n o = absurd (c (omega (arith, ltb-false p 49 k, ltb-true p 50 l)))
      by false false false false true h q i j k l m n o = rw (i, j, k, l, m) x
      by false false false false false true q i j k l m n o = absurd (z (omega (arith, ltb-false p 51 m, ltb-true p 52 n)))
      by false false false false false false true i j k l m n o = absurd (v (omega (arith, ltb-false p 52 n, ltb-true p before o)))
      by false false false false false false false i j k l m n o = rw (i, j, k, l, m, n, o) (w (p - before))

-- ---- the name of a place, by its number

module _ (p : ℕ) where
  pub name_single : p < 32 → 115 ∷ decimal_text p ≡ place_text p
  unfolding place_text name_of place
  name_single h = rw (lt-ltb p 32 h)

  pub name_core : 32 ≤ p → p < 48 → 114 ∷ decimal_text (p - 32) ≡ place_text p
  unfolding place_text name_of place
  name_core g h = rw (le-ltb p 32 g, lt-ltb p 48 h)

  pub name_flags : 48 ≤ p → p < 49 → flags_text ≡ place_text p
  unfolding place_text name_of place
  name_flags g h = rw (le-ltb p 32 (omega arith), le-ltb p 48 g, lt-ltb p 49 h)

  pub name_control : 49 ≤ p → p < 50 → control_text ≡ place_text p
  unfolding place_text name_of place
  name_control g h = rw (le-ltb p 32 (omega arith), le-ltb p 48 (omega arith), le-ltb p 49 g, lt-ltb p 50 h)

  pub name_fpexc : 50 ≤ p → p < 51 → fpexc_text ≡ place_text p
  unfolding place_text name_of place
  name_fpexc g h = rw (le-ltb p 32 (omega arith), le-ltb p 48 (omega arith), le-ltb p 49 (omega arith), le-ltb p 50 g, lt-ltb p 51 h)

  pub name_nzcv : 51 ≤ p → p < 52 → nzcv_text ≡ place_text p
  unfolding place_text name_of place
  name_nzcv g h =
      rw (le-ltb p 32 (omega arith), le-ltb p 48 (omega arith), le-ltb p 49 (omega arith), le-ltb p 50 (omega arith), le-ltb p 51 g, lt-ltb p 52 h)

  pub name_exceptions : 52 ≤ p → p < before → exceptions_text ≡ place_text p
  unfolding place_text name_of place
  name_exceptions g h =
      rw (le-ltb p 32 (omega arith), le-ltb p 48 (omega arith), le-ltb p 49 (omega arith), le-ltb p 50 (omega arith), le-ltb p 51 (omega arith), le-ltb p 52 g, lt-ltb p before h)

  pub name_word : before ≤ p → 119 ∷ decimal_text (p - before) ≡ place_text p
  unfolding place_text name_of place
  name_word g =
      rw (le-ltb p 32 (omega arith), le-ltb p 48 (omega arith), le-ltb p 49 (omega arith), le-ltb p 50 (omega arith), le-ltb p 51 (omega arith), le-ltb p 52 (omega arith), le-ltb p before g)
