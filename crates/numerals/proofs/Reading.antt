-- Digits, and a number read digit by digit.
use Prim.Native.Nat.{ℕ, ◌+◌, ◌-◌, ◌*◌, ◌^◌, ◌≤◌, ◌<◌}
use native.Mathlib.Omega.{arith}
use native.Mathlib.Numerals.{add-one}
use mathlib.Core.Path.{◌≡◌, refl, sym, ◌∙◌}
use mathlib.Core.List.{List, [], ◌∷◌}
use lib.ListN.{length, get_or, take, drop, length-drop, drop_of_length-le}
use lib.Seq.{drop-cons, take_all}
use lib.Dec.{eqb}
use borrow.Author.Tests.{lt-ltb, le-ltb, eqb-true}
use Rattle.std.specs.Prelude.{◌≢◌, Bool, true, false, cond, Result, Ok, Err, Some, None}
use Rattle.std.specs.Result.{OkIff, result_ok}
use Rattle.numerals.specs.Number.{Value, Wrong}
use Rattle.numerals.specs.Number.{digit_of, read_from, hex_of, value_of}

-- a number that was tried to fit a word
module _ {E : Type 0} (n : ℕ) where
  pub word_fits : (r : Result ℕ E) (x : ℕ) → OkIff r (n < 2 ^ 32) n → result_ok r ≡ Some x → (n < 2 ^ 32) × (n ≡ x)
  word_fits (Ok y) x h e = (h.0, let q : y ≡ x = cc in sym h.1 ∙ q)
  word_fits (Err y) x h e = let q : ◌≡◌ {A = ℕ} 0 1 = cc in absurd (omega arith)

  pub word_exceeds : (r : Result ℕ E) → OkIff r (n < 2 ^ 32) n → result_ok r ≡ None → 2 ^ 32 ≤ n
  word_exceeds (Ok y) h e = let q : ◌≡◌ {A = ℕ} 0 1 = cc in absurd (omega arith)
  word_exceeds (Err y) h e = omega (arith, h)

module _ (base : ℕ) (t : List ℕ) (i v d : ℕ) (h : i < length t) (e : d ≡ digit_of (get_or t i 0)) where
  pub read_none : base ≤ d → Wrong ≡ read_from base (drop i t) v
  unfolding read_from
  read_none n = rw (drop-cons t i 0 h, ← e, le-ltb d base n)

  pub read_large : d < base → 2 ^ 32 ≤ v * base + d → Wrong ≡ read_from base (drop i t) v
  unfolding read_from
  read_large n l = rw (drop-cons t i 0 h, ← e, lt-ltb d base n, le-ltb (v * base + d) (2 ^ 32) l)

  pub read_on : d < base → v * base + d < 2 ^ 32 → read_from base (drop (i + 1) t) (v * base + d) ≡ read_from base (drop i t) v
  unfolding read_from
  read_on n l = rw (add-one i, drop-cons t i 0 h, ← e, lt-ltb d base n, lt-ltb (v * base + d) (2 ^ 32) l)

pub read_end : (base : ℕ) (t : List ℕ) (i v : ℕ) → length t ≤ i → Value v ≡ read_from base (drop i t) v
unfolding read_from
read_end base t i v h = rw (drop_of_length-le t h)

-- what stands from a on, as the part of a slice
pub rest : (t : List ℕ) (a : ℕ) → take (length t - a) (drop a t) ≡ drop a t
rest t a = take_all (length t - a) (drop a t) (omega (arith, length-drop a t))

-- a number with or without 0x before it
pub value_marked : (t u : List ℕ) → t ≡ 48 ∷ 120 ∷ u → hex_of u ≡ value_of t
unfolding value_of
value_marked t u e = rw e

pub value_plain : (t : List ℕ) → ((u : List ℕ) → t ≢ 48 ∷ 120 ∷ u) → hex_of t ≡ value_of t
unfolding value_of
value_plain [] h = refl
value_plain (a ∷ []) h = refl
value_plain (a ∷ b ∷ t) h = by (eqb a 48) (eqb b 120) refl refl
  where
    by : (i j : Bool) → eqb a 48 ≡ i → eqb b 120 ≡ j → hex_of (a ∷ b ∷ t) ≡ cond i (cond j (hex_of t) (hex_of (a ∷ b ∷ t))) (hex_of (a ∷ b ∷ t))
    by true true e f = absurd (h t (rw (eqb-true a 48 e, eqb-true b 120 f)))
    by true false e f = refl
    by false j e f = refl
