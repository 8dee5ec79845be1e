-- The laws of the number of known places: it is the number of ones of the word of marks, without the bits above the last place, and of the window's.
use Prim.Native.Nat.{ℕ, ◌+◌, ◌*◌, ◌%◌, ◌^◌, ◌<◌, ◌≤◌}
use native.Mathlib.Omega.{arith}
use native.Mathlib.Nat.{mod-lt}
use mathlib.Core.Path.{◌≡◌, refl, sym, ap, ap₂, ◌∙◌}
use mathlib.Core.Bool.{Bool, true, false, cond}
use mathlib.Core.List.{List, [], ◌∷◌}
use lib.Count.{ones, ones_step}
use lib.Count as C
use lib.Dec.{eqb}
use lib.Pow.{pow_pos}
use lib.ListN.{length, get_or, set}
use Rattle.bits.specs.Psr.{one_of}
use Rattle.machine.specs.Place.{before}
use Rattle.window_marks.specs.Marks.{is_one, ones_of}
use Rattle.window_marks.proofs.Ones.{ones_set}
use Rattle.place_marks.specs.Word.{number_of, marks_of, map_in, word_of}
use Rattle.place_marks.proofs.Word.{half, odd, one_lt, word_marks}
use Rattle.known_places.specs.Count.{trues, known_before, known_places}

-- ---- before the window

none : ones 0 ≡ 0
unfolding ones
none = refl

-- the number with these bits has as many ones
bits_counted : (l : List Bool) → ones (number_of l) ≡ trues l
unfolding number_of trues
bits_counted [] = none
bits_counted (b ∷ l) =
    ones_step (number_of l * 2 + one_of b)
    ∙ (ap₂ (λ (x y : ℕ). x + ones y) (odd (number_of l) (one_of b) (one_lt b)) (half (number_of l) (one_of b) (one_lt b))
    ∙ ap (λ (x : ℕ). one_of b + x) (bits_counted l))

pub before_counted : (m : ℕ) → ones (m % 2 ^ before) ≡ known_before (marks_of m)
unfolding known_before word_of
before_counted m = ap ones (sym (word_marks m)) ∙ bits_counted _

pub before-le : (m : ℕ) → ones (m % 2 ^ before) ≤ before
before-le m = C.ones-le before (m % 2 ^ before) (mod-lt m (pow_pos before))

-- ---- the window

byte_one : (b : Bool) → is_one (one_of b) ≡ one_of b
byte_one true = refl
byte_one false = refl

one_byte : (t : Bool) → one_of t ≡ cond t 1 0
one_byte true = refl
one_byte false = refl

module _ (l : List ℕ) (i : ℕ) (h : i < length l) where
  pub one_in : is_one (get_or l i 0) ≤ ones_of l
  one_in = omega (arith, ones_set l i 0 h)

  pub ones_with : (b : Bool) → ones_of (set l i (one_of b)) + is_one (get_or l i 0) ≡ ones_of l + one_of b
  ones_with b = ones_set l i (one_of b) h ∙ ap (λ (x : ℕ). ones_of l + x) (byte_one b)

  -- the mark that is replaced as a byte
  pub ones_for : (b : Bool) → ones_of (set l i (one_of b)) + one_of (eqb (get_or l i 0) 1) ≡ ones_of l + one_of b
  ones_for b = ap (λ (x : ℕ). ones_of (set l i (one_of b)) + x) (one_byte (eqb (get_or l i 0) 1)) ∙ ones_with b

-- ---- together

pub places_counted : (m : ℕ) (w : List ℕ) (a b : ℕ) → a ≡ known_before (marks_of m) → b ≡ ones_of w → a + b ≡ known_places (map_in m w)
unfolding known_places map_in
places_counted m w a b p q = rw (p, q)
