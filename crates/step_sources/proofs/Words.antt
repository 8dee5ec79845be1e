-- An unknown one of the words of registers.
use Prim.Native.Nat.{ℕ, ◌+◌, ◌*◌, ◌%◌}
use mathlib.Core.Path.{◌≡◌, refl, ap, sym, ◌∙◌}
use mathlib.Core.Bool.{Bool, true, false, cond, ◌&&◌, false≢true}
use mathlib.Core.Logic.{inl, inr}
use mathlib.Core.List.{List, [], ◌∷◌}
use lib.Ieee.{Format, binary32, binary64}
use Rattle.machine.specs.Place.{Place, place, number, s_word, low_word, high_word, control}
use Rattle.meaning.specs.Map.{Map, known}
use Rattle.numbers.specs.Arithmetic.{accumulates}
use Rattle.numbers.specs.declared.arithmetic.Arithmetic.{Arithmetic}
use Rattle.short_vectors.specs.Register.{words_of}
use Rattle.arithmetic_steps.specs.Arithmetic.{operands}
use Rattle.register_marks.specs.Register.{known_in}
use Rattle.place_marks.specs.Word.{map_in}
use Rattle.place_marks.proofs.Places.{place-control}
use Rattle.sources.specs.Source.{Picks}
use Rattle.sources.proofs.Picking.{single_place, low_place, high_place, One, Picked, pick_last, pick_first, pick_on, Tells}

and_l : (x y : Bool) → (x && y) ≡ true → x ≡ true
and_l true y h = refl
and_l false y h = h

and_r : (x y : Bool) → (x && y) ≡ true → y ≡ true
and_r true y h = h
and_r false y h = absurd (false≢true h)

module _ (μ : Map) where
  pub register_on : (f : Format) (n : ℕ) (ns : List ℕ) (p : Place) → known_in f μ n ≡ true → Picked μ (words_of f ns) p → Picked μ (words_of f (n ∷ ns)) p
  register_on binary32 n ns p g f = pick_on μ (s_word n) (words_of binary32 ns) p g f
  register_on binary64 n ns p g f =
      pick_on μ (low_word n) (high_word n ∷ words_of binary64 ns) p (and_r (known μ (high_word n)) (known μ (low_word n)) g)
      (pick_on μ (high_word n) (words_of binary64 ns) p (and_l (known μ (high_word n)) (known μ (low_word n)) g) f)

  pub register_first : (f : Format) (n : ℕ) (ns : List ℕ) (p : Place) → known_in f μ n ≡ false → Picked μ (words_of f (n ∷ [])) p → One μ (words_of f (n ∷ ns)) p
  register_first binary32 n ns p u f = by (f u)
    where
      by : One μ (s_word n ∷ []) p → One μ (s_word n ∷ words_of binary32 ns) p
      by (inl e, v) = (inl e, v)
      by (inr z, v) = absurd z
  register_first binary64 n ns p u f = by (f u)
    where
      by : One μ (low_word n ∷ high_word n ∷ []) p → One μ (low_word n ∷ high_word n ∷ words_of binary64 ns) p
      by (inl e, v) = (inl e, v)
      by (inr (inl e), v) = (inr (inl e), v)
      by (inr (inr z), v) = absurd z

  -- the words of a double: the high one where the low one is known
  pub high_Picked : (n : ℕ) → known μ (low_word n) ≡ true → Picked μ (words_of binary64 (n ∷ [])) (high_word n)
  high_Picked n g = pick_on μ (low_word n) (high_word n ∷ []) (high_word n) g (pick_last μ (high_word n))

  pub low_Picked : (n : ℕ) → known μ (low_word n) ≡ false → Picked μ (words_of binary64 (n ∷ [])) (low_word n)
  low_Picked n u h = pick_first μ (low_word n) (high_word n ∷ []) u

  -- the operands of arithmetic
  module _ (f : Format) (kind : Arithmetic) (d n m : ℕ) (p : Place) where
    pub operands_on : known_in f μ n ≡ true → Picked μ (words_of f (m ∷ d ∷ [])) p → Picked μ (words_of f (m ∷ [])) p → Picked μ (words_of f (operands kind d n m)) p
    operands_on g a b = by (accumulates kind)
      where
        by : (c : Bool) → Picked μ (words_of f (cond c (n ∷ m ∷ d ∷ []) (n ∷ m ∷ []))) p
        by true = register_on f n (m ∷ d ∷ []) p g a
        by false = register_on f n (m ∷ []) p g b

    pub operands_first : known_in f μ n ≡ false → Picked μ (words_of f (n ∷ [])) p → Picked μ (words_of f (operands kind d n m)) p
    operands_first u a = by (accumulates kind)
      where
        by : (c : Bool) → Picked μ (words_of f (cond c (n ∷ m ∷ d ∷ []) (n ∷ m ∷ []))) p
        by true h = register_first f n (m ∷ d ∷ []) p u a
        by false h = register_first f n (m ∷ []) p u a

  -- a register that is known is none of the unknown
  pub register_none : (f : Format) (n : ℕ) (p : Place) → known_in f μ n ≡ true → Picked μ (words_of f (n ∷ [])) p
  register_none f n p g = register_on f n [] p g (λ h. absurd (false≢true (sym h)))

-- ---- by number, as the code has it

abbrev pub TellsIn : Format → ℕ → ℕ → Bool → Type 0
TellsIn f m n b = (w : List ℕ) → b ≡ known_in f (map_in m w) n

module _ (m : ℕ) where
  told : (p : ℕ) (q : Place) → place p ≡ q → (b t : Bool) → Tells m p b → b ≡ t → (w : List ℕ) → known (map_in m w) q ≡ t
  told p q e b t h g w = ap (known (map_in m w)) (sym e) ∙ sym (h w) ∙ g

  numbered : (p : ℕ) (q : Place) → place p ≡ q → (ps : List Place) → ((w : List ℕ) → Picked (map_in m w) ps q) → Picks m ps p
  numbered p q e ps f w = rw e (f w)

  -- a single is its only word
  pub only : (n : ℕ) → Picks m (words_of binary32 (n ∷ [])) (n % 32)
  only n = numbered (n % 32) (s_word n) (single_place n) (words_of binary32 (n ∷ [])) (λ w. pick_last (map_in m w) (s_word n))

  -- the words of a double
  pub high : (n : ℕ) (b : Bool) → Tells m (n % 16 * 2) b → b ≡ true → Picks m (words_of binary64 (n ∷ [])) (n % 16 * 2 + 1)
  high n b h g =
      numbered (n % 16 * 2 + 1) (high_word n) (high_place n) (words_of binary64 (n ∷ []))
      (λ w. high_Picked (map_in m w) n (told (n % 16 * 2) (low_word n) (low_place n) b true h g w))

  pub low : (n : ℕ) (b : Bool) → Tells m (n % 16 * 2) b → b ≡ false → Picks m (words_of binary64 (n ∷ [])) (n % 16 * 2)
  low n b h g =
      numbered (n % 16 * 2) (low_word n) (low_place n) (words_of binary64 (n ∷ []))
      (λ w. low_Picked (map_in m w) n (told (n % 16 * 2) (low_word n) (low_place n) b false h g w))

  -- whether a single is known
  pub Tells-single : (n : ℕ) (b : Bool) → Tells m (n % 32) b → TellsIn binary32 m n b
  Tells-single n b h w = h w ∙ ap (known (map_in m w)) (single_place n)

  module _ (f : Format) (n : ℕ) (b : Bool) (h : TellsIn f m n b) (p : ℕ) where
    -- one of two registers, where the first is known, and where it is not
    pub second : b ≡ true → (k : ℕ) → Picks m (words_of f (k ∷ [])) p → Picks m (words_of f (n ∷ k ∷ [])) p × Picks m (words_of f (n ∷ [])) p
    second g k a =
        (λ w. register_on (map_in m w) f n (k ∷ []) (place p) (sym (h w) ∙ g) (a w), λ w. register_none (map_in m w) f n (place p) (sym (h w) ∙ g))

    pub first : b ≡ false → (k : ℕ) → Picks m (words_of f (n ∷ [])) p → Picks m (words_of f (n ∷ k ∷ [])) p × Picks m (words_of f (n ∷ [])) p
    first g k a = (λ w e. register_first (map_in m w) f n (k ∷ []) (place p) (sym (h w) ∙ g) (a w), a)

    -- one of the operands of arithmetic
    pub operand_on : b ≡ true → (d k : ℕ) → Picks m (words_of f (k ∷ d ∷ [])) p × Picks m (words_of f (k ∷ [])) p
        → (kind : Arithmetic) → Picks m (words_of f (operands kind d n k)) p
    operand_on g d k a kind w = operands_on (map_in m w) f kind d n k (place p) (sym (h w) ∙ g) (a.0 w) (a.1 w)

    pub operand_first : b ≡ false → (d k : ℕ) → Picks m (words_of f (n ∷ [])) p → (kind : Arithmetic) → Picks m (words_of f (operands kind d n k)) p
    operand_first g d k a kind w = operands_first (map_in m w) f kind d n k (place p) (sym (h w) ∙ g) (a w)

  -- FPSCR 27:5, or one of others
  module _ (b : Bool) (h : Tells m (number control) b) (ps : List Place) where
    pub beside_control : b ≡ true → (p : ℕ) → Picks m ps p → Picks m (control ∷ ps) p
    beside_control g p a w = pick_on (map_in m w) control ps (place p) (told (number control) control place-control b true h g w) (a w)

    pub control_itself : b ≡ false → Picks m (control ∷ ps) (number control)
    control_itself g =
        numbered (number control) control place-control (control ∷ ps) (λ w e. pick_first (map_in m w) control ps (told (number control) control place-control b false h g w))
