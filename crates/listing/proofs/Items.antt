-- A line's first word and what follows it, as the code has them: parts of a slice.
use Prim.Native.Nat.{ℕ, ◌+◌, ◌-◌, ◌≤◌}
use native.Mathlib.Omega.{arith}
use mathlib.Core.Path.{◌≡◌, refl, sym, ◌∙◌, ap}
use mathlib.Core.Bool.{Bool, true, false, not}
use mathlib.Core.List.{List}
use lib.Dec.{eqb}
use lib.ListN.{length, take, drop, length-take, length-drop, drop_of_length-le}
use lib.Seq.{drop-drop}
use borrow.Author.Tests.{eq-eqb, ne_eqb, eqb-true, eqb-false}
use Rattle.std.proofs.lemmas.List.Sums.{prefix_len-le-length}
use Rattle.tokens.specs.Token.{leading_of, from_word, is_gap}
use Rattle.tokens.proofs.Words.{leading_found}
use Rattle.std.specs.Prelude.{Option, Some, None, Result, Ok, Err}
use Rattle.std.specs.Option.{ok_or}
use lib.Pointwise.{pointwise}
use Rattle.std.proofs.lemmas.Slice.Eq.{slice_eq-Decides}
use Rattle.std.proofs.lemmas.Bool.Decides.{Decides-eqb}
use Rattle.place_names.specs.Place.{place_of, same}
use Rattle.place_names.proofs.Names.{compared}
use Rattle.numerals.specs.Number.{Number, Value, Wrong}
use Rattle.numerals.proofs.Reading.{rest}
use Rattle.listing.specs.declared.line.Expected.{Expected}
use Rattle.listing.specs.Line.{start_of, end_of, first_of, rest_of, blank, given, next_place}
use Rattle.listing.specs.Next.{Next, Place, End, Mistake}

leading_few : (g : Bool) (l : List ℕ) → leading_of g l ≤ length l
leading_few g l = omega (arith, leading_found g l, prefix_len-le-length (λ x. not (not (mathlib.Core.Bool.beq (is_gap x) g))) l)

-- the word w and the rest r, as `first` has them
module _ (l : List ℕ) {w r : List ℕ} (e : w ≡ take (leading_of false (from_word l)) (from_word l)) (f : r ≡ drop (leading_of false (from_word l)) (from_word l)) where
  n : ℕ
  n = leading_of false (from_word l)

  pub word_is : w ≡ first_of l
  word_is = e ∙ ap (λ (k : ℕ). take k (from_word l)) (let q : leading_of false (from_word l) ≡ start_of l + leading_of false (from_word l) - start_of l = omega arith in q)

  pub rest_is : r ≡ rest_of l
  rest_is = f ∙ drop-drop (leading_of false (from_word l)) (start_of l) l

  length_word : length w ≡ leading_of false (from_word l)
  length_word = ap length e ∙ omega (arith, length-take (leading_of false (from_word l)) (from_word l), leading_few false (from_word l))

  pub blank_is : eqb (length w) 0 ≡ blank l
  blank_is = by (eqb (length w) 0) refl
    where
      by : (b : Bool) → eqb (length w) 0 ≡ b → b ≡ blank l
      by true q = sym (eq-eqb (start_of l) (end_of l) (omega (arith, length_word, eqb-true (length w) 0 q)))
      by false q = sym (ne_eqb (start_of l) (end_of l) (λ z. omega (arith, length_word, eqb-false (length w) 0 q)))

  pub end_is : length r + end_of l ≡ length l
  end_is =
      let a = leading_few true l in
      let b = leading_few false (from_word l) in
      omega (arith, ap length rest_is, length-drop (end_of l) l, length-drop (start_of l) l)

  -- what a comparison of the word answers
  pub compared_is : (t : List ℕ) (s : List ℕ) (b : Bool) → s ≡ t → b ≡ pointwise eqb w s → same (first_of l) t ≡ b
  compared_is t s b i q = ap (λ (k : List ℕ). same k t) (sym word_is) ∙ compared b w t (slice_eq-Decides Decides-eqb w t b (q ∙ ap (pointwise eqb w) i))

  -- a number that the word was read as, or what is told of a word that is none
  module _ {A : Type 0} (number_of : List ℕ → Number) (o : Option ℕ) (a : o ≡ number_of w) (g : ℕ → A) (z : A) where
    is_read : o ≡ number_of (first_of l)
    is_read = a ∙ ap number_of word_is

    pub given_some : (x : ℕ) → o ≡ Some x → g x ≡ given (number_of (first_of l)) g z
    given_some x i = ap (λ (k : Number). given k g z) (sym i ∙ is_read)

    pub given_none : o ≡ None → z ≡ given (number_of (first_of l)) g z
    given_none i = ap (λ (k : Number). given k g z) (sym i ∙ is_read)

    pub given_value : (m : Expected) (r : Result ℕ Expected) (x : ℕ) → r ≡ ok_or o m → r ≡ Ok x → g x ≡ given (number_of (first_of l)) g z
    given_value m r x q i = given_some x (some o (sym q ∙ i))
      where
        some : (k : Option ℕ) → ok_or k m ≡ Ok x → k ≡ Some x
        some (Some y) i = cc
        some None i = cc

    pub given_wrong : (m : Expected) (r : Result ℕ Expected) (d : Expected) → r ≡ ok_or o m → r ≡ Err d → (d ≡ m) × (z ≡ given (number_of (first_of l)) g z)
    given_wrong m r d q i =
        let h = none o (sym q ∙ i) in
        (h.0, given_none h.1)
      where
        none : (k : Option ℕ) → ok_or k m ≡ Err d → (d ≡ m) × (k ≡ None)
        none (Some y) i = let n : ◌≡◌ {A = ℕ} 0 1 = cc in absurd (omega arith)
        none None i = (cc, refl)

-- the word from its start to its end
module _ (l : List ℕ) (s e : ℕ) (h : (s ≤ e) × (e ≤ length l) × (s ≡ leading_of true l) × (e ≡ s + leading_of false (drop s l))) where
  part_is : take (e - s) (drop s l) ≡ take (leading_of false (from_word l)) (from_word l)
  part_is =
      ap (λ (k : ℕ). take k (drop s l)) (let q : e - s ≡ leading_of false (drop s l) = omega (arith, h.3) in q)
      ∙ ap (λ (k : ℕ). take (leading_of false (drop k l)) (drop k l)) h.2

  pub at_end : e ≡ end_of l
  at_end = h.3 ∙ ap (λ (k : ℕ). k + leading_of false (drop k l)) h.2

  blank_at : s ≡ e → blank l ≡ true
  blank_at q = eq-eqb (start_of l) (end_of l) (sym h.2 ∙ q ∙ at_end)

  pub blank_not : (s ≡ e → ⊥) → blank l ≡ false
  blank_not q = ne_eqb (start_of l) (end_of l) (λ k. q (h.2 ∙ k ∙ sym at_end))

  pub length_is : length (first_of l) ≡ length (take (e - s) (drop s l))
  length_is = ap length (sym (word_is l part_is refl))

-- past a line's end no place is named
pub next_none : (l : List ℕ) (n : ℕ) → length l ≤ n → End ≡ next_place n (drop n l)
unfolding next_place leading_of
next_none l n h = rw (drop_of_length-le l h)

-- the next place, after n bytes of the line
module _ (l : List ℕ) (n s e : ℕ) where
  abbrev from : List ℕ
  from = take (length l - n) (drop n l)

  module _ (h : (s ≤ e) × (e ≤ length from) × (s ≡ leading_of true from) × (e ≡ s + leading_of false (drop s from))) where
    on : (x : Next) → x ≡ next_place n from → x ≡ next_place n (drop n l)
    on x q = q ∙ ap (next_place n) (rest l n)

    pub next_blank : s ≡ e → End ≡ next_place n (drop n l)
    unfolding next_place
    next_blank q = on End (rw (blank_at from s e h q))

    module _ (q : s ≡ e → ⊥) (r : Number) (a : r ≡ place_of (take (e - s) (drop s from))) where
      pub next_wrong : r ≡ Wrong → Mistake ≡ next_place n (drop n l)
      unfolding next_place
      next_wrong w = on Mistake (rw (blank_not from s e h q) (given_none from (part_is from s e h) refl place_of r a _ _ w))

      pub next_value : (p : ℕ) → r ≡ Value p → Place p (n + e) ≡ next_place n (drop n l)
      unfolding next_place
      next_value p w =
          on (Place p (n + e))
          (rw (blank_not from s e h q)
          (ap (λ (k : ℕ). Place p (n + k)) (at_end from s e h)
          ∙ given_some from (part_is from s e h) refl place_of r a (λ x. Place x (n + end_of from)) Mistake p w))
