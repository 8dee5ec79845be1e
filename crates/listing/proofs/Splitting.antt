-- The lines of a text and the words of a line, one after the other.
use Prim.Native.Nat.{ℕ, zero, suc, ◌+◌, ◌-◌, ◌<◌}
use native.Mathlib.Omega.{arith}
use mathlib.Core.Path.{◌≡◌, refl, sym, ◌∙◌, ap, subst}
use mathlib.Core.Bool.{Bool, true, false, cond, beq}
use mathlib.Core.List.{List, [], ◌∷◌}
use lib.Dec.{eqb}
use lib.ListN.{length, take, drop}
use lib.Seq.{drop-drop}
use borrow.Author.Tests.{eqb-true, eqb-false}
use Rattle.tokens.specs.Token.{before_of, is_gap, leading_of, onto, split, lines_of, kept, words_of}
use Rattle.listing.specs.Line.{start_of, end_of, first_of, rest_of, blank}

-- how many bytes stand before the first of a kind
up_to : (ℕ → Bool) → List ℕ → ℕ
up_to p [] = 0
up_to p (b ∷ t) = cond (p b) 0 (suc (up_to p t))

up_to_byte : (b : ℕ) (t : List ℕ) → up_to (λ x. eqb x b) t ≡ before_of b t
unfolding up_to before_of
up_to_byte b [] = refl
up_to_byte b (x ∷ t) = ap (λ (n : ℕ). cond (eqb x b) 0 (suc n)) (up_to_byte b t)

up_to_gap : (l : List ℕ) → up_to is_gap l ≡ leading_of false l
unfolding up_to leading_of
up_to_gap [] = refl
up_to_gap (x ∷ t) = by (is_gap x) (up_to_gap t)
  where
    by : (g : Bool) → up_to is_gap t ≡ leading_of false t → cond g 0 (suc (up_to is_gap t)) ≡ cond (beq g false) (suc (leading_of false t)) 0
    by true h = refl
    by false h = ap suc h

module _ (p : ℕ → Bool) where
  split_one : (b : ℕ) (t : List ℕ) → split p (b ∷ t) ≡ take (up_to p (b ∷ t)) (b ∷ t) ∷ split p (drop (suc (up_to p (b ∷ t))) (b ∷ t))
  unfolding split up_to
  split_one b [] = by (p b)
    where
      by : (g : Bool) → cond g ([] ∷ []) ((b ∷ []) ∷ []) ≡ take (cond g 0 1) (b ∷ []) ∷ split p (drop (suc (cond g 0 1)) (b ∷ []))
      by true = refl
      by false = refl
  split_one b (x ∷ t) = by (p b) (split_one x t)
    where
      by : (g : Bool) → split p (x ∷ t) ≡ take (up_to p (x ∷ t)) (x ∷ t) ∷ split p (drop (suc (up_to p (x ∷ t))) (x ∷ t)) → cond g ([] ∷ split p (x ∷ t)) (onto b (split p (x ∷ t))) ≡ take (cond g 0 (suc (up_to p (x ∷ t)))) (b ∷ x ∷ t) ∷ split p (drop (suc (cond g 0 (suc (up_to p (x ∷ t))))) (b ∷ x ∷ t))
      by true h = refl
      by false h = ap (onto b) h

  kept_on : (l : List ℕ) → kept (split p (drop (up_to p l) l)) ≡ kept (split p (drop (suc (up_to p l)) l))
  unfolding split up_to kept
  kept_on [] = refl
  kept_on (b ∷ t) = by (p b) refl (kept_on t)
    where
      by : (g : Bool) → p b ≡ g → kept (split p (drop (up_to p t) t)) ≡ kept (split p (drop (suc (up_to p t)) t)) → kept (split p (drop (cond g 0 (suc (up_to p t))) (b ∷ t))) ≡ kept (split p (drop (suc (cond g 0 (suc (up_to p t)))) (b ∷ t)))
      by true e h = rw e
      by false e h = h

-- a text's first line, and the lines after it
pub lines_one : (t : List ℕ) → 0 < length t → lines_of t ≡ take (before_of 10 t) t ∷ lines_of (drop (suc (before_of 10 t)) t)
lines_one [] h = absurd (omega arith)
lines_one (b ∷ t) h =
    split_one (λ x. eqb x 10) b t
    ∙ ap (λ (n : ℕ). take n (b ∷ t) ∷ lines_of (drop (suc n) (b ∷ t))) (up_to_byte 10 (b ∷ t))

-- the gaps in front of a line's first word
words_gaps : (l : List ℕ) → words_of (drop (leading_of true l) l) ≡ words_of l
unfolding words_of split kept leading_of
words_gaps [] = refl
words_gaps (b ∷ t) = by (is_gap b) refl (words_gaps t)
  where
    by : (g : Bool) → is_gap b ≡ g → words_of (drop (leading_of true t) t) ≡ words_of t → kept (split is_gap (drop (cond (beq g true) (suc (leading_of true t)) 0) (b ∷ t))) ≡ kept (split is_gap (b ∷ t))
    by true e h = rw e h
    by false e h = refl

-- a word that stands in front
module _ (b : ℕ) (t : List ℕ) where
  kept_word : (n : ℕ) → 0 < n → kept (take n (b ∷ t) ∷ split is_gap (drop (suc n) (b ∷ t))) ≡ take n (b ∷ t) ∷ kept (split is_gap (drop (suc n) (b ∷ t)))
  unfolding kept
  kept_word zero h = absurd (omega arith)
  kept_word (suc n) h = refl

nothing : 0 < leading_of false [] → ⊥
unfolding leading_of
nothing h = omega arith

words_word : (l : List ℕ) → 0 < leading_of false l → words_of l ≡ take (leading_of false l) l ∷ words_of (drop (leading_of false l) l)
unfolding words_of
words_word [] h = absurd (nothing h)
words_word (b ∷ t) h =
    ap kept (split_one is_gap b t)
    ∙ ap (λ (n : ℕ). kept (take n (b ∷ t) ∷ split is_gap (drop (suc n) (b ∷ t)))) (up_to_gap (b ∷ t))
    ∙ kept_word b t (leading_of false (b ∷ t)) h
    ∙ ap (λ (ws : List (List ℕ)). take (leading_of false (b ∷ t)) (b ∷ t) ∷ ws)
    (sym
    (subst (λ (n : ℕ). kept (split is_gap (drop n (b ∷ t))) ≡ kept (split is_gap (drop (suc n) (b ∷ t)))) (up_to_gap (b ∷ t)) (kept_on is_gap (b ∷ t))))

-- a line of gaps alone
gaps_only : (l : List ℕ) → leading_of false (drop (leading_of true l) l) ≡ 0 → words_of l ≡ []
unfolding words_of split kept leading_of
gaps_only [] z = refl
gaps_only (b ∷ t) z = by (is_gap b) refl (gaps_only t) z
  where
    by : (g : Bool) → is_gap b ≡ g → (leading_of false (drop (leading_of true t) t) ≡ 0 → words_of t ≡ []) → leading_of false (drop (cond (beq g true) (suc (leading_of true t)) 0) (b ∷ t)) ≡ 0 → kept (split is_gap (b ∷ t)) ≡ []
    by true e h z = rw e (h z)
    by false e h z = absurd (omega (arith, rw e at z))

-- a line's words: none, or the first and those after it
pub words_none : (l : List ℕ) → blank l ≡ true → words_of l ≡ []
words_none l e = gaps_only l (omega (arith, eqb-true (start_of l) (end_of l) e))

pub words_one : (l : List ℕ) → blank l ≡ false → words_of l ≡ first_of l ∷ words_of (rest_of l)
words_one l e =
    let s = start_of l in
    let n = leading_of false (drop s l) in
    let h : n ≡ s + n - s = omega arith in
    sym (words_gaps l)
    ∙ words_word (drop s l) (omega (arith, eqb-false s (s + n) e))
    ∙ ap (λ (k : ℕ). take k (drop s l) ∷ words_of (drop n (drop s l))) h
    ∙ ap (λ (r : List ℕ). first_of l ∷ words_of r) (drop-drop n s l)
