-- The words of a line, byte by byte.
use Prim.Native.Nat.{ℕ, ◌+◌, ◌-◌, ◌≤◌, ◌<◌}
use native.Mathlib.Omega.{arith}
use native.Mathlib.Numerals.{add-one}
use mathlib.Core.Path.{◌≡◌, refl, sym, ◌∙◌, ap}
use mathlib.Core.Bool.{Bool, true, false, beq}
use mathlib.Core.List.{List}
use lib.ListN.{length, get_or, take, drop, length-drop, length-take, drop_of_length-le}
use lib.Seq.{drop-cons}
use borrow.Author.Tests.{eq-eqb, ne_eqb, lt-ltb, le-ltb, ltb-true, ltb-false, eqb-true, eqb-false}
use lib.Dec.{eqb, ltb}
use lib.Pointwise.{pointwise}
use Rattle.std.specs.Prelude.{Option, Some, None, unwrap_or, cond, not, suc, ◌∷◌, []}
use denote.Ref.{Bor}
use Rattle.std.specs.Option.{MatchOption}
use Rattle.std.specs.List.{position_or_len}
use Rattle.std.proofs.Math.Bool.{and-true}
use lib.Seq.{take_all}
use Rattle.std.proofs.lemmas.List.Sums.{prefix_len-le-length}
use Rattle.std.proofs.lemmas.List.Recursion.{is_position_or_len}
use Rattle.tokens.specs.Token.{before_of, content_of, is_gap, leading_of}

-- what a search finds, or the length where it finds nothing
pub found_or_all : (p : ℕ → Bool) (t : List ℕ) (o : Option ℕ) (r : ℕ) → o ≡ cond (ltb (position_or_len p t) (length t)) (Some (position_or_len p t)) None → r ≡ unwrap_or o (length t) → (r ≤ length t) × (r ≡ position_or_len p t)
found_or_all p t o r e f =
    let few = prefix_len-le-length (λ x. not (p x)) t in
    let is = by (ltb (position_or_len p t) (length t)) refl e f in
    (omega (arith, few, is), is)
  where
    by : (b : Bool) → ltb (position_or_len p t) (length t) ≡ b → o ≡ cond b (Some (position_or_len p t)) None → r ≡ unwrap_or o (length t) → r ≡ position_or_len p t
    by true g e f = rw e at f
    by false g e f =
        let all : r ≡ length t = rw e at f in
        omega (arith, ltb-false (position_or_len p t) (length t) g, prefix_len-le-length (λ x. not (p x)) t)

one_more : (n : ℕ) → suc n ≡ 1 + n
one_more n = omega arith

-- the bytes before the first b, and those that are gaps or none, as std counts them
pub before_found : (b : ℕ) (t : List ℕ) → position_or_len (λ x. eqb x b) t ≡ before_of b t
unfolding before_of
before_found b t = sym (is_position_or_len (before_of b) (λ x. eqb x b) refl (λ x xs. ap (cond (eqb x b) 0) (one_more (before_of b xs))) t)

pub leading_found : (g : Bool) (t : List ℕ) → position_or_len (λ x. not (beq (is_gap x) g)) t ≡ leading_of g t
unfolding leading_of
leading_found g t = sym (is_position_or_len (leading_of g) (λ x. not (beq (is_gap x) g)) refl (λ x xs. by (beq (is_gap x) g) (leading_of g xs)) t)
  where
    by : (b : Bool) (n : ℕ) → cond b (suc n) 0 ≡ cond (not b) 0 (1 + n)
    by true n = one_more n
    by false n = refl

-- byte by byte
module _ (b : ℕ) (t : List ℕ) (i : ℕ) where
  pub before_here : i < length t → get_or t i 0 ≡ b → i ≡ i + before_of b (drop i t)
  unfolding before_of
  before_here h e = rw (drop-cons t i 0 h, eq-eqb (get_or t i 0) b e) (omega arith)

  pub before_on : i < length t → (get_or t i 0 ≡ b → ⊥) → i + 1 + before_of b (drop (i + 1) t) ≡ i + before_of b (drop i t)
  unfolding before_of
  before_on h e = rw (add-one i, drop-cons t i 0 h, ne_eqb (get_or t i 0) b e) (omega arith)

  pub before_end : length t ≤ i → i ≡ i + before_of b (drop i t)
  unfolding before_of
  before_end h = rw (drop_of_length-le t h) (omega arith)

module _ (g : Bool) (t : List ℕ) (i : ℕ) where
  pub leading_here : i < length t → beq (is_gap (get_or t i 0)) g ≡ false → i ≡ i + leading_of g (drop i t)
  unfolding leading_of
  leading_here h e = rw (drop-cons t i 0 h, e) (omega arith)

  pub leading_on : i < length t → beq (is_gap (get_or t i 0)) g ≡ true → i + 1 + leading_of g (drop (i + 1) t) ≡ i + leading_of g (drop i t)
  unfolding leading_of
  leading_on h e = rw (add-one i, drop-cons t i 0 h, e) (omega arith)

  pub leading_end : length t ≤ i → i ≡ i + leading_of g (drop i t)
  unfolding leading_of
  leading_end h = rw (drop_of_length-le t h) (omega arith)

-- how much of a line counts
module _ (l : List ℕ) (n : ℕ) (e : n ≡ before_of 35 l) where
  pub content_comment : n < length l → n ≡ content_of l
  unfolding content_of
  content_comment h = rw (← e, lt-ltb n (length l) h)

  module _ (h : length l ≤ n) where
    pub content_none : n ≡ 0 → 0 ≡ content_of l
    unfolding content_of
    content_none z = rw (← e, le-ltb n (length l) h, eq-eqb n 0 z)

    module _ (z : n ≡ 0 → ⊥) where
      pub content_return : get_or l (n - 1) 0 ≡ 13 → n - 1 ≡ content_of l
      unfolding content_of
      content_return q = rw (← e, le-ltb n (length l) h, ne_eqb n 0 z, eq-eqb (get_or l (n - 1) 0) 13 q)

      pub content_whole : (get_or l (n - 1) 0 ≡ 13 → ⊥) → n ≡ content_of l
      unfolding content_of
      content_whole q = rw (← e, le-ltb n (length l) h, ne_eqb n 0 z, ne_eqb (get_or l (n - 1) 0) 13 q)

-- a line's last byte
last_is : (l : List ℕ) → 0 < length l → drop (length l - 1) l ≡ get_or l (length l - 1) 0 ∷ []
last_is l h = drop-cons l (length l - 1) 0 (omega arith) ∙ ap (λ (r : List ℕ). get_or l (length l - 1) 0 ∷ r) (let h : length l ≤ suc (length l - 1) = omega arith in drop_of_length-le l h)

module _ (l : List ℕ) where
  -- a comment stands in the line
  pub content_before : length (take (before_of 35 l) l) < length l → take (before_of 35 l) l ≡ take (content_of l) l
  content_before h = ap (λ (n : ℕ). take n l) (content_comment l (before_of 35 l) refl (omega (arith, length-take (before_of 35 l) l)))

  -- none does: the carriage return at the line's end does not count
  module _ (h : length l ≤ length (take (before_of 35 l) l)) where
    all : before_of 35 l ≡ length l
    all = omega (arith, length-take (before_of 35 l) l, before_found 35 l, prefix_len-le-length (λ x. not (eqb x 35)) l)

    pub content_stripped : 0 < length l → pointwise eqb (drop (length l - 1) l) (13 ∷ []) ≡ true → take (length l - 1) l ≡ take (content_of l) l
    content_stripped some e =
        let b : eqb (get_or l (length l - 1) 0) 13 ≡ true = sym (and-true (eqb (get_or l (length l - 1) 0) 13)) ∙ (rw (last_is l some) at e) in
        ap (λ (n : ℕ). take n l) (content_return l (length l) (sym all) (omega arith) (λ z. omega arith) (eqb-true (get_or l (length l - 1) 0) 13 b))

    pub content_kept : pointwise eqb (drop (length l - 1) l) (13 ∷ []) ≡ false → l ≡ take (content_of l) l
    content_kept e = by (ltb 0 (length l)) refl
      where
        by : (k : Bool) → ltb 0 (length l) ≡ k → l ≡ take (content_of l) l
        by true f =
            let some : 0 < length l = ltb-true 0 (length l) f in
            let b : eqb (get_or l (length l - 1) 0) 13 ≡ false = sym (and-true (eqb (get_or l (length l - 1) 0) 13)) ∙ (rw (last_is l some) at e) in
            let is = content_whole l (length l) (sym all) (omega arith) (λ z. omega arith) (eqb-false (get_or l (length l - 1) 0) 13 b) in
            sym (take_all (content_of l) l (omega arith))
        by false f =
            let none : length l ≤ 0 = ltb-false 0 (length l) f in
            sym (take_all (content_of l) l (omega arith))

    pub content_end : (whole r : Bor (List ℕ)) (o : Option (Bor (List ℕ))) → whole.now ≡ l → MatchOption o (pointwise eqb (drop (length l - 1) l) (13 ∷ []) ≡ false) (λ x. (pointwise eqb (drop (length l - 1) l) (13 ∷ []) ≡ true) × (x.now ≡ take (length l - 1) l) × (length x.now + 1 ≡ length l)) → r ≡ unwrap_or o whole → r.now ≡ take (content_of l) l
    content_end whole r None w m e = ap (λ (b : Bor (List ℕ)). b.now) e ∙ w ∙ content_kept m
    content_end whole r (Some x) w m e = ap (λ (b : Bor (List ℕ)). b.now) e ∙ m.1 ∙ content_stripped (omega (arith, m.2)) m.0

-- a word within what stands from a on
pub part_end : (t : List ℕ) (a n : ℕ) → a ≤ length t → n ≤ length (take (length t - a) (drop a t)) → a + n ≤ length t
part_end t a n h k = omega (arith, length-take (length t - a) (drop a t), length-drop a t)

pub part_word : (t : List ℕ) (a n : ℕ) → n ≡ leading_of false (take (length t - a) (drop a t)) → a + n ≡ a + leading_of false (drop a t)
part_word t a n e = ap (λ (k : ℕ). a + k) (e ∙ ap (leading_of false) (take_all (length t - a) (drop a t) (omega (arith, length-drop a t))))
