-- What a text has before its first space.
use Prim.Native.Nat.{ℕ, zero, suc, ◌+◌, ◌≤◌, ◌<◌}
use native.Mathlib.Omega.{arith}
use native.Mathlib.Numerals.{add-one}
use mathlib.Core.Path.{◌≡◌, refl, sym, ◌∙◌, ap}
use mathlib.Core.Bool.{Bool, true, false, cond}
use mathlib.Core.List.{List, [], ◌∷◌, ◌++◌}
use borrow.Author.Tests.{eq-eqb, ne_eqb}
use lib.Dec.{eqb, ltb}
use lib.ListN.{length, take, drop, get_or, drop_of_length-le, length-take}
use lib.Seq.{drop-cons, take_all}
use Rattle.std.proofs.Common.{Option, Some, None}
use Rattle.std.proofs.lemmas.Grind.{common_steps}
use Rattle.std.proofs.lemmas.List.Recursion.{is_position_or_len}
use Rattle.std.specs.List.{position_or_len}
use Rattle.std.specs.Option.{unwrap_or}
use Rattle.text.specs.Text.{clip}
use Rattle.chain_lines.specs.Name.{before_space}

-- it is where the text begins
taken_by : (x : Bool) (b : ℕ) (l : List ℕ) → take (length (before_space l)) l ≡ before_space l → take (length (cond x [] (b ∷ before_space l))) (b ∷ l) ≡ cond x [] (b ∷ before_space l)
taken_by true b l e = refl
taken_by false b l e = ap (λ (k : List ℕ). b ∷ k) e

pub taken : (l : List ℕ) → take (length (before_space l)) l ≡ before_space l
unfolding before_space
taken [] = refl
taken (b ∷ l) = taken_by (eqb b 32) b l (taken l)

pub so_many : (l : List ℕ) (n : ℕ) → n ≡ length (before_space l) → take n l ≡ before_space l
so_many l n e = rw e (taken l)

pub shorter : (l : List ℕ) → length (before_space l) ≤ length l
shorter l = omega (arith, ap length (taken l), length-take (length (before_space l)) l)

-- of a text that is cut it is what was there, cut
cut_by : (x : Bool) (n b : ℕ) (l : List ℕ) → before_space (take n l) ≡ take n (before_space l) → cond x [] (b ∷ before_space (take n l)) ≡ take (suc n) (cond x [] (b ∷ before_space l))
cut_by true n b l e = refl
cut_by false n b l e = ap (λ (k : List ℕ). b ∷ k) e

cut : (n : ℕ) (l : List ℕ) → before_space (take n l) ≡ take n (before_space l)
unfolding before_space
cut zero l = refl
cut (suc n) [] = refl
cut (suc n) (b ∷ l) = cut_by (eqb b 32) n b l (cut n l)

-- and what is cut off is no more than what a text has no room for
within : (n m : ℕ) (b : List ℕ) → n ≤ m → take n (take m b) ≡ take n b
within zero m b h = refl
within (suc n) zero b h = absurd (omega arith)
within (suc n) (suc m) [] h = refl
within (suc n) (suc m) (x ∷ b) h = ap (λ (k : List ℕ). x ∷ k) (within n m b (omega arith))

room : (n m : ℕ) (a b : List ℕ) → n ≤ m → take n (a ++ take m b) ≡ take n (a ++ b)
room zero m a b h = refl
room (suc n) m [] b h = within (suc n) m b h
room (suc n) m (x ∷ a) b h = ap (λ (k : List ℕ). x ∷ k) (room n m a b (omega arith))

pub clip_cut : (a l : List ℕ) → clip (a ++ before_space (clip l)) ≡ clip (a ++ before_space l)
unfolding clip
clip_cut a l = rw (cut 128 l) (room 128 128 a (before_space l) (omega arith))

pub named : (a r x y z l : List ℕ) → r ≡ clip (a ++ before_space x) → x ≡ y → y ≡ clip (z ++ l) → z ≡ [] → r ≡ clip (a ++ before_space l)
named a r x y z l e f g h = rw (f, g, h) at e ∙ clip_cut a l

-- how many bytes stand before it
abbrev pub is_space : ℕ → Bool
is_space b = eqb b 32

length_by : (x : Bool) (b : ℕ) (l : List ℕ) → length (cond x [] (b ∷ l)) ≡ cond x 0 (1 + length l)
length_by true b l = refl
length_by false b l = omega arith

pub counted : (l : List ℕ) → length (before_space l) ≡ position_or_len is_space l
unfolding before_space
counted l = is_position_or_len (λ (k : List ℕ). length (before_space k)) is_space refl (λ b k. length_by (is_space b) b (before_space k)) l

pub position_or_end : (p len n : ℕ) (r : Option ℕ) → p ≤ len → r ≡ cond (ltb p len) (Some p) None → n ≡ unwrap_or r len → n ≡ p
position_or_end p len n r h e f = grind (arith, common_steps)

-- byte by byte
module _ (l : List ℕ) (i : ℕ) (h : i < length l) where
  pub ends_here : get_or l i 0 ≡ 32 → before_space (drop i l) ≡ []
  unfolding before_space
  ends_here e = rw (drop-cons l i 0 h, eq-eqb _ _ e)

  pub goes_on : (get_or l i 0 ≡ 32 → ⊥) → before_space (drop i l) ≡ get_or l i 0 ∷ before_space (drop (i + 1) l)
  unfolding before_space
  goes_on e = rw (add-one i, drop-cons l i 0 h, ne_eqb _ _ e)

pub ended_here : (l : List ℕ) (i : ℕ) → length l ≤ i → before_space (drop i l) ≡ []
unfolding before_space
ended_here l i h = rw (drop_of_length-le l h)

-- a text's bytes, however many it is said to have
pub filled : (l : List ℕ) (n : ℕ) → length l ≡ 128 → 128 ≤ n → take 128 l ≡ take n l
filled l n e h = take_all 128 l (omega arith) ∙ sym (take_all n l (omega arith))
