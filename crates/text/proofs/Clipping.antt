-- What there is room for, piece by piece.
use Prim.Native.Nat.{ℕ, zero, suc, ◌+◌, ◌-◌, ◌≤◌, ◌<◌, min}
use native.Mathlib.Omega.{arith}
use native.Mathlib.Numerals.{add-one}
use mathlib.Core.Path.{◌≡◌, refl, sym, ◌∙◌, ap}
use mathlib.Core.List.{List, [], ◌∷◌, ◌++◌, append_assoc, append-nil}
use lib.ListN.{length, take, drop, get_or, set, length-take, length-append, drop_of_length-le}
use lib.Seq.{drop-cons, take_all, take-append-le, take-append-add, take-suc-set, length-take-le}
use borrow.Rule.Slice.PartMut.{put_mid}
use Rattle.std.proofs.lemmas.List.{take_min}
use Rattle.std.proofs.lemmas.Slice.{take-put_mid}
use Rattle.text.specs.Text.{clip}

-- a piece that is cut already is cut no further by what follows
cut : (n : ℕ) (a b : List ℕ) → take n (take n a ++ b) ≡ take n (a ++ b)
cut zero a b = refl
cut (suc n) [] b = refl
cut (suc n) (x ∷ a) b = ap (λ (l : List ℕ). x ∷ l) (cut n a b)

pub clip-clip : (a b : List ℕ) → clip (clip a ++ b) ≡ clip (a ++ b)
unfolding clip
clip-clip a b = cut 128 a b

pub clip_more : (a : List ℕ) (x : ℕ) (b : List ℕ) → clip (clip (a ++ (x ∷ [])) ++ b) ≡ clip (a ++ (x ∷ b))
clip_more a x b = clip-clip (a ++ (x ∷ [])) b ∙ rw append_assoc

pub clip_short : (a : List ℕ) → length a ≤ 128 → clip a ≡ a
unfolding clip
clip_short a h = take_all 128 a h

pub clip-length : (a : List ℕ) → length (clip a) ≤ 128
unfolding clip
clip-length a = omega (arith, length-take 128 a)

module _ (l : List ℕ) (n b : ℕ) (e : length l ≡ 128) where
  pub push_room : n < 128 → take (n + 1) (set l n b) ≡ clip (take n l ++ (b ∷ []))
  push_room h =
      rw (add-one n) (take-suc-set l n b (omega arith))
      ∙ sym (clip_short (take n l ++ (b ∷ [])) (omega (arith, length-append (take n l) (b ∷ []), length-take n l)))

  pub push_full : 128 ≤ n → take n l ≡ clip (take n l ++ (b ∷ []))
  unfolding clip
  push_full h = rw (take_all n l (omega arith), take-append-le 128 l (b ∷ []) (omega arith)) (sym (take_all 128 l (omega arith)))

pub take_short : (l : List ℕ) (n : ℕ) → length l ≡ 128 → length (take n l) ≤ 128
take_short l n e = omega (arith, length-take n l)

-- byte by byte
pub push_short : (t a : List ℕ) → t ≡ clip a → length t ≤ 128
push_short t a e = omega (arith, ap length e, clip-length a)

pub push_more : (a t more : List ℕ) (i : ℕ) → i < length more → t ≡ clip (a ++ (get_or more i 0 ∷ [])) → clip (t ++ drop (i + 1) more) ≡ clip (a ++ drop i more)
push_more a t more i h e = rw (e, clip_more a (get_or more i 0) (drop (i + 1) more), add-one i, ← drop-cons more i 0 h)

pub add_end : (t more z : List ℕ) (i : ℕ) → length more ≤ i → length t ≤ 128 → clip (t ++ drop i more) ≡ z → t ≡ z
add_end t more z i h k e = sym (clip_short t k) ∙ rw (drop_of_length-le more h, append-nil) at e

-- as many bytes of a piece as there is room for
pub added_at : (l more : List ℕ) (n k j : ℕ) (w : List ℕ) → length l ≡ 128 → n ≤ 128 → k ≡ min (128 - n) (length more) → w ≡ take k more → take (n + k) (put_mid n j l w) ≡ clip (take n l ++ more)
unfolding clip
added_at l more n k j w e h m q =
    let taken : take k more ≡ take (128 - n) more = rw (m, take_min) refl in
    let count : length (take n l) ≡ n = length-take-le n l (omega arith) in
    let long : length w ≡ k = rw q (length-take-le k more (omega arith)) in
    let whole : length (take n l) + (128 - n) ≡ 128 = omega arith in
    take-put_mid n j l w (n + k) (omega arith) (omega arith)
    ∙ rw (q, taken) (sym (take-append-add (take n l) more (128 - n)))
    ∙ ap (λ (i : ℕ). take i (take n l ++ more)) whole

-- a byte and a text after it
pub added : (a t r d z : List ℕ) (b : ℕ) → t ≡ clip (a ++ (b ∷ [])) → r ≡ clip (t ++ d) → (b ∷ d) ≡ z → r ≡ clip (a ++ z)
added a t r d z b e f g = f ∙ rw e (clip_more a b d) ∙ ap (λ (l : List ℕ). clip (a ++ l)) g
