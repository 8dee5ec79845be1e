-- Words copied one by one.
use mathlib.Core.Path.{◌≡◌, sym, ◌∙◌, ap}
use mathlib.Core.Bool.{Bool}
use mathlib.Core.List.{List, [], ◌∷◌, ◌++◌, append_assoc, append-nil}
use Prim.Native.Nat.{ℕ, suc, ◌+◌, ◌/◌, ◌^◌, ◌<◌}
use native.Mathlib.Numerals.{add-one}
use native.Mathlib.Omega.{arith}
use lib.ListN.{length, length-set, take, drop, get_or, set}
use lib.Seq.{take-suc, take-suc-set, take_all}
use Rattle.bits.specs.declared.psr.Psr.{Psr}
use Rattle.bits.specs.Psr.{psr_of}
use Rattle.machine.specs.Place.{before}
use Rattle.layout.specs.State.{decode}

-- one word more, over the first
pub one_more : (l from : List ℕ) (i : ℕ) → i < length l → i < length from → take i l ≡ take i from → take (i + 1) (set l i (get_or from i 0)) ≡ take (i + 1) from
one_more l from i h k e = rw (add-one, take-suc-set l i _ h, take-suc from i 0 k, e)

-- and over those from the n-th on
pub one_further : (l a from : List ℕ) (n i : ℕ) → n + i < length l → i < length from → take (n + i) l ≡ a ++ take i from
    → take (n + (i + 1)) (set l (n + i) (get_or from i 0)) ≡ a ++ take (i + 1) from
one_further l a from n i h k e =
    let z : n + (i + 1) ≡ suc (n + i) = omega arith in
    rw (z, take-suc-set l (n + i) _ h, e, add-one i, take-suc from i 0 k) (append_assoc a (take i from) (get_or from i 0 ∷ []))

-- all of them
pub all_copied : (n : ℕ) (l from : List ℕ) (i : ℕ) → length l ≡ n → i ≡ n → take i l ≡ take i from → l ≡ take n from
all_copied n l from i h z e = sym (take_all n l (omega arith)) ∙ (rw z at e)

-- the last five words of a state
pub last_five : (l s r : List ℕ) (a b c d e : ℕ) → length l ≡ before → take 48 l ≡ s ++ r
    → set (set (set (set (set l 48 a) 49 b) 50 c) 51 d) 52 e ≡ s ++ (r ++ (a ∷ b ∷ c ∷ d ∷ e ∷ []))
last_five l s r a b c d e h k =
    let l₁ = set l 48 a in
    let l₂ = set l₁ 49 b in
    let l₃ = set l₂ 50 c in
    let l₄ = set l₃ 51 d in
    let n₁ : length l₁ ≡ before = simp length-set h in
    let n₂ : length l₂ ≡ before = simp length-set h in
    let n₃ : length l₃ ≡ before = simp length-set h in
    let n₄ : length l₄ ≡ before = simp length-set h in
    let n₅ : length (set l₄ 52 e) ≡ before = simp length-set h in
    let e₁ : take 49 l₁ ≡ (s ++ r) ++ (a ∷ []) = take-suc-set l 48 a (omega arith) ∙ ap (λ (x : List ℕ). x ++ (a ∷ [])) k in
    let e₂ : take 50 l₂ ≡ ((s ++ r) ++ (a ∷ [])) ++ (b ∷ []) = take-suc-set l₁ 49 b (omega arith) ∙ ap (λ (x : List ℕ). x ++ (b ∷ [])) e₁ in
    let e₃ : take 51 l₃ ≡ (((s ++ r) ++ (a ∷ [])) ++ (b ∷ [])) ++ (c ∷ []) = take-suc-set l₂ 50 c (omega arith) ∙ ap (λ (x : List ℕ). x ++ (c ∷ [])) e₂ in
    let e₄ : take 52 l₄ ≡ ((((s ++ r) ++ (a ∷ [])) ++ (b ∷ [])) ++ (c ∷ [])) ++ (d ∷ []) = take-suc-set l₃ 51 d (omega arith) ∙ ap (λ (x : List ℕ). x ++ (d ∷ [])) e₃ in
    let e₅ : take 53 (set l₄ 52 e) ≡ (((((s ++ r) ++ (a ∷ [])) ++ (b ∷ [])) ++ (c ∷ [])) ++ (d ∷ [])) ++ (e ∷ []) =
    take-suc-set l₄ 52 e (omega arith) ∙ ap (λ (x : List ℕ). x ++ (e ∷ [])) e₄
    in
    sym (take_all before (set l₄ 52 e) (omega arith)) ∙ (e₅ ∙ simp append_assoc)

-- the first words of a state are the singles, once they are all copied
pub first_copied : (n : ℕ) (l s : List ℕ) (i : ℕ) → length s ≡ n → i ≡ n → take i l ≡ take i s → take n l ≡ s ++ []
first_copied n l s i h z e = (rw z at e) ∙ (take_all n s (omega arith) ∙ sym (append-nil s))

-- and then the core registers
pub second_copied : (l s r : List ℕ) (i : ℕ) → length r ≡ 16 → i ≡ 16 → take (32 + i) l ≡ s ++ take i r → take 48 l ≡ s ++ r
second_copied l s r i h z e = (rw z at e) ∙ ap (λ (x : List ℕ). s ++ x) (take_all 16 r (omega arith))

-- the machine of copied words
pub decoded : (l s r : List ℕ) (x : Psr) (thumb : Bool) → s ≡ take 32 l → r ≡ take 16 (drop 32 l) → x ≡ psr_of (get_or l 51 0 / 2 ^ 28)
    → record { s = s; r = r; fpscr = get_or l 48 0 + get_or l 49 0 + get_or l 52 0; fpexc = get_or l 50 0; cpsr = x; thumb = thumb } ≡ decode thumb l
unfolding decode
decoded l s r x thumb p q e = rw (p, q, e)
