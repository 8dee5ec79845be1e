-- The places of what buffers encode, by their numbers: word n is that of place n.
use Prim.Native.Nat.{ℕ, zero, suc, ◌+◌, ◌-◌, ◌/◌, ◌^◌, ◌<◌, ◌≤◌}
use native.Mathlib.Omega.{arith}
use native.Mathlib.Decide.{dec_lt}
use mathlib.Core.Path.{◌≡◌, refl, ◌∙◌, subst}
use mathlib.Core.Bool.{Bool}
use mathlib.Core.List.{List, [], ◌∷◌}
use lib.ListN.{length, get_or, take, drop}
use lib.Seq.{get_or-take, get_or-drop}
use borrow.Author.Tests.{lt-ltb, le-ltb}
use Rattle.bits.specs.Psr.{nzcv_of, psr_of}
use Rattle.machine.specs.Place.{Place, single, core, word, flags, control, exc, nzcv, exceptions, place, before, get, state}
use Rattle.layout.specs.State.{decode, Valid}

-- a fact of the places before the window, by their sorts
pub by_number : (P : ℕ → Place → Type 0) → ((n : ℕ) → n < 32 → P n (single n)) → ((n : ℕ) → n < 16 → P (32 + n) (core n)) → P 48 flags → P 49 control → P 50 exc → P 51 nzcv → P 52 exceptions
    → (n : ℕ) → n < before → P n (place n)
unfolding place
by_number P s r f c e z v n h = by (dec_lt n 32) (dec_lt n 48) (dec_lt n 49) (dec_lt n 50) (dec_lt n 51) (dec_lt n 52)
  where
    by : Dec (n < 32) → Dec (n < 48) → Dec (n < 49) → Dec (n < 50) → Dec (n < 51) → Dec (n < 52) → P n (place n)
    by (yes i) _ _ _ _ _ = rw (lt-ltb n 32 i) (s n i)
    by (no i) (yes j) _ _ _ _ =
        let q : 32 + (n - 32) ≡ n = omega arith in
        rw (le-ltb n 32 (omega arith), lt-ltb n 48 j) (subst (λ (k : ℕ). P k (core (n - 32))) q (r (n - 32) (omega arith)))
    by (no i) (no j) (yes k) _ _ _ = subst (λ (k : ℕ). P k (place k)) (let q : 48 ≡ n = omega arith in q) f
    by (no i) (no j) (no k) (yes x) _ _ = subst (λ (k : ℕ). P k (place k)) (let q : 49 ≡ n = omega arith in q) c
    by (no i) (no j) (no k) (no x) (yes y) _ = subst (λ (k : ℕ). P k (place k)) (let q : 50 ≡ n = omega arith in q) e
    by (no i) (no j) (no k) (no x) (no y) (yes w) = subst (λ (k : ℕ). P k (place k)) (let q : 51 ≡ n = omega arith in q) z
    by (no i) (no j) (no k) (no x) (no y) (no w) = subst (λ (k : ℕ). P k (place k)) (let q : 52 ≡ n = omega arith in q) v

-- a part of a list
core_part : {A : Type 0} (l : List A) (d : A) (n : ℕ) → n < 16 → get_or (take 16 (drop 32 l)) n d ≡ get_or l (32 + n) d
core_part l d n h = get_or-take 16 (drop 32 l) n d h ∙ get_or-drop 32 l n d

-- ---- a state

-- what a place holds, of its word
abbrev pub held : Place → ℕ → ℕ
held (single n) x = x
held (core n) x = x
held (word n) x = x
held flags x = x / 2 ^ 28
held control x = x
held exc x = x
held nzcv x = nzcv_of (psr_of (x / 2 ^ 28))
held exceptions x = x

module _ (thumb : Bool) (l w : List ℕ) (z : Valid l) where
  pub decoded_place : (n : ℕ) → n < before → get (state (decode thumb l) w) (place n) ≡ held (place n) (get_or l n 0)
  unfolding decode
  decoded_place =
      by_number (λ n p. get (state (decode thumb l) w) p ≡ held p (get_or l n 0)) (λ n h. get_or-take 32 l n 0 h) (λ n h. core_part l 0 n h)
      (omega (arith, z.flags_only, z.control_only, z.exceptions_only)) (omega (arith, z.flags_only, z.control_only, z.exceptions_only)) refl refl
      (omega (arith, z.flags_only, z.control_only, z.exceptions_only))

-- ---- the window

pub word-place : (n : ℕ) → before ≤ n → place n ≡ word (n - before)
unfolding place
word-place n h =
    rw (le-ltb n 32 (omega arith), le-ltb n 48 (omega arith), le-ltb n 49 (omega arith), le-ltb n 50 (omega arith), le-ltb n 51 (omega arith), le-ltb n 52 (omega arith), le-ltb n before (omega arith))

-- an entry is the same for every default
pub inside : (v : List ℕ) (i : ℕ) → i < length v → get_or v i 0 ≡ get_or v i 1
inside [] i h = absurd (omega arith)
inside (x ∷ v) zero h = refl
inside (x ∷ v) (suc i) h = inside v i (omega arith)

-- a mark of 1 is one for every default
pub one_inside : (v : List ℕ) (i : ℕ) → get_or v i 0 ≡ 1 → get_or v i 1 ≡ 1
one_inside [] i e = refl
one_inside (x ∷ v) zero e = e
one_inside (x ∷ v) (suc i) e = one_inside v i e
