-- Encoding a machine and decoding it are inverse.
use Prim.Native.Nat.{ℕ, ◌+◌, ◌-◌, ◌*◌, ◌/◌, ◌%◌, ◌^◌, ◌<◌, ◌≤◌}
use mathlib.Core.Path.{◌≡◌, ap, sym, subst, ◌∙◌}
use mathlib.Core.Bool.{Bool, true}
use mathlib.Core.List.{List, [], ◌∷◌, ◌++◌}
use native.Mathlib.Omega.{arith}
use native.Mathlib.Decide.{dec_lt}
use lib.Dec.{eqb}
use lib.ListN.{length, get_or, take, drop, take-append-drop, drop_of_length-le, length-append, get_or-append}
use lib.Seq.{drop-cons, drop-drop, take_at, drop_at, get_or-append-add}
use borrow.Author.Tests.{lt-ltb, le-ltb, eqb-true, ltb-true}
use Rattle.bits.specs.Psr.{nzcv_of, psr_of}
use Rattle.bits.proofs.Flags.{psr_nzcv, nzcv_psr}
use Rattle.machine.specs.declared.Machine.{Machine}
use Rattle.machine.specs.Machine.{Sized}
use Rattle.machine.specs.Place.{place, before, control_of, exceptions_of, get, state}
use Rattle.layout.specs.State.{encode, decode, valid, Valid, in_position}
use Rattle.layout.proofs.Both.{fst, snd}

-- the test as facts
pub valid_facts : (l : List ℕ) → valid l ≡ true → Valid l
unfolding valid
valid_facts l e =
    let e₁ = snd (eqb (length l) before) _ e in
    let e₂ = snd (eqb (get_or l 48 0 % 2 ^ 28) 0) _ e₁ in
    let e₃ = snd (eqb (control_of (get_or l 49 0)) (get_or l 49 0)) _ e₂ in
    record {
      words = eqb-true _ _ (fst (eqb (length l) before) _ e);
      flags_only = eqb-true _ _ (fst (eqb (get_or l 48 0 % 2 ^ 28) 0) _ e₁);
      control_only = eqb-true _ _ (fst (eqb (control_of (get_or l 49 0)) (get_or l 49 0)) _ e₂);
      nzcv_only = eqb-true _ _ (fst (eqb (get_or l 51 0 % 2 ^ 28) 0) _ e₃);
      exceptions_only = ltb-true _ _ (snd (eqb (get_or l 51 0 % 2 ^ 28) 0) _ e₃);
    }

-- the last five words
pub last_words : (l : List ℕ) → length l ≡ before → drop 48 l ≡ get_or l 48 0 ∷ get_or l 49 0 ∷ get_or l 50 0 ∷ get_or l 51 0 ∷ get_or l 52 0 ∷ []
last_words l h =
    drop-cons l 48 0 (omega arith) ∙ ap (λ (x : List ℕ). get_or l 48 0 ∷ x)
    (drop-cons l 49 0 (omega arith) ∙ ap (λ (x : List ℕ). get_or l 49 0 ∷ x)
    (drop-cons l 50 0 (omega arith) ∙ ap (λ (x : List ℕ). get_or l 50 0 ∷ x)
    (drop-cons l 51 0 (omega arith) ∙ ap (λ (x : List ℕ). get_or l 51 0 ∷ x)
    (drop-cons l 52 0 (omega arith) ∙ ap (λ (x : List ℕ). get_or l 52 0 ∷ x) (drop_of_length-le l {i = before} (omega arith))))))

-- a state's words in its three parts
pub in_parts : (l : List ℕ) → length l ≡ before → take 32 l ++ (take 16 (drop 32 l) ++ (get_or l 48 0 ∷ get_or l 49 0 ∷ get_or l 50 0 ∷ get_or l 51 0 ∷ get_or l 52 0 ∷ [])) ≡ l
in_parts l h =
    ap (λ (x : List ℕ). take 32 l ++ (take 16 (drop 32 l) ++ x)) (sym (last_words l h) ∙ sym (drop-drop 16 32 l))
    ∙ (ap (λ (x : List ℕ). take 32 l ++ x) (take-append-drop 16 (drop 32 l)) ∙ take-append-drop 32 l)

-- FPSCR of its three words
module _ (a b c : ℕ) (h : a % 2 ^ 28 ≡ 0) (k : control_of b ≡ b) (l : c < 2 ^ 5) where
  high_part : (a + b + c) / 2 ^ 28 * 2 ^ 28 ≡ a
  high_part = omega arith

  mid_part : control_of (a + b + c) ≡ b
  mid_part = omega arith

  low_part : exceptions_of (a + b + c) ≡ c
  low_part = omega arith

flags_part : (x : ℕ) → x < 2 ^ 32 → x % 2 ^ 28 ≡ 0 → nzcv_of (psr_of (x / 2 ^ 28)) * 2 ^ 28 ≡ x
flags_part x h z = rw (nzcv_psr (x / 2 ^ 28) (omega arith)) (omega arith)

-- valid words are the words of their machine; a word is below 2^32
pub encode-decode : (thumb : Bool) (l : List ℕ) → Valid l → get_or l 51 0 < 2 ^ 32 → encode (decode thumb l) ≡ l
unfolding encode decode
encode-decode thumb l s h =
    rw (high_part (get_or l 48 0) (get_or l 49 0) (get_or l 52 0) s.flags_only s.control_only s.exceptions_only, mid_part (get_or l 48 0) (get_or l 49 0) (get_or l 52 0) s.flags_only s.control_only s.exceptions_only, low_part (get_or l 48 0) (get_or l 49 0) (get_or l 52 0) s.flags_only s.control_only s.exceptions_only, flags_part (get_or l 51 0) h s.nzcv_only)
    (in_parts l s.words)

-- the words after the singles and the core registers
abbrev tail : Machine → List ℕ
tail m = m.fpscr / 2 ^ 28 * 2 ^ 28 ∷ control_of m.fpscr ∷ m.fpexc ∷ nzcv_of m.cpsr * 2 ^ 28 ∷ exceptions_of m.fpscr ∷ []

module _ (m : Machine) (z : Sized m) where
  singles : take 32 (encode m) ≡ m.s
  unfolding encode
  singles = take_at m.s _ 32 z.s

  cores : take 16 (drop 32 (encode m)) ≡ m.r
  unfolding encode
  cores = ap (take 16) (drop_at m.s (m.r ++ tail m) 32 z.s) ∙ take_at m.r (tail m) 16 z.r

  -- the word at 48 + i
  late : (i : ℕ) → get_or (encode m) (48 + i) 0 ≡ get_or (tail m) i 0
  unfolding encode
  late i =
      let e : 48 + i ≡ length m.s + (length m.r + i) = omega (arith, z.s, z.r) in
      rw e (get_or-append-add m.s (m.r ++ tail m) (length m.r + i) 0 ∙ get_or-append-add m.r (tail m) i 0)

  whole : m.fpscr / 2 ^ 28 * 2 ^ 28 + control_of m.fpscr + exceptions_of m.fpscr ≡ m.fpscr
  whole = omega arith

  -- a machine is the machine of its words
  pub decode-encode : decode m.thumb (encode m) ≡ m
  unfolding decode
  decode-encode = rw (singles, cores, late 0, late 1, late 2, late 3, late 4, whole, back, psr_nzcv m.cpsr)
    where
      back : nzcv_of m.cpsr * 2 ^ 28 / 2 ^ 28 ≡ nzcv_of m.cpsr
      back = omega arith

  as_long : length (encode m) ≡ before
  unfolding encode
  as_long = simp length-append (omega (arith, z.s, z.r))

  pub Valid-encode : Valid (encode m)
  Valid-encode =
      record {
        words = as_long;
        flags_only = rw (late 0) (omega arith);
        control_only = rw (late 1) (omega arith);
        nzcv_only = rw (late 3) (omega arith);
        exceptions_only = rw (late 4) (omega arith);
      }

  -- the word of each place has the place's bits
  module _ (v : List ℕ) where
    abbrev Right : ℕ → Type 0
    Right n = get_or (encode m) n 0 ≡ in_position (place n) (get (state m v) (place n))

    Right-single : (n : ℕ) → n < 32 → Right n
    unfolding encode place
    Right-single n h = rw (lt-ltb _ _ h) (get_or-append m.s _ 0 n (omega (arith, z.s)))

    Right-core : (n : ℕ) → 32 ≤ n → n < 48 → Right n
    unfolding encode place
    Right-core n h k =
        let e : n ≡ length m.s + (n - 32) = omega (arith, z.s) in
        rw (le-ltb _ _ h, lt-ltb _ _ k) (ap (λ (x : ℕ). get_or (m.s ++ (m.r ++ tail m)) x 0) e ∙ (get_or-append-add m.s (m.r ++ tail m) (n - 32) 0 ∙ get_or-append m.r (tail m) 0 (n - 32) (omega (arith, z.r))))

    Right-flags : Right 48
    unfolding place
    Right-flags = late 0

    Right-control : Right 49
    unfolding place
    Right-control = late 1

    Right-exc : Right 50
    unfolding place
    Right-exc = late 2

    Right-nzcv : Right 51
    unfolding place
    Right-nzcv = late 3

    Right-exceptions : Right 52
    unfolding place
    Right-exceptions = late 4

    pub place_word : (n : ℕ) → n < before → Right n
    place_word n h = by (dec_lt n 32) (dec_lt n 48) (dec_lt n 49) (dec_lt n 50) (dec_lt n 51) (dec_lt n 52)
      where
        by : Dec (n < 32) → Dec (n < 48) → Dec (n < 49) → Dec (n < 50) → Dec (n < 51) → Dec (n < 52) → Right n
        by (yes a) b c d e f = Right-single n a
        by (no a) (yes b) c d e f = Right-core n (omega arith) b
        by (no a) (no b) (yes c) d e f = subst Right (let q : 48 ≡ n = omega arith in q) Right-flags
        by (no a) (no b) (no c) (yes d) e f = subst Right (let q : 49 ≡ n = omega arith in q) Right-control
        by (no a) (no b) (no c) (no d) (yes e) f = subst Right (let q : 50 ≡ n = omega arith in q) Right-exc
        by (no a) (no b) (no c) (no d) (no e) (yes f) = subst Right (let q : 51 ≡ n = omega arith in q) Right-nzcv
        by (no a) (no b) (no c) (no d) (no e) (no f) = subst Right (let q : 52 ≡ n = omega arith in q) Right-exceptions
