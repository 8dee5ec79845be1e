-- The laws of the refusals, test by test.
use Prim.Native.Nat.{ℕ, ◌+◌, ◌-◌, ◌*◌, ◌<◌, ◌≤◌}
use native.Mathlib.Omega.{arith}
use mathlib.Core.Path.{◌≡◌, refl, ap, sym, ◌∙◌}
use mathlib.Core.Bool.{Bool, true, false, cond, ◌&&◌}
use mathlib.Core.List.{List}
use lib.Dec.{eqb, leb}
use lib.ListN.{length, get_or, take, drop}
use borrow.Author.Tests.{lt-leb, le-leb, eq-eqb, ne_eqb, eqb-true, leb-true}
use Rattle.machine.specs.Place.{before}
use Rattle.window_marks.specs.Marks.{bits_only}
use Rattle.limits.specs.Limit.{run_limit, watch_limit}
use Rattle.layout.specs.State.{decode, valid, Valid}
use Rattle.layout.proofs.Both.{fst, snd}
use Rattle.layout.proofs.Words.{valid_facts}
use Rattle.place_marks.specs.Word.{map_in}
use Rattle.records.specs.Number.{numbers_of}
use Rattle.records.specs.Recorded.{layout_bit, list_count, of_bytes, sized}
use Rattle.record_refusal.specs.Refusal.{fits, well_formed, refusal_of, limit_in, Fitting, Accepted}
use Rattle.record_refusal.proofs.Fields.{base_is, list-length, window_length, window_known_is, window_known_length, state_is, known_is}

-- ---- 9

pub short : (b : List ℕ) (words marks : ℕ) → length b < 12 → false ≡ fits b words marks
unfolding fits sized
short b words marks h =
    rw (ne_eqb (length b) (4 * (3 + 2 * get_or (numbers_of b) 1 0 + list_count (numbers_of b))) (λ e. omega (arith, e)), none (leb layout_bit (get_or (numbers_of b) 0 0)))
  where
    none : (x : Bool) → (x && false) ≡ false
    none true = refl
    none false = refl

pub old : (b : List ℕ) (words marks : ℕ) → leb layout_bit (get_or (numbers_of b) 0 0) ≡ false → false ≡ fits b words marks
unfolding fits sized
old b words marks h = rw h

module _ (b : List ℕ) (words marks n s : ℕ) (t : leb layout_bit (get_or (numbers_of b) 0 0) ≡ true) (p : n ≡ list_count (numbers_of b)) (q : s ≡ get_or (numbers_of b) 1 0) where
  pub missized : (length b ≡ 4 * (3 + 2 * s + n) → ⊥) → false ≡ fits b words marks
  unfolding fits sized
  missized e = rw (t, ← p, ← q, ne_eqb (length b) (4 * (3 + 2 * s + n)) e)

  pub few : length b ≡ 4 * (3 + 2 * s + n) → s < before → false ≡ fits b words marks
  unfolding fits sized
  few e h = rw (t, ← p, ← q, eq-eqb (length b) (4 * (3 + 2 * s + n)) e, lt-leb before s h)

  pub unlike : length b ≡ 4 * (3 + 2 * s + n) → before ≤ s → (words ≡ s - before → ⊥) → false ≡ fits b words marks
  unfolding fits sized
  unlike e h k = rw (t, ← p, ← q, eq-eqb (length b) (4 * (3 + 2 * s + n)) e, le-leb before s h, ne_eqb words (s - before) k)

  pub alike : length b ≡ 4 * (3 + 2 * s + n) → before ≤ s → words ≡ s - before → eqb marks (s - before) ≡ fits b words marks
  unfolding fits sized
  alike e h k = rw (t, ← p, ← q, eq-eqb (length b) (4 * (3 + 2 * s + n)) e, le-leb before s h, eq-eqb words (s - before) k)

-- ---- what fits

module _ (b : List ℕ) (words marks : ℕ) (e : fits b words marks ≡ true) where
  abbrev s : ℕ
  s = get_or (numbers_of b) 1 0

  abbrev buffers : Bool
  buffers = eqb words (s - before) && eqb marks (s - before)

  pub parts : (sized b ≡ true) × (leb before s ≡ true) × (buffers ≡ true)
  unfolding fits
  parts =
      let rest : (leb before s && buffers) ≡ true = snd (sized b) (leb before s && buffers) e in
      (fst (sized b) (leb before s && buffers) e, fst (leb before s) buffers rest, snd (leb before s) buffers rest)

  stated_is : s ≡ before + words
  stated_is = omega (arith, leb-true before s parts.1, eqb-true words (s - before) (fst (eqb words (s - before)) _ parts.2))

  bytes_are : length b ≡ 4 * (3 + 2 * s + list_count (numbers_of b))
  unfolding sized
  bytes_are = eqb-true (length b) (4 * (3 + 2 * s + list_count (numbers_of b))) (snd (leb layout_bit (get_or (numbers_of b) 0 0)) _ parts.0)

  pub fitting : Fitting b words
  fitting = record { stated = stated_is; bytes = omega (arith, bytes_are, stated_is) }

  pub as_many : marks ≡ words
  as_many = omega (arith, stated_is, eqb-true marks (s - before) (snd (eqb words (s - before)) _ parts.2))

-- ---- 10

module _ (b : List ℕ) (words : ℕ) (f : Fitting b words) where
  pub well_formed_lem : well_formed (of_bytes b)
      ≡ (valid (take before (drop 2 (numbers_of b))) && bits_only (take before (drop (55 + words) (numbers_of b))))
  unfolding well_formed
  well_formed_lem = rw (state_is b words f, known_is b words f)

  module _ (state : List ℕ) (r t : Bool) (p : state ≡ take before (drop 2 (numbers_of b))) (q : r ≡ valid state) where
    pub formed_not : r ≡ false → false ≡ well_formed (of_bytes b)
    formed_not e = rw (well_formed_lem, ← p, ← q, e)

    pub formed_is : r ≡ true → t ≡ bits_only (take before (drop (55 + words) (numbers_of b))) → t ≡ well_formed (of_bytes b)
    formed_is e g = rw (well_formed_lem, ← p, ← q, e, ← g)

  -- ---- 1 to 7

  pub limit_is : (n base : ℕ) → n ≡ list_count (numbers_of b) → base ≡ get_or (numbers_of b) (108 + 2 * words) 0
      → watch_limit n base words false (take words (drop (108 + words) (numbers_of b))) ≡ limit_in (of_bytes b)
  unfolding decode map_in
  limit_is n base p q = rw (list-length b words f, base_is b words f, window_length b words f, window_known_is b words f, p, q)

  pub marks_are : length (take words (drop (108 + words) (numbers_of b))) ≡ words
  marks_are = ap length (sym (window_known_is b words f)) ∙ window_known_length b words f

  -- ---- the machine

  module _ (state : List ℕ) (p : state ≡ take before (drop 2 (numbers_of b))) where
    pub Valid-state : well_formed (of_bytes b) ≡ true → Valid state
    Valid-state e =
        let g : (valid state && bits_only (take before (drop (55 + words) (numbers_of b)))) ≡ true = rw p (sym well_formed_lem ∙ e) in
        valid_facts state (fst (valid state) _ g)

    pub decoded_state : decode false state ≡ decode false (take before (of_bytes b).values)
    decoded_state = ap (decode false) (p ∙ sym (state_is b words f))

module _ (n base words : ℕ) (marks : List ℕ) (k : ℕ) (e : k ≡ run_limit n base words false) where
  pub run_refused : (k ≡ 0 → ⊥) → k ≡ watch_limit n base words false marks
  unfolding watch_limit
  run_refused h = rw (← e, ne_eqb k 0 h)

  pub by_marks : k ≡ 0 → length marks ≡ words → (r : Bool) → r ≡ bits_only marks → cond r 0 7 ≡ watch_limit n base words false marks
  unfolding watch_limit
  by_marks h l r f = rw (← e, h, eq-eqb (length marks) words l, f)

-- ---- in their order

pub nine : (b : List ℕ) (words marks : ℕ) → fits b words marks ≡ false → 9 ≡ refusal_of b words marks
unfolding refusal_of
nine b words marks e = rw e

pub ten : (b : List ℕ) (words marks : ℕ) → fits b words marks ≡ true → well_formed (of_bytes b) ≡ false → 10 ≡ refusal_of b words marks
unfolding refusal_of
ten b words marks e f = rw (e, f)

pub limited : (b : List ℕ) (words marks : ℕ) → fits b words marks ≡ true → well_formed (of_bytes b) ≡ true
    → limit_in (of_bytes b) ≡ refusal_of b words marks
unfolding refusal_of
limited b words marks e f = rw (e, f)

-- ---- what is not refused

module _ (b : List ℕ) (words marks : ℕ) (e : refusal_of b words marks ≡ 0) where
  tests : (fits b words marks ≡ true) × (well_formed (of_bytes b) ≡ true) × (limit_in (of_bytes b) ≡ 0)
  unfolding refusal_of
  tests = by (fits b words marks) (well_formed (of_bytes b)) (limit_in (of_bytes b)) e
    where
      by : (p q : Bool) (n : ℕ) → cond p (cond q n 10) 9 ≡ 0 → (p ≡ true) × (q ≡ true) × (n ≡ 0)
      by true true n g = (refl, refl, g)
      by true false n g = let z : ◌≡◌ {A = ℕ} 10 0 = g in absurd (omega (arith, z))
      by false q n g = let z : ◌≡◌ {A = ℕ} 9 0 = g in absurd (omega (arith, z))

  pub accepted : Accepted b words
  accepted = record { fitting = fitting b words marks tests.0; formed = tests.1; within = tests.2 }

  pub accepted_size : sized b ≡ true
  accepted_size = (parts b words marks tests.0).0

  pub accepted_marks : marks ≡ words
  accepted_marks = as_many b words marks tests.0
