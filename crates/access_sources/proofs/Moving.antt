-- Words that are moved in turn, one or two in a step: the last that is moved to a place.
use Prim.Native.Nat.{ℕ, ◌+◌, ◌-◌, ◌*◌, ◌/◌, ◌%◌, ◌<◌, ◌≤◌, ◌^◌}
use native.Mathlib.Omega.{arith}
use native.Mathlib.Decide.{dec_lt, ℕ_discrete}
use mathlib.Core.Path.{◌≡◌, refl, ap, sym, ◌∙◌, subst}
use mathlib.Core.Bool.{Bool, true, false, cond, false≢true}
use mathlib.Core.List.{[], ◌∷◌}
use lib.Ieee.{Format, binary32, binary64}
use Rattle.bits.specs.Field.{field, bit_of}
use Rattle.machine.specs.Place.{Place, single, core, word, place, before, s_word}
use Rattle.machine.specs.Window.{word_at}
use Rattle.meaning.specs.Map.{Map, known}
use Rattle.meaning.specs.Step.{Write, Step, Act, step_marks, after_marks, act_marks, grow}
use Rattle.meaning.proofs.Laws.{grow_marks}
use Rattle.addresses.specs.Address.{words_in, first_word, offset, write_back}
use Rattle.addresses.proofs.Block.{word_bound}
use Rattle.pairs.specs.Pair.{moved}
use Rattle.memory.specs.LoadStore.{access_at}
use Rattle.memory.proofs.Doubles.{halves}
use Rattle.chains.specs.Chain.{same, writes, reads, Way}
use Rattle.chains.specs.Origin.{Mapped, Present}
use Rattle.chains.proofs.Laws.{no_link, last_link, after_kept}
use Rattle.place_marks.specs.Word.{map_in}
use Rattle.place_marks.proofs.Places.{place-single, place-core, place-word}
use Rattle.sources.specs.declared.Source.TheVariants.{Kept, From}
use Rattle.sources.proofs.Rules.{Present-place, Mapped-in, same_at, other_at}
use Rattle.access_sources.specs.Moved.{moved_act, LeadingMoved}

-- ---- steps of one write or of two, in turn

abbrev each_of : Format → (ℕ → Write) → ℕ → Step
each_of binary32 X t = X t ∷ []
each_of binary64 X t = X (2 * t) ∷ X (2 * t + 1) ∷ []

abbrev step_of : Format → ℕ → ℕ
step_of binary32 u = u
step_of binary64 u = u / 2

module _ (X : ℕ → Write) (q : Place) where
  quiet : (f : Format) (t k : ℕ) → t < k → ((u : ℕ) → u < words_in f * k → step_of f u ≡ t → same (X u).target q ≡ false) → writes (each_of f X t) q ≡ false
  quiet binary32 t k l h = rw (h t (omega arith) refl) refl
  quiet binary64 t k l h = rw (h (2 * t) (omega arith) (omega arith), h (2 * t + 1) (omega arith) (omega arith)) refl

  -- the last of the words that is written there
  loud : (f : Format) (k u : ℕ) → u < words_in f * k → same (X u).target q ≡ true → ((v : ℕ) → u < v → v < words_in f * k → same (X v).target q ≡ false)
      → (writes (each_of f X (step_of f u)) q ≡ true) × (reads (each_of f X (step_of f u)) q ≡ (X u).sources)
  loud binary32 k u l y h = rw y (refl, refl)
  loud binary64 k u l y h = by (dec_lt (2 * (u / 2)) u)
    where
      by : Dec (2 * (u / 2) < u) → (writes (X (2 * (u / 2)) ∷ X (2 * (u / 2) + 1) ∷ []) q ≡ true) × (reads (X (2 * (u / 2)) ∷ X (2 * (u / 2) + 1) ∷ []) q ≡ (X u).sources)
      by (yes z) = let e : 2 * (u / 2) + 1 ≡ u = omega arith in rw (e, y) (refl, refl)
      by (no z) =
          let e : 2 * (u / 2) ≡ u = omega (arith, z) in
          rw e (rw (h (u + 1) (omega arith) (omega arith), y) (refl, refl))

module _ (f : Format) (X : ℕ → Write) (each : ℕ → Step) (e : (t : ℕ) → each t ≡ each_of f X t) (k : ℕ) (tail : Step) (i : ℕ) (μ : Map) (q : Place) where
  abbrev act : Act
  act = record { count = k; each = each; tail = tail }

  step_quiet : (p : Place) (t : ℕ) → t < k → ((u : ℕ) → u < words_in f * k → step_of f u ≡ t → same (X u).target p ≡ false) → writes (each t) p ≡ false
  step_quiet p t l h = ap (λ (x : Step). writes x p) (e t) ∙ quiet X p f t k l h

  moved_kept : ((u : ℕ) → u < words_in f * k → same (X u).target q ≡ false) → writes tail q ≡ false → known (act_marks act μ) q ≡ false → Way i act μ q [] q
  moved_kept h n u = no_link i act μ q n u (λ t l. step_quiet q t l (λ v g z. h v g))

  below : (g : Format) (u : ℕ) → u < words_in g * k → step_of g u < k
  below binary32 u l = omega arith
  below binary64 u l = omega arith

  after : (g : Format) (u v : ℕ) → step_of g u < step_of g v → u < v
  after binary32 u v l = l
  after binary64 u v l = omega arith

  moved_from : Mapped μ → Present q → (p : Place) (u : ℕ) → u < words_in f * k → same (X u).target q ≡ true → (X u).sources ≡ p ∷ []
      → ((v : ℕ) → u < v → v < words_in f * k → same (X v).target q ≡ false) → ((v : ℕ) → same (X v).target p ≡ false)
      → writes tail q ≡ false → known (act_marks act μ) q ≡ false → Way i act μ p (record { index = i; place = q } ∷ []) q
  moved_from m h p u l y s later apart n z =
      let w = loud X q f k u l y later in
      last_link i act μ q n z m h p (step_of f u) (below f u l) (ap (λ (x : Step). writes x q) (e (step_of f u)) ∙ w.0)
      (ap (λ (x : Step). reads x q) (e (step_of f u)) ∙ w.1 ∙ s)
      (λ t a b. step_quiet q t b (λ v c d. later v (after f u v (subst (λ (j : ℕ). step_of f u < j) (sym d) a)) c))
      (λ t a. step_quiet p t (omega (arith, below f u l)) (λ v c d. apart v))

-- ---- the words of a load or store

abbrev word_of : Bool → ℕ → ℕ → ℕ → ℕ → Write
word_of load base first a u = moved load (s_word (first + u)) (word (word_at base ((a + 4 * u) % 2 ^ 32)))

access_each : (f : Format) (load : Bool) (base n a t : ℕ) → access_at f load base n a t ≡ each_of f (word_of load base (first_word f n) a) t
access_each binary32 load base n a t = refl
access_each binary64 load base n a t = halves load base n a t

-- the word of the u-th address
word_beyond : (base a u : ℕ) → word_at base ((a + 4 * u) % 2 ^ 32) ≡ (word_at base a + u) % 2 ^ 30
unfolding word_at
word_beyond base a u = omega arith

tail_marks : (op : ℕ) (μ : Map) → step_marks (write_back op) μ ≡ μ
tail_marks op μ = by (bit_of op 21)
  where
    by : (b : Bool) → step_marks (cond b (grow (core (field op 16 19)) (cond (bit_of op 23) (offset op) (2 ^ 32 - offset op)) ∷ []) []) μ ≡ μ
    by true = grow_marks (field op 16 19) (cond (bit_of op 23) (offset op) (2 ^ 32 - offset op)) μ
    by false = refl

tail_other : (op q : ℕ) → (q ≡ 32 + field op 16 19 → ⊥) → writes (write_back op) (place q) ≡ false
tail_other op q n = by (bit_of op 21)
  where
    by : (b : Bool) → writes (cond b (grow (core (field op 16 19)) (cond (bit_of op 23) (offset op) (2 ^ 32 - offset op)) ∷ []) []) (place q) ≡ false
    by true = rw (other_at (core (field op 16 19)) (omega arith) q n) refl
    by false = refl

module _ (f : Format) (load : Bool) (base n a k op m q : ℕ) where
  -- where no word is moved to the place: it may be the base register only, which is known
  pub kept_moved : ((u : ℕ) → u < words_in f * k → same (word_of load base (first_word f n) a u).target (place q) ≡ false)
      → LeadingMoved f load base n a k op m q Kept
  kept_moved h w g u i = by (ℕ_discrete q (32 + field op 16 19))
    where
      by : Dec (q ≡ 32 + field op 16 19) → Way i (moved_act f load base n a k op) (map_in m w) (place q) [] (place q)
      by (no z) =
          moved_kept f (word_of load base (first_word f n) a) (access_at f load base n a) (access_each f load base n a) k (write_back op) i (map_in m w) (place q) h
          (tail_other op q z) u
      by (yes z) =
          let p = ap place z ∙ place-core (field op 16 19) (omega arith) in
          absurd (false≢true
          (sym u ∙ ap (λ (ν : Map). known ν (place q)) (tail_marks op (after_marks k (access_at f load base n a) (map_in m w)))
          ∙ after_kept k (access_at f load base n a) (map_in m w) (place q)
          (λ t l. step_quiet f (word_of load base (first_word f n) a) (access_at f load base n a) (access_each f load base n a) k (write_back op) i (map_in m w) (place q) (place q) t l (λ v c d. h v c))
          ∙ ap (known (map_in m w)) p ∙ g))

  -- the last that is
  pub from_moved : (p u : ℕ) → u < words_in f * k → same (word_of load base (first_word f n) a u).target (place q) ≡ true
      → (word_of load base (first_word f n) a u).sources ≡ place p ∷ []
      → ((v : ℕ) → u < v → v < words_in f * k → same (word_of load base (first_word f n) a v).target (place q) ≡ false)
      → ((v : ℕ) → same (word_of load base (first_word f n) a v).target (place p) ≡ false) → writes (write_back op) (place q) ≡ false
      → LeadingMoved f load base n a k op m q (From p)
  from_moved p u l y s later apart t w g z i =
      moved_from f (word_of load base (first_word f n) a) (access_at f load base n a) (access_each f load base n a) k (write_back op) i (map_in m w) (place q)
      (Mapped-in m w) (Present-place q) (place p) u l y s later apart t z

-- ---- loads, to singles

-- the last of the numbers below count that are one more or less than others by 32
wraps : (first q one : ℕ) → first < 32 → q < 32 → one ≡ (q + 32 - first) % 32 → (first + one) % 32 ≡ q
wraps first q one b h e = omega arith

turns : (one count u : ℕ) → one < count → u ≡ count - 1 - (count - 1 - one) % 32 → u ≡ one + (count - 1 - one) / 32 * 32
turns one count u l e = omega arith

round : (first one j : ℕ) → (first + (one + j * 32)) % 32 ≡ (first + one) % 32
round first one j = omega arith

lands : (first q one count u : ℕ) → first < 32 → q < 32 → one ≡ (q + 32 - first) % 32 → one < count → u ≡ count - 1 - (count - 1 - one) % 32 → q ≡ (first + u) % 32
lands first q one count u b h e l z =
    sym (wraps first q one b h e) ∙ sym (round first one ((count - 1 - one) / 32)) ∙ ap (λ (j : ℕ). (first + j) % 32) (sym (turns one count u l z))

module _ (f : Format) (base n a k op m q first count : ℕ) (e : first ≡ first_word f n) (g : count ≡ words_in f * k) where
  pub load_far : 32 ≤ q → LeadingMoved f true base n a k op m q Kept
  load_far h = kept_moved f true base n a k op m q (λ u l. other_at (s_word (first_word f n + u)) (omega arith) q (λ z. omega arith))

  pub load_none : first < 32 → q < 32 → count ≤ (q + 32 - first) % 32 → LeadingMoved f true base n a k op m q Kept
  load_none b h c = kept_moved f true base n a k op m q (λ u l. other_at (s_word (first_word f n + u)) (omega arith) q (λ z. omega arith))

  pub load_last : first < 32 → q < 32 → (u p : ℕ) → (q + 32 - first) % 32 < count → u ≡ count - 1 - (count - 1 - (q + 32 - first) % 32) % 32
      → p ≡ word_at base ((a + 4 * u) % 2 ^ 32) → LeadingMoved f true base n a k op m q (From (before + p))
  load_last b h u p c z y =
      from_moved f true base n a k op m q (before + p) u (omega arith) (same_at (s_word (first_word f n + u)) (omega arith) q (lands first q _ count u b h refl c z ∙ ap (λ (j : ℕ). (j + u) % 32) e))
      (ap (λ (x : Place). x ∷ []) (ap word (sym y) ∙ sym (place-word p)))
      (λ v i l. other_at (s_word (first_word f n + v)) (omega arith) q (λ j. omega arith))
      (λ v. other_at (s_word (first_word f n + v)) (omega arith) (before + p) (λ j. omega arith))
      (tail_other op q (λ j. omega arith))

-- ---- stores, to window words

module _ (f : Format) (base n a k op m q first count : ℕ) (e : first ≡ first_word f n) (g : count ≡ words_in f * k) where
  pub store_far : q < before → LeadingMoved f false base n a k op m q Kept
  store_far h = kept_moved f false base n a k op m q (λ u l. other_at (word (word_at base ((a + 4 * u) % 2 ^ 32))) tt q (λ z. omega arith))

  pub store_beyond : before ≤ q → 2 ^ 30 ≤ q - before → LeadingMoved f false base n a k op m q Kept
  store_beyond b h =
      kept_moved f false base n a k op m q
      (λ u l. let y = word_bound base ((a + 4 * u) % 2 ^ 32) in other_at (word (word_at base ((a + 4 * u) % 2 ^ 32))) tt q (λ z. omega arith))

  module _ (b : before ≤ q) (h : q - before < 2 ^ 30) (s : ℕ) (d : s ≡ word_at base a) (c : count ≤ 510) where
    pub store_none : count ≤ (q - before + 2 ^ 30 - s) % 2 ^ 30 → LeadingMoved f false base n a k op m q Kept
    store_none z =
        kept_moved f false base n a k op m q
        (λ u l.
        let y = word_bound base a in
        let x = word_beyond base a u in
        other_at (word (word_at base ((a + 4 * u) % 2 ^ 32))) tt q (λ i. omega arith))

    pub store_last : (u : ℕ) → u ≡ (q - before + 2 ^ 30 - s) % 2 ^ 30 → u < count → LeadingMoved f false base n a k op m q (From ((first + u) % 32))
    store_last u z l =
        let y = word_bound base a in
        let x = word_beyond base a u in
        from_moved f false base n a k op m q ((first + u) % 32) u (omega arith) (same_at (word (word_at base ((a + 4 * u) % 2 ^ 32))) tt q (omega arith))
        (ap (λ (x : Place). x ∷ []) (ap (λ (j : ℕ). single ((j + u) % 32)) (sym e) ∙ sym (place-single ((first + u) % 32) (omega arith))))
        (λ v i j.
        let x = word_beyond base a v in
        other_at (word (word_at base ((a + 4 * v) % 2 ^ 32))) tt q (λ o. omega arith))
        (λ v. other_at (word (word_at base ((a + 4 * v) % 2 ^ 32))) tt ((first + u) % 32) (λ o. omega arith)) (tail_other op q (λ o. omega arith))
