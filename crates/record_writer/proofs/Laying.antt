-- Bytes laid into a buffer one piece after another.
use Prim.Native.Nat.{ℕ, suc, ◌+◌, ◌*◌, ◌/◌, ◌%◌, ◌<◌, ◌≤◌}
use native.Mathlib.Omega.{arith}
use native.Mathlib.Numerals.{add-one}
use mathlib.Core.Path.{◌≡◌, refl, ap, sym, ◌∙◌}
use mathlib.Core.List.{List, [], ◌∷◌, ◌++◌, append_assoc, append-nil}
use lib.ListN.{length, length-append, get_or, set, take, drop, take-append-drop}
use lib.Seq.{sets-eq, take_at, drop_at, drop-drop, take-suc, take_all, length-take-le}
use Rattle.machine.specs.Place.{before}
use Rattle.window_marks.specs.Marks.{bytes_of}
use Rattle.records.specs.Number.{written, laid}
use Rattle.records.specs.Recorded.{Recorded, layout_bit, numbers_for, to_bytes, marks_of_word, record_of, Fits, Wrote}
use Rattle.records.proofs.Written.{written-length}
use Rattle.records.proofs.MarkWords.{marks_length}
use Rattle.records.proofs.Small.{stated_is}

-- ---- one piece after another

pub laid_none : (to : List ℕ) (at : ℕ) → to ≡ laid to at []
laid_none to at = let z : at + 0 ≡ at = omega arith in rw (z, append-nil (take at to)) (sym (take-append-drop at to))

module _ (to : List ℕ) (at : ℕ) (a : List ℕ) (h : at + length a ≤ length to) where
  head_length : length (take at to ++ a) ≡ at + length a
  head_length = length-append (take at to) a ∙ ap (λ (n : ℕ). n + length a) (length-take-le at to (omega arith))

  -- up to their end
  pub laid_first : take (at + length a) (laid to at a) ≡ take at to ++ a
  laid_first = take_at (take at to ++ a) _ (at + length a) head_length

  -- and past it
  pub laid_rest : (k : ℕ) → drop (at + length a + k) (laid to at a) ≡ drop (at + length a + k) to
  laid_rest k =
      sym (drop-drop k (at + length a) (laid to at a))
      ∙ (ap (drop k) (drop_at (take at to ++ a) _ (at + length a) head_length) ∙ drop-drop k (at + length a) to)

  pub laid_then : (b : List ℕ) → laid (laid to at a) (at + length a) b ≡ laid to at (a ++ b)
  laid_then b =
      let e : at + length (a ++ b) ≡ at + length a + length b = ap (λ (n : ℕ). at + n) (length-append a b) ∙ (omega arith) in
      rw (laid_first, laid_rest (length b), e, append_assoc (take at to) a b)

-- ---- a number

four_length : (x : ℕ) → length (bytes_of 4 x) ≡ 4
unfolding bytes_of
four_length x = refl

pub number_laid : (to : List ℕ) (at x : ℕ) → at + 4 ≤ length to
    → set (set (set (set to at (x % 256)) (at + 1) (x / 256 % 256)) (at + 2) (x / 256 / 256 % 256)) (at + 3) (x / 256 / 256 / 256 % 256)
    ≡ laid to at (bytes_of 4 x)
unfolding bytes_of
number_laid to at x h =
    let e₁ : at + 1 ≡ suc at = omega arith in
    let e₂ : at + 2 ≡ suc (suc at) = omega arith in
    let e₃ : at + 3 ≡ suc (suc (suc at)) = omega arith in
    rw (e₁, e₂, e₃) (sets-eq (x % 256 ∷ x / 256 % 256 ∷ x / 256 / 256 % 256 ∷ x / 256 / 256 / 256 % 256 ∷ []) to at h)

-- ---- numbers one by one

pub written-append : (a b : List ℕ) → written (a ++ b) ≡ written a ++ written b
unfolding written
written-append [] b = refl
written-append (x ∷ a) b = rw (written-append a b, append_assoc (bytes_of 4 x) (written a) (written b))

written_more : (l : List ℕ) (i : ℕ) → i < length l → written (take (i + 1) l) ≡ written (take i l) ++ bytes_of 4 (get_or l i 0)
unfolding written
written_more l i h =
    rw (add-one i, take-suc l i 0 h, written-append (take i l) (get_or l i 0 ∷ []), append-nil (bytes_of 4 (get_or l i 0)))

module _ (to : List ℕ) (at : ℕ) (l : List ℕ) (h : at + 4 * length l ≤ length to) where
  pub none_put : to ≡ laid to at (written (take 0 l))
  unfolding written
  none_put = laid_none to at

  -- one number more
  pub one_put : (now then : List ℕ) (next i x : ℕ) → i < length l → next ≡ at + 4 * i → now ≡ laid to at (written (take i l)) → x ≡ get_or l i 0
      → then ≡ laid now next (bytes_of 4 x) → then ≡ laid to at (written (take (i + 1) l))
  one_put now then next i x k p q r s =
      let n : length (written (take i l)) ≡ 4 * i = written-length (take i l) ∙ ap (λ (m : ℕ). 4 * m) (length-take-le i l (omega arith)) in
      let e : next ≡ at + length (written (take i l)) = omega (arith, p, n) in
      s ∙ (rw (q, e, r) (laid_then to at (written (take i l)) (omega (arith, n)) (bytes_of 4 (get_or l i 0)))
      ∙ ap (laid to at) (sym (written_more l i k)))

  -- and all
  pub all_put : (now : List ℕ) (i : ℕ) → length l ≤ i → now ≡ laid to at (written (take i l)) → now ≡ laid to at (written l)
  all_put now i k e = e ∙ ap (λ (y : List ℕ). laid to at (written y)) (take_all i l k)

-- ---- a record piece by piece

-- a buffer with bytes at its start, and the position past them
abbrev Laid : List ℕ → List ℕ → ℕ → List ℕ → Type 0
Laid to a r now = (r ≡ 0 + length a) × (now ≡ laid to 0 a)

more : (to a b t u : List ℕ) (r s k : ℕ) → length b ≡ k → s ≤ length to → Laid to a r t → (s ≡ r + k) × (u ≡ laid t r b) → Laid to (a ++ b) s u
more to a b t u r s k e h p q =
    (omega (arith, p.0, q.0, length-append a b), q.1 ∙ rw (p.1, p.0) (laid_then to 0 a (omega (arith, p.0, q.0)) b))

module _ (state window marks list to : List ℕ) (m base : ℕ) (f : Fits state window marks list to) where
  abbrev x : Recorded
  x = record_of state m window marks base list

  stated_words : length (state ++ window) ≡ before + length window
  stated_words = stated_is state window marks list m base f.places f.marked

  -- its bytes in their pieces
  pieces : (n s : ℕ) → n ≡ layout_bit + length list → s ≡ before + length window
      → bytes_of 4 n ++ bytes_of 4 s ++ written state ++ written window ++ written (marks_of_word before m) ++ written marks ++ bytes_of 4 base ++ written list
      ≡ to_bytes x
  unfolding numbers_for written
  pieces n s p q = rw (p, q, stated_words) (simp (written-append, append_assoc))

  pub wrote : (n s r₁ r₂ r₃ r₄ r₅ r₆ r₇ r₈ : ℕ) (t₁ t₂ t₃ t₄ t₅ t₆ t₇ t₈ : List ℕ) → n ≡ layout_bit + length list → s ≡ before + length window
      → (r₁ ≡ 0 + 4) × (t₁ ≡ laid to 0 (bytes_of 4 n))
      → (r₂ ≡ r₁ + 4) × (t₂ ≡ laid t₁ r₁ (bytes_of 4 s))
      → (r₃ ≡ r₂ + 4 * length state) × (t₃ ≡ laid t₂ r₂ (written state))
      → (r₄ ≡ r₃ + 4 * length window) × (t₄ ≡ laid t₃ r₃ (written window))
      → (r₅ ≡ r₄ + 4 * before) × (t₅ ≡ laid t₄ r₄ (written (marks_of_word before m)))
      → (r₆ ≡ r₅ + 4 * length marks) × (t₆ ≡ laid t₅ r₅ (written marks))
      → (r₇ ≡ r₆ + 4) × (t₇ ≡ laid t₆ r₆ (bytes_of 4 base))
      → (r₈ ≡ r₇ + 4 * length list) × (t₈ ≡ laid t₇ r₇ (written list))
      → Wrote x to r₈ t₈
  wrote n s r₁ r₂ r₃ r₄ r₅ r₆ r₇ r₈ t₁ t₂ t₃ t₄ t₅ t₆ t₇ t₈ p q e₁ e₂ e₃ e₄ e₅ e₆ e₇ e₈ =
      let h = f.room in
      let k₈ : r₈ ≡ 4 * (3 + 2 * (before + length window) + length list) =
      omega (arith, f.places, f.marked, e₁.0, e₂.0, e₃.0, e₄.0, e₅.0, e₆.0, e₇.0, e₈.0)
      in
      let k₇ : r₇ ≤ length to = omega (arith, h, k₈, e₈.0) in
      let k₆ : r₆ ≤ length to = omega (arith, k₇, e₇.0) in
      let k₅ : r₅ ≤ length to = omega (arith, k₆, e₆.0) in
      let k₄ : r₄ ≤ length to = omega (arith, k₅, e₅.0) in
      let k₃ : r₃ ≤ length to = omega (arith, k₄, e₄.0) in
      let k₂ : r₂ ≤ length to = omega (arith, k₃, e₃.0) in
      let a₂ = bytes_of 4 n ++ bytes_of 4 s in
      let a₃ = a₂ ++ written state in
      let a₄ = a₃ ++ written window in
      let a₅ = a₄ ++ written (marks_of_word before m) in
      let a₆ = a₅ ++ written marks in
      let a₇ = a₆ ++ bytes_of 4 base in
      let l₅ : length (written (marks_of_word before m)) ≡ 4 * before = written-length (marks_of_word before m) ∙ ap (λ (i : ℕ). 4 * i) (marks_length before m) in
      let d₁ : Laid to (bytes_of 4 n) r₁ t₁ = (e₁.0 ∙ ap (λ (i : ℕ). 0 + i) (sym (four_length n)), e₁.1) in
      let d₂ = more to (bytes_of 4 n) (bytes_of 4 s) t₁ t₂ r₁ r₂ 4 (four_length s) k₂ d₁ e₂ in
      let d₃ = more to a₂ (written state) t₂ t₃ r₂ r₃ (4 * length state) (written-length state) k₃ d₂ e₃ in
      let d₄ = more to a₃ (written window) t₃ t₄ r₃ r₄ (4 * length window) (written-length window) k₄ d₃ e₄ in
      let d₅ = more to a₄ (written (marks_of_word before m)) t₄ t₅ r₄ r₅ (4 * before) l₅ k₅ d₄ e₅ in
      let d₆ = more to a₅ (written marks) t₅ t₆ r₅ r₆ (4 * length marks) (written-length marks) k₆ d₅ e₆ in
      let d₇ = more to a₆ (bytes_of 4 base) t₆ t₇ r₆ r₇ 4 (four_length base) k₇ d₆ e₇ in
      let d₈ = more to a₇ (written list) t₇ t₈ r₇ r₈ (4 * length list) (written-length list) (omega (arith, h, k₈)) d₇ e₈ in
      let d : Laid to (to_bytes x) r₈ t₈ = rw (pieces n s p q) at d₈ in
      let z : 0 + length (to_bytes x) + 0 ≡ 0 + length (to_bytes x) = omega arith in
      record {
        count = rw stated_words k₈;
        bytes = rw (d.0, d.1) (laid_first to 0 (to_bytes x) (omega (arith, h, k₈, d.0)));
        rest = rw (d.0, d.1) (rw z at (laid_rest to 0 (to_bytes x) (omega (arith, h, k₈, d.0)) 0));
      }
