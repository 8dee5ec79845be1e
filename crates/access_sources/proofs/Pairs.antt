-- Two words copied in one step.
use Prim.Native.Nat.{ℕ, ◌+◌, ◌%◌, ◌<◌}
use mathlib.Core.Path.{◌≡◌, refl, ap, ap₂, sym, ◌∙◌, subst}
use mathlib.Core.Bool.{true, false}
use mathlib.Core.List.{[], ◌∷◌}
use Rattle.bits.specs.Field.{field, bit_of}
use lib.Ieee.{binary32, binary64}
use Rattle.registers.specs.Registers.{sreg_of, dreg_of, low_index, high_index}
use Rattle.machine.specs.Place.{single, core, place, number, s_word}
use Rattle.machine.proofs.Numbers.{number-place}
use Rattle.meaning.specs.Step.{Step, copy}
use Rattle.addresses.proofs.Singles.{low_single, high_single}
use Rattle.pairs.specs.Pair.{pair_of, pair_step}
use Rattle.place_marks.proofs.Places.{place-core}
use Rattle.sources.specs.declared.Source.{Source}
use Rattle.sources.specs.declared.Source.TheVariants.{Kept, From}
use Rattle.sources.specs.Source.{Tracing}
use Rattle.sources.proofs.Picking.{single_place}
use Rattle.sources.proofs.Rules.{Present-place, same_at, other_at, from_only}

abbrev Two : ℕ → ℕ → ℕ → ℕ → Step
Two t a x b = copy (place t) (place a) ∷ copy (place x) (place b) ∷ []

module _ (t a x b q m : ℕ) where
  pub copied_second : q ≡ x → Tracing (Two t a x b) m q (From b)
  copied_second e = let h = same_at (place x) (Present-place x) q (e ∙ sym (number-place x)) in from_only (Two t a x b) m q b (rw h (refl, refl))

  miss : (p : ℕ) → (q ≡ p → ⊥) → (q ≡ number (place p) → ⊥)
  miss p n e = n (e ∙ number-place p)

  pub copied_first : (q ≡ x → ⊥) → q ≡ t → Tracing (Two t a x b) m q (From a)
  copied_first n e =
      let h = other_at (place x) (Present-place x) q (miss x n) in
      let g = same_at (place t) (Present-place t) q (e ∙ sym (number-place t)) in
      from_only (Two t a x b) m q a (rw (h, g) (refl, refl))

  pub copied_none : (q ≡ x → ⊥) → (q ≡ t → ⊥) → Tracing (Two t a x b) m q Kept
  copied_none n l w u = rw (other_at (place x) (Present-place x) q (miss x n), other_at (place t) (Present-place t) q (miss t l)) refl

-- the steps of a pair by places, and by numbers
to_cores : (s z t x : ℕ) → t < 16 → x < 16 → Two (32 + t) (s % 32) (32 + x) (z % 32) ≡ copy (core t) (s_word s) ∷ copy (core x) (s_word z) ∷ []
to_cores s z t x h k = rw (place-core t h, place-core x k, single_place s, single_place z) refl

from_cores : (s z t x : ℕ) → t < 16 → x < 16 → Two (s % 32) (32 + t) (z % 32) (32 + x) ≡ copy (s_word s) (core t) ∷ copy (s_word z) (core x) ∷ []
from_cores s z t x h k = rw (place-core t h, place-core x k, single_place s, single_place z) refl

-- the words of a pair by number, loaded and stored
module _ (op s z t x : ℕ) (e : t ≡ field op 12 15) (g : x ≡ field op 16 19) (h : t < 16) (k : x < 16) (q m : ℕ) (r : Source) where
  pub pair_load : bit_of op 20 ≡ true → Tracing (Two (32 + t) (s % 32) (32 + x) (z % 32)) m q r → Tracing (pair_of (bit_of op 20) op (s_word s) (s_word z)) m q r
  pair_load b f = rw (b, ← e, ← g) (subst (λ (y : Step). Tracing y m q r) (to_cores s z t x h k) f)

  pub pair_store : bit_of op 20 ≡ false → Tracing (Two (s % 32) (32 + t) (z % 32) (32 + x)) m q r → Tracing (pair_of (bit_of op 20) op (s_word s) (s_word z)) m q r
  pair_store b f = rw (b, ← e, ← g) (subst (λ (y : Step). Tracing y m q r) (from_cores s z t x h k) f)

module _ (op b n m q : ℕ) (e : b ≡ field op 5 5) (r : Source) where
  pub pair_double : n ≡ dreg_of (op % 16) b → (x y : ℕ) → x ≡ low_index n → y ≡ high_index n → Tracing (pair_of (bit_of op 20) op (s_word x) (s_word y)) m q r
      → Tracing (pair_step binary64 op) m q r
  pair_double g x y h k f =
      let d = dreg_of (op % 16) (field op 5 5) in
      let z : n ≡ d = g ∙ ap (dreg_of (op % 16)) e in
      subst (λ (s : Step). Tracing s m q r)
      (ap₂ (pair_of (bit_of op 20) op) (ap s_word (h ∙ ap low_index z) ∙ ap single (low_single d)) (ap s_word (k ∙ ap high_index z) ∙ ap single (high_single d))) f

  pub pair_single : n ≡ sreg_of (op % 16) b → Tracing (pair_of (bit_of op 20) op (s_word n) (s_word (n + 1))) m q r → Tracing (pair_step binary32 op) m q r
  pair_single g f =
      let z : n ≡ sreg_of (op % 16) (field op 5 5) = g ∙ ap (sreg_of (op % 16)) e in
      subst (λ (k : ℕ). Tracing (pair_of (bit_of op 20) op (s_word k) (s_word (k + 1))) m q r) z f
