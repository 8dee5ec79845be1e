-- Which meaning a word has, by the tests that the code makes, and what the leaves' promises come to.
use Prim.Native.Nat.{ℕ, ◌%◌, ◌^◌, ◌<◌}
use native.Mathlib.Omega.{arith}
use native.Mathlib.Decide.{ℕ_discrete}
use mathlib.Core.Path.{◌≡◌, refl, sym, ◌∙◌, ap}
use mathlib.Core.Bool.{Bool, true, false, cond, not, ◌||◌}
use lib.Dec.{eqb, leb, ltb}
use borrow.Author.Tests.{eqb-true, eq-eqb, ne_eqb, le-leb, lt-leb, lt-ltb, le-ltb}
use Rattle.bits.specs.Field.{field}
use Rattle.bits.specs.Psr.{holds, psr_of}
use Rattle.bits.proofs.Flags.{psr_nzcv}
use mathlib.Core.Bool.{true≢false}
use Rattle.machine.specs.Place.{State, nzcv}
use Rattle.meaning.specs.Step.{nothing}
use Rattle.meaning.specs.Tree.{Tree, stop, go, ask, Out, out, on, plain}
use Rattle.meaning.proofs.Laws.{plain-ask, plain-nothing}
use Rattle.word_class.specs.Word.{foreign_word, class_tree, enabled, conditioned, meaning}
use Rattle.meaning.specs.Stop as S

-- ---- Foreign by the code's four tests

module _ (w : ℕ) where
  never : w < 2 ^ 32 → leb 0xF000_0000 w ≡ eqb (field w 28 31) 15
  never h = by (ℕ_discrete (field w 28 31) 15)
    where
      by : Dec (field w 28 31 ≡ 15) → leb 0xF000_0000 w ≡ eqb (field w 28 31) 15
      by (yes e) = le-leb 0xF000_0000 w (omega (arith, e, h)) ∙ sym (eq-eqb _ _ e)
      by (no e) = lt-leb 0xF000_0000 w (omega (arith, e, h)) ∙ sym (ne_eqb _ _ e)

  other : not (eqb (field w 9 11) 0b101) ≡ not (eqb (field w 8 11) 10 || eqb (field w 8 11) 11)
  other = by (ℕ_discrete (field w 8 11) 10) (ℕ_discrete (field w 8 11) 11)
    where
      by : Dec (field w 8 11 ≡ 10) → Dec (field w 8 11 ≡ 11) → not (eqb (field w 9 11) 0b101) ≡ not (eqb (field w 8 11) 10 || eqb (field w 8 11) 11)
      by (yes a) b = rw (eq-eqb (field w 8 11) 10 a, eq-eqb (field w 9 11) 0b101 (omega (arith, a)))
      by (no a) (yes b) = rw (ne_eqb (field w 8 11) 10 a, eq-eqb (field w 8 11) 11 b, eq-eqb (field w 9 11) 0b101 (omega (arith, b)))
      by (no a) (no b) = rw (ne_eqb (field w 8 11) 10 a, ne_eqb (field w 8 11) 11 b, ne_eqb (field w 9 11) 0b101 (λ e. omega (arith, a, b, e)))

  none : (ltb (field w 24 27) 12 || ltb 14 (field w 24 27)) ≡ not (eqb (field w 25 27) 0b110 || eqb (field w 24 27) 0b1110)
  none = by (ℕ_discrete (field w 25 27) 0b110) (ℕ_discrete (field w 24 27) 0b1110) (ℕ_discrete (field w 24 27) 15)
    where
      by : Dec (field w 25 27 ≡ 0b110) → Dec (field w 24 27 ≡ 0b1110) → Dec (field w 24 27 ≡ 15)
          → (ltb (field w 24 27) 12 || ltb 14 (field w 24 27)) ≡ not (eqb (field w 25 27) 0b110 || eqb (field w 24 27) 0b1110)
      by (yes a) b d = rw (eq-eqb (field w 25 27) 0b110 a, le-ltb (field w 24 27) 12 (omega (arith, a)), le-ltb 14 (field w 24 27) (omega (arith, a)))
      by (no a) (yes b) d = rw (ne_eqb (field w 25 27) 0b110 a, eq-eqb (field w 24 27) 0b1110 b, le-ltb (field w 24 27) 12 (omega (arith, b)), le-ltb 14 (field w 24 27) (omega (arith, b)))
      by (no a) (no b) (yes d) = rw (ne_eqb (field w 25 27) 0b110 a, ne_eqb (field w 24 27) 0b1110 b, le-ltb (field w 24 27) 12 (omega (arith, d)), lt-ltb 14 (field w 24 27) (omega (arith, d)))
      by (no a) (no b) (no d) = rw (ne_eqb (field w 25 27) 0b110 a, ne_eqb (field w 24 27) 0b1110 b, lt-ltb (field w 24 27) 12 (omega (arith, a, b, d)))

  grouped : (a b c : Bool) → ((a || b) || c) ≡ (a || (b || c))
  grouped true b c = refl
  grouped false b c = refl

  pub foreign_tests : (class j : ℕ) → class ≡ field w 24 27 → j ≡ field w 9 11 → w < 2 ^ 32
      → (((leb 0xF000_0000 w || not (eqb j 0b101)) || ltb class 12) || ltb 14 class) ≡ foreign_word w
  foreign_tests class j p q h = rw (p, q, never h, other) (grouped (eqb (field w 28 31) 15 || not (eqb (field w 8 11) 10 || eqb (field w 8 11) 11)) (ltb (field w 24 27) 12) (ltb 14 (field w 24 27)) ∙ ap (λ (z : Bool). (eqb (field w 28 31) 15 || not (eqb (field w 8 11) 10 || eqb (field w 8 11) 11)) || z) none)

-- ---- Foreign and the condition

pub meaning-foreign : (base w : ℕ) (b : Bool) → b ≡ foreign_word w → b ≡ true → meaning base w ≡ stop S.foreign
unfolding meaning
meaning-foreign base w b p e = rw (← p, e)

pub meaning_word : (base w : ℕ) (b : Bool) → b ≡ foreign_word w → b ≡ false → meaning base w ≡ conditioned (field w 28 31) (enabled w (class_tree base w))
unfolding meaning
meaning_word base w b p e = rw (← p, e)

pub always : (k : ℕ) (p : _) → k ≡ 14 → holds k p ≡ true
unfolding holds
always k p e = rw e

module _ (k : ℕ) (t : Tree) (st : State) where
  asked : (b : Bool) → holds k st.machine.cpsr ≡ b → (o : Out) → o ≡ plain (cond b t (go nothing)) st → (eqb k 14 ≡ true → b ≡ true) → o ≡ plain (conditioned k t) st
  unfolding conditioned
  asked b h o e always_on = by (eqb k 14) refl
    where
      by : (z : Bool) → eqb k 14 ≡ z → o ≡ plain (cond z t (ask nzcv (λ f. cond (holds k (psr_of f)) t (go nothing)))) st
      by true g = rw (always_on g) at e
      by false g = plain-ask nzcv _ st o (rw (psr_nzcv st.machine.cpsr, h) e)

  pub condition_holds : (o : Out) → holds k st.machine.cpsr ≡ true → o ≡ plain t st → o ≡ plain (conditioned k t) st
  condition_holds o h e = asked true h o e (λ g. refl)

  pub condition_fails : holds k st.machine.cpsr ≡ false → out st on ≡ plain (conditioned k t) st
  condition_fails h = asked false h (out st on) (plain-nothing st) (λ g. absurd (true≢false (sym (always k st.machine.cpsr (eqb-true k 14 g)) ∙ h)))

-- a condition has four bits
pub condition_field : (w k : ℕ) → k ≡ field w 28 31 → k % 16 ≡ field w 28 31
condition_field w k e = omega arith
