-- The class of a word, by the tests that the code makes, and the meaning that it has.
use Prim.Native.Nat.{ℕ, ◌*◌, ◌/◌, ◌%◌, ◌^◌, ◌<◌, ◌≤◌}
use native.Mathlib.Omega.{arith}
use native.Mathlib.Decide.{ℕ_discrete}
use mathlib.Core.Path.{◌≡◌, refl, sym, ◌∙◌, subst, ap}
use mathlib.Core.Bool.{Bool, true, false, cond, not, ◌||◌, true≢false}
use lib.Bits.{bit_and, and_shr, and_mod, and_mask, and_high}
use lib.Dec.{eqb, leb, ltb}
use borrow.Author.Tests.{eq-eqb, ne_eqb, lt-leb, le-ltb}
use Rattle.bits.specs.Field.{field, bit_of}
use Rattle.bits.specs.Psr.{holds}
use Rattle.bits.specs.declared.psr.Psr.{Psr}
use Rattle.machine.specs.Place.{State}
use Rattle.meaning.specs.Tree.{Tree, Out, plain}
use Rattle.meaning.proofs.Laws.{plain-nothing}
use Rattle.word_class.specs.Word.{foreign_word, class_tree, exempt, enabled, meaning}
use Rattle.word_class.specs.Class.{class_of, disabled_class, enabled_class, tree_of}
use Rattle.word_class.specs.declared.class.Class.{Class}
use Rattle.word_class.specs.declared.class.Class.TheVariants.{Data, Access, Transfer, Skipped, Foreign, Off}
use Rattle.word_class.proofs.Enables.{goes_on, exempted, goes_off, exempt_class}
use Rattle.word_class.proofs.Words.{foreign_tests, meaning-foreign, meaning_word, always, condition_holds, condition_fails}

-- ---- the masks

five : (x : ℕ) → x * 2 ^ 9 ≡ 0xA00 → x ≡ 0b101
five x e = omega arith

module _ (w : ℕ) where
  -- of bits 31:24 or 31:25, and of 11:9
  top_eight : bit_and w 0xFF00_0E00 / 2 ^ 24 ≡ field w 24 31
  top_eight = and_shr w 0xFF00_0E00 24 ∙ and_mask (w / 2 ^ 24) 8

  top_seven : bit_and w 0xFE00_0E00 / 2 ^ 25 ≡ field w 25 31
  top_seven = and_shr w 0xFE00_0E00 25 ∙ and_mask (w / 2 ^ 25) 7

  low_eight : bit_and w 0xFF00_0E00 % 2 ^ 12 ≡ field (w % 2 ^ 12) 9 11 * 2 ^ 9
  low_eight = and_mod w 0xFF00_0E00 12 ∙ and_high (w % 2 ^ 12) 3 9

  low_seven : bit_and w 0xFE00_0E00 % 2 ^ 12 ≡ field (w % 2 ^ 12) 9 11 * 2 ^ 9
  low_seven = and_mod w 0xFE00_0E00 12 ∙ and_high (w % 2 ^ 12) 3 9

  low : field (w % 2 ^ 12) 9 11 * 2 ^ 9 ≡ 0xA00 → field w 9 11 ≡ 0b101
  low e = let i : field (w % 2 ^ 12) 9 11 ≡ field w 9 11 = omega arith in sym i ∙ five (field (w % 2 ^ 12) 9 11) e

  of_eight : (k : ℕ) → field w 24 31 ≡ k → (field w 28 31 ≡ k / 16) × (field w 24 27 ≡ k % 16) × (field w 25 27 ≡ k % 16 / 2)
  of_eight k e =
      let a : field w 28 31 ≡ field w 24 31 / 16 = omega arith in
      let b : field w 24 27 ≡ field w 24 31 % 16 = omega arith in
      let d : field w 25 27 ≡ field w 24 31 % 16 / 2 = omega arith in
      (rw e at a, rw e at b, rw e at d)

  of_seven : field w 25 31 ≡ 0x76 → (field w 28 31 ≡ 14) × (field w 25 27 ≡ 0b110) × (12 ≤ field w 24 27) × (field w 24 27 ≤ 14)
  of_seven e =
      let a : field w 28 31 ≡ field w 25 31 / 8 = omega arith in
      let b : field w 25 27 ≡ field w 25 31 % 8 = omega arith in
      let d : field w 24 27 / 2 ≡ field w 25 31 % 8 = omega arith in
      (rw e at a, rw e at b, omega (arith, rw e at d), omega (arith, rw e at d))

  -- a VFP word is not Foreign
  no_foreign : w < 2 ^ 32 → field w 28 31 ≡ 14 → field w 9 11 ≡ 0b101 → 12 ≤ field w 24 27 → field w 24 27 ≤ 14 → foreign_word w ≡ false
  no_foreign h c j low high =
      sym (foreign_tests w (field w 24 27) (field w 9 11) refl refl h)
      ∙ rw (lt-leb 0xF000_0000 w (omega (arith, c, h)), eq-eqb (field w 9 11) 0b101 j, le-ltb (field w 24 27) 12 low, le-ltb 14 (field w 24 27) high)

  -- the coprocessor of a word that is not Foreign is 10 or 11
  pub vfp_word : w < 2 ^ 32 → foreign_word w ≡ false → field w 9 11 ≡ 0b101
  vfp_word h e = by (ℕ_discrete (field w 9 11) 0b101)
    where
      any : (a b c : Bool) → (((a || true) || b) || c) ≡ true
      any true b c = refl
      any false b c = refl

      by : Dec (field w 9 11 ≡ 0b101) → field w 9 11 ≡ 0b101
      by (yes p) = p
      by (no n) =
          absurd (true≢false (sym (any (leb 0xF000_0000 w) (ltb (field w 24 27) 12) (ltb 14 (field w 24 27)))
          ∙ (rw (ne_eqb (field w 9 11) 0b101 n) at (foreign_tests w (field w 24 27) (field w 9 11) refl refl h)) ∙ e))

module _ (w : ℕ) (flags : Psr) (h : w < 2 ^ 32) where
  at_always : (c : Class) → foreign_word w ≡ false → field w 28 31 ≡ 14 → c ≡ cond (eqb (field w 25 27) 0b110) Access (cond (bit_of w 4) Transfer Data) → c ≡ class_of w flags
  at_always c f a e = rw (f, always (field w 28 31) flags a) e

  pub masked_group : (b : Bool) → b ≡ bit_of w 4 → bit_and w 0xFF00_0E00 ≡ 0xEE00_0A00 → cond b Transfer Data ≡ class_of w flags
  masked_group b p e =
      let t : field w 24 31 ≡ 0xEE = sym (top_eight w) ∙ ap (λ (x : ℕ). x / 2 ^ 24) e in
      let l : field w 9 11 ≡ 0b101 = low w (sym (low_eight w) ∙ ap (λ (x : ℕ). x % 2 ^ 12) e) in
      let f : _ = of_eight w 0xEE t in
      at_always (cond b Transfer Data) (no_foreign w h f.0 l (rw f.1 (omega arith)) (rw f.1 (omega arith))) f.0
      (rw (f.2, p))

  pub masked_access : bit_and w 0xFE00_0E00 ≡ 0xEC00_0A00 → Access ≡ class_of w flags
  masked_access e =
      let t : field w 25 31 ≡ 0x76 = sym (top_seven w) ∙ ap (λ (x : ℕ). x / 2 ^ 25) e in
      let l : field w 9 11 ≡ 0b101 = low w (sym (low_seven w) ∙ ap (λ (x : ℕ). x % 2 ^ 12) e) in
      let f : _ = of_seven w t in
      at_always Access (no_foreign w h f.0 l f.2 f.3) f.0 (rw f.1)

-- ---- the meaning

class_tree_lem : (base w : ℕ) → tree_of base w (cond (eqb (field w 25 27) 0b110) Access (cond (bit_of w 4) Transfer Data)) ≡ class_tree base w
unfolding class_tree
class_tree_lem base w = by (eqb (field w 25 27) 0b110) (bit_of w 4)
  where
    by : (a b : Bool) → tree_of base w (cond a Access (cond b Transfer Data)) ≡ cond a (tree_of base w Access) (cond b (tree_of base w Transfer) (tree_of base w Data))
    by true b = refl
    by false true = refl
    by false false = refl

-- what a class's tree gives is what the word's meaning gives
module _ (base w : ℕ) (st : State) (o : Out) where
  -- of a class of an enabled unit
  abbrev one_of_three : Class
  one_of_three = cond (eqb (field w 25 27) 0b110) Access (cond (bit_of w 4) Transfer Data)

  abbrev unit : Tree
  unit = enabled w (class_tree base w)

  pub by_class : (c : Class) → c ≡ enabled_class w st.machine.cpsr st.machine.fpexc → o ≡ plain (tree_of base w c) st → o ≡ plain (meaning base w) st
  by_class c p e =
      by (bit_of st.machine.fpexc 30) refl (foreign_word w) refl (holds (field w 28 31) st.machine.cpsr) refl (exempt w) refl
      (subst (λ (z : Class). o ≡ plain (tree_of base w z) st) p e)
    where
      by : (z : Bool) → bit_of st.machine.fpexc 30 ≡ z → (f : Bool) → f ≡ foreign_word w → (b : Bool) → holds (field w 28 31) st.machine.cpsr ≡ b → (x : Bool) → exempt w ≡ x
          → o ≡ plain (tree_of base w (cond z (cond f Foreign (cond b one_of_three Skipped)) (cond f Foreign (cond b (cond x Transfer Off) Skipped)))) st
          → o ≡ plain (meaning base w) st
      by true d true q b g x i e = rw (meaning-foreign base w true q refl) e
      by false d true q b g x i e = rw (meaning-foreign base w true q refl) e
      by true d false q true g x i e =
          rw (meaning_word base w false q refl) (condition_holds (field w 28 31) unit st o g (goes_on w (class_tree base w) st o d (rw (class_tree_lem base w) at e)))
      by false d false q true g true i e =
          rw (meaning_word base w false q refl) (condition_holds (field w 28 31) unit st o g (exempted w (class_tree base w) st o i (rw (exempt_class base w i) e)))
      by false d false q true g false i e =
          rw (meaning_word base w false q refl) (condition_holds (field w 28 31) unit st o g (goes_off w (class_tree base w) st o d i e))
      by true d false q false g x i e = rw (meaning_word base w false q refl) (e ∙ sym (plain-nothing st) ∙ condition_fails (field w 28 31) unit st g)
      by false d false q false g x i e = rw (meaning_word base w false q refl) (e ∙ sym (plain-nothing st) ∙ condition_fails (field w 28 31) unit st g)

-- a word of data processing is one of coprocessor 10 or 11
pub data_word : (w : ℕ) (flags : Psr) (x : ℕ) → w < 2 ^ 32 → Data ≡ enabled_class w flags x → field w 9 11 ≡ 0b101
data_word w flags x h e = by (foreign_word w) refl (bit_of x 30) e
  where
    by : (f : Bool) → foreign_word w ≡ f → (d : Bool) → Data ≡ cond d (class_of w flags) (disabled_class w flags) → field w 9 11 ≡ 0b101
    by true g true k = let z : Data ≡ Foreign = rw g at k in let y : ◌≡◌ {A = ℕ} 0 1 = cc in absurd (omega arith)
    by true g false k = let z : Data ≡ Foreign = rw g at k in let y : ◌≡◌ {A = ℕ} 0 1 = cc in absurd (omega arith)
    by false g d k = vfp_word w h g

-- ---- the class of a word that no mask tells

fails : (b : Bool) → not b ≡ true → b ≡ false
fails true e = sym e
fails false e = refl

passes : (b : Bool) → not b ≡ false → b ≡ true
passes true e = refl
passes false e = sym e

module _ (w : ℕ) (flags : Psr) (f : Bool) (p : f ≡ foreign_word w) where
  pub class_foreign : f ≡ true → Foreign ≡ class_of w flags
  class_foreign e = rw (← p, e)

  module _ (no : f ≡ false) (b : Bool) (q : b ≡ holds (field w 28 31) flags) where
    pub class_skipped : not b ≡ true → Skipped ≡ class_of w flags
    class_skipped e = rw (← p, no, ← q, fails b e)

    module _ (passed : not b ≡ false) (k : ℕ) (i : k ≡ field w 25 27) where
      pub class_access : k ≡ 0b110 → Access ≡ class_of w flags
      class_access e = rw (← p, no, ← q, passes b passed, ← i, e)

      pub class_group : (k ≡ 0b110 → ⊥) → (t : Bool) → t ≡ bit_of w 4 → cond t Transfer Data ≡ class_of w flags
      class_group n t j = rw (← p, no, ← q, passes b passed, ← i, ne_eqb k 0b110 n, ← j)

-- ---- with the unit off

module _ (w : ℕ) (flags : Psr) (f : Bool) (p : f ≡ foreign_word w) where
  pub off_foreign : f ≡ true → Foreign ≡ disabled_class w flags
  off_foreign e = rw (← p, e)

  module _ (no : f ≡ false) (b : Bool) (q : b ≡ holds (field w 28 31) flags) where
    pub off_skipped : not b ≡ true → Skipped ≡ disabled_class w flags
    off_skipped e = rw (← p, no, ← q, fails b e)

    pub off_class : not b ≡ false → (x : Bool) → x ≡ exempt w → cond x Transfer Off ≡ disabled_class w flags
    off_class e x i = rw (← p, no, ← q, passes b e, ← i)
