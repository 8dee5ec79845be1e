-- The class of a watched word, by the tests that the code makes, and what each class gives.
use Prim.Native.Nat.{ℕ, ◌+◌, ◌-◌, ◌/◌, ◌%◌, ◌^◌, ◌<◌}
use native.Mathlib.Omega.{arith}
use mathlib.Core.Path.{◌≡◌, refl, sym, ◌∙◌, subst, ap}
use mathlib.Core.Bool.{Bool, true, false, cond, not, ◌||◌, ◌&&◌, true≢false}
use lib.Bits.{bit_and, and_shr, and_mask}
use lib.Dec.{eqb}
use borrow.Author.Tests.{eqb-true, eqb-false, eq-eqb}
use Rattle.bits.specs.Field.{field, bit_of}
use Rattle.bits.specs.Psr.{holds}
use Rattle.bits.specs.declared.psr.Psr.{Psr}
use Rattle.machine.specs.Place.{State, core, exc, nzcv, number, get}
use Rattle.meaning.specs.Map.{Map, known}
use Rattle.meaning.specs.Stop as S
use Rattle.meaning.specs.Tree.{Tree, Seen, seen, watched, on, halt}
use Rattle.word_class.specs.Word.{foreign_word, class_tree, exempt, enabled, meaning}
use Rattle.word_class.specs.Class.{class_of, tree_of}
use Rattle.word_class.specs.declared.class.Class.{Class}
use Rattle.word_class.specs.declared.class.Class.TheVariants as C
use Rattle.word_class.proofs.Words.{meaning-foreign, meaning_word}
use Rattle.word_class.proofs.Words as Words
use Rattle.word_class.proofs.Classes.{vfp_word}
use Rattle.hangs.proofs.Hangs.{both}
use Rattle.word_class.proofs.Enables.{exempt_class}
use Rattle.watched_class.proofs.Enables.{told_on, free_on, not_told, told_off, pc_unknown}
use Rattle.watched_class.specs.Class.{seen_as, watched_class_of, disabled_watched_class, enabled_watched_class}
use Rattle.watched_class.specs.declared.WatchedClass.{WatchedClass}
use Rattle.watched_class.specs.declared.WatchedClass.TheVariants.{Data, Access, Transfer, Skipped, Foreign, Hangs, Off}
use Rattle.watched_class.proofs.Worded.{always, flags_unknown, holding, failing}

-- ---- the tests

-- condition 1110, by either mask
pub group_always : (w : ℕ) → bit_and w 0xFF00_0E00 ≡ 0xEE00_0A00 → field w 28 31 ≡ 14
group_always w e = sym (and_shr w 0xFF00_0E00 28 ∙ and_mask (w / 2 ^ 28) 4) ∙ ap (λ (x : ℕ). x / 2 ^ 28) e

pub access_always : (w : ℕ) → bit_and w 0xFE00_0E00 ≡ 0xEC00_0A00 → field w 28 31 ≡ 14
access_always w e = sym (and_shr w 0xFE00_0E00 28 ∙ and_mask (w / 2 ^ 28) 4) ∙ ap (λ (x : ℕ). x / 2 ^ 28) e

module _ (w : ℕ) (flags : Psr) (k : Bool) (c : Class) (p : c ≡ class_of w flags) where
  told : (eqb (field w 28 31) 14 || (foreign_word w || k)) ≡ true → seen_as c ≡ watched_class_of k w flags
  told t = rw (t, ← p)

  pub told_always : field w 28 31 ≡ 14 → seen_as c ≡ watched_class_of k w flags
  told_always e = told (rw (eq-eqb (field w 28 31) 14 e))

  pub told_foreign : (f : Bool) → f ≡ foreign_word w → f ≡ true → seen_as c ≡ watched_class_of k w flags
  told_foreign f q e = told (rw (← q, e) (any (eqb (field w 28 31) 14)))
    where
      any : (a : Bool) → (a || (true || k)) ≡ true
      any true = refl
      any false = refl

  pub told_known : (j : ℕ) → j ≡ field w 28 31 → (b : Bool) → b ≡ k → (not (eqb j 14) && not b) ≡ false → seen_as c ≡ watched_class_of k w flags
  told_known j q b r e = told (any (eqb (field w 28 31) 14) (foreign_word w) k (rw (q, r) at e))
    where
      any : (a f b : Bool) → (not a && not b) ≡ false → (a || (f || b)) ≡ true
      any true f b e = refl
      any false true b e = refl
      any false false true e = refl
      any false false false e = sym e

pub told_hangs : (w : ℕ) (flags : Psr) (k : Bool) (f : Bool) → f ≡ foreign_word w → f ≡ false → (j : ℕ) → j ≡ field w 28 31 → (b : Bool) → b ≡ k
    → (not (eqb j 14) && not b) ≡ true → Hangs (number nzcv) ≡ watched_class_of k w flags
told_hangs w flags k f p n j q b r e = rw (← p, n, ← q, ← r, none (eqb j 14) b e)
  where
    none : (a b : Bool) → (not a && not b) ≡ true → (a || (false || b)) ≡ false
    none true b e = sym e
    none false true e = sym e
    none false false e = refl

-- ---- what each class gives

module _ (base w : ℕ) (st : State) (μ : Map) where
  abbrev pub given_by : WatchedClass → Seen
  given_by Data = watched (tree_of base w C.Data) st μ
  given_by Access = watched (tree_of base w C.Access) st μ
  given_by Transfer = watched (tree_of base w C.Transfer) st μ
  given_by Skipped = seen st μ on
  given_by Foreign = watched (tree_of base w C.Foreign) st μ
  given_by (Hangs n) = seen st μ (halt (S.hangs n))
  given_by Off = seen st μ (halt (S.undefined ((get st (core 15) + (2 ^ 32 - 8)) % 2 ^ 32) w))

  by_kind : (o : Seen) → o ≡ given_by (seen_as (cond (eqb (field w 25 27) 0b110) C.Access (cond (bit_of w 4) C.Transfer C.Data))) → o ≡ watched (class_tree base w) st μ
  unfolding class_tree
  by_kind o e = by (eqb (field w 25 27) 0b110) (bit_of w 4) e
    where
      by : (a b : Bool) → o ≡ given_by (seen_as (cond a C.Access (cond b C.Transfer C.Data)))
          → o ≡ watched (cond a (tree_of base w C.Access) (cond b (tree_of base w C.Transfer) (tree_of base w C.Data))) st μ
      by true b e = e
      by false true e = e
      by false false e = e

  abbrev unit : Tree
  unit = enabled w (class_tree base w)

  -- in a unit that is known to be enabled
  module _ (p : known μ exc ≡ true) (q : bit_of st.machine.fpexc 30 ≡ true) where
    enabled_kind : (o : Seen) → o ≡ given_by (seen_as (cond (eqb (field w 25 27) 0b110) C.Access (cond (bit_of w 4) C.Transfer C.Data))) → o ≡ watched unit st μ
    enabled_kind o e = told_on w (class_tree base w) st μ p q o (by_kind o e)

    when_enabled : (o : Seen) → o ≡ given_by (watched_class_of (known μ nzcv) w st.machine.cpsr) → o ≡ watched (meaning base w) st μ
    when_enabled o e = by (eqb (field w 28 31) 14) refl (foreign_word w) refl (known μ nzcv) refl (holds (field w 28 31) st.machine.cpsr) refl e
      where
        by : (a : Bool) → eqb (field w 28 31) 14 ≡ a → (f : Bool) → f ≡ foreign_word w → (k : Bool) → known μ nzcv ≡ k → (h : Bool) → holds (field w 28 31) st.machine.cpsr ≡ h
            → o ≡ given_by (cond (a || (f || k)) (seen_as (cond f C.Foreign (cond h (cond (eqb (field w 25 27) 0b110) C.Access (cond (bit_of w 4) C.Transfer C.Data)) C.Skipped))) (Hangs (number nzcv)))
            → o ≡ watched (meaning base w) st μ
        by true a true f k g h i e = rw (meaning-foreign base w true f refl) e
        by false a true f k g h i e = rw (meaning-foreign base w true f refl) e
        by true a false f k g true i e = rw (meaning_word base w false f refl) (always (field w 28 31) unit st μ (eqb-true _ 14 a) o (enabled_kind o e))
        by true a false f k g false i e = absurd (true≢false (sym (Words.always (field w 28 31) st.machine.cpsr (eqb-true _ 14 a)) ∙ i))
        by false a false f true g true i e = rw (meaning_word base w false f refl) (holding (field w 28 31) unit st μ (eqb-false _ 14 a) g i o (enabled_kind o e))
        by false a false f true g false i e = rw (meaning_word base w false f refl) (e ∙ failing (field w 28 31) unit st μ (eqb-false _ 14 a) g i)
        by false a false f false g h i e = rw (meaning_word base w false f refl) (e ∙ flags_unknown (field w 28 31) unit st μ (eqb-false _ 14 a) g)

  -- in any other: what comes of a word whose condition holds
  abbrev disabled : Bool → Bool → Bool → WatchedClass
  disabled x y r = cond x Transfer (cond y (cond r Off (Hangs (number (core 15)))) (Hangs (number exc)))

  module _ (z : (known μ exc && bit_of st.machine.fpexc 30) ≡ false) where
    clear_bit : known μ exc ≡ true → bit_of st.machine.fpexc 30 ≡ false
    clear_bit p = rw p at z

    disabled_kind : (o : Seen) (x y r : Bool) → exempt w ≡ x → known μ exc ≡ y → known μ (core 15) ≡ r → o ≡ given_by (disabled x y r) → o ≡ watched unit st μ
    disabled_kind o true y r p q s e = free_on w (class_tree base w) st μ p o (rw (exempt_class base w p) e)
    disabled_kind o false true true p q s e = e ∙ told_off w (class_tree base w) st μ p q (clear_bit q) s
    disabled_kind o false true false p q s e = e ∙ pc_unknown w (class_tree base w) st μ p q (clear_bit q) s
    disabled_kind o false false r p q s e = e ∙ not_told w (class_tree base w) st μ p q

    when_disabled : (o : Seen) → o ≡ given_by (disabled_watched_class μ w st.machine.cpsr) → o ≡ watched (meaning base w) st μ
    when_disabled o e = by (eqb (field w 28 31) 14) refl (foreign_word w) refl (known μ nzcv) refl (holds (field w 28 31) st.machine.cpsr) refl e
      where
        kinds : o ≡ given_by (disabled (exempt w) (known μ exc) (known μ (core 15))) → o ≡ watched unit st μ
        kinds e = disabled_kind o (exempt w) (known μ exc) (known μ (core 15)) refl refl refl e

        by : (a : Bool) → eqb (field w 28 31) 14 ≡ a → (f : Bool) → f ≡ foreign_word w → (k : Bool) → known μ nzcv ≡ k → (h : Bool) → holds (field w 28 31) st.machine.cpsr ≡ h
            → o ≡ given_by (cond f Foreign (cond (a || k) (cond h (disabled (exempt w) (known μ exc) (known μ (core 15))) Skipped) (Hangs (number nzcv))))
            → o ≡ watched (meaning base w) st μ
        by a d true f k g h i e = rw (meaning-foreign base w true f refl) e
        by true a false f k g true i e = rw (meaning_word base w false f refl) (always (field w 28 31) unit st μ (eqb-true _ 14 a) o (kinds e))
        by true a false f k g false i e = absurd (true≢false (sym (Words.always (field w 28 31) st.machine.cpsr (eqb-true _ 14 a)) ∙ i))
        by false a false f true g true i e = rw (meaning_word base w false f refl) (holding (field w 28 31) unit st μ (eqb-false _ 14 a) g i o (kinds e))
        by false a false f true g false i e = rw (meaning_word base w false f refl) (e ∙ failing (field w 28 31) unit st μ (eqb-false _ 14 a) g i)
        by false a false f false g h i e = rw (meaning_word base w false f refl) (e ∙ flags_unknown (field w 28 31) unit st μ (eqb-false _ 14 a) g)

  pub by_watched_class : (o : Seen) (c : WatchedClass) → c ≡ enabled_watched_class μ st.machine.fpexc w st.machine.cpsr → o ≡ given_by c → o ≡ watched (meaning base w) st μ
  by_watched_class o c p e = by (known μ exc && bit_of st.machine.fpexc 30) refl (subst (λ (z : WatchedClass). o ≡ given_by z) p e)
    where
      by : (z : Bool) → (known μ exc && bit_of st.machine.fpexc 30) ≡ z
          → o ≡ given_by (cond z (watched_class_of (known μ nzcv) w st.machine.cpsr) (disabled_watched_class μ w st.machine.cpsr)) → o ≡ watched (meaning base w) st μ
      by true q e = when_enabled (both (known μ exc) (bit_of st.machine.fpexc 30) q).0 (both (known μ exc) (bit_of st.machine.fpexc 30) q).1 o e
      by false q e = when_disabled q o e

-- a word of data processing is one of coprocessor 10 or 11
pub data_vfp : (w : ℕ) (flags : Psr) (x : ℕ) (μ : Map) → w < 2 ^ 32 → Data ≡ enabled_watched_class μ x w flags → field w 9 11 ≡ 0b101
data_vfp w flags x μ h e = by (foreign_word w) refl (known μ exc && bit_of x 30) e
  where
    any : (a k : Bool) → cond (a || (true || k)) Foreign (Hangs (number nzcv)) ≡ Foreign
    any true k = refl
    any false k = refl

    by : (f : Bool) → foreign_word w ≡ f → (u : Bool) → Data ≡ cond u (watched_class_of (known μ nzcv) w flags) (disabled_watched_class μ w flags) → field w 9 11 ≡ 0b101
    by true g true k = let z : Data ≡ Foreign = k ∙ rw g (any (eqb (field w 28 31) 14) (known μ nzcv)) in let y : ◌≡◌ {A = ℕ} 0 1 = cc in absurd (omega arith)
    by true g false k = let z : Data ≡ Foreign = rw g at k in let y : ◌≡◌ {A = ℕ} 0 1 = cc in absurd (omega arith)
    by false g u k = vfp_word w h g

-- ---- whether the unit is known to be on

module _ (k b k' b' : Bool) (p : k ≡ k') (q : b ≡ b') (x y c : WatchedClass) where
  pub surely_on : (k && b) ≡ true → c ≡ x → c ≡ cond (k' && b') x y
  surely_on e h = rw (← p, ← q, e) h

  pub not_surely : (k && b) ≡ false → c ≡ y → c ≡ cond (k' && b') x y
  not_surely e h = rw (← p, ← q, e) h

-- ---- the tests with the unit off, or not known to be on

module _ (w : ℕ) (flags : Psr) (μ : Map) (f : Bool) (p : f ≡ foreign_word w) where
  pub off_foreign : f ≡ true → Foreign ≡ disabled_watched_class μ w flags
  off_foreign e = rw (← p, e)

  module _ (no : f ≡ false) (j : ℕ) (q : j ≡ field w 28 31) (b : Bool) (r : b ≡ known μ nzcv) where
    pub off_hangs : (not (eqb j 14) && not b) ≡ true → Hangs (number nzcv) ≡ disabled_watched_class μ w flags
    off_hangs e = rw (← p, no, ← q, ← r, none (eqb j 14) b e)
      where
        none : (a b : Bool) → (not a && not b) ≡ true → (a || b) ≡ false
        none true b e = sym e
        none false true e = sym e
        none false false e = refl

    module _ (e : (not (eqb j 14) && not b) ≡ false) (h : Bool) (s : h ≡ holds (field w 28 31) flags) where
      some : (a b : Bool) → (not a && not b) ≡ false → (a || b) ≡ true
      some true b e = refl
      some false true e = refl
      some false false e = sym e

      pub off_skipped : h ≡ false → Skipped ≡ disabled_watched_class μ w flags
      off_skipped g = rw (← p, no, ← s, g, ← q, ← r, some (eqb j 14) b e)

      pub off_class : h ≡ true → (c : WatchedClass) → c ≡ cond (exempt w) Transfer (cond (known μ exc) (cond (known μ (core 15)) Off (Hangs (number (core 15)))) (Hangs (number exc))) → c ≡ disabled_watched_class μ w flags
      off_class g c i = rw (← p, no, ← s, g, ← q, ← r, some (eqb j 14) b e) i
