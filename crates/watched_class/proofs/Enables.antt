-- A watched word with the unit on or off, or not known to be.
use Prim.Native.Nat.{ℕ, ◌+◌, ◌-◌, ◌%◌, ◌^◌}
use mathlib.Core.Path.{◌≡◌, refl, sym, ◌∙◌, ap}
use mathlib.Core.Bool.{Bool, true, false, cond}
use Rattle.bits.specs.Field.{bit_of}
use Rattle.machine.specs.Place.{State, core, exc, get, number}
use Rattle.meaning.specs.Map.{Map, known}
use Rattle.meaning.specs.Stop as S
use Rattle.meaning.specs.Tree.{Tree, ask, Seen, seen, halt, watched}
use Rattle.processing.specs.Data.{undefined_tree}
use Rattle.word_class.specs.Word.{exempt, enabled}

module _ (w : ℕ) (t : Tree) (st : State) (μ : Map) where
  abbrev undefined : Seen
  undefined = seen st μ (halt (S.undefined ((get st (core 15) + (2 ^ 32 - 8)) % 2 ^ 32) w))

  abbrev hanging : ℕ → Seen
  hanging n = seen st μ (halt (S.hangs n))

  -- by whether the word is exempt, FPEXC is known, its bit 30 is set, and r15 is known
  abbrev value : Bool → Bool → Bool → Bool → Seen
  value free told on pc =
      cond free (watched t st μ) (cond told (cond on (watched t st μ) (cond pc undefined (hanging (number (core 15))))) (hanging (number exc)))

  evaluated : value (exempt w) (known μ exc) (bit_of st.machine.fpexc 30) (known μ (core 15)) ≡ watched (enabled w t) st μ
  unfolding enabled watched
  evaluated = by (exempt w) (bit_of st.machine.fpexc 30) refl
    where
      by : (a b : Bool) → bit_of st.machine.fpexc 30 ≡ b
          → value a (known μ exc) b (known μ (core 15)) ≡ watched (cond a t (ask exc (λ e. cond (bit_of e 30) t (undefined_tree false w)))) st μ
      by true b q = refl
      by false true q = rw q
      by false false q = rw q

  at : (o : Seen) (a k b r : Bool) → exempt w ≡ a → known μ exc ≡ k → bit_of st.machine.fpexc 30 ≡ b → known μ (core 15) ≡ r → o ≡ value a k b r → o ≡ watched (enabled w t) st μ
  at o a k b r p q s u e =
      e
      ∙ sym (ap (λ (x : Bool). value x (known μ exc) (bit_of st.machine.fpexc 30) (known μ (core 15))) p
      ∙ ap (λ (x : Bool). value a x (bit_of st.machine.fpexc 30) (known μ (core 15))) q
      ∙ ap (λ (x : Bool). value a k x (known μ (core 15))) s
      ∙ ap (λ (x : Bool). value a k b x) u)
      ∙ evaluated

  pub told_on : known μ exc ≡ true → bit_of st.machine.fpexc 30 ≡ true → (o : Seen) → o ≡ watched t st μ → o ≡ watched (enabled w t) st μ
  told_on p q o h = at o (exempt w) true true (known μ (core 15)) refl p q refl (by (exempt w))
    where
      by : (a : Bool) → o ≡ value a true true (known μ (core 15))
      by true = h
      by false = h

  pub free_on : exempt w ≡ true → (o : Seen) → o ≡ watched t st μ → o ≡ watched (enabled w t) st μ
  free_on p o h = at o true (known μ exc) (bit_of st.machine.fpexc 30) (known μ (core 15)) p refl refl refl h

  module _ (n : exempt w ≡ false) where
    pub not_told : known μ exc ≡ false → hanging (number exc) ≡ watched (enabled w t) st μ
    not_told p = at _ false false (bit_of st.machine.fpexc 30) (known μ (core 15)) n p refl refl refl

    module _ (p : known μ exc ≡ true) (q : bit_of st.machine.fpexc 30 ≡ false) where
      pub told_off : known μ (core 15) ≡ true → undefined ≡ watched (enabled w t) st μ
      told_off r = at _ false true false true n p q r refl

      pub pc_unknown : known μ (core 15) ≡ false → hanging (number (core 15)) ≡ watched (enabled w t) st μ
      pc_unknown r = at _ false true false false n p q r refl
