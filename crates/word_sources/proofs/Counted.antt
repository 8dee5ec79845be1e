-- A word that is counted is skipped, or does what its class says and does not hang.
use Prim.Native.Nat.{ℕ}
use native.Mathlib.Omega.{arith}
use mathlib.Core.Path.{◌≡◌, refl, ap, sym, ◌∙◌, subst}
use mathlib.Core.Bool.{Bool, true, false, cond, true≢false}
use mathlib.Core.Logic.{inl, inr}
use lib.Dec.{eqb}
use borrow.Author.Tests.{eqb-true}
use Rattle.bits.specs.Field.{field, bit_of}
use Rattle.bits.specs.Psr.{holds, psr_of}
use Rattle.bits.proofs.Flags.{psr_nzcv}
use Rattle.machine.specs.Place.{Place, State, core, exc, nzcv, get, number}
use Rattle.meaning.specs.Map.{Map, known}
use Rattle.meaning.specs.Step.{nothing}
use Rattle.meaning.specs.Stop.{Stop, hangs}
use Rattle.meaning.specs.Stop as S
use Rattle.meaning.specs.Tree.{Tree, stop, go, ask, halt, Seen, seen, watched}
use Rattle.meaning.specs.Hang.{Hang, clear, at, hang_of}
use Rattle.meaning.proofs.Laws.{split_at}
use Rattle.processing.specs.Data.{undefined_tree}
use Rattle.word_class.specs.Word.{foreign_word, class_tree, exempt, enabled, conditioned, meaning}
use Rattle.word_class.proofs.Words as Words
use Rattle.chains.specs.Steps.{act_of}
use Rattle.reached.specs.Point.{Goes}

no_halt : (s : Stop) → Goes (halt s) → {A : Type 0} → A
no_halt s (inl e) = absurd (let z : ◌≡◌ {A = ℕ} 0 1 = cc in omega arith)
no_halt s (inr e) = absurd (let z : ◌≡◌ {A = ℕ} 0 1 = cc in omega arith)

module _ (st : State) (μ : Map) where
  abbrev Run : Tree → Type 0
  Run t = Goes (watched t st μ).next

  no_stop : (s : Stop) → Run (stop s) → {A : Type 0} → A
  unfolding watched
  no_stop s h = no_halt s h

  -- what it asks for is known
  goes_on : (p : Place) (k : ℕ → Tree) → Run (ask p k) → Run (k (get st p))
  unfolding watched
  goes_on p k = by (known μ p)
    where
      by : (b : Bool) → Goes (cond b (watched (k (get st p)) st μ) (seen st μ (halt (hangs (number p))))).next → Goes (watched (k (get st p)) st μ).next
      by true h = h
      by false h = no_halt (hangs (number p)) h

  -- a word that is counted does not hang
  goes_clear : (t : Tree) → Run t → hang_of t st μ ≡ clear
  goes_clear t h = by (hang_of t st μ) refl
    where
      by : (x : Hang) → hang_of t st μ ≡ x → x ≡ clear
      by clear e = refl
      by (at n) e = no_halt (hangs n) (subst (λ (o : Seen). Goes o.next) (split_at t st μ n e) h)

  no_undefined : (w : ℕ) → Run (undefined_tree false w) → {A : Type 0} → A
  no_undefined w h = no_stop _ (goes_on (core 15) _ h)

  -- ---- FPEXC, the condition, the word

  -- t does the same as u
  record As (t u : Tree) : Type 0 where
    act : act_of t st ≡ act_of u st
    run : Run u

  enabled-As : (w : ℕ) (t : Tree) → Run (enabled w t) → As (enabled w t) t
  unfolding enabled act_of
  enabled-As w t = by (exempt w)
    where
      on_off : (b : Bool) → Run (cond b t (undefined_tree false w)) → As (cond b t (undefined_tree false w)) t
      on_off true h = record { act = refl; run = h }
      on_off false h = no_undefined w h

      by : (b : Bool) → Run (cond b t (ask exc (λ e. cond (bit_of e 30) t (undefined_tree false w)))) → As (cond b t (ask exc (λ e. cond (bit_of e 30) t (undefined_tree false w)))) t
      by true h = record { act = refl; run = h }
      by false h =
          let x = on_off (bit_of st.machine.fpexc 30) (goes_on exc (λ e. cond (bit_of e 30) t (undefined_tree false w)) h) in
          record { act = x.act; run = x.run }

  module _ (c : ℕ) (t : Tree) where
    -- under a condition that holds, and one that fails
    held : holds c st.machine.cpsr ≡ true → Run (conditioned c t) → As (conditioned c t) t
    unfolding conditioned act_of
    held e = by (eqb c 14)
      where
        test : (b : Bool) → b ≡ true → Run (cond b t (go nothing)) → As (cond b t (go nothing)) t
        test true z h = record { act = refl; run = h }
        test false z h = absurd (true≢false (sym z))

        by : (b : Bool) → Run (cond b t (ask nzcv (λ f. cond (holds c (psr_of f)) t (go nothing)))) → As (cond b t (ask nzcv (λ f. cond (holds c (psr_of f)) t (go nothing)))) t
        by true h = record { act = refl; run = h }
        by false h =
            let g = goes_on nzcv (λ f. cond (holds c (psr_of f)) t (go nothing)) h in
            let x = test (holds c (psr_of (get st nzcv))) (ap (holds c) (psr_nzcv st.machine.cpsr) ∙ e) g in
            record { act = x.act; run = x.run }

    failed : holds c st.machine.cpsr ≡ false → act_of (conditioned c t) st ≡ nothing
    unfolding conditioned act_of
    failed e = by (eqb c 14) refl
      where
        test : (b : Bool) → b ≡ false → act_of (cond b t (go nothing)) st ≡ nothing
        test true z = absurd (true≢false z)
        test false z = refl

        by : (b : Bool) → eqb c 14 ≡ b → act_of (cond b t (ask nzcv (λ f. cond (holds c (psr_of f)) t (go nothing)))) st ≡ nothing
        by true g = absurd (true≢false (sym (Words.always c st.machine.cpsr (eqb-true c 14 g)) ∙ e))
        by false g = test (holds c (psr_of (get st nzcv))) (ap (holds c) (psr_nzcv st.machine.cpsr) ∙ e)

-- a counted word whose condition holds
pub record Does (base w : ℕ) (st : State) (μ : Map) : Type 0 where
  pub act : act_of (meaning base w) st ≡ act_of (class_tree base w) st
  pub clears : hang_of (class_tree base w) st μ ≡ clear

module _ (base w : ℕ) (st : State) (μ : Map) (r : Goes (watched (meaning base w) st μ).next) where
  abbrev worded : Tree
  worded = conditioned (field w 28 31) (enabled w (class_tree base w))

  ours : (b : Bool) → Run st μ (cond b (stop S.foreign) worded) → cond b (stop S.foreign) worded ≡ worded
  ours true h = no_stop st μ S.foreign h
  ours false h = refl

  pub counted_holds : holds (field w 28 31) st.machine.cpsr ≡ true → Does base w st μ
  unfolding meaning
  counted_holds e =
      let z = ours (foreign_word w) r in
      let h = held st μ (field w 28 31) (enabled w (class_tree base w)) e (subst (Run st μ) z r) in
      let g = enabled-As st μ w (class_tree base w) h.run in
      record { act = ap (λ (t : Tree). act_of t st) z ∙ h.act ∙ g.act; clears = goes_clear st μ (class_tree base w) g.run }

  pub counted_fails : holds (field w 28 31) st.machine.cpsr ≡ false → act_of (meaning base w) st ≡ nothing
  unfolding meaning
  counted_fails e = ap (λ (t : Tree). act_of t st) (ours (foreign_word w) r) ∙ failed st μ (field w 28 31) (enabled w (class_tree base w)) e
