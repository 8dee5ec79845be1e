-- A watched word, from the tests that the code makes and what its parts promise.
use Prim.Native.Nat.{ℕ}
use mathlib.Core.Path.{◌≡◌, refl, sym, ◌∙◌}
use mathlib.Core.Bool.{Bool, true, false, cond}
use borrow.Author.Tests.{ne_eqb}
use Rattle.bits.specs.Psr.{holds}
use Rattle.bits.proofs.Flags.{psr_nzcv}
use Rattle.machine.specs.Place.{State, nzcv, number}
use Rattle.meaning.specs.Map.{Map, known}
use Rattle.meaning.specs.Step.{after, after_marks}
use Rattle.meaning.specs.Tree.{Tree, stop, Next, on, halt, out, plain, Seen, seen, watched}
use Rattle.meaning.specs.Hang.{clear, at, hang_of, marked}
use Rattle.meaning.proofs.Laws.{split_clear, split_at}
use Rattle.word_class.specs.Word.{conditioned}
use Rattle.meaning.specs.Stop as S

pub stopping : (s : S.Stop) (st : State) (μ : Map) → seen st μ (halt s) ≡ watched (stop s) st μ
unfolding watched
stopping s st μ = refl

-- a word that hangs
pub hanging : (t : Tree) (st : State) (μ : Map) (n : ℕ) → at n ≡ hang_of t st μ → seen st μ (halt (S.hangs n)) ≡ watched t st μ
hanging t st μ n h = sym (split_at t st μ n (sym h))

-- a word that does not hang: what the plain word leaves, with its marks
pub not_hanging : (t : Tree) (st x : State) (μ y : Map) (n : Next) → clear ≡ hang_of t st μ → out x n ≡ plain t st → y ≡ marked t st μ → seen x y n ≡ watched t st μ
not_hanging t st x μ y n h e m = sym (split_clear t st μ (sym h) ∙ rw (← e, ← m))

-- ---- the condition

picked : (b : Bool) (x y o : Seen) → b ≡ true → o ≡ x → o ≡ cond b x y
picked b x y o e h = rw e h

module _ (k : ℕ) (t : Tree) (st : State) (μ : Map) where
  pub always : k ≡ 14 → (o : Seen) → o ≡ watched t st μ → o ≡ watched (conditioned k t) st μ
  unfolding conditioned
  always e o h = rw e h

  module _ (n : k ≡ 14 → ⊥) where
    pub flags_unknown : known μ nzcv ≡ false → seen st μ (halt (S.hangs (number nzcv))) ≡ watched (conditioned k t) st μ
    unfolding conditioned watched
    flags_unknown e = rw (ne_eqb _ _ n, e)

    pub holding : known μ nzcv ≡ true → holds k st.machine.cpsr ≡ true → (o : Seen) → o ≡ watched t st μ → o ≡ watched (conditioned k t) st μ
    unfolding conditioned watched
    holding e g o h = rw (ne_eqb _ _ n) (picked (known μ nzcv) _ _ o e (rw (psr_nzcv st.machine.cpsr, g) h))

    pub failing : known μ nzcv ≡ true → holds k st.machine.cpsr ≡ false → seen st μ on ≡ watched (conditioned k t) st μ
    unfolding conditioned watched after_marks after
    failing e g = rw (ne_eqb _ _ n) (picked (known μ nzcv) _ _ _ e (rw (psr_nzcv st.machine.cpsr, g)))
