-- A word with the unit on or off, in the plain run.
use Prim.Native.Nat.{ℕ, ◌+◌, ◌-◌, ◌%◌, ◌^◌}
use native.Mathlib.Omega.{arith}
use mathlib.Core.Path.{◌≡◌, refl, sym}
use mathlib.Core.Bool.{Bool, true, false, cond, true≢false, ◌&&◌, ◌||◌}
use lib.Dec.{eqb}
use borrow.Author.Tests.{eqb-true, ne_eqb}
use Rattle.bits.specs.Field.{field, bit_of}
use Rattle.machine.specs.Place.{State, core, exc, get}
use Rattle.meaning.specs.Stop as S
use Rattle.meaning.specs.Tree.{Tree, ask, Out, out, halt, plain}
use Rattle.meaning.proofs.Laws.{plain-stop, plain-ask}
use Rattle.processing.specs.Data.{undefined_tree}
use Rattle.transfers.specs.Transfer.{transfer_tree}
use Rattle.word_class.specs.Word.{class_tree, exempt, enabled}

module _ (w : ℕ) (t : Tree) (st : State) where
  -- bit 30 is set, or the word is exempt
  pub goes_on : (o : Out) → bit_of st.machine.fpexc 30 ≡ true → o ≡ plain t st → o ≡ plain (enabled w t) st
  unfolding enabled
  goes_on o h e = by (exempt w)
    where
      by : (a : Bool) → o ≡ plain (cond a t (ask exc (λ x. cond (bit_of x 30) t (undefined_tree false w)))) st
      by true = e
      by false = plain-ask exc _ st o (rw h e)

  pub exempted : (o : Out) → exempt w ≡ true → o ≡ plain t st → o ≡ plain (enabled w t) st
  unfolding enabled
  exempted o h e = rw h e

  -- neither
  pub goes_off : (o : Out) → bit_of st.machine.fpexc 30 ≡ false → exempt w ≡ false → o ≡ plain (undefined_tree false w) st → o ≡ plain (enabled w t) st
  unfolding enabled
  goes_off o h n e = rw n (plain-ask exc _ st o (rw h e))

-- an Undefined word with its address
pub undefined_at : (w : ℕ) (st : State) (pc : ℕ) → pc ≡ (get st (core 15) + (2 ^ 32 - 8)) % 2 ^ 32 → out st (halt (S.undefined pc w)) ≡ plain (undefined_tree false w) st
undefined_at w st pc e = rw e (plain-ask (core 15) _ st _ (plain-stop _ st))

-- an exempt word is a transfer
pub first : (a b : Bool) → (a && b) ≡ true → a ≡ true
first true b e = refl
first false b e = absurd (true≢false (sym e))

pub second : (a b : Bool) → (a && b) ≡ true → b ≡ true
second true b e = e
second false b e = absurd (true≢false (sym e))

pub exempt_class : (base w : ℕ) → exempt w ≡ true → class_tree base w ≡ transfer_tree false w
unfolding exempt class_tree
exempt_class base w e =
    let p : (eqb (field w 24 27) 0b1110 && bit_of w 4) ≡ true = first _ (eqb (field w 21 23) 7 && (eqb (field w 16 19) 0 || eqb (field w 16 19) 8)) e in
    let q : field w 24 27 ≡ 0b1110 = eqb-true _ _ (first _ (bit_of w 4) p) in
    rw (ne_eqb (field w 25 27) 0b110 (λ z. omega (arith, q, z)), second (eqb (field w 24 27) 0b1110) _ p)
