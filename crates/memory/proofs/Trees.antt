-- The tree of a load or store in either precision, evaluated.
use mathlib.Core.Path.{◌≡◌, refl, sym}
use mathlib.Core.Bool.{Bool, true, false, cond, not, ◌&&◌}
use Prim.Native.Nat.{ℕ}
use native.Mathlib.Decide.{ℕ_discrete}
use lib.Dec.{eqb}
use lib.Ieee.{Format, binary32, binary64}
use borrow.Author.Tests.{ne_eqb}
use Rattle.bits.specs.Field.{field, bit_of}
use Rattle.registers.specs.Registers.{reg_of}
use Rattle.machine.specs.Place.{core, State, get}
use Rattle.meaning.specs.Step.{step, after, nothing}
use Rattle.meaning.specs.Tree.{go, on, out, plain}
use Rattle.meaning.proofs.Laws.{plain-ask, plain-once, plain_then}
use mathlib.Core.Bool.{true≢false}
use Rattle.addresses.specs.Address.{format_of, count_of, start_of, write_back}
use Rattle.pairs.specs.Pair.{pair_step}
use Rattle.memory.specs.LoadStore.{access_at, access_tree, load_store_tree}

module _ (f : Format) (base w : ℕ) (st : State) where
  pub paired : (x : State) → field w 21 27 ≡ 0b110_0010 → x ≡ step (pair_step f w) st → out x on ≡ plain (access_tree f base w) st
  unfolding access_tree
  paired x h e = rw h (plain-once _ _ _ e)

  -- the registers moved, and the base register written back
  pub accessed : (x y : State) → (field w 21 27 ≡ 0b110_0010 → ⊥)
      → x ≡ after (count_of f w) (access_at f (bit_of w 20) base (reg_of f (field w 12 15) (field w 22 22)) (start_of w (get st (core (field w 16 19))))) st
      → y ≡ step (write_back w) x → out y on ≡ plain (access_tree f base w) st
  unfolding access_tree
  accessed x y h d e = rw (ne_eqb _ _ h) (plain-ask _ _ _ _ (plain_then _ _ _ _ x y d e))

-- coprocessors 10 and 11, and the others
module _ (base w : ℕ) where
  pub ours : (not (eqb (field w 8 11) 10) && not (eqb (field w 8 11) 11)) ≡ false → load_store_tree base w ≡ access_tree (format_of (eqb (field w 8 11) 11)) base w
  unfolding load_store_tree
  ours h = by (field w 8 11) (ℕ_discrete (field w 8 11) 10) (ℕ_discrete (field w 8 11) 11) h
    where
      by : (c : ℕ) → Dec (c ≡ 10) → Dec (c ≡ 11) → (not (eqb c 10) && not (eqb c 11)) ≡ false
          → cond (eqb c 10) (access_tree binary32 base w) (cond (eqb c 11) (access_tree binary64 base w) (go nothing)) ≡ access_tree (format_of (eqb c 11)) base w
      by c (yes a) b h = rw a
      by c (no a) (yes b) h = rw b
      by c (no a) (no b) h = absurd (true≢false (simp (ne_eqb _ _ a, ne_eqb _ _ b) at h))

  pub others : (not (eqb (field w 8 11) 10) && not (eqb (field w 8 11) 11)) ≡ true → load_store_tree base w ≡ go nothing
  unfolding load_store_tree
  others h = by (eqb (field w 8 11) 10) (eqb (field w 8 11) 11) h
    where
      by : (a b : Bool) → (not a && not b) ≡ true → cond a (access_tree binary32 base w) (cond b (access_tree binary64 base w) (go nothing)) ≡ go nothing
      by true b h = absurd (true≢false (sym h))
      by false true h = absurd (true≢false (sym h))
      by false false h = refl
