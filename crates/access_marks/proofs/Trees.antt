-- The map that the tree of a load or store leaves, in either precision.
use mathlib.Core.Path.{◌≡◌, refl, sym}
use mathlib.Core.Bool.{Bool, true, false, cond}
use mathlib.Core.List.{[], ◌∷◌}
use Prim.Native.Nat.{ℕ}
use lib.Ieee.{Format}
use borrow.Author.Tests.{ne_eqb}
use Rattle.bits.specs.Field.{field, bit_of}
use Rattle.registers.specs.Registers.{reg_of}
use Rattle.machine.specs.Place.{core, State, get}
use Rattle.meaning.specs.Map.{Map}
use Rattle.meaning.specs.Step.{step_marks, after_marks, grow}
use Rattle.meaning.specs.Hang.{marked}
use Rattle.meaning.proofs.Laws.{grow_marks, marked-ask, marked-once, marked_then}
use Rattle.addresses.specs.Address.{count_of, start_of}
use Rattle.pairs.specs.Pair.{pair_step}
use Rattle.memory.specs.LoadStore.{access_at, access_tree}

-- a write-back changes no mark
back : (b : Bool) (n k : ℕ) (μ : Map) → step_marks (cond b (grow (core n) k ∷ []) []) μ ≡ μ
back true n k μ = grow_marks n k μ
back false n k μ = refl

module _ (f : Format) (base w : ℕ) (st : State) (μ : Map) where
  pub paired : (x : Map) → field w 21 27 ≡ 0b110_0010 → x ≡ step_marks (pair_step f w) μ → x ≡ marked (access_tree f base w) st μ
  unfolding access_tree
  paired x h e = rw h (marked-once _ _ _ _ e)

  pub accessed : (x : Map) → (field w 21 27 ≡ 0b110_0010 → ⊥)
      → x ≡ after_marks (count_of f w) (access_at f (bit_of w 20) base (reg_of f (field w 12 15) (field w 22 22)) (start_of w (get st (core (field w 16 19))))) μ
      → x ≡ marked (access_tree f base w) st μ
  unfolding access_tree
  accessed x h e = rw (ne_eqb _ _ h) (marked-ask _ _ _ _ _ (marked_then _ _ _ _ _ x x e (sym (back (bit_of w 21) _ _ x))))
