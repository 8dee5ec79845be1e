-- The marks that a transfer of one register leaves.
use mathlib.Core.Path.{◌≡◌, sym, ap, ◌∙◌}
use mathlib.Core.Bool.{Bool, true}
use Prim.Native.Nat.{ℕ, ◌+◌, ◌%◌, ◌^◌}
use lib.Ieee.{Format, binary32, binary64}
use Rattle.bits.specs.Field.{field, bit_of}
use Rattle.registers.specs.Registers.{low_index, reg_of}
use Rattle.machine.specs.Place.{core, State, get}
use Rattle.meaning.specs.Map.{Map}
use Rattle.meaning.specs.Step.{Step, step_marks}
use Rattle.meaning.specs.Hang.{marked}
use Rattle.meaning.proofs.Laws.{marks_none, marks_one}
use Rattle.addresses.specs.Address.{one_only, start_of}
use Rattle.memory.specs.LoadStore.{access_step, access_tree}
use Rattle.memory.proofs.One.{split, first_step, one_count, one_start}
use Rattle.access_marks.proofs.Doubles.{in_turn}
use Rattle.access_marks.proofs.Trees.{accessed}

-- a double's marks are those of its low word and then those of its high word
pub both : (load : Bool) (base d a n : ℕ) (μ x y : Map) → n ≡ low_index d → x ≡ step_marks (access_step binary32 load base n a) μ
    → y ≡ step_marks (access_step binary32 load base (n + 1) ((a + 4) % 2 ^ 32)) x → y ≡ step_marks (access_step binary64 load base d a) μ
both load base d a n μ x y e p q =
    q ∙ rw (p, e) (sym (in_turn load base (low_index d) (low_index d + 1) a ((a + 4) % 2 ^ 32) μ)) ∙ ap (λ (z : Step). step_marks z μ) (sym (split load base d a))

pub one_accessed : (w : ℕ) → one_only w ≡ true → (f : Format) (base : ℕ) (st : State) (μ x : Map) → (field w 21 27 ≡ 0b110_0010 → ⊥)
    → x ≡ step_marks (access_step f (bit_of w 20) base (reg_of f (field w 12 15) (field w 22 22)) (start_of w (get st (core (field w 16 19))))) μ
    → x ≡ marked (access_tree f base w) st μ
one_accessed w o f base st μ x h e =
    accessed f base w st μ x h
    (rw (one_count w o f) (e ∙ ap (λ (z : Step). step_marks z μ) (first_step f _ _ _ _ (one_start w o (get st (core (field w 16 19))))) ∙ marks_one 0 _ _ _ (marks_none _ _)))
