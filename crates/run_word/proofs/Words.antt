-- A word of data processing in ARM state: what the leaves' promises come to.
use Prim.Native.Nat.{ℕ, ◌+◌, ◌-◌, ◌%◌, ◌^◌}
use mathlib.Core.Path.{◌≡◌, subst}
use mathlib.Core.Bool.{false}
use mathlib.Core.List.{List}
use lib.ListN.{get_or}
use Rattle.machine.specs.declared.Controls.{Controls}
use Rattle.machine.specs.Machine.{assembled}
use Rattle.machine.specs.Place.{state, core}
use Rattle.meaning.specs.Tree.{out, on, halt, plain}
use Rattle.meaning.specs.Stop as S
use Rattle.meaning.proofs.Laws.{plain-stop, plain-ask}
use Rattle.processing.specs.declared.Processed.{Processed}
use Rattle.processing.specs.declared.Processed.TheVariants.{Done, Undefined}
use Rattle.processing.specs.Data.{data_tree, Handled}

module _ (w : ℕ) (s r : List ℕ) (x : Controls) (s' : List ℕ) (d : Processed) (h : Handled (λ thumb. data_tree thumb w) w s x.fpscr s' d) (v : List ℕ) where
  at_arm : (y : Processed) → d ≡ y → Handled (λ thumb. data_tree thumb w) w s x.fpscr s' y
  at_arm y e = subst (λ (z : Processed). Handled (λ thumb. data_tree thumb w) w s x.fpscr s' z) e h

  pub data_done : (n : ℕ) → d ≡ Done n
      → out (state (assembled s' r (record { fpscr = n; fpexc = x.fpexc; cpsr = x.cpsr }) false) v) on ≡ plain (data_tree false w) (state (assembled s r x false) v)
  data_done n e = at_arm (Done n) e false (assembled s r x false) v

  pub data_undefined : (pc : ℕ) → d ≡ Undefined → pc ≡ (get_or r 15 0 + (2 ^ 32 - 8)) % 2 ^ 32
      → out (state (assembled s' r x false) v) (halt (S.undefined pc w)) ≡ plain (data_tree false w) (state (assembled s r x false) v)
  data_undefined pc e p =
      rw ((at_arm Undefined e).0, p, (at_arm Undefined e).1 false)
      (plain-ask (core 15) _ (state (assembled s r x false) v) _ (plain-stop _ (state (assembled s r x false) v)))
