-- From what the leaves promise to what the calls promise.
use Prim.Native.Nat.{ℕ, ◌+◌, ◌-◌, ◌%◌, ◌^◌}
use mathlib.Core.Path.{◌≡◌, ap, subst}
use mathlib.Core.Bool.{Bool}
use mathlib.Core.List.{List}
use lib.ListN.{get_or, length}
use borrow.Author.Tests.{ne_eqb}
use Rattle.machine.specs.declared.Machine.{Machine}
use Rattle.machine.specs.Machine.{with_s, with_fpscr}
use Rattle.machine.specs.Place.{State, state, core}
use Rattle.meaning.specs.Stop.{finished, undefined, refused, report}
use Rattle.meaning.specs.Tree.{Tree, Out, out, on, exit_of, plain}
use Rattle.meaning.proofs.Laws.{plain-stop, plain-ask}
use Rattle.processing.specs.declared.Processed.{Processed}
use Rattle.processing.specs.declared.Processed.TheVariants.{Done, Undefined}
use Rattle.processing.specs.Data.{behind, data_tree, undefined_tree, Handled}
use Rattle.transfers.specs.Transfer.{after_transfer}
use Rattle.memory.specs.LoadStore.{load_store_tree}
use Rattle.limits.specs.Limit.{window_limit}
use Rattle.vfp.specs.Call.{reply, load_store_reply}

-- the reply of a word whose plain evaluation is o
pub replied : (o : Out) (t : Tree) (st : State) → o ≡ plain t st → record { report = report (exit_of o.next); leaves = o.st } ≡ reply t st
replied o t st e = ap (λ (x : Out). record { report = report (exit_of x.next); leaves = x.st }) e

module _ (m : Machine) (w : ℕ) (s' : List ℕ) (r : Processed) (h : Handled (λ thumb. data_tree thumb w) w m.s m.fpscr s' r) (v : List ℕ) where
  pub data_done : (x : ℕ) → r ≡ Done x → record { report = report finished; leaves = state (with_s (with_fpscr m x) s') v } ≡ reply (data_tree m.thumb w) (state m v)
  data_done x e =
      replied (out (state (with_s (with_fpscr m x) s') v) on) (data_tree m.thumb w) (state m v)
      (subst (λ (y : Processed). Handled (λ thumb. data_tree thumb w) w m.s m.fpscr s' y) e h m.thumb m v)

  pub data_undefined : (pc : ℕ) → r ≡ Undefined → pc ≡ (get_or m.r 15 0 + (2 ^ 32 - behind m.thumb)) % 2 ^ 32
      → record { report = report (undefined pc w); leaves = state m v } ≡ reply (data_tree m.thumb w) (state m v)
  data_undefined pc e p =
      rw (p, (subst (λ (y : Processed). Handled (λ thumb. data_tree thumb w) w m.s m.fpscr s' y) e h).1 m.thumb)
      (replied _ (undefined_tree m.thumb w) (state m v) (plain-ask (core 15) _ (state m v) _ (plain-stop _ (state m v))))

-- a transfer, by whether it branched
pub transferred : (b : Bool) (t : Tree) (st x : State) → out x (after_transfer b) ≡ plain t st → record { report = report (exit_of (after_transfer b)); leaves = x } ≡ reply t st
transferred b t st x e = replied (out x (after_transfer b)) t st e

-- loads and stores, within the limits and outside
module _ (base w : ℕ) (st : State) (n : ℕ) (l : n ≡ window_limit base (length st.window)) where
  pub allowed : (x : State) → n ≡ 0 → out x on ≡ plain (load_store_tree base w) st → record { report = report finished; leaves = x } ≡ load_store_reply base w st
  allowed x z e = rw (← l, z) (replied (out x on) (load_store_tree base w) st e)

  pub turned : (n ≡ 0 → ⊥) → record { report = report (refused n); leaves = st } ≡ load_store_reply base w st
  turned z = rw (← l, ne_eqb _ _ z)
