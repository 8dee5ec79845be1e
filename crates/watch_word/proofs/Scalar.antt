-- A scalar: what a step and its marks leave is what the watched word leaves.
use Prim.Native.Nat.{ℕ, ◌<◌}
use native.Mathlib.Omega.{arith}
use mathlib.Core.Path.{◌≡◌, refl}
use mathlib.Core.Bool.{Bool, true, false}
use mathlib.Core.List.{List}
use lib.Ieee.{Format}
use Rattle.machine.specs.declared.Controls.{Controls}
use Rattle.machine.specs.Machine.{assembled}
use Rattle.machine.specs.Place.{state, control}
use Rattle.meaning.specs.Map.{known}
use Rattle.meaning.specs.Tree.{seen, watched, on}
use Rattle.place_marks.specs.Word.{map_in}
use Rattle.decoding.specs.declared.operation.Operation.{Operation}
use Rattle.decoding.specs.Operation.{operation_of, operation_numbered, number_of}
use Rattle.processing.specs.declared.Processed.TheVariants.{Done}
use Rattle.processing.specs.Data.{named_tree, data_tree, Handled}
use Rattle.processing.proofs.Done.{Handled-as}
use Rattle.processing_marks.specs.Marked.{Marked}
use Rattle.processing_marks.proofs.Done.{Marked-as}
use Rattle.hangs.proofs.Hangs.{defined_known}
use Rattle.run_word.specs.Stop.{next_of}
use Rattle.run_word.specs.declared.Next.TheVariants.{On}
use Rattle.run_word.proofs.Scalars.{the_operation}
use Rattle.run_word.proofs.Words.{data_done}
use Rattle.watch_word.specs.declared.word.Seen.{Seen}
use Rattle.watched_class.proofs.Worded.{not_hanging}

module _ (w n : ℕ) (o : Operation) (is : n ≡ number_of (operation_of w)) (named : o ≡ operation_numbered n) (some : 0 < n) where
  defined : 0 < number_of o
  defined = rw (the_operation w n o is named) (omega (arith, is))

  pub scalar_seen : (f : Format) → ((thumb : Bool) → data_tree thumb w ≡ named_tree f w o thumb) → (s r : List ℕ) (x : Controls) (s' : List ℕ) (m m' fpscr : ℕ) (e : Seen)
      → (e.controls ≡ record { fpscr = fpscr; fpexc = x.fpexc; cpsr = x.cpsr }) × (e.marks ≡ m') × (e.next ≡ On)
      → (v u : List ℕ) → known (map_in m u) control ≡ true
      → Handled (named_tree f w o) w s x.fpscr s' (Done fpscr) × Marked (named_tree f w o) x.fpscr m m'
      → seen (state (assembled s' r e.controls false) v) (map_in e.marks u) (next_of e.next) ≡ watched (data_tree false w) (state (assembled s r x false) v) (map_in m u)
  scalar_seen f tree s r x s' m m' fpscr e left v u k does =
      rw (left.0, left.1, left.2)
      (not_hanging (data_tree false w) (state (assembled s r x false) v) _ (map_in m u) (map_in m' u) on
      (rw (tree false) (defined_known (state (assembled s r x false) v) (map_in m u) k f w o defined))
      (data_done w s r x s' (Done fpscr) (Handled-as (named_tree f w o) (λ thumb. data_tree thumb w) w s x.fpscr s' (Done fpscr) tree does.0) v fpscr refl)
      (Marked-as (named_tree f w o) (λ thumb. data_tree thumb w) x.fpscr m m' tree does.1 false (assembled s r x false) v u))
