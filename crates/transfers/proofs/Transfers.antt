-- The tree of a transfer, by its kind.
use Prim.Native.Nat.{ℕ}
use mathlib.Core.Path.{◌≡◌}
use mathlib.Core.Bool.{Bool}
use Rattle.transfers.specs.declared.Transfer.{Transfer}
use Rattle.transfers.specs.Transfer.{transfer_of, transfer_by, transfer_tree}

pub by_transfer : (t : Transfer) (thumb : Bool) (w : ℕ) → transfer_of w ≡ t → transfer_tree thumb w ≡ transfer_by t thumb w
unfolding transfer_tree
by_transfer t thumb w e = rw e
