-- What a root's step does to lent singles and to FPSCR, over the precision.
use Prim.Native.Nat.{ℕ}
use mathlib.Core.Path.{refl}
use mathlib.Core.List.{List}
use lib.Ieee.{Format, binary32, binary64}
use Rattle.registers.specs.Registers.{value_in, stored_in}
use Rattle.roots.specs.Root.{square_root, root_exceptions}
use Rattle.short_vectors.specs.Register.{raised_in, SteppedWith}
use Rattle.root_steps.specs.Root.{root_step}

pub stepped : (f : Format) (c d m fpscr : ℕ) (s : List ℕ)
    → SteppedWith (root_step f c d m) fpscr s (raised_in fpscr (root_exceptions f (value_in f s m))) (stored_in f s d (square_root f c (value_in f s m)))
stepped binary32 c d m fpscr s q v = refl
stepped binary64 c d m fpscr s q v = refl
