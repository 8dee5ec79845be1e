-- What stands within a list does not depend on what is read past its end.
use mathlib.Core.Path.{◌≡◌, refl}
use mathlib.Core.List.{List, [], ◌∷◌}
use Prim.Native.Nat.{ℕ, zero, suc, ◌<◌}
use native.Mathlib.Omega.{arith}
use lib.ListN.{length, get_or}

pub within : (l : List ℕ) (i a b : ℕ) → i < length l → get_or l i a ≡ get_or l i b
within [] i a b h = absurd (omega arith)
within (x ∷ l) zero a b h = refl
within (x ∷ l) (suc i) a b h = within l i a b (omega arith)
