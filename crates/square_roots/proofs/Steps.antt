-- A step of a root, as the number of a test. Assumes nothing.
use Rattle.std.proofs.Common.{◌≡◌, ◌≤◌, ℕ, Bool, true, false, cond, arith}
use mir.Val.{bool_byte}

pub step_is : (a : ℕ) (b : Bool) → a ≡ bool_byte b → (a ≡ cond b 1 0) × (a ≤ 1)
step_is a true e = (e, omega arith)
step_is a false e = (e, omega arith)
