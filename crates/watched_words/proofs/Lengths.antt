-- A contiguous transfer and the marks of its words.
use mathlib.Core.Path.{◌≡◌, refl, sym, subst}
use mathlib.Core.Bool.{Bool, true, false, ◌&&◌, true≢false}
use Prim.Native.Nat.{ℕ}
use lib.Dec.{eqb}
use borrow.Author.Tests.{eqb-true}
use Rattle.addresses.specs.Contiguous.{Contiguous}

-- a transfer that is contiguous among the words is so among their marks, where there are as many
pub marks_too : (words marks base a n k : ℕ) (b : Bool) → (b ≡ true → Contiguous words base a n k) → (eqb words marks && b) ≡ true
    → Contiguous words base a n k × Contiguous marks base a n k
marks_too words marks base a n k b h e = by (eqb words marks) refl e
  where
    by : (t : Bool) → eqb words marks ≡ t → (t && b) ≡ true → Contiguous words base a n k × Contiguous marks base a n k
    by true p q = (h q, subst (λ (x : ℕ). Contiguous x base a n k) (eqb-true words marks p) (h q))
    by false p q = absurd (true≢false (sym q))
