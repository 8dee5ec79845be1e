use Prim.Native.Nat.{ℕ}
use mathlib.Core.Path.{◌≡◌, ap, sym, ◌∙◌}
use mathlib.Core.Bool.{false}
use lib.Dec.{eqb}
use native.Mathlib.Omega.{arith}
use borrow.Author.Tests.{ne_eqb}
use Rattle.registers.specs.declared.registers.Single.{Single}
use Rattle.transfers.specs.declared.Transfer.TheVariants as transfer
use Rattle.transfers.specs.Transfer.{transfer_of}
use Rattle.transfers.proofs.transfer_of.Goals as goal

-- the transfer of a single, by its number
numbered : (x : Single) (n : ℕ) → x.0 ≡ n → transfer.Single x ≡ transfer.Single (record { 0 = n })
numbered x n e = ap (λ (k : ℕ). transfer.Single (record { 0 = k })) e

-- opc1 is not k
other : {x y k : ℕ} → x ≡ y → (x ≡ k → ⊥) → eqb y k ≡ false
other e h = ne_eqb _ _ (rw e at h)

pub returns-then-opc1-eq7 : goal.returns-then-opc1-eq7
unfolding transfer_of
returns-then-opc1-eq7 c = rw (sym c.bits-opc1.ensures ∙ c.if-opc1-eq7.true)

pub returns-then-opc1-eq0 : goal.returns-then-opc1-eq0
unfolding transfer_of
returns-then-opc1-eq0 c = rw (sym c.bits-opc1.ensures ∙ c.if-opc1-eq0.true) (numbered _ _ (rw (c.bits-n.ensures, c.bits.ensures) at c.sreg.ensures))

pub returns-then-is_high_half : goal.returns-then-is_high_half
unfolding transfer_of
returns-then-is_high_half c = rw (other c.bits-opc1.ensures c.if-opc1-eq7.false, other c.bits-opc1.ensures c.if-opc1-eq0.false, sym c.is_high_half.ensures ∙ c.if-is_high_half.true) (numbered _ _ (omega (arith, c.sreg-then-is_high_half.ensures, c.bits-n.ensures)))

pub returns : goal.returns
unfolding transfer_of
returns c = rw (other c.bits-opc1.ensures c.if-opc1-eq7.false, other c.bits-opc1.ensures c.if-opc1-eq0.false, sym c.is_high_half.ensures ∙ c.if-is_high_half.false)
