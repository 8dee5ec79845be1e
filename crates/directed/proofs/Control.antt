-- What the arithmetic of one step by FPSCR depends on. Over the format. Assumes nothing.
use Rattle.std.proofs.Common.{◌≡◌, ℕ, ◌/◌, ◌%◌, ◌^◌, false, sym, refl, ap, ◌∙◌}
use lib.Bits.{bit_or}
use lib.Ieee.{Format}
use Rattle.floats.specs.Flush.{flush}
use Rattle.floats.proofs.Flushing.{flush_off}
use Rattle.numbers.specs.Arithmetic.{accumulates}
use Rattle.numbers.specs.declared.arithmetic.Arithmetic.{Arithmetic}
use Rattle.numbers.specs.declared.arithmetic.Arithmetic.TheVariants.{MultiplyAccumulate, MultiplySubtract, NegateMultiplySubtract, NegateMultiplyAccumulate, Multiply, NegateMultiply, Add, Subtract, Divide}
use Rattle.exceptions.specs.Exceptions.{flushed_exceptions}
use Rattle.directed.specs.Directed.{applied_by, arithmetic_by}
use Rattle.directed.specs.Exceptions.{first_exceptions, last_exceptions, exceptions_by}

-- a kind that does not read d
unread : (f : Format) (control : ℕ) (kind : Arithmetic) (n m d e : ℕ) → accumulates kind ≡ false → applied_by f control kind n m d ≡ applied_by f control kind n m e
unfolding applied_by
unread f control MultiplyAccumulate n m d e h = cc
unread f control MultiplySubtract n m d e h = cc
unread f control NegateMultiplySubtract n m d e h = cc
unread f control NegateMultiplyAccumulate n m d e h = cc
unread f control Multiply n m d e h = refl
unread f control NegateMultiply n m d e h = refl
unread f control Add n m d e h = refl
unread f control Subtract n m d e h = refl
unread f control Divide n m d e h = refl

-- the result does not depend on a d that is not read
pub without_d : (f : Format) (control : ℕ) (kind : Arithmetic) (n m d e : ℕ) → accumulates kind ≡ false → arithmetic_by f control kind n m d ≡ arithmetic_by f control kind n m e
unfolding arithmetic_by
without_d f control kind n m d e h = ap (flush f control) (unread f control kind n m d e h)

-- and neither does what is raised
last_unread : (f : Format) (control : ℕ) (kind : Arithmetic) (n m d e : ℕ) → accumulates kind ≡ false → last_exceptions f control kind n m d ≡ last_exceptions f control kind n m e
unfolding last_exceptions
last_unread f control MultiplyAccumulate n m d e h = cc
last_unread f control MultiplySubtract n m d e h = cc
last_unread f control NegateMultiplySubtract n m d e h = cc
last_unread f control NegateMultiplyAccumulate n m d e h = cc
last_unread f control Multiply n m d e h = refl
last_unread f control NegateMultiply n m d e h = refl
last_unread f control Add n m d e h = refl
last_unread f control Subtract n m d e h = refl
last_unread f control Divide n m d e h = refl

pub raised_without_d : (f : Format) (control : ℕ) (kind : Arithmetic) (n m d e : ℕ) → accumulates kind ≡ false → exceptions_by f control kind n m d ≡ exceptions_by f control kind n m e
unfolding exceptions_by
raised_without_d f control kind n m d e h =
    ap (λ (x : ℕ). bit_or (first_exceptions f control kind n m) (flushed_exceptions f control x (last_exceptions f control kind n m d))) (unread f control kind n m d e h)
    ∙ ap (λ (x : ℕ). bit_or (first_exceptions f control kind n m) (flushed_exceptions f control (applied_by f control kind n m e) x)) (last_unread f control kind n m d e h)

-- where FPSCR bit 24 is clear, it is stored as it is
pub kept : (f : Format) (control : ℕ) (kind : Arithmetic) (n m d : ℕ) → control / 2 ^ 24 % 2 ≡ 0 → arithmetic_by f control kind n m d ≡ applied_by f control kind n m d
unfolding arithmetic_by
kept f control kind n m d h = sym (flush_off f control (applied_by f control kind n m d) h)
