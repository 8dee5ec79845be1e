-- The meaning of a data-processing word (vfp.rs `data_processing` and `extension`).
use Rattle.std.specs.Prelude.{◌≡◌, ℕ, ◌+◌, ◌-◌, ◌%◌, ◌^◌, Bool, true, false, cond, List, [], eqb}
use Rattle.std.specs.Float.{Format, binary32, binary64}
use Rattle.bits.specs.Field.{field}
use Rattle.machine.specs.declared.Machine.{Machine}
use Rattle.machine.specs.Machine.{with_s, with_fpscr}
use Rattle.machine.specs.Place.{core, control, state}
use Rattle.numbers.specs.declared.arithmetic.Arithmetic.{Arithmetic}
use Rattle.numbers.specs.declared.arithmetic.Arithmetic.TheVariants.{MultiplyAccumulate, MultiplySubtract, NegateMultiplySubtract, NegateMultiplyAccumulate, Multiply, NegateMultiply, Add, Subtract, Divide}
use Rattle.meaning.specs.Step.{Step, once}
use Rattle.meaning.specs.Stop as Stop
use Rattle.meaning.specs.Tree.{Tree, stop, go, ask, out, on, plain}
use Rattle.sign_steps.specs.declared.sign.SignOperation.TheVariants.{Copy, Absolute, Negate}
use Rattle.short_vectors.specs.Vector.{iterations_of, monadic_step}
use Rattle.arithmetic_steps.specs.Arithmetic.{dyadic_step}
use Rattle.sign_steps.specs.Sign.{sign_step}
use Rattle.root_steps.specs.Root.{root_step}
use Rattle.compare_steps.specs.Compare.{compare_step, compare_zero_step}
use Rattle.width_steps.specs.Width.{widen_step, narrow_step}
use Rattle.integer_steps.specs.Integer.{from_step, truncate_step, round_step}
use Rattle.register_fields.specs.Fields.{reg_d, reg_n, reg_m}
use Rattle.decoding.specs.declared.operation.Operation.TheVariants as O
use Rattle.decoding.specs.declared.operation.Operation.{Operation}
use Rattle.decoding.specs.Operation.{operation_of}
use Rattle.decoding.specs.declared.operation.Operation.TheVariants.{Fmac, Fnmac, Fmsc, Fnmsc, Fmul, Fnmul, Fadd, Fsub, Fdiv, Fcpy, Fabs, Fneg, Fsqrt, Fcmp, Fcmpe, Fcmpz, Fcmpez, Fcvt, Fuito, Fsito, Ftoui, Ftouiz, Ftosi, Ftosiz}
use Rattle.processing.specs.declared.Processed.{Processed}
use Rattle.processing.specs.declared.Processed.TheVariants.{Done, Undefined}

-- coprocessor 10 widens and 11 narrows
abbrev pub convert_step : Format → ℕ → Step
convert_step binary32 w = widen_step (reg_d binary64 w) (reg_m binary32 w)
convert_step binary64 w = narrow_step (reg_d binary32 w) (reg_m binary64 w)

-- a stepping word asks for FPSCR 27:5, and makes so many iterations in turn
abbrev pub stepping : Format → ℕ → (ℕ → ℕ → Step) → Tree
stepping f d each = ask control (λ c. go (record { count = iterations_of f c d; each = each c; tail = [] }))

abbrev pub dyadic : Format → ℕ → Arithmetic → Tree
dyadic f w kind = stepping f (reg_d f w) (λ c. dyadic_step f c kind (reg_d f w) (reg_n f w) (reg_m f w))

abbrev pub monadic : Format → ℕ → (ℕ → ℕ → ℕ → Step) → Tree
monadic f w one = stepping f (reg_d f w) (λ c. monadic_step f c (one c) (reg_d f w) (reg_m f w))

-- Undefined reports the word's own address: r15 is two words ahead of it, in Thumb two halfwords
abbrev pub behind : Bool → ℕ
behind thumb = cond thumb 4 8

abbrev pub undefined_tree : Bool → ℕ → Tree
undefined_tree thumb w = ask (core 15) (λ pc. stop (Stop.undefined ((pc + (2 ^ 32 - behind thumb)) % 2 ^ 32) w))

unfoldable pub operation_tree : Bool → Format → ℕ → Operation → Tree
operation_tree thumb f w Fmac = dyadic f w MultiplyAccumulate
operation_tree thumb f w Fnmac = dyadic f w MultiplySubtract
operation_tree thumb f w Fmsc = dyadic f w NegateMultiplySubtract
operation_tree thumb f w Fnmsc = dyadic f w NegateMultiplyAccumulate
operation_tree thumb f w Fmul = dyadic f w Multiply
operation_tree thumb f w Fnmul = dyadic f w NegateMultiply
operation_tree thumb f w Fadd = dyadic f w Add
operation_tree thumb f w Fsub = dyadic f w Subtract
operation_tree thumb f w Fdiv = dyadic f w Divide
operation_tree thumb f w Fcpy = monadic f w (λ c. sign_step f Copy)
operation_tree thumb f w Fabs = monadic f w (λ c. sign_step f Absolute)
operation_tree thumb f w Fneg = monadic f w (λ c. sign_step f Negate)
operation_tree thumb f w Fsqrt = monadic f w (root_step f)
operation_tree thumb f w Fcmp = go (once (compare_step f false (reg_d f w) (reg_m f w)))
operation_tree thumb f w Fcmpe = go (once (compare_step f true (reg_d f w) (reg_m f w)))
operation_tree thumb f w Fcmpz = go (once (compare_zero_step f false (reg_d f w)))
operation_tree thumb f w Fcmpez = go (once (compare_zero_step f true (reg_d f w)))
operation_tree thumb f w Fcvt = go (once (convert_step f w))
operation_tree thumb f w Fuito = go (once (from_step f false (reg_d f w) (reg_m binary32 w)))
operation_tree thumb f w Fsito = go (once (from_step f true (reg_d f w) (reg_m binary32 w)))
operation_tree thumb f w Ftoui = go (once (round_step f false (reg_d binary32 w) (reg_m f w)))
operation_tree thumb f w Ftouiz = go (once (truncate_step f false (reg_d binary32 w) (reg_m f w)))
operation_tree thumb f w Ftosi = go (once (round_step f true (reg_d binary32 w) (reg_m f w)))
operation_tree thumb f w Ftosiz = go (once (truncate_step f true (reg_d binary32 w) (reg_m f w)))
operation_tree thumb f w O.Undefined = undefined_tree thumb w

-- coprocessor 10 is single precision and 11 double; any other is Undefined
unfoldable pub data_tree : Bool → ℕ → Tree
unfolding operation_tree operation_of
data_tree thumb w =
    let coproc = field w 8 11 in
    cond (eqb coproc 10) (operation_tree thumb binary32 w (operation_of w))
    (cond (eqb coproc 11) (operation_tree thumb binary64 w (operation_of w)) (undefined_tree thumb w))

-- the tree of an operation, and of a word of coprocessor 10 or 11
abbrev pub named_tree : Format → ℕ → Operation → Bool → Tree
named_tree f w o thumb = operation_tree thumb f w o

abbrev pub word_tree : Format → ℕ → Bool → Tree
word_tree f w = named_tree f w (operation_of w)

-- what a leaf over lent registers gives of a word with the tree t: what the tree says is done, or the word is Undefined and nothing is changed
abbrev pub Handled : (Bool → Tree) → ℕ → List ℕ → ℕ → List ℕ → Processed → Type 0
Handled t w s fpscr s' (Done fpscr') =
    (thumb : Bool) (q : Machine) (v : List ℕ) → out (state (with_s (with_fpscr q fpscr') s') v) on ≡ plain (t thumb) (state (with_s (with_fpscr q fpscr) s) v)
Handled t w s fpscr s' Undefined = (s' ≡ s) × ((thumb : Bool) → t thumb ≡ undefined_tree thumb w)
