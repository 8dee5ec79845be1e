-- Which operation a data-processing word is: the rule, and the operations' numbers.
use Rattle.std.specs.Prelude.{ℕ, Bool, cond, List, [], ◌∷◌, eqb, get_or}
use Rattle.bits.specs.Field.{field, bit_of}
use Rattle.register_fields.specs.Fields.{kind_of}
use Rattle.numbers.specs.declared.arithmetic.Arithmetic.{Arithmetic}
use Rattle.numbers.specs.declared.arithmetic.Arithmetic.TheVariants.{MultiplyAccumulate, MultiplySubtract, NegateMultiplySubtract, NegateMultiplyAccumulate, Multiply, NegateMultiply, Add, Subtract, Divide}
use Rattle.decoding.specs.declared.operation.Operation.{Operation}
use Rattle.decoding.specs.declared.operation.Operation.TheVariants.{Undefined, Fmac, Fnmac, Fmsc, Fnmsc, Fmul, Fnmul, Fadd, Fsub, Fdiv, Fcpy, Fabs, Fneg, Fsqrt, Fcmp, Fcmpe, Fcmpz, Fcmpez, Fcvt, Fuito, Fsito, Ftoui, Ftouiz, Ftosi, Ftosiz}

-- the extension group, by bits 19:16 and bit 7
unfoldable pub extension_by : ℕ → Bool → Operation
extension_by opc2 top =
    cond (eqb opc2 0b0000) (cond top Fabs Fcpy)
    (cond (eqb opc2 0b0001) (cond top Fsqrt Fneg)
    (cond (eqb opc2 0b0100) (cond top Fcmpe Fcmp)
    (cond (eqb opc2 0b0101) (cond top Fcmpez Fcmpz)
    (cond (eqb opc2 0b0111) (cond top Fcvt Undefined)
    (cond (eqb opc2 0b1000) (cond top Fsito Fuito)
    (cond (eqb opc2 0b1100) (cond top Ftouiz Ftoui)
    (cond (eqb opc2 0b1101) (cond top Ftosiz Ftosi) Undefined)))))))

-- the arithmetic, by bits 23, 21, 20 and 6 as a number; 15 is the extension group
unfoldable pub arithmetics : List Operation
arithmetics = Fmac ∷ Fnmac ∷ Fmsc ∷ Fnmsc ∷ Fmul ∷ Fnmul ∷ Fadd ∷ Fsub ∷ Fdiv ∷ []

-- of bits 23, 21, 20 and 6 as a number, bits 19:16 and bit 7
unfoldable pub operation_by : ℕ → ℕ → Bool → Operation
unfolding extension_by arithmetics
operation_by k opc2 top = cond (eqb k 15) (extension_by opc2 top) (get_or arithmetics k Undefined)

unfoldable pub operation_of : ℕ → Operation
unfolding operation_by
operation_of w = operation_by (kind_of w) (field w 16 19) (bit_of w 7)

-- the number of an operation
abbrev pub number_of : Operation → ℕ
number_of Undefined = 0
number_of Fmac = 1
number_of Fnmac = 2
number_of Fmsc = 3
number_of Fnmsc = 4
number_of Fmul = 5
number_of Fnmul = 6
number_of Fadd = 7
number_of Fsub = 8
number_of Fdiv = 9
number_of Fcpy = 10
number_of Fabs = 11
number_of Fneg = 12
number_of Fsqrt = 13
number_of Fcmp = 14
number_of Fcmpe = 15
number_of Fcmpz = 16
number_of Fcmpez = 17
number_of Fcvt = 18
number_of Fuito = 19
number_of Fsito = 20
number_of Ftoui = 21
number_of Ftouiz = 22
number_of Ftosi = 23
number_of Ftosiz = 24

-- the operation of a number
abbrev pub operations : List Operation
operations =
    Undefined ∷ Fmac ∷ Fnmac ∷ Fmsc ∷ Fnmsc ∷ Fmul ∷ Fnmul ∷ Fadd ∷ Fsub ∷ Fdiv ∷ Fcpy ∷ Fabs ∷ Fneg ∷ Fsqrt ∷ Fcmp ∷ Fcmpe ∷ Fcmpz ∷ Fcmpez ∷ Fcvt ∷ Fuito ∷ Fsito ∷ Ftoui ∷ Ftouiz ∷ Ftosi ∷ Ftosiz ∷ []

unfoldable pub operation_numbered : ℕ → Operation
operation_numbered n = get_or operations n Undefined

-- the arithmetic of operations 1 to 9; Divide stands for every other
abbrev pub arithmetic_of : Operation → Arithmetic
arithmetic_of o =
    get_or (Divide ∷ MultiplyAccumulate ∷ MultiplySubtract ∷ NegateMultiplySubtract ∷ NegateMultiplyAccumulate ∷ Multiply ∷ NegateMultiply ∷ Add ∷ Subtract ∷ []) (number_of o) Divide
