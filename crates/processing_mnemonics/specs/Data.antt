-- Data processing: the operation's name, its precision, its registers.
use Rattle.std.specs.Prelude.{ℕ, List, ◌++◌}
use Rattle.std.specs.Float.{Format, binary32, binary64}
use Rattle.register_fields.specs.Fields.{reg_d, reg_n, reg_m}
use Rattle.decoding.specs.declared.operation.Operation.{Operation}
use Rattle.decoding.specs.declared.operation.Operation.TheVariants.{Undefined, Fmac, Fnmac, Fmsc, Fnmsc, Fmul, Fnmul, Fadd, Fsub, Fdiv, Fcpy, Fabs, Fneg, Fsqrt, Fcmp, Fcmpe, Fcmpz, Fcmpez, Fcvt, Fuito, Fsito, Ftoui, Ftouiz, Ftosi, Ftosiz}
use Rattle.mnemonics.specs.Ascii.{ascii}
use Rattle.mnemonics.specs.Parts.{named_text, precise_text, reg_text, comma}

-- a name with d, with d and m, with d, n and m
unfoldable pub one_text : Format → ℕ → List ℕ → List ℕ
one_text f w name = precise_text f w name ++ reg_text f (reg_d f w)

unfoldable pub two_text : Format → ℕ → List ℕ → List ℕ
two_text f w name = one_text f w name ++ (comma ++ reg_text f (reg_m f w))

unfoldable pub three_text : Format → ℕ → List ℕ → List ℕ
three_text f w name = one_text f w name ++ (comma ++ (reg_text f (reg_n f w) ++ (comma ++ reg_text f (reg_m f w))))

-- an integer stands in a single
unfoldable pub from_integer_text : Format → ℕ → List ℕ → List ℕ
from_integer_text f w name = one_text f w name ++ (comma ++ reg_text binary32 (reg_m binary32 w))

unfoldable pub to_integer_text : Format → ℕ → List ℕ → List ℕ
to_integer_text f w name = precise_text f w name ++ (reg_text binary32 (reg_d binary32 w) ++ (comma ++ reg_text f (reg_m f w)))

-- coprocessor 10 widens and 11 narrows
unfoldable pub between_text : Format → ℕ → List ℕ
between_text binary32 w = named_text w (ascii "FCVTDS") ++ (reg_text binary64 (reg_d binary64 w) ++ (comma ++ reg_text binary32 (reg_m binary32 w)))
between_text binary64 w = named_text w (ascii "FCVTSD") ++ (reg_text binary32 (reg_d binary32 w) ++ (comma ++ reg_text binary64 (reg_m binary64 w)))

unfoldable pub data_text : Format → ℕ → Operation → List ℕ
data_text f w Undefined = ascii "Undefined"
data_text f w Fmac = three_text f w (ascii "FMAC")
data_text f w Fnmac = three_text f w (ascii "FNMAC")
data_text f w Fmsc = three_text f w (ascii "FMSC")
data_text f w Fnmsc = three_text f w (ascii "FNMSC")
data_text f w Fmul = three_text f w (ascii "FMUL")
data_text f w Fnmul = three_text f w (ascii "FNMUL")
data_text f w Fadd = three_text f w (ascii "FADD")
data_text f w Fsub = three_text f w (ascii "FSUB")
data_text f w Fdiv = three_text f w (ascii "FDIV")
data_text f w Fcpy = two_text f w (ascii "FCPY")
data_text f w Fabs = two_text f w (ascii "FABS")
data_text f w Fneg = two_text f w (ascii "FNEG")
data_text f w Fsqrt = two_text f w (ascii "FSQRT")
data_text f w Fcmp = two_text f w (ascii "FCMP")
data_text f w Fcmpe = two_text f w (ascii "FCMPE")
data_text f w Fcmpz = one_text f w (ascii "FCMPZ")
data_text f w Fcmpez = one_text f w (ascii "FCMPEZ")
data_text f w Fcvt = between_text f w
data_text f w Fuito = from_integer_text f w (ascii "FUITO")
data_text f w Fsito = from_integer_text f w (ascii "FSITO")
data_text f w Ftoui = to_integer_text f w (ascii "FTOUI")
data_text f w Ftouiz = to_integer_text f w (ascii "FTOUIZ")
data_text f w Ftosi = to_integer_text f w (ascii "FTOSI")
data_text f w Ftosiz = to_integer_text f w (ascii "FTOSIZ")
