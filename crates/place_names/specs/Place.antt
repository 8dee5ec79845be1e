-- A place's name as text, and the place that a text names.
use Rattle.std.specs.Prelude.{ℕ, ◌+◌, ◌%◌, ◌^◌, Bool, true, false, cond, ◌&&◌, List, [], ◌∷◌, eqb, ltb}
use Rattle.machine.specs.Place as Machine
use Rattle.numerals.specs.Number.{Number}
use Rattle.numerals.specs.Number.{Value, Wrong}
use Rattle.numerals.specs.Number.{decimal_of, decimal_text}

-- flags, control, fpexc, nzcv, exceptions
abbrev pub flags_text : List ℕ
flags_text = 102 ∷ 108 ∷ 97 ∷ 103 ∷ 115 ∷ []

abbrev pub control_text : List ℕ
control_text = 99 ∷ 111 ∷ 110 ∷ 116 ∷ 114 ∷ 111 ∷ 108 ∷ []

abbrev pub fpexc_text : List ℕ
fpexc_text = 102 ∷ 112 ∷ 101 ∷ 120 ∷ 99 ∷ []

abbrev pub nzcv_text : List ℕ
nzcv_text = 110 ∷ 122 ∷ 99 ∷ 118 ∷ []

abbrev pub exceptions_text : List ℕ
exceptions_text = 101 ∷ 120 ∷ 99 ∷ 101 ∷ 112 ∷ 116 ∷ 105 ∷ 111 ∷ 110 ∷ 115 ∷ []

-- s0.., r0.., w0.. and the five
unfoldable pub name_of : Machine.Place → List ℕ
name_of (Machine.single n) = 115 ∷ decimal_text n
name_of (Machine.core n) = 114 ∷ decimal_text n
name_of (Machine.word n) = 119 ∷ decimal_text n
name_of Machine.flags = flags_text
name_of Machine.control = control_text
name_of Machine.exc = fpexc_text
name_of Machine.nzcv = nzcv_text
name_of Machine.exceptions = exceptions_text

-- the name of the place of a number
unfoldable pub place_text : ℕ → List ℕ
unfolding name_of
place_text n = name_of (Machine.place n)

-- whether two texts are the same
unfoldable pub same : List ℕ → List ℕ → Bool
same [] [] = true
same [] (y ∷ ys) = false
same (x ∷ xs) [] = false
same (x ∷ xs) (y ∷ ys) = eqb x y && same xs ys

-- a number below a count, from the first place of its kind on
abbrev pub within : Number → ℕ → ℕ → Number
within (Value k) from count = cond (ltb k count) (Value (from + k)) Wrong
within Wrong from count = Wrong

-- s, r or w with a number after it, or a place's own number
unfoldable pub letter_of : List ℕ → Number
letter_of [] = Wrong
letter_of (b ∷ t) =
    cond (eqb b 115) (within (decimal_of t) 0 (Machine.number (Machine.core 0)))
    (cond (eqb b 114) (within (decimal_of t) (Machine.number (Machine.core 0)) 16)
    (cond (eqb b 119) (within (decimal_of t) Machine.before 16384) (within (decimal_of (b ∷ t)) 0 (Machine.before + 16384))))

-- the number of the place that a text names: its name or its number in decimal
unfoldable pub place_of : List ℕ → Number
unfolding same letter_of
place_of t =
    cond (same t flags_text) (Value (Machine.number Machine.flags))
    (cond (same t control_text) (Value (Machine.number Machine.control))
    (cond (same t fpexc_text) (Value (Machine.number Machine.exc))
    (cond (same t nzcv_text) (Value (Machine.number Machine.nzcv))
    (cond (same t exceptions_text) (Value (Machine.number Machine.exceptions)) (letter_of t)))))

-- a value's bits that are a place's own
abbrev pub own_bits : Machine.Place → ℕ → ℕ
own_bits (Machine.single n) x = x % 2 ^ 32
own_bits (Machine.core n) x = x % 2 ^ 32
own_bits (Machine.word n) x = x % 2 ^ 32
own_bits Machine.flags x = x % 2 ^ 4
own_bits Machine.control x = Machine.control_of x
own_bits Machine.exc x = x % 2 ^ 32
own_bits Machine.nzcv x = x % 2 ^ 4
own_bits Machine.exceptions x = Machine.exceptions_of x
