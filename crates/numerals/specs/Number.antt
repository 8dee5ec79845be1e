-- Numbers as text, in bytes of ASCII.
use Rattle.std.specs.Prelude.{ℕ, zero, suc, ◌+◌, ◌-◌, ◌*◌, ◌/◌, ◌%◌, ◌^◌, cond, List, [], ◌∷◌, ◌++◌, eqb, leb, ltb, length, Option}
pub use Rattle.std.specs.Prelude.{Some as Value, None as Wrong}

-- the number that a text is, below 2 ^ 32, or none: Value is Some, and Wrong is None
abbrev pub Number : Type 0
Number = Option ℕ

-- what a byte is worth as a digit: 0 to 9, A to F, a to f, and 16 for all others
unfoldable pub digit_of : ℕ → ℕ
digit_of b =
    cond (ltb b 48) 16
    (cond (ltb b 58) (b - 48)
    (cond (ltb b 65) 16
    (cond (ltb b 71) (b - 55)
    (cond (ltb b 97) 16
    (cond (ltb b 103) (b - 87) 16)))))

-- the number whose digits so far are worth v and whose other digits follow, the highest first: none where a byte is no digit of
-- the base, or from 2 ^ 32 on
unfoldable pub read_from : ℕ → List ℕ → ℕ → Number
unfolding digit_of
read_from base [] v = Value v
read_from base (b ∷ bs) v =
    let w = v * base + digit_of b in
    cond (ltb (digit_of b) base) (cond (ltb w (2 ^ 32)) (read_from base bs w) Wrong) Wrong

-- a hexadecimal number of 1 to 8 digits
unfoldable pub hex_of : List ℕ → Number
unfolding read_from
hex_of t = cond (leb 1 (length t)) (cond (leb (length t) 8) (read_from 16 t 0) Wrong) Wrong

-- a decimal number
unfoldable pub decimal_of : List ℕ → Number
unfolding read_from
decimal_of t = cond (leb 1 (length t)) (read_from 10 t 0) Wrong

-- a hexadecimal number, which may stand after 0x
unfoldable pub value_of : List ℕ → Number
unfolding hex_of
value_of [] = hex_of []
value_of (a ∷ []) = hex_of (a ∷ [])
value_of (a ∷ b ∷ t) = cond (eqb a 48) (cond (eqb b 120) (hex_of t) (hex_of (a ∷ b ∷ t))) (hex_of (a ∷ b ∷ t))

-- the digit that is worth d, below 16, in upper case
unfoldable pub digit_text : ℕ → ℕ
digit_text d = cond (ltb d 10) (48 + d) (55 + d)

-- the last n digits of x in a base, the highest first
unfoldable pub digits_text : ℕ → ℕ → ℕ → List ℕ
unfolding digit_text
digits_text base zero x = []
digits_text base (suc n) x = digits_text base n (x / base) ++ (digit_text (x % base) ∷ [])

-- without the zeros that stand in front, at most n of them
unfoldable pub stripped : ℕ → List ℕ → List ℕ
stripped zero t = t
stripped (suc n) [] = []
stripped (suc n) (b ∷ t) = cond (eqb b 48) (stripped n t) (b ∷ t)

-- the eight digits of a word
unfoldable pub hex_text : ℕ → List ℕ
unfolding digits_text
hex_text x = digits_text 16 8 x

-- a number below 2 ^ 32 in decimal: ten digits without the zeros in front
unfoldable pub decimal_text : ℕ → List ℕ
unfolding digits_text stripped
decimal_text x = stripped 9 (digits_text 10 10 x)
