-- A text of limited length.
use Rattle.std.specs.Prelude.{ℕ, List, take, length, replicate, ◌++◌, ◌-◌, ◌≤◌, ◌≡◌}
use Rattle.text.specs.declared.text.Text.TheInside.{Inside}

-- the bytes of a text
abbrev pub text_of : Inside → List ℕ
text_of t = take t.count t.bytes

-- the text of some bytes: zeros stand behind them
abbrev pub of_bytes : List ℕ → Inside
of_bytes l = record { bytes = l ++ replicate (128 - length l) 0; count = length l }

-- it has room for 128 bytes, and its bytes give the fields back
abbrev pub IsText : Inside → Type 0
IsText t = (t.count ≤ 128) × (of_bytes (text_of t) ≡ t)

-- what there is room for
unfoldable pub clip : List ℕ → List ℕ
clip l = take 128 l
