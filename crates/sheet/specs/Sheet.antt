-- The register sheet (2026-02) of a machine and the map of its places: a line for each double, d0 first and d15 last.
use Rattle.std.specs.Prelude.{ℕ, zero, suc, cond, List, [], ◌++◌, ltb, length, drop, get_or}
use Rattle.machine.specs.declared.Machine.{Machine}
use Rattle.registers.specs.Registers.{low_index, high_index}
use Rattle.machine.specs.Place.{low_word, high_word}
use Rattle.meaning.specs.Map.{Map, known}
use Rattle.sheet.specs.Line.{Line, line, line_text}

-- what is told of double n, of the words of s0 to s31 and the map
abbrev pub line_of : List ℕ → Map → ℕ → Line
line_of s μ n = line n (get_or s (high_index n) 0) (get_or s (low_index n) 0) (known μ (high_word n)) (known μ (low_word n))

-- the first n of lines
unfoldable pub lines_text : ℕ → (ℕ → Line) → List ℕ
lines_text zero each = []
lines_text (suc n) each = lines_text n each ++ line_text (each n)

unfoldable pub sheet_text : Machine → Map → List ℕ
unfolding lines_text
sheet_text m μ = lines_text 16 (line_of m.s μ)

-- the bytes of a sheet: 16 lines of 41
abbrev pub sheet_bytes : ℕ
sheet_bytes = 656

-- a refusal, or 0, and the page
pub record Reply : Type 0 where
  pub refusal : ℕ
  pub page : List ℕ

abbrev pub reply : ℕ → List ℕ → Reply
reply n page = record { refusal = n; page = page }

-- 8, the page is shorter than a sheet: it is untouched. Else the sheet stands at its start, and what is past it stays.
unfoldable pub laid_out : Machine → Map → List ℕ → Reply
unfolding sheet_text
laid_out m μ page = cond (ltb (length page) sheet_bytes) (reply 8 page) (reply 0 (sheet_text m μ ++ drop sheet_bytes page))
