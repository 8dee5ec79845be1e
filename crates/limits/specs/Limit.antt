-- When a call or a run is turned back: document 01's refusals, of those asked for the first that applies, or 0.
use Rattle.std.specs.Prelude.{ℕ, ◌+◌, ◌*◌, ◌%◌, ◌^◌, Bool, cond, List, eqb, ltb, length}
use Rattle.window_marks.specs.Marks.{bits_only}

-- the most words that a list has, and a window
abbrev pub most_list : ℕ
most_list = 4096

abbrev pub most_words : ℕ
most_words = 16384

-- 2, 3, 4, of a window of so many words from a base on
unfoldable pub window_limit : ℕ → ℕ → ℕ
window_limit base words =
    cond (ltb most_words words) 2
    (cond (eqb (base % 4) 0) (cond (ltb (2 ^ 32) (base + 4 * words)) 4 0) 3)

-- 1 to 5, of a list and a window of so many words, from a base on, and the Thumb bit
unfoldable pub run_limit : ℕ → ℕ → ℕ → Bool → ℕ
run_limit list base words thumb =
    let window = window_limit base words in
    cond (ltb most_list list) 1 (cond (eqb window 0) (cond thumb 5 0) window)

-- 1 to 7, with the window marks
unfoldable pub watch_limit : ℕ → ℕ → ℕ → Bool → List ℕ → ℕ
watch_limit list base words thumb marks =
    let n = run_limit list base words thumb in
    cond (eqb n 0) (cond (eqb (length marks) words) (cond (bits_only marks) 0 7) 6) n
