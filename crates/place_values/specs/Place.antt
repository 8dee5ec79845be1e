-- The marks and values of places, by their numbers: the words of the state and of the window, the word of marks, and the window's own marks. Past
-- their ends all is known and 0.
use Rattle.std.specs.Prelude.{ℕ, zero, suc, ◌-◌, ◌/◌, ◌^◌, Bool, true, false, cond, not, List, eqb, ltb, length, get_or}
use Rattle.std.specs.Bool.{beq}
use Rattle.bits.specs.Field.{bit_of}
use Rattle.machine.specs.Place.{before, number, flags, nzcv}

-- the mark of a word of the window
unfoldable pub marked_at : List ℕ → ℕ → Bool
marked_at marks i = cond (ltb i (length marks)) (eqb (get_or marks i 0) 1) true

unfoldable pub word_at : List ℕ → ℕ → ℕ
word_at words i = get_or words i 0

-- whether a place is known
unfoldable pub known_at : ℕ → List ℕ → ℕ → Bool
known_at marks window_marks p = cond (ltb p before) (bit_of marks p) (marked_at window_marks (p - before))

-- the bits that a place holds: those of FPSCR 31:28 and of NZCV stand in bits 31:28 of the state's word
unfoldable pub value_at : List ℕ → List ℕ → ℕ → ℕ
value_at state window p =
    cond (eqb p (number flags)) (word_at state p / 2 ^ 28)
    (cond (eqb p (number nzcv)) (word_at state p / 2 ^ 28)
    (cond (ltb p before) (word_at state p) (word_at window (p - before))))

-- whether a place's mark or its known value is another
unfoldable pub differs_of : Bool → ℕ → Bool → ℕ → Bool
differs_of was old is new = cond (beq was is) (cond is (not (eqb old new)) false) true

-- the first of n numbers from k on that passes a test, or the one after them
unfoldable pub first_from : (ℕ → Bool) → ℕ → ℕ → ℕ
first_from f zero k = k
first_from f (suc n) k = cond (f k) k (first_from f n (suc k))

-- the first place that is unknown, from a place on and below an end
unfoldable pub next_unknown : ℕ → List ℕ → ℕ → ℕ → ℕ
next_unknown marks window_marks from end = first_from (λ p. not (known_at marks window_marks p)) (end - from) from

-- whether a place changed: what it was stands first
unfoldable pub changed_at : List ℕ → ℕ → List ℕ → List ℕ → List ℕ → ℕ → List ℕ → List ℕ → ℕ → Bool
changed_at state marks window window_marks s m w v p =
    differs_of (known_at marks window_marks p) (value_at state window p) (known_at m v p) (value_at s w p)

-- the first place that changed, from a place on and below an end
unfoldable pub next_change : List ℕ → ℕ → List ℕ → List ℕ → List ℕ → ℕ → List ℕ → List ℕ → ℕ → ℕ → ℕ
next_change state marks window window_marks s m w v from end = first_from (changed_at state marks window window_marks s m w v) (end - from) from
