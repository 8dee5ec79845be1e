-- What a line says, by its words.
use Rattle.std.specs.Prelude.{ℕ, ◌+◌, ◌-◌, Bool, true, false, cond, List, [], ◌∷◌, eqb, length, take, drop}
use Rattle.machine.specs.Place.{control, exceptions, number, place}
use Rattle.listing.specs.Item.{Item, Nothing, Word, Set, Unknown, Window, Mistake}
use Rattle.listing.specs.declared.line.Expected.TheVariants as expected
use Rattle.listing.specs.Next.{Next}
use Rattle.listing.specs.Next as next
use Rattle.numerals.specs.Number.{Number, Value, Wrong, hex_of, decimal_of, value_of}
use Rattle.place_names.specs.Place.{place_of, same, own_bits}
use Rattle.tokens.specs.Token.{leading_of}

-- where a line's first word starts and ends, the word, and what follows it
abbrev pub start_of : List ℕ → ℕ
start_of l = leading_of true l

abbrev pub end_of : List ℕ → ℕ
end_of l = start_of l + leading_of false (drop (start_of l) l)

abbrev pub first_of : List ℕ → List ℕ
first_of l = take (end_of l - start_of l) (drop (start_of l) l)

abbrev pub rest_of : List ℕ → List ℕ
rest_of l = drop (end_of l) l

-- whether there is no word
abbrev pub blank : List ℕ → Bool
blank l = eqb (start_of l) (end_of l)

-- what comes of a number, if there is one
abbrev pub given : {A : Type 0} → Number → (ℕ → A) → A → A
given (Value x) f z = f x
given Wrong f z = z

-- an item that nothing may follow
unfoldable pub ended_of : List ℕ → Item → Item
ended_of l i = cond (blank l) i (Mistake expected.End)

-- what is told of a value with a bit outside its place's own
unfoldable pub misfit : ℕ → Item
misfit p =
    cond (eqb p (number control)) (Mistake expected.Control)
    (cond (eqb p (number exceptions)) (Mistake expected.Exceptions) (Mistake expected.Flags))

-- PLACE VALUE, after set
abbrev pub set_value : ℕ → List ℕ → ℕ → Item
set_value p l v = cond (eqb (own_bits (place p) v) v) (ended_of l (Set p v)) (misfit p)

unfoldable pub set_to : ℕ → List ℕ → Item
set_to p l = given (value_of (first_of l)) (set_value p (rest_of l)) (Mistake expected.Value)

unfoldable pub set_of : List ℕ → Item
set_of l = given (place_of (first_of l)) (λ p. set_to p (rest_of l)) (Mistake expected.Place)

-- BASE COUNT, after window
unfoldable pub window_from : ℕ → List ℕ → Item
window_from b l = given (decimal_of (first_of l)) (λ n. ended_of (rest_of l) (Window b n)) (Mistake expected.Count)

unfoldable pub window_of : List ℕ → Item
window_of l = given (value_of (first_of l)) (λ b. window_from b (rest_of l)) (Mistake expected.Base)

-- PLACE.., after unknown and the first n bytes of the line
unfoldable pub unknown_of : ℕ → List ℕ → Item
unknown_of n l = cond (blank l) (Mistake expected.Place) (Unknown n)

-- eight hexadecimal digits
unfoldable pub word_of : List ℕ → Item
word_of l =
    cond (eqb (length (first_of l)) 8) (given (hex_of (first_of l)) (λ x. ended_of (rest_of l) (Word x)) (Mistake expected.Item)) (Mistake expected.Item)

-- set, window, unknown
abbrev pub set_text : List ℕ
set_text = 115 ∷ 101 ∷ 116 ∷ []

abbrev pub window_text : List ℕ
window_text = 119 ∷ 105 ∷ 110 ∷ 100 ∷ 111 ∷ 119 ∷ []

abbrev pub unknown_text : List ℕ
unknown_text = 117 ∷ 110 ∷ 107 ∷ 110 ∷ 111 ∷ 119 ∷ 110 ∷ []

unfoldable pub item_of : List ℕ → Item
item_of l =
    cond (blank l) Nothing
    (cond (same (first_of l) set_text) (set_of (rest_of l))
    (cond (same (first_of l) window_text) (window_of (rest_of l))
    (cond (same (first_of l) unknown_text) (unknown_of (end_of l) (rest_of l)) (word_of l))))

-- the first place of a list of places, after n bytes of the line, with the bytes up to its end
unfoldable pub next_place : ℕ → List ℕ → Next
next_place n l = cond (blank l) next.End (given (place_of (first_of l)) (λ p. next.Place p (n + end_of l)) next.Mistake)
