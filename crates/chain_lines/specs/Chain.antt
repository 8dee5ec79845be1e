-- The chain of a place, in bytes of ASCII.
use Rattle.std.specs.Prelude.{ℕ, zero, suc, ◌+◌, ◌*◌, ◌%◌, ◌≡◌, cond, List, [], ◌∷◌, ◌++◌, eqb, length, get_or}
use Rattle.place_names.specs.Place.{place_text}
use Rattle.mnemonics.specs.Ascii.{ascii}
use Rattle.report.specs.Line.{count_text}
use Rattle.chain_lines.specs.Name.{operation_name}

-- the place that was unknown at the start
unfoldable pub first_text : ℕ → List ℕ
first_text p = place_text p ++ ascii " unknown at power-up"

-- a link: the word of index i, the first being word 1, makes place p unknown
unfoldable pub link_text : List ℕ → ℕ → ℕ → List ℕ
link_text words i p =
    ascii "word " ++ (count_text (i + 1) ++ (ascii " " ++ (operation_name (get_or words i 0) ++ (ascii ": " ++ place_text p))))

-- LF
abbrev pub end_text : List ℕ
end_text = 10 ∷ []

-- between two items, the first n standing before it: four stand on a line, and the next is indented
unfoldable pub separator_text : ℕ → List ℕ
separator_text n = cond (eqb (n % 4) 0) (ascii ";" ++ (end_text ++ ascii "  ")) (ascii "; ")

-- the links after the first n items; of each pair the index stands before the place
unfoldable pub links_text : ℕ → List ℕ → List ℕ → List ℕ
links_text n words [] = end_text
links_text n words (i ∷ []) = end_text
links_text n words (i ∷ p ∷ pairs) = separator_text n ++ (link_text words i p ++ links_text (n + 1) words pairs)

-- the chain from its first place by the pairs, over the words of a list
unfoldable pub chain_text : ℕ → List ℕ → List ℕ → List ℕ
chain_text first pairs words = first_text first ++ links_text 1 words pairs

-- ---- as it is printed, item by item

-- the item of pair k, with what stands before it
unfoldable pub later_text : List ℕ → List ℕ → ℕ → List ℕ
later_text words pairs k = separator_text (k + 1) ++ link_text words (get_or pairs (2 * k) 0) (get_or pairs (2 * k + 1) 0)

-- n texts one after the other
unfoldable pub joined : ℕ → (ℕ → List ℕ) → List ℕ
joined zero f = []
joined (suc n) f = f 0 ++ joined n (λ k. f (suc k))

-- the first item, those of n pairs and the end are the chain's text
abbrev pub Printed : Type 0
Printed =
    (n first : ℕ) (pairs words : List ℕ) → length pairs ≡ 2 * n
    → first_text first ++ (joined n (later_text words pairs) ++ end_text) ≡ chain_text first pairs words
