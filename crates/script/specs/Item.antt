-- What an item does to what the lines before it left.
use Rattle.std.specs.Prelude.{ℕ, ◌+◌, ◌-◌, Bool, true, false, cond, List, [], ◌∷◌, eqb, ltb, drop, set}
use Rattle.machine.specs.Place.{before, place}
use Rattle.limits.specs.Limit.{most_list, most_words, window_limit}
use Rattle.layout.specs.State.{in_position}
use Rattle.meaning.specs.Map.{Map, mark}
use Rattle.listing.specs.Item as item
use Rattle.listing.specs.declared.line.Expected.TheVariants as expected
use Rattle.listing.specs.Line.{given, item_of}
use Rattle.place_names.specs.Place.{place_of, own_bits}
use Rattle.tokens.specs.Token.{words_of}
use Rattle.script.specs.Layout.{Layout}
use Rattle.script.specs.Step.{Step, On, Wrong}
use Rattle.script.specs.declared.mistake.Mistake.TheVariants.{Item, Beyond, Words, Again, Refused}

-- the words of the state and of the window, the map that their marks hold, and the list
pub record Buffers : Type 0 where
  pub state : List ℕ
  pub map : Map
  pub window : List ℕ
  pub list : List ℕ

abbrev pub buffers : List ℕ → Map → List ℕ → List ℕ → Buffers
buffers s μ w l = record { state = s; map = μ; window = w; list = l }

-- what a line comes to: the layout after it or a mistake, and the buffers
pub record Outcome : Type 0 where
  pub step : Step
  pub buffers : Buffers

abbrev pub outcome : Step → Buffers → Outcome
outcome s b = record { step = s; buffers = b }

-- whether there is a place of a number, where the window has so many words
unfoldable pub is_place : ℕ → ℕ → Bool
is_place words p = cond (ltb p before) true (ltb (p - before) words)

-- a store to the window's words, for which there is room for the most words
unfoldable pub store : List ℕ → ℕ → ℕ → List ℕ
store l i x = cond (ltb i most_words) (set l i x) l

-- a value in a place: the state's word has the place's bits in position
unfoldable pub put_at : ℕ → ℕ → Buffers → Buffers
put_at p x b =
    cond (ltb p before)
    (buffers (set b.state p (in_position (place p) (own_bits (place p) x))) b.map b.window b.list)
    (buffers b.state b.map (store b.window (p - before) x) b.list)

-- a place that is unknown
unfoldable pub unknown_at : ℕ → Buffers → Buffers
unknown_at p b = buffers b.state (mark b.map (place p) false) b.window b.list

-- a word of the list
unfoldable pub word_outcome : ℕ → Layout → Buffers → Outcome
word_outcome x y b =
    cond (ltb y.count most_list)
    (outcome (On (record { base = y.base; words = y.words; given = y.given; count = y.count + 1 }))
    (buffers b.state b.map b.window (set b.list y.count x)))
    (outcome (Wrong Words) b)

-- a place's value
unfoldable pub set_outcome : ℕ → ℕ → Layout → Buffers → Outcome
set_outcome p x y b = cond (is_place y.words p) (outcome (On y) (put_at p x b)) (outcome (Wrong (Beyond y.words)) b)

-- places that are unknown, one after the other
unfoldable pub unknown_outcome : List (List ℕ) → Layout → Buffers → Outcome
unknown_outcome [] y b = outcome (On y) b
unknown_outcome (t ∷ ts) y b =
    given (place_of t)
    (λ p. cond (is_place y.words p) (unknown_outcome ts y (unknown_at p b)) (outcome (Wrong (Beyond y.words)) b))
    (outcome (Wrong (Item expected.Place)) b)

-- the window, once, within the limits of a run
unfoldable pub window_step : ℕ → ℕ → Layout → Step
window_step base words y =
    cond y.given (Wrong Again)
    (cond (eqb (window_limit base words) 0) (On (record { base = base; words = words; given = true; count = y.count }))
    (Wrong (Refused (window_limit base words))))

-- an item of a line
unfoldable pub item_outcome : item.Item → List ℕ → Layout → Buffers → Outcome
item_outcome item.Nothing l y b = outcome (On y) b
item_outcome (item.Word x) l y b = word_outcome x y b
item_outcome (item.Set p x) l y b = set_outcome p x y b
item_outcome (item.Unknown n) l y b = unknown_outcome (words_of (drop n l)) y b
item_outcome (item.Window base n) l y b = outcome (window_step base n y) b
item_outcome (item.Mistake e) l y b = outcome (Wrong (Item e)) b

unfoldable pub line_outcome : List ℕ → Layout → Buffers → Outcome
line_outcome l y b = item_outcome (item_of l) l y b
