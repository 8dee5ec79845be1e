-- Exactness of the mark rules, through the definition: for each operation in both widths, and for transfers, pairs, loads and stores over a window of
-- four words from 0 on, document 01's rule, and 2026-07's of place 52, gives sources for targets. With just the sources known and what the word asks
-- for, and with any one source unknown, the map that the word leaves is the rule's, and no other mark changes.
use Prim.Native.Nat.{ℕ}
use mathlib.Core.Path.{◌≡◌, refl}
use mathlib.Core.Bool.{Bool, true, false, cond}
use mathlib.Core.List.{List, [], ◌∷◌, ◌++◌, map}
use lib.ListN.{replicate}
use Rattle.machine.specs.Machine.{new_machine}
use Rattle.machine.specs.Place.{place, state}
use Rattle.machine.specs.Window.{word_at}
use Rattle.meaning.specs.Map.{Map, map_of, known, mark}
use Rattle.meaning.specs.Step.{after, after_marks}
use Rattle.meaning.specs.Tree.{watched}
use Rattle.processing.specs.Data.{operation_tree, data_tree}
use Rattle.decoding.specs.Operation.{extension_by, arithmetics, operation_by, operation_of}
use Rattle.short_vectors.specs.Vector.{step_of, second_of}
use Rattle.memory.specs.LoadStore.{access_tree, load_store_tree}
use Rattle.word_class.specs.Word.{class_tree, exempt, enabled, conditioned, meaning}
use Rattle.transfers.specs.Transfer.{transfer_tree}

-- places by number: the targets are known just when all the sources are
pub record Rule : Type 0 where
  pub sources : List ℕ
  pub targets : List ℕ

abbrev pub from : List ℕ → List ℕ → Rule
from s t = record { sources = s; targets = t }

-- the cumulative exception bits are known after a number operation just when they were and all that is read for them is; after a move they stay as they were
abbrev pub raises : List ℕ → Rule
raises s = from (52 ∷ s) (52 ∷ [])

-- a number operation that needs the same places for both
abbrev pub computes : List ℕ → List ℕ → List Rule
computes s t = from s t ∷ raises s ∷ []

-- a word, the places that it asks for, and its rules
pub record Row : Type 0 where
  pub word : ℕ
  pub asks : List ℕ
  pub rules : List Rule

abbrev pub row : ℕ → List ℕ → List Rule → Row
row w a r = record { word = w; asks = a; rules = r }

-- ---- the rules on maps

pub nothing_known : Map
nothing_known = map_of (record { s = replicate 32 false; r = replicate 16 false; flags = false; control = false; exc = false; nzcv = false; exceptions = false }) (0 ∷ 0 ∷ 0 ∷ 0 ∷ [])

pub marks : List ℕ → Bool → Map → Map
marks [] b μ = μ
marks (p ∷ ps) b μ = marks ps b (mark μ (place p) b)

pub all : Map → List ℕ → Bool
all μ [] = true
all μ (p ∷ ps) = cond (known μ (place p)) (all μ ps) false

-- all sources are read before any target is marked
pub ruled : Map → List Rule → Map → Map
ruled ν [] μ = μ
ruled ν (r ∷ rs) μ = ruled ν rs (marks r.targets (all ν r.sources) μ)

-- ---- the maps that are tried: with all sources known, and with each one in turn unknown

pub sources_of : List Rule → List ℕ
sources_of [] = []
sources_of (r ∷ rs) = r.sources ++ sources_of rs

pub tried : Row → List Map
tried x =
    let μ = marks (x.asks ++ sources_of x.rules) true nothing_known in
    μ ∷ map (λ p. marks (p ∷ []) false μ) (sources_of x.rules)

-- what the word leaves, and what the rules say
pub left : Row → List Map
left x = map (λ μ. (watched (meaning 0 x.word) (state new_machine (0 ∷ 0 ∷ 0 ∷ 0 ∷ [])) μ).map) (tried x)

pub should : Row → List Map
should x = map (λ μ. ruled μ x.rules μ) (tried x)

pub rows : List Row
rows =
    row 0xEE021AA3 (50 ∷ 49 ∷ []) (computes (5 ∷ 7 ∷ 2 ∷ []) (2 ∷ []))
    ∷ row 0xEE021AE3 (50 ∷ 49 ∷ []) (computes (5 ∷ 7 ∷ 2 ∷ []) (2 ∷ []))
    ∷ row 0xEE121AA3 (50 ∷ 49 ∷ []) (computes (5 ∷ 7 ∷ 2 ∷ []) (2 ∷ []))
    ∷ row 0xEE121AE3 (50 ∷ 49 ∷ []) (computes (5 ∷ 7 ∷ 2 ∷ []) (2 ∷ []))
    ∷ row 0xEE221AA3 (50 ∷ 49 ∷ []) (computes (5 ∷ 7 ∷ []) (2 ∷ []))
    ∷ row 0xEE221AE3 (50 ∷ 49 ∷ []) (computes (5 ∷ 7 ∷ []) (2 ∷ []))
    ∷ row 0xEE321AA3 (50 ∷ 49 ∷ []) (computes (5 ∷ 7 ∷ []) (2 ∷ []))
    ∷ row 0xEE321AE3 (50 ∷ 49 ∷ []) (computes (5 ∷ 7 ∷ []) (2 ∷ []))
    ∷ row 0xEE821AA3 (50 ∷ 49 ∷ []) (computes (5 ∷ 7 ∷ []) (2 ∷ []))
    ∷ row 0xEEB01A63 (50 ∷ 49 ∷ []) (from (7 ∷ []) (2 ∷ []) ∷ raises [] ∷ [])
    ∷ row 0xEEB01AE3 (50 ∷ 49 ∷ []) (from (7 ∷ []) (2 ∷ []) ∷ raises [] ∷ [])
    ∷ row 0xEEB11A63 (50 ∷ 49 ∷ []) (from (7 ∷ []) (2 ∷ []) ∷ raises [] ∷ [])
    ∷ row 0xEEB11AE3 (50 ∷ 49 ∷ []) (computes (7 ∷ []) (2 ∷ []))
    ∷ row 0xEEB41A63 (50 ∷ []) (computes (2 ∷ 7 ∷ []) (48 ∷ []))
    ∷ row 0xEEB41AE3 (50 ∷ []) (computes (2 ∷ 7 ∷ []) (48 ∷ []))
    ∷ row 0xEEB51A63 (50 ∷ []) (computes (2 ∷ []) (48 ∷ []))
    ∷ row 0xEEB51AE3 (50 ∷ []) (computes (2 ∷ []) (48 ∷ []))
    ∷ row 0xEEB71AE3 (50 ∷ []) (from (49 ∷ 7 ∷ []) (2 ∷ 3 ∷ []) ∷ raises (7 ∷ []) ∷ [])
    ∷ row 0xEEB81A63 (50 ∷ []) (from (49 ∷ 7 ∷ []) (2 ∷ []) ∷ raises (7 ∷ []) ∷ [])
    ∷ row 0xEEB81AE3 (50 ∷ []) (from (49 ∷ 7 ∷ []) (2 ∷ []) ∷ raises (7 ∷ []) ∷ [])
    ∷ row 0xEEBC1A63 (50 ∷ []) (computes (49 ∷ 7 ∷ []) (2 ∷ []))
    ∷ row 0xEEBC1AE3 (50 ∷ []) (computes (7 ∷ []) (2 ∷ []))
    ∷ row 0xEEBD1A63 (50 ∷ []) (computes (49 ∷ 7 ∷ []) (2 ∷ []))
    ∷ row 0xEEBD1AE3 (50 ∷ []) (computes (7 ∷ []) (2 ∷ []))
    ∷ row 0xEE021B03 (50 ∷ 49 ∷ []) (computes (4 ∷ 5 ∷ 6 ∷ 7 ∷ 2 ∷ 3 ∷ []) (2 ∷ 3 ∷ []))
    ∷ row 0xEE021B43 (50 ∷ 49 ∷ []) (computes (4 ∷ 5 ∷ 6 ∷ 7 ∷ 2 ∷ 3 ∷ []) (2 ∷ 3 ∷ []))
    ∷ row 0xEE121B03 (50 ∷ 49 ∷ []) (computes (4 ∷ 5 ∷ 6 ∷ 7 ∷ 2 ∷ 3 ∷ []) (2 ∷ 3 ∷ []))
    ∷ row 0xEE121B43 (50 ∷ 49 ∷ []) (computes (4 ∷ 5 ∷ 6 ∷ 7 ∷ 2 ∷ 3 ∷ []) (2 ∷ 3 ∷ []))
    ∷ row 0xEE221B03 (50 ∷ 49 ∷ []) (computes (4 ∷ 5 ∷ 6 ∷ 7 ∷ []) (2 ∷ 3 ∷ []))
    ∷ row 0xEE221B43 (50 ∷ 49 ∷ []) (computes (4 ∷ 5 ∷ 6 ∷ 7 ∷ []) (2 ∷ 3 ∷ []))
    ∷ row 0xEE321B03 (50 ∷ 49 ∷ []) (computes (4 ∷ 5 ∷ 6 ∷ 7 ∷ []) (2 ∷ 3 ∷ []))
    ∷ row 0xEE321B43 (50 ∷ 49 ∷ []) (computes (4 ∷ 5 ∷ 6 ∷ 7 ∷ []) (2 ∷ 3 ∷ []))
    ∷ row 0xEE821B03 (50 ∷ 49 ∷ []) (computes (4 ∷ 5 ∷ 6 ∷ 7 ∷ []) (2 ∷ 3 ∷ []))
    ∷ row 0xEEB01B43 (50 ∷ 49 ∷ []) (from (6 ∷ []) (2 ∷ []) ∷ from (7 ∷ []) (3 ∷ []) ∷ raises [] ∷ [])
    ∷ row 0xEEB01BC3 (50 ∷ 49 ∷ []) (from (6 ∷ []) (2 ∷ []) ∷ from (7 ∷ []) (3 ∷ []) ∷ raises [] ∷ [])
    ∷ row 0xEEB11B43 (50 ∷ 49 ∷ []) (from (6 ∷ []) (2 ∷ []) ∷ from (7 ∷ []) (3 ∷ []) ∷ raises [] ∷ [])
    ∷ row 0xEEB11BC3 (50 ∷ 49 ∷ []) (computes (6 ∷ 7 ∷ []) (2 ∷ 3 ∷ []))
    ∷ row 0xEEB41B43 (50 ∷ []) (computes (2 ∷ 3 ∷ 6 ∷ 7 ∷ []) (48 ∷ []))
    ∷ row 0xEEB41BC3 (50 ∷ []) (computes (2 ∷ 3 ∷ 6 ∷ 7 ∷ []) (48 ∷ []))
    ∷ row 0xEEB51B43 (50 ∷ []) (computes (2 ∷ 3 ∷ []) (48 ∷ []))
    ∷ row 0xEEB51BC3 (50 ∷ []) (computes (2 ∷ 3 ∷ []) (48 ∷ []))
    ∷ row 0xEEB71BC3 (50 ∷ []) (computes (49 ∷ 6 ∷ 7 ∷ []) (2 ∷ []))
    ∷ row 0xEEB81B43 (50 ∷ []) (computes (6 ∷ []) (2 ∷ 3 ∷ []))
    ∷ row 0xEEB81BC3 (50 ∷ []) (computes (6 ∷ []) (2 ∷ 3 ∷ []))
    ∷ row 0xEEBC1B43 (50 ∷ []) (computes (49 ∷ 6 ∷ 7 ∷ []) (2 ∷ []))
    ∷ row 0xEEBC1BC3 (50 ∷ []) (computes (6 ∷ 7 ∷ []) (2 ∷ []))
    ∷ row 0xEEBD1B43 (50 ∷ []) (computes (49 ∷ 6 ∷ 7 ∷ []) (2 ∷ []))
    ∷ row 0xEEBD1BC3 (50 ∷ []) (computes (6 ∷ 7 ∷ []) (2 ∷ []))
    ∷ row 0xEEF12A10 (50 ∷ []) (from (48 ∷ 49 ∷ 52 ∷ []) (34 ∷ []) ∷ [])
    ∷ row 0xEEF1FA10 (50 ∷ []) (from (48 ∷ []) (51 ∷ []) ∷ [])
    ∷ row 0xEEE12A10 (50 ∷ []) (from (34 ∷ []) (48 ∷ []) ∷ from (34 ∷ []) (49 ∷ []) ∷ from (34 ∷ []) (52 ∷ []) ∷ [])
    ∷ row 0xEEF82A10 ([]) (from (50 ∷ []) (34 ∷ []) ∷ [])
    ∷ row 0xEEE82A10 ([]) (from (34 ∷ []) (50 ∷ []) ∷ [])
    ∷ row 0xEEF02A10 ([]) (from ([]) (34 ∷ []) ∷ [])
    ∷ row 0xEE122A90 (50 ∷ []) (from (5 ∷ []) (34 ∷ []) ∷ [])
    ∷ row 0xEE022A90 (50 ∷ []) (from (34 ∷ []) (5 ∷ []) ∷ [])
    -- the high half of d2 is s5, whatever bit 7 is; under coprocessor 10 each place keeps its mark
    ∷ row 0xEE322B10 (50 ∷ []) (from (5 ∷ []) (34 ∷ []) ∷ [])
    ∷ row 0xEE322B90 (50 ∷ []) (from (5 ∷ []) (34 ∷ []) ∷ [])
    ∷ row 0xEE222B10 (50 ∷ []) (from (34 ∷ []) (5 ∷ []) ∷ [])
    ∷ row 0xEE222B90 (50 ∷ []) (from (34 ∷ []) (5 ∷ []) ∷ [])
    ∷ row 0xEE32FB10 (50 ∷ []) (from (5 ∷ []) (47 ∷ []) ∷ [])
    ∷ row 0xEE22FB10 (50 ∷ []) (from (47 ∷ []) (5 ∷ []) ∷ [])
    ∷ row 0xEE322A10 (50 ∷ []) (from (5 ∷ []) (5 ∷ []) ∷ from (34 ∷ []) (34 ∷ []) ∷ [])
    ∷ row 0xEE322A90 (50 ∷ []) (from (5 ∷ []) (5 ∷ []) ∷ from (34 ∷ []) (34 ∷ []) ∷ [])
    ∷ row 0xEE222A10 (50 ∷ []) (from (5 ∷ []) (5 ∷ []) ∷ from (34 ∷ []) (34 ∷ []) ∷ [])
    ∷ row 0xEE222A90 (50 ∷ []) (from (5 ∷ []) (5 ∷ []) ∷ from (34 ∷ []) (34 ∷ []) ∷ [])
    ∷ row 0xEC532A13 (50 ∷ []) (from (6 ∷ []) (34 ∷ []) ∷ from (7 ∷ []) (35 ∷ []) ∷ [])
    ∷ row 0xEC432A13 (50 ∷ []) (from (34 ∷ []) (6 ∷ []) ∷ from (35 ∷ []) (7 ∷ []) ∷ [])
    ∷ row 0xEC532B13 (50 ∷ []) (from (6 ∷ []) (34 ∷ []) ∷ from (7 ∷ []) (35 ∷ []) ∷ [])
    ∷ row 0xEC432B13 (50 ∷ []) (from (34 ∷ []) (6 ∷ []) ∷ from (35 ∷ []) (7 ∷ []) ∷ [])
    ∷ row 0xED911A01 (50 ∷ 33 ∷ []) (from (54 ∷ []) (2 ∷ []) ∷ [])
    ∷ row 0xED811A01 (50 ∷ 33 ∷ []) (from (2 ∷ []) (54 ∷ []) ∷ [])
    ∷ row 0xED911B00 (50 ∷ 33 ∷ []) (from (53 ∷ []) (2 ∷ []) ∷ from (54 ∷ []) (3 ∷ []) ∷ [])
    ∷ row 0xED811B00 (50 ∷ 33 ∷ []) (from (2 ∷ []) (53 ∷ []) ∷ from (3 ∷ []) (54 ∷ []) ∷ [])
    ∷ row 0xEC911A03 (50 ∷ 33 ∷ []) (from (53 ∷ []) (2 ∷ []) ∷ from (54 ∷ []) (3 ∷ []) ∷ from (55 ∷ []) (4 ∷ []) ∷ [])
    ∷ row 0xEC811A03 (50 ∷ 33 ∷ []) (from (2 ∷ []) (53 ∷ []) ∷ from (3 ∷ []) (54 ∷ []) ∷ from (4 ∷ []) (55 ∷ []) ∷ [])
    ∷ row 0xECB11B04 (50 ∷ 33 ∷ []) (from (53 ∷ []) (2 ∷ []) ∷ from (54 ∷ []) (3 ∷ []) ∷ from (55 ∷ []) (4 ∷ []) ∷ from (56 ∷ []) (5 ∷ []) ∷ [])
    ∷ row 0xED911A10 (50 ∷ 33 ∷ []) (from ([]) (2 ∷ []) ∷ [])
    ∷ []

pub exact : map left rows ≡ map should rows
unfolding left should tried sources_of ruled all marks nothing_known rows watched meaning class_tree exempt enabled conditioned data_tree operation_tree operation_of operation_by extension_by arithmetics transfer_tree load_store_tree access_tree after after_marks step_of second_of place word_at
exact = refl
