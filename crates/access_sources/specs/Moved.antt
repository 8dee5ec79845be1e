-- A load or store as an act, and one step back through it.
use Rattle.std.specs.Prelude.{ℕ, ◌≡◌, Bool, true, false, List}
use Rattle.std.specs.Float.{Format}
use Rattle.addresses.specs.Address.{write_back}
use Rattle.bits.specs.Field.{field}
use Rattle.machine.specs.Place.{State, core, place}
use Rattle.meaning.specs.Map.{known}
use Rattle.meaning.specs.Step.{Act, act_marks}
use Rattle.meaning.specs.Tree.{Tree}
use Rattle.meaning.specs.Hang.{clear, hang_of}
use Rattle.memory.specs.LoadStore.{access_at}
use Rattle.chains.specs.Steps.{act_of}
use Rattle.place_marks.specs.Word.{map_in}
use Rattle.sources.specs.declared.Source.{Source}
use Rattle.sources.specs.Source.{Led}

-- k registers from register n and the address a on, with the write-back of a word
abbrev pub moved_act : Format → Bool → ℕ → ℕ → ℕ → ℕ → ℕ → Act
moved_act f load base n a k op = record { count = k; each = access_at f load base n a; tail = write_back op }

-- where the base register is known and q is unknown after them, whatever the window's marks are
abbrev pub LeadingMoved : Format → Bool → ℕ → ℕ → ℕ → ℕ → ℕ → ℕ → ℕ → Source → Type 0
LeadingMoved f load base n a k op m q r =
    (w : List ℕ) → known (map_in m w) (core (field op 16 19)) ≡ true → known (act_marks (moved_act f load base n a k op) (map_in m w)) (place q) ≡ false
    → Led (moved_act f load base n a k op) (map_in m w) q r

-- where a word of the tree t does not hang and q is unknown after it
abbrev pub LeadingClear : Tree → State → ℕ → ℕ → Source → Type 0
LeadingClear t st m q r =
    (w : List ℕ) → hang_of t st (map_in m w) ≡ clear → known (act_marks (act_of t st) (map_in m w)) (place q) ≡ false → Led (act_of t st) (map_in m w) q r
