-- More known never shows less: one list from one machine and window, with two maps, of which the second knows all that the first knows.
use Rattle.std.specs.Prelude.{ℕ, ◌≤◌, ◌≡◌, true, List, take}
use Rattle.machine.specs.Place.{State, place}
use Rattle.meaning.specs.Map.{Map, known}
use Rattle.watch.specs.Watch.{Reply, limit_of, watch_reply}
use Rattle.watch.specs.Demand.{Mapped}

-- ν knows every place, by its number, that μ knows
abbrev pub KnowsAll : Map → Map → Type 0
KnowsAll μ ν = (n : ℕ) → known μ (place n) ≡ true → known ν (place n) ≡ true

-- of the answers x with the first map and y with the second, ν: the second run counts at least as many words; and with the second map the run of the first words
-- of the list, as many as x counted, counts them all and ends with a map that knows all that the map of x knows
pub record NoLess (base : ℕ) (list : List ℕ) (st : State) (ν : Map) (x y : Reply) : Type 0 where
  pub count : x.count ≤ y.count
  pub reached : (watch_reply base (take x.count list) st ν).count ≡ x.count
  pub known : KnowsAll x.map (watch_reply base (take x.count list) st ν).map

-- over any list, base, machine and window, and any two such maps, both runs within the limits
abbrev pub MoreKnown : Type 0
MoreKnown =
    (base : ℕ) (list : List ℕ) (st : State) (μ ν : Map)
    → Mapped μ → Mapped ν → limit_of base list st μ ≡ 0 → limit_of base list st ν ≡ 0
    → KnowsAll μ ν
    → NoLess base list st ν (watch_reply base list st μ) (watch_reply base list st ν)
