-- Demand 3: what an unknown place holds cannot show in the answer of a watched run, nor in any place that it ends up calling known.
use Rattle.std.specs.Prelude.{ℕ, ◌≡◌, true, List, length, take}
use Rattle.machine.specs.declared.Machine.{Machine}
use Rattle.machine.specs.Machine.{Sized}
use Rattle.machine.specs.Place.{State, state, place, get}
use Rattle.meaning.specs.Map.{Map, known}
use Rattle.run.specs.Run.{run_reply}
use Rattle.watch.specs.Watch.{Reply, limit_of, watch_reply}

-- two machines with their windows agree in every place, by its number, that the map calls known
abbrev pub Agree : Map → State → State → Type 0
Agree μ a b = (n : ℕ) → known μ (place n) ≡ true → get a (place n) ≡ get b (place n)

-- equal count, kind of stop and report, equal last maps, and agreement in every place that they call known
pub record Alike (x y : Reply) : Type 0 where
  pub report : x.report ≡ y.report
  pub count : x.count ≡ y.count
  pub map : x.map ≡ y.map
  pub agree : Agree x.map x.leaves y.leaves

-- a map of as many marks before the window as there are places
pub record Mapped (μ : Map) : Type 0 where
  pub s : length μ.marks.s ≡ 32
  pub r : length μ.marks.r ≡ 16

-- what is left is what the plain run leaves of the first words of the list, as many as were counted
abbrev pub Plainly : ℕ → List ℕ → State → Reply → Type 0
Plainly base list st x = (run_reply base (take x.count list) st).leaves ≡ x.leaves

-- over any list, base and map, and any two machines in ARM state with windows of one size, both runs within the limits
abbrev pub Demand3 : Type 0
Demand3 =
    (base : ℕ) (list : List ℕ) (μ : Map) (a b : Machine) (v w : List ℕ)
    → Mapped μ → Sized a → Sized b → length v ≡ length w
    → limit_of base list (state a v) μ ≡ 0 → limit_of base list (state b w) μ ≡ 0
    → Agree μ (state a v) (state b w)
    → Alike (watch_reply base list (state a v) μ) (watch_reply base list (state b w) μ)
    × Plainly base list (state a v) (watch_reply base list (state a v) μ)
    × Plainly base list (state b w) (watch_reply base list (state b w) μ)
