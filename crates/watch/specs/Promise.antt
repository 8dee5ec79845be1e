-- What the public watched run promises.
use Rattle.std.specs.Prelude.{ℕ, ◌%◌, ◌^◌, ◌≡◌, false, List, length}
use Rattle.machine.specs.declared.Machine.{Machine}
use Rattle.machine.specs.Machine.{Sized}
use Rattle.machine.specs.Place.{State, state, before}
use Rattle.meaning.specs.Map.{Map}
use Rattle.place_marks.specs.Word.{map_in}
use Rattle.watch.specs.Watch.{Reply, limit_of, watch_reply, handed_back}
use Rattle.watch.specs.Demand.{Agree, Alike, Mapped, Plainly}
use Rattle.watch.specs.More.{KnowsAll, NoLess}

-- of its answer x, given a machine with its window and a map
pub record Promise (base : ℕ) (list : List ℕ) (st : State) (μ : Map) (x : Reply) : Type 0 where
  -- it is the answer of the definition, refusals included
  pub answer : x ≡ watch_reply base list st μ
  -- demand 3: within the limits, from every other machine in ARM state and window of the same size that agree where the map says known
  pub alike : limit_of base list st μ ≡ 0 → (b : Machine) (w : List ℕ) → Sized b → b.thumb ≡ false → length w ≡ length st.window
      → Agree μ st (state b w) → Alike x (watch_reply base list (state b w) μ)
  -- and the plain run of the counted words leaves the same
  pub plainly : limit_of base list st μ ≡ 0 → Plainly base list st x
  -- more known never shows less: with every other map within the limits that knows all that this one knows
  pub more : limit_of base list st μ ≡ 0 → (ν : Map) → Mapped ν → limit_of base list st ν ≡ 0 → KnowsAll μ ν → NoLess base list st ν x (watch_reply base list st ν)
  -- and with every other of which this one knows all
  pub fewer : limit_of base list st μ ≡ 0 → (ν : Map) → Mapped ν → limit_of base list st ν ≡ 0 → KnowsAll ν μ → NoLess base list st μ (watch_reply base list st ν) x

-- and of the word of marks m that came, and m' that is handed back with the answer x
pub record WordPromise (base : ℕ) (list : List ℕ) (st : State) (m : ℕ) (words : List ℕ) (x : Reply) (m' : ℕ) : Type 0 where
  -- after a refusal the word as it came, else that of the last map, with no bit above the last place
  pub word : m' ≡ handed_back (limit_of base list st (map_in m words)) m x.map
  -- bits above the last place are ignored: every other word that differs there alone has the same answer
  pub above : (n : ℕ) → n % 2 ^ before ≡ m % 2 ^ before → watch_reply base list st (map_in n words) ≡ x
