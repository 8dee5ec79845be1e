-- Cycles and their records: a cycle that can be recorded is read back and replayed as it runs, and bytes that are not refused are a cycle's record.
use Rattle.std.specs.Prelude.{ℕ, ◌+◌, ◌%◌, ◌^◌, ◌<◌, ◌≡◌, cond, false, List, eqb, length, get_or, take, drop}
use Rattle.machine.specs.declared.Machine.{Machine}
use Rattle.machine.specs.Machine.{Sized}
use Rattle.machine.specs.Place.{State, state, before}
use Rattle.meaning.specs.Map.{Map}
use Rattle.place_marks.specs.Word.{map_in}
use Rattle.layout.specs.State.{encode, decode}
use Rattle.watch.specs.Watch.{Reply, limit_of, watch_reply}
use Rattle.records.specs.Recorded.{layout_bit, to_bytes, of_bytes, word_of_marks, record_of}
use Rattle.record_refusal.specs.Refusal.{refusal_of}
use Rattle.replay.specs.Replay.{refused_reply, replay_reply}

-- a control cycle: a machine with the word of its marks, a window with its own, and the list that is run over them
pub record Cycle : Type 0 where
  pub machine : Machine
  pub known : ℕ
  pub window : List ℕ
  pub marks : List ℕ
  pub base : ℕ
  pub list : List ℕ

abbrev pub start_of : Cycle → State
start_of x = state x.machine x.window

abbrev pub map_for : Cycle → Map
map_for x = map_in x.known x.marks

-- the first refusal that applies to its watched run, or 0, and the answer
abbrev pub limit_for : Cycle → ℕ
limit_for x = limit_of x.base x.list (start_of x) (map_for x)

abbrev pub watch_for : Cycle → Reply
watch_for x = watch_reply x.base x.list (start_of x) (map_for x)

-- the bytes of its record
abbrev pub bytes_for : Cycle → List ℕ
bytes_for x = to_bytes (record_of (encode x.machine) x.known x.window x.marks x.base x.list)

-- the cycle that bytes hold
abbrev pub cycle_in : List ℕ → Cycle
cycle_in b =
    let x = of_bytes b in
    record {
      machine = decode false (take before x.values);
      known = word_of_marks (take before x.marks);
      window = drop before x.values;
      marks = drop before x.marks;
      base = x.base;
      list = x.list;
    }

-- a cycle that can be recorded: in ARM state, as many marks as window words, a count of instruction words of 31 bits, and every number of 32
pub record Recordable (x : Cycle) : Type 0 where
  pub sized : Sized x.machine
  pub arm : x.machine.thumb ≡ false
  pub marked : length x.marks ≡ length x.window
  pub words : (n : ℕ) → get_or (encode x.machine) n 0 < 2 ^ 32
  pub window_words : (n : ℕ) → get_or x.window n 0 < 2 ^ 32
  pub window_marks : (n : ℕ) → get_or x.marks n 0 < 2 ^ 32
  pub based : x.base < 2 ^ 32
  pub list_words : (n : ℕ) → get_or x.list n 0 < 2 ^ 32
  pub listed : length x.list < layout_bit
  pub stated : before + length x.window < 2 ^ 32

-- it is read back, without the bits of its word of marks above the last place
abbrev pub ReadBack : Cycle → Type 0
ReadBack x =
    cycle_in (bytes_for x)
    ≡ record { machine = x.machine; known = x.known % 2 ^ before; window = x.window; marks = x.marks; base = x.base; list = x.list }

-- its replay with buffers as long as the window is its watched run; where that is refused, it is refused with the same number
abbrev pub Replayed : Cycle → Type 0
Replayed x =
    (window marks : List ℕ) → length window ≡ length x.window → length marks ≡ length x.window
    → replay_reply (bytes_for x) window marks ≡ cond (eqb (limit_for x) 0) (watch_for x) (refused_reply (limit_for x) window marks)

-- and bytes that are not refused are the record of the cycle that they hold, which can be recorded
abbrev pub WrittenBack : List ℕ → Type 0
WrittenBack b =
    ((n : ℕ) → get_or b n 0 < 256) → (words marks : ℕ) → refusal_of b words marks ≡ 0 → Recordable (cycle_in b) × (bytes_for (cycle_in b) ≡ b)
