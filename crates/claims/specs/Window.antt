-- Loads and stores over the window in document 01's terms: inside, the addressed word is read or written; outside, a read gives 0 and is known, and a
-- write is dropped.
use Rattle.std.specs.Prelude.{◌≡◌, ℕ, zero, suc, ◌+◌, ◌-◌, ◌*◌, ◌/◌, ◌%◌, ◌^◌, ◌<◌, Bool, true, false, cond, List, eqb, length, get_or}
use Rattle.std.specs.Float.{Format, binary32, binary64}
use Rattle.bits.specs.Field.{field, bit_of}
use Rattle.bits.specs.Psr.{one_of}
use Rattle.registers.specs.Registers.{reg_of}
use Rattle.machine.specs.Window.{aligned, inside, read_at, written_at, word_at}
use Rattle.machine.specs.Place.{State, state, core, word, s_word, low_word, high_word, get, put}
use Rattle.meaning.specs.Map.{Map, map_of, known, mark}
use Rattle.meaning.specs.Step.{step, step_marks}
use Rattle.meaning.specs.Stop.{finished, report}
use Rattle.addresses.specs.Address.{start_of, count_of, write_back}
use Rattle.memory.specs.LoadStore.{bytes, access_step}
use Rattle.limits.specs.Limit.{window_limit}
use Rattle.vfp.specs.Call.{load_store_reply}

-- the coprocessor of a precision
abbrev pub coprocessor : Format → ℕ
coprocessor binary32 = 10
coprocessor binary64 = 11

-- where a double's high word stands
abbrev pub above : ℕ → ℕ
above a = (a + 4) % 2 ^ 32

-- register n loaded from the address a, or stored there
abbrev pub accessed : Format → Bool → ℕ → ℕ → ℕ → State → State
accessed binary32 true base n a st = put st (s_word n) (read_at base st.window a)
accessed binary32 false base n a st = state st.machine (written_at base st.window a (get st (s_word n)))
accessed binary64 true base n a st = put (put st (low_word n) (read_at base st.window a)) (high_word n) (read_at base st.window (above a))
accessed binary64 false base n a st = state st.machine (written_at base (written_at base st.window a (get st (low_word n))) (above a) (get st (high_word n)))

-- i registers in turn
unfoldable pub transferred : Format → Bool → ℕ → ℕ → ℕ → ℕ → State → State
transferred f load base n a zero st = st
transferred f load base n a (suc i) st = accessed f load base (n + i) ((a + bytes f * i) % 2 ^ 32) (transferred f load base n a i st)

-- the mark of what is read at an address
abbrev pub known_at : ℕ → List ℕ → ℕ → Bool
known_at base marks a = cond (inside base (length marks) a) (eqb (get_or marks ((aligned a - base) / 4) 1) 1) true

-- the marks after such a load or store
abbrev pub accessed_marks : Format → Bool → ℕ → ℕ → ℕ → Map → Map
accessed_marks binary32 true base n a μ = mark μ (s_word n) (known_at base μ.words a)
accessed_marks binary32 false base n a μ = map_of μ.marks (written_at base μ.words a (one_of (known μ (s_word n))))
accessed_marks binary64 true base n a μ = mark (mark μ (low_word n) (known_at base μ.words a)) (high_word n) (known_at base μ.words (above a))
accessed_marks binary64 false base n a μ =
    map_of μ.marks (written_at base (written_at base μ.words a (one_of (known μ (low_word n)))) (above a) (one_of (known μ (high_word n))))

-- under limits 2, 3 and 4
pub record Window : Type 0 where
  -- one register
  pub access : (f : Format) (load : Bool) (base n a : ℕ) (st : State) → window_limit base (length st.window) ≡ 0 → a < 2 ^ 32
      → step (access_step f load base n a) st ≡ accessed f load base n a st
  -- the call, of a word that is no pair
  pub call : (f : Format) (base w : ℕ) (st : State) → window_limit base (length st.window) ≡ 0 → field w 8 11 ≡ coprocessor f → eqb (field w 21 27) 0b110_0010 ≡ false
      → load_store_reply base w st
      ≡ record {
        report = report finished;
        leaves =
            step (write_back w)
            (transferred f (bit_of w 20) base (reg_of f (field w 12 15) (field w 22 22)) (start_of w (get st (core (field w 16 19)))) (count_of f w) st);
      }
  -- the marks of one register's load or store
  pub marks : (f : Format) (load : Bool) (base n a : ℕ) (μ : Map) → window_limit base (length μ.words) ≡ 0 → a < 2 ^ 32
      → step_marks (access_step f load base n a) μ ≡ accessed_marks f load base n a μ
  -- the place that a read outside looks at is known
  pub outside_known : (base a : ℕ) (μ : Map) → window_limit base (length μ.words) ≡ 0 → a < 2 ^ 32 → inside base (length μ.words) a ≡ false
      → known μ (word (word_at base a)) ≡ true
