-- One single more, loaded or stored: the word of marks or the window's marks take one mark.
use mathlib.Core.Path.{◌≡◌, sym, ◌∙◌}
use mathlib.Core.Bool.{Bool, true, false}
use mathlib.Core.List.{List}
use Prim.Native.Nat.{ℕ, ◌+◌, ◌*◌, ◌%◌, ◌^◌}
use lib.Dec.{eqb}
use lib.Ieee.{binary32}
use lib.ListN.{get_or, set}
use Rattle.bits.specs.Psr.{one_of}
use Rattle.machine.specs.Window.{word_at}
use Rattle.machine.specs.Place.{s_word}
use Rattle.meaning.specs.Map.{Map, known, mark}
use Rattle.meaning.specs.Step.{step_marks, after_marks}
use Rattle.meaning.proofs.Laws.{marks_one}
use Rattle.memory.specs.LoadStore.{access_step, access_at}
use Rattle.place_marks.specs.Word.{map_in}
use Rattle.place_marks.proofs.Word.{known-word, mark-word}

-- by itself
module _ (base n a m : ℕ) (w : List ℕ) (b : Bool) where
  pub one_loaded : b ≡ eqb (get_or w (word_at base a) 1) 1 → mark (map_in m w) (s_word n) b ≡ step_marks (access_step binary32 true base n a) (map_in m w)
  one_loaded e = rw (e ∙ sym (known-word m w (word_at base a)))

  pub one_stored : b ≡ known (map_in m w) (s_word n) → map_in m (set w (word_at base a) (one_of b)) ≡ step_marks (access_step binary32 false base n a) (map_in m w)
  one_stored e = mark-word m w (word_at base a) b ∙ rw e

-- after i others
module _ (base n a i m : ℕ) (w : List ℕ) (μ : Map) (b : Bool) where
  pub loaded : b ≡ eqb (get_or w (word_at base ((a + 4 * i) % 2 ^ 32)) 1) 1 → map_in m w ≡ after_marks i (access_at binary32 true base n a) μ
      → mark (map_in m w) (s_word (n + i)) b ≡ after_marks (i + 1) (access_at binary32 true base n a) μ
  loaded e h = one_loaded base (n + i) ((a + 4 * i) % 2 ^ 32) m w b e ∙ marks_one _ _ _ _ h

  pub stored : b ≡ known (map_in m w) (s_word (n + i)) → map_in m w ≡ after_marks i (access_at binary32 false base n a) μ
      → map_in m (set w (word_at base ((a + 4 * i) % 2 ^ 32)) (one_of b)) ≡ after_marks (i + 1) (access_at binary32 false base n a) μ
  stored e h = one_stored base (n + i) ((a + 4 * i) % 2 ^ 32) m w b e ∙ marks_one _ _ _ _ h
