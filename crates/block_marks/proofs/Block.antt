-- One word more of a contiguous transfer, and its marks.
use mathlib.Core.Path.{◌≡◌, sym, ap, ◌∙◌}
use mathlib.Core.Bool.{Bool, true, false}
use mathlib.Core.List.{List}
use Prim.Native.Nat.{ℕ, ◌+◌, ◌<◌}
use native.Mathlib.Omega.{arith}
use lib.Dec.{eqb}
use lib.Ieee.{binary32}
use lib.ListN.{length, get_or, set}
use Rattle.bits.specs.Psr.{one_of}
use Rattle.machine.specs.Window.{word_at}
use Rattle.machine.specs.Place.{place}
use Rattle.meaning.specs.Map.{Map, known, mark}
use Rattle.meaning.specs.Step.{Step, step_marks, after_marks}
use Rattle.meaning.proofs.Laws.{marks_one}
use Rattle.addresses.specs.Contiguous.{Contiguous}
use Rattle.memory.specs.LoadStore.{access_at}
use Rattle.memory.proofs.Block.{nth}
use Rattle.place_marks.specs.Word.{map_in}
use Rattle.place_marks.proofs.Places.{place-single}
use Rattle.place_marks.proofs.Within.{within}
use Rattle.place_marks.proofs.Word.{known-word, mark-word}

-- one word more: the word of marks or the window's marks take one mark
module _ (words base a n k i m : ℕ) (w : List ℕ) (μ : Map) (h : Contiguous words base a n k) (l : i < k) where
  pub loaded : words ≡ length w → map_in m w ≡ after_marks i (access_at binary32 true base n a) μ
      → mark (map_in m w) (place (n + i)) (eqb (get_or w (word_at base a + i) 0) 1) ≡ after_marks (i + 1) (access_at binary32 true base n a) μ
  loaded q e =
      rw (place-single (n + i) (omega arith), within w (word_at base a + i) 0 1 (omega arith), sym (known-word m w (word_at base a + i)))
      (ap (λ (x : Step). step_marks x (map_in m w)) (sym (nth _ _ _ _ _ _ h l true)) ∙ marks_one _ _ _ _ e)

  pub stored : (b : Bool) → b ≡ known (map_in m w) (place (n + i)) → map_in m w ≡ after_marks i (access_at binary32 false base n a) μ
      → map_in m (set w (word_at base a + i) (one_of b)) ≡ after_marks (i + 1) (access_at binary32 false base n a) μ
  stored b q e =
      mark-word m w _ b
      ∙ rw (q, place-single (n + i) (omega arith)) (ap (λ (x : Step). step_marks x (map_in m w)) (sym (nth _ _ _ _ _ _ h l false)) ∙ marks_one _ _ _ _ e)
