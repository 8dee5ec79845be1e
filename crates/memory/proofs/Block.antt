-- One word more of a contiguous transfer.
use mathlib.Core.Path.{◌≡◌, sym, ap, ◌∙◌}
use mathlib.Core.Bool.{Bool, true, false}
use mathlib.Core.List.{List, [], ◌∷◌}
use Prim.Native.Nat.{ℕ, ◌+◌, ◌<◌}
use native.Mathlib.Omega.{arith}
use lib.Ieee.{binary32}
use lib.ListN.{get_or, set}
use Rattle.machine.specs.declared.Machine.{Machine}
use Rattle.machine.specs.Machine.{with_s}
use Rattle.machine.specs.Window.{word_at}
use Rattle.machine.specs.Place.{single, word, State, state}
use Rattle.meaning.specs.Step.{Step, step, after}
use Rattle.meaning.proofs.Laws.{after_one}
use Rattle.addresses.specs.Contiguous.{Contiguous}
use Rattle.addresses.proofs.Block.{word_on, single_on}
use Rattle.pairs.specs.Pair.{moved}
use Rattle.memory.specs.LoadStore.{access_at}

module _ (words base a n k i : ℕ) (h : Contiguous words base a n k) (l : i < k) where
  -- word i is the window's word i after the first, and its single the i-th after the first
  pub nth : (load : Bool) → access_at binary32 load base n a i ≡ moved load (single (n + i)) (word (word_at base a + i)) ∷ []
  nth load = rw (word_on base a i (omega arith), single_on n i (omega arith))

  module _ (q : Machine) (s w : List ℕ) (st : State) where
    pub loaded : state (with_s q s) w ≡ after i (access_at binary32 true base n a) st
        → state (with_s q (set s (n + i) (get_or w (word_at base a + i) 0))) w ≡ after (i + 1) (access_at binary32 true base n a) st
    loaded e = ap (λ (x : Step). step x (state (with_s q s) w)) (sym (nth true)) ∙ after_one _ _ _ _ e

    pub stored : state (with_s q s) w ≡ after i (access_at binary32 false base n a) st
        → state (with_s q s) (set w (word_at base a + i) (get_or s (n + i) 0)) ≡ after (i + 1) (access_at binary32 false base n a) st
    stored e = ap (λ (x : Step). step x (state (with_s q s) w)) (sym (nth false)) ∙ after_one _ _ _ _ e
