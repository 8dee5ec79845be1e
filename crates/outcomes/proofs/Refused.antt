-- A refused load or store leaves the state as it came.
use Prim.Native.Nat.{ℕ, ◌+◌, ◌^◌, ◌<◌}
use mathlib.Core.Path.{◌≡◌}
use mathlib.Core.Bool.{true}
use mathlib.Core.List.{List, [], ◌∷◌}
use lib.Dec.{eqb}
use lib.ListN.{length, get_or}
use borrow.Author.Tests.{ne_eqb}
use Rattle.limits.specs.Limit.{window_limit}
use Rattle.vfp.specs.Call.{load_store_reply}
use Rattle.layout.specs.State.{Valid}
use Rattle.layout.proofs.Words.{encode-decode}
use Rattle.outcomes.specs.Outcome.{outcome, called, valid_call}

pub refused_as_it_came : (base w thumb : ℕ) (l v a : List ℕ) → Valid l → get_or l 51 0 < 2 ^ 32 → valid_call l thumb (length a) ≡ true → (window_limit base (length v) ≡ 0 → ⊥)
    → called (load_store_reply base w) l v thumb a ≡ outcome (100 + window_limit base (length v)) l v (0 ∷ 0 ∷ 0 ∷ 0 ∷ 0 ∷ [])
refused_as_it_came base w thumb l v a s h u n = rw (u, ne_eqb _ _ n, encode-decode (eqb thumb 1) l s h)
