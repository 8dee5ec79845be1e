-- When no chain is given after a run.
use Rattle.std.specs.Prelude.{ℕ, ◌+◌, ◌*◌, ◌/◌, cond, ltb, length}
use Rattle.machine.specs.Place.{before, place}
use Rattle.meaning.specs.Map.{Map, known}

-- The first refusal that applies to place q after a run of count words that left the map μ, or 0: 11, the place is beyond the map; 12, it is known; 13, the
-- list, of so many numbers, holds fewer than 8 pairs per word run.
unfoldable pub origin_refusal : ℕ → Map → ℕ → ℕ → ℕ
origin_refusal q μ count size =
    cond (ltb q (before + length μ.words)) (cond (known μ (place q)) 12 (cond (ltb (size / 2) (8 * count)) 13 0)) 11
