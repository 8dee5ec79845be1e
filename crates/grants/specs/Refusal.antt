-- When routines are turned away.
use Rattle.std.specs.Prelude.{ℕ, Bool, true, cond, ◌&&◌, ◌||◌, List, [], ◌∷◌, eqb, leb, ltb, length}
use Rattle.phases.specs.Round.{sum}

-- no share is above its limit
unfoldable pub within : List ℕ → List ℕ → Bool
within [] limits = true
within (s ∷ shares) [] = true
within (s ∷ shares) (b ∷ limits) = leb s b && within shares limits

-- 14, no routine or more than eight; 15, a share above its limit; 16, shares that add up to more than the period: the first that applies, or 0
unfoldable pub refusal_of : ℕ → List ℕ → List ℕ → ℕ
refusal_of period shares limits =
    cond (eqb (length shares) 0 || ltb 8 (length shares)) 14
    (cond (within shares limits) (cond (ltb period (sum shares)) 16 0) 15)
