-- One turn of each loop in code.
use Prim.Native.Nat.{ℕ, zero, suc, ◌+◌, ◌-◌, ◌<◌, ◌≤◌, min, max}
use native.Mathlib.Omega.{arith}
use native.Mathlib.Numerals.{add-one}
use mathlib.Core.Path.{◌≡◌, refl, sym, ◌∙◌, ap}
use mathlib.Core.List.{List, [], ◌∷◌}
use mathlib.Core.Logic.{⊎_elim}
use lib.ListN.{length, get_or, set, take}
use lib.Seq.{take-suc, take-suc-set, take_all}
use Rattle.phases.specs.Share.{shared}
use Rattle.phases.specs.Round.{sum, turn, turns}
use Rattle.phases.specs.Phase.{extra, raised, roomy, narrowed, least_room, Fitting}
use Rattle.phases.proofs.Turns.{below_or_not, extra_some, extra_none, turn_is}
use Rattle.phases.proofs.Phases.{raised_later}

-- ---- lists that are written entry by entry

pub written : (l from : List ℕ) (i v : ℕ) → i < length l → i < length from → v ≡ get_or from i 0 → take i l ≡ take i from → take (i + 1) (set l i v) ≡ take (i + 1) from
written l from i v h k q e = rw (add-one, take-suc-set l i v h, take-suc from i 0 k, e, q)

pub all_written : (l from : List ℕ) (i : ℕ) → length l ≤ i → length from ≤ i → take i l ≡ take i from → l ≡ from
all_written l from i h k e = sym (take_all i l h) ∙ (e ∙ take_all i from k)

-- ---- the shares

pub get_d_shared : (s l : List ℕ) (i : ℕ) → get_or (shared s l) i 0 ≡ min (get_or s i 0) (get_or l i 0)
unfolding shared
get_d_shared [] l i = omega arith
get_d_shared (x ∷ s) [] i = omega arith
get_d_shared (x ∷ s) (y ∷ l) zero = refl
get_d_shared (x ∷ s) (y ∷ l) (suc i) = get_d_shared s l i

pub length-shared : (s l : List ℕ) → length s ≡ length l → length (shared s l) ≡ length s
unfolding shared
length-shared [] l h = refl
length-shared (x ∷ s) [] h = absurd (omega arith)
length-shared (x ∷ s) (y ∷ l) h = ap suc (length-shared s l (omega arith))

-- ---- words for those that have room

pub extra_few : (k g m : ℕ) → extra k g m ≤ k
extra_few k g m = ⊎_elim (λ r. omega (arith, extra_some k g m r)) (λ r. omega (arith, extra_none k g m r)) (below_or_not g m)

pub extra_fits : (k g m : ℕ) → (g < m → g + k ≤ m) → g + extra k g m ≤ max g m
extra_fits k g m f = ⊎_elim (λ r. omega (arith, f r, extra_some k g m r)) (λ r. omega (arith, extra_none k g m r)) (below_or_not g m)

pub roomy_few : (most : ℕ → ℕ) (n : ℕ) (g : List ℕ) → roomy most n g ≤ n
unfolding roomy
roomy_few most zero g = omega arith
roomy_few most (suc n) g = omega (arith, roomy_few most n g, extra_few 1 (get_or g n 0) (most n))

pub roomy_one : (most : ℕ → ℕ) (g : List ℕ) (i n r m : ℕ) → n ≡ roomy most i g → m ≡ most i → r ≡ extra 1 (get_or g i 0) m → n + r ≡ roomy most (i + 1) g
unfolding roomy
roomy_one most g i n r m e p q = rw (add-one i, q, p, e)

pub raised_one : (k : ℕ) (most : ℕ → ℕ) (g₀ g : List ℕ) (i r m : ℕ) → g ≡ raised k most i g₀ → m ≡ most i → r ≡ extra k (get_or g i 0) m
    → set g i (get_or g i 0 + r) ≡ raised k most (i + 1) g₀
unfolding raised
raised_one k most g₀ g i r m e p q = rw (add-one i, q, p) (ap (λ (l : List ℕ). set l i (get_or l i 0 + extra k (get_or l i 0) (most i))) e)

pub raised_fits : (k : ℕ) (most : ℕ → ℕ) (g₀ g : List ℕ) (i r m : ℕ) → g ≡ raised k most i g₀ → m ≡ most i → r ≡ extra k (get_or g i 0) m → i < length g₀ → Fitting k most g₀
    → get_or g i 0 + r ≤ max (get_or g i 0) m
raised_fits k most g₀ g i r m e p q h f =
    let x : get_or g i 0 ≡ get_or g₀ i 0 = ap (λ (l : List ℕ). get_or l i 0) e ∙ raised_later most k i i g₀ (omega arith) in
    rw q (extra_fits k (get_or g i 0) m (λ l. omega (arith, f i h (omega arith))))

pub turns_one : (period : ℕ) (most : ℕ → ℕ) (g₀ g : List ℕ) (i rest r m : ℕ) → g ≡ turns period most i g₀ → sum g + rest ≡ period → m ≡ most i
    → r ≡ extra (min 1 rest) (get_or g i 0) m → set g i (get_or g i 0 + r) ≡ turns period most (i + 1) g₀
unfolding turns
turns_one period most g₀ g i rest r m e s p q =
    let z : rest ≡ period - sum g = omega arith in
    rw (add-one i, q, p, z) (sym (turn_is period most i g) ∙ ap (turn period most i) e)

-- the one word of a turn
pub portion_few : (rest g one m r : ℕ) → one ≡ min 1 rest → r ≡ extra one g m → r ≤ rest
portion_few rest g one m r p q = omega (arith, extra_few one g m)

pub portion_fits : (rest g one m r : ℕ) → one ≡ min 1 rest → r ≡ extra one g m → g + r ≤ max g m
portion_fits rest g one m r p q = rw q (extra_fits one g m (λ l. omega arith))

pub least_one : (most : ℕ → ℕ) (g : List ℕ) (i n r m : ℕ) → n ≡ least_room most i g → m ≡ most i → r ≡ narrowed n (get_or g i 0) m → r ≡ least_room most (i + 1) g
unfolding least_room
least_one most g i n r m e p q = rw (add-one i, q, p, e)
