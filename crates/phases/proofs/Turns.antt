-- The laws of turns and rounds: a turn, what is left as it was, the sum, and when rounds change nothing more.
use Prim.Native.Nat.{ℕ, zero, suc, ◌+◌, ◌-◌, ◌<◌, ◌≤◌, min}
use native.Mathlib.Omega.{arith}
use native.Mathlib.Nat.{eq-or-lt_of_le}
use mathlib.Core.Path.{◌≡◌, refl, sym, ◌∙◌}
use mathlib.Core.Bool.{Bool, true, false, cond, ◌&&◌}
use mathlib.Core.List.{List, [], ◌∷◌}
use mathlib.Core.Logic.{◌⊎◌, inl, inr, ⊎_elim}
use lib.Dec.{eqb, ltb}
use lib.ListN.{length, get_or, set, length-set}
use lib.Seq.{get_or-set_same, get_or-set_other, set-get_or}
use borrow.Author.Tests.{ltb-true, ltb-false, lt-ltb, le-ltb, eqb-true, eqb-false}
use Rattle.phases.specs.Round.{sum, turn, turns, rounds}
use Rattle.phases.specs.Phase.{extra, roomy}

-- below, or not
pub below_or_not : (a b : ℕ) → (a < b) ⊎ (b ≤ a)
below_or_not a b = by (ltb a b) refl
  where
    by : (t : Bool) → ltb a b ≡ t → (a < b) ⊎ (b ≤ a)
    by true e = inl (ltb-true a b e)
    by false e = inr (ltb-false a b e)

-- a sum after one entry changed
pub sum-set : (l : List ℕ) (i v : ℕ) → i < length l → sum (set l i v) + get_or l i 0 ≡ sum l + v
unfolding sum
sum-set [] i v h = absurd (omega arith)
sum-set (x ∷ xs) zero v h = omega arith
sum-set (x ∷ xs) (suc i) v h = omega (arith, sum-set xs i v (omega arith))

pub extra_some : (k g m : ℕ) → g < m → extra k g m ≡ k
unfolding extra
extra_some k g m h = rw (lt-ltb g m h)

pub extra_none : (k g m : ℕ) → m ≤ g → extra k g m ≡ 0
unfolding extra
extra_none k g m h = rw (le-ltb g m h)

module _ (period : ℕ) (most : ℕ → ℕ) where
  -- a turn, by the word that it gives
  pub turn_is : (i : ℕ) (g : List ℕ) → turn period most i g ≡ set g i (get_or g i 0 + extra (min 1 (period - sum g)) (get_or g i 0) (most i))
  unfolding turn extra
  turn_is i g = by (ltb (get_or g i 0) (most i)) (ltb (sum g) period) refl
    where
      same : (n : ℕ) → n ≡ 0 → g ≡ set g i (get_or g i 0 + n)
      same n e = let z : get_or g i 0 + n ≡ get_or g i 0 = omega arith in rw (z, set-get_or g i 0)

      by : (a b : Bool) → ltb (sum g) period ≡ b → cond (a && b) (set g i (get_or g i 0 + 1)) g ≡ set g i (get_or g i 0 + cond a (min 1 (period - sum g)) 0)
      by true true e = let z : min 1 (period - sum g) ≡ 1 = omega (arith, ltb-true (sum g) period e) in rw z
      by true false e = same (min 1 (period - sum g)) (omega (arith, ltb-false (sum g) period e))
      by false b e = same 0 refl

  pub length-turns : (n : ℕ) (g : List ℕ) → length (turns period most n g) ≡ length g
  unfolding turns
  length-turns zero g = refl
  length-turns (suc n) g = rw (turn_is n (turns period most n g), length-set) (length-turns n g)

  -- those whose turn did not come have what they had
  pub turns_later : (n j : ℕ) (g : List ℕ) → n ≤ j → get_or (turns period most n g) j 0 ≡ get_or g j 0
  unfolding turns
  turns_later zero j g h = refl
  turns_later (suc n) j g h =
      rw (turn_is n (turns period most n g), get_or-set_other (turns period most n g) n j (get_or (turns period most n g) n 0 + extra (min 1 (period - sum (turns period most n g))) (get_or (turns period most n g) n 0) (most n)) 0 (λ e. omega arith))
      (turns_later n j g (omega arith))

  -- a round hands out a word to each that has room, as far as the period reaches
  pub sum-turns : (n : ℕ) (g : List ℕ) → n ≤ length g → sum g ≤ period → sum (turns period most n g) ≡ min period (sum g + roomy most n g)
  unfolding turns roomy
  sum-turns zero g h k = omega arith
  sum-turns (suc n) g h k =
      let t = turns period most n g in
      let e : sum t ≡ min period (sum g + roomy most n g) = sum-turns n g (omega arith) k in
      let w = extra (min 1 (period - sum t)) (get_or t n 0) (most n) in
      let x : get_or t n 0 ≡ get_or g n 0 = turns_later n n g (omega arith) in
      let s : sum (set t n (get_or t n 0 + w)) + get_or t n 0 ≡ sum t + (get_or t n 0 + w) = sum-set t n (get_or t n 0 + w) (omega (arith, length-turns n g)) in
      rw (turn_is n t)
      (⊎_elim
      (λ r. omega (arith, extra_some (min 1 (period - sum t)) (get_or t n 0) (most n) (omega arith), extra_some 1 (get_or g n 0) (most n) r))
      (λ r. omega (arith, extra_none (min 1 (period - sum t)) (get_or t n 0) (most n) (omega arith), extra_none 1 (get_or g n 0) (most n) r))
      (below_or_not (get_or g n 0) (most n)))

  -- nothing more is given: the period is used, or nobody has room
  abbrev pub Still : List ℕ → Type 0
  Still g = (period ≤ sum g) ⊎ ((i : ℕ) → i < length g → most i ≤ get_or g i 0)

  nothing : (i : ℕ) (g : List ℕ) → i < length g → Still g → extra (min 1 (period - sum g)) (get_or g i 0) (most i) ≡ 0
  nothing i g h s =
      ⊎_elim
      (λ r. ⊎_elim (λ e. omega (arith, extra_some (min 1 (period - sum g)) (get_or g i 0) (most i) r)) (λ f. absurd (omega (arith, f i h))) s)
      (λ r. extra_none (min 1 (period - sum g)) (get_or g i 0) (most i) r)
      (below_or_not (get_or g i 0) (most i))

  pub turns-Still : (n : ℕ) (g : List ℕ) → n ≤ length g → Still g → turns period most n g ≡ g
  unfolding turns
  turns-Still zero g h s = refl
  turns-Still (suc n) g h s =
      let z : get_or g n 0 + extra (min 1 (period - sum g)) (get_or g n 0) (most n) ≡ get_or g n 0 = omega (arith, nothing n g (omega arith) s) in
      rw (turns-Still n g (omega arith) s, turn_is n g, z) (set-get_or g n 0)

  pub rounds-Still : (k : ℕ) (g : List ℕ) → Still g → rounds period most k g ≡ g
  unfolding rounds
  rounds-Still zero g s = refl
  rounds-Still (suc k) g s = rw (turns-Still (length g) g (omega arith) s) (rounds-Still k g s)

  pub no_room : (n : ℕ) (g : List ℕ) → roomy most n g ≡ 0 → (i : ℕ) → i < n → most i ≤ get_or g i 0
  unfolding roomy
  no_room zero g e i h = absurd (omega arith)
  no_room (suc n) g e i h =
      ⊎_elim
      (λ q. ⊎_elim (λ r. absurd (omega (arith, extra_some 1 (get_or g n 0) (most n) r))) (λ r. rw q r) (below_or_not (get_or g n 0) (most n)))
      (λ l. no_room n g (omega arith) i (omega arith))
      (eq-or-lt_of_le {n = i} {m = n} (omega arith))

  -- a round gives a word, or nothing is given any more
  pub moves : (g : List ℕ) → sum g ≤ period → Still g ⊎ (sum g < sum (turns period most (length g) g))
  moves g h =
      ⊎_elim
      (λ r. ⊎_elim (λ q. inr (omega (arith, sum-turns (length g) g (omega arith) h))) (λ q. inl (inr (no_room (length g) g (omega arith)))) (below_or_not 0 (roomy most (length g) g)))
      (λ r. inl (inl r))
      (below_or_not (sum g) period)

  pub sum_within : (g : List ℕ) → sum g ≤ period → sum (turns period most (length g) g) ≤ period
  sum_within g h = omega (arith, sum-turns (length g) g (omega arith) h)

  -- as many rounds as there are words to give are enough
  pub enough : (j k : ℕ) (g : List ℕ) → sum g ≤ period → period ≤ sum g + j → period ≤ sum g + k → rounds period most j g ≡ rounds period most k g
  unfolding rounds
  enough zero k g h a b = sym (rounds-Still k g (inl (omega arith)))
  enough (suc j) zero g h a b = rounds-Still (suc j) g (inl (omega arith))
  enough (suc j) (suc k) g h a b =
      ⊎_elim
      (λ s. rounds-Still (suc j) g s ∙ sym (rounds-Still (suc k) g s))
      (λ l. enough j k (turns period most (length g) g) (sum_within g h) (omega arith) (omega arith))
      (moves g h)

  pub rounds-add : (j k : ℕ) (g : List ℕ) → rounds period most (j + k) g ≡ rounds period most k (rounds period most j g)
  unfolding rounds
  rounds-add zero k g = let z : zero + k ≡ k = omega arith in rw z
  rounds-add (suc j) k g = let z : suc j + k ≡ suc (j + k) = omega arith in rw z (rounds-add j k (turns period most (length g) g))

  pub settled : (k : ℕ) (g : List ℕ) → sum g ≤ period → period ≤ sum g + k → Still (rounds period most k g)
  unfolding rounds
  settled zero g h a = inl (omega arith)
  settled (suc k) g h a =
      ⊎_elim
      (λ s. rw (turns-Still (length g) g (omega arith) s, rounds-Still k g s) s)
      (λ l. settled k (turns period most (length g) g) (sum_within g h) (omega arith))
      (moves g h)

  pub length-rounds : (k : ℕ) (g : List ℕ) → length (rounds period most k g) ≡ length g
  unfolding rounds
  length-rounds zero g = refl
  length-rounds (suc k) g = length-rounds k (turns period most (length g) g) ∙ length-turns (length g) g

  pub sum-rounds : (k : ℕ) (g : List ℕ) → sum g ≤ period → sum (rounds period most k g) ≤ period
  unfolding rounds
  sum-rounds zero g h = h
  sum-rounds (suc k) g h = sum-rounds k (turns period most (length g) g) (sum_within g h)

  -- nobody gets more than its most
  abbrev pub Bounded : List ℕ → Type 0
  Bounded g = (i : ℕ) → get_or g i 0 ≤ most i

  turn-Bounded : (n : ℕ) (g : List ℕ) → n < length g → Bounded g → Bounded (turn period most n g)
  turn-Bounded n g h b i =
      let w = extra (min 1 (period - sum g)) (get_or g n 0) (most n) in
      rw (turn_is n g)
      (by (eqb i n) refl w
      (⊎_elim
      (λ r. omega (arith, extra_some (min 1 (period - sum g)) (get_or g n 0) (most n) r))
      (λ r. omega (arith, b n, extra_none (min 1 (period - sum g)) (get_or g n 0) (most n) r))
      (below_or_not (get_or g n 0) (most n))))
    where
      by : (t : Bool) → eqb i n ≡ t → (w : ℕ) → get_or g n 0 + w ≤ most n → get_or (set g n (get_or g n 0 + w)) i 0 ≤ most i
      by true e w q = rw (eqb-true i n e, get_or-set_same g n (get_or g n 0 + w) 0 h) q
      by false e w q = rw (get_or-set_other g n i (get_or g n 0 + w) 0 (eqb-false i n e)) (b i)

  turns-Bounded : (n : ℕ) (g : List ℕ) → n ≤ length g → Bounded g → Bounded (turns period most n g)
  unfolding turns
  turns-Bounded zero g h b = b
  turns-Bounded (suc n) g h b = turn-Bounded n (turns period most n g) (omega (arith, length-turns n g)) (turns-Bounded n g (omega arith) b)

  pub rounds-Bounded : (k : ℕ) (g : List ℕ) → Bounded g → Bounded (rounds period most k g)
  unfolding rounds
  rounds-Bounded zero g b = b
  rounds-Bounded (suc k) g b = rounds-Bounded k (turns period most (length g) g) (turns-Bounded (length g) g (omega arith) b)
