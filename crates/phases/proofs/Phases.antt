-- The laws of phases: words for all that have room at once are whole rounds, and with the last round they are all rounds.
use Prim.Native.Nat.{ℕ, zero, suc, ◌+◌, ◌*◌, ◌-◌, ◌/◌, ◌^◌, ◌<◌, ◌≤◌, min}
use native.Mathlib.Omega.{arith}
use native.Mathlib.Nat.{eq-or-lt_of_le, le_trans, mul-le-mul_left, mul-le-mul_right, div-mul-le_self, div-add-mod', mod-lt}
use mathlib.Core.Path.{◌≡◌, refl, sym, ◌∙◌, ap}
use mathlib.Core.List.{List}
use mathlib.Core.Logic.{◌⊎◌, inl, inr, ⊎_elim}
use lib.ListN.{length, get_or, set, length-set}
use lib.Seq.{get_or-set_same, get_or-set_other, set-get_or, ext_get_or}
use borrow.Author.Tests.{lt-ltb, le-ltb}
use Rattle.phases.specs.Round.{sum, turns, rounds}
use Rattle.phases.specs.Phase.{extra, raised, roomy, narrowed, least_room, Fitting}
use Rattle.phases.proofs.Turns.{below_or_not, sum-set, extra_some, extra_none, turn_is, sum-turns, turns_later, no_room, rounds-Still, enough, rounds-add}

module _ (most : ℕ → ℕ) where
  pub length-raised : (k n : ℕ) (g : List ℕ) → length (raised k most n g) ≡ length g
  unfolding raised
  length-raised k zero g = refl
  length-raised k (suc n) g = rw (length-set) (length-raised k n g)

  pub raised_later : (k n j : ℕ) (g : List ℕ) → n ≤ j → get_or (raised k most n g) j 0 ≡ get_or g j 0
  unfolding raised
  raised_later k zero j g h = refl
  raised_later k (suc n) j g h =
      let t = raised k most n g in
      rw (get_or-set_other t n j (get_or t n 0 + extra k (get_or t n 0) (most n)) 0 (λ e. omega arith)) (raised_later k n j g (omega arith))

  pub get_d_raised : (k n j : ℕ) (g : List ℕ) → j < n → n ≤ length g → get_or (raised k most n g) j 0 ≡ get_or g j 0 + extra k (get_or g j 0) (most j)
  unfolding raised
  get_d_raised k zero j g l h = absurd (omega arith)
  get_d_raised k (suc n) j g l h =
      let t = raised k most n g in
      ⊎_elim
      (λ e. rw (e, get_or-set_same t n (get_or t n 0 + extra k (get_or t n 0) (most n)) 0 (omega (arith, length-raised k n g)), raised_later k n n g (omega arith)))
      (λ m. rw (get_or-set_other t n j (get_or t n 0 + extra k (get_or t n 0) (most n)) 0 (λ e. omega arith)) (get_d_raised k n j g m (omega arith)))
      (eq-or-lt_of_le {n = j} {m = n} (omega arith))

  pub sum-raised : (k n : ℕ) (g : List ℕ) → n ≤ length g → sum (raised k most n g) ≡ sum g + k * roomy most n g
  unfolding raised roomy
  sum-raised k zero g h = omega arith
  sum-raised k (suc n) g h =
      let t = raised k most n g in
      let x : get_or t n 0 ≡ get_or g n 0 = raised_later k n n g (omega arith) in
      let s : sum (set t n (get_or t n 0 + extra k (get_or t n 0) (most n))) + get_or t n 0 ≡ sum t + (get_or t n 0 + extra k (get_or t n 0) (most n)) = sum-set t n (get_or t n 0 + extra k (get_or t n 0) (most n)) (omega (arith, length-raised k n g)) in
      let e : sum t ≡ sum g + k * roomy most n g = sum-raised k n g (omega arith) in
      ⊎_elim
      (λ r.
      let p : k * (roomy most n g + extra 1 (get_or g n 0) (most n)) ≡ k * roomy most n g + k = rw (extra_some 1 (get_or g n 0) (most n) r) (times k (roomy most n g)) in
      omega (arith, extra_some k (get_or t n 0) (most n) (omega arith)))
      (λ r.
      let p : k * (roomy most n g + extra 1 (get_or g n 0) (most n)) ≡ k * roomy most n g = ap (λ (z : ℕ). k * z) (omega (arith, extra_none 1 (get_or g n 0) (most n) r)) in
      omega (arith, extra_none k (get_or t n 0) (most n) (omega arith)))
      (below_or_not (get_or g n 0) (most n))
    where
      times : (k m : ℕ) → k * (m + 1) ≡ k * m + k
      times k m = omega arith

  raised_none : (n : ℕ) (g : List ℕ) → raised 0 most n g ≡ g
  unfolding raised extra
  raised_none zero g = refl
  raised_none (suc n) g =
      let z : get_or g n 0 + extra 0 (get_or g n 0) (most n) ≡ get_or g n 0 = ⊎_elim (λ r. omega (arith, extra_some 0 (get_or g n 0) (most n) r)) (λ r. omega (arith, extra_none 0 (get_or g n 0) (most n) r)) (below_or_not (get_or g n 0) (most n)) in
      rw (raised_none n g, z) (set-get_or g n 0)

  -- one word to each, and then k: k + 1
  raised_more : (k : ℕ) (g : List ℕ) → Fitting (suc k) most g → raised k most (length g) (raised 1 most (length g) g) ≡ raised (suc k) most (length g) g
  raised_more k g f =
      let n = length g in
      let t = raised 1 most n g in
      ext_get_or 0 (raised k most n t) (raised (suc k) most n g) (length-raised k n t ∙ (length-raised 1 n g ∙ sym (length-raised (suc k) n g)))
      (λ i h.
      let l : i < n = omega (arith, length-raised k n t, length-raised 1 n g) in
      let a : get_or (raised k most n t) i 0 ≡ get_or t i 0 + extra k (get_or t i 0) (most i) = get_d_raised k n i t l (omega (arith, length-raised 1 n g)) in
      let b : get_or t i 0 ≡ get_or g i 0 + extra 1 (get_or g i 0) (most i) = get_d_raised 1 n i g l (omega arith) in
      let c : get_or (raised (suc k) most n g) i 0 ≡ get_or g i 0 + extra (suc k) (get_or g i 0) (most i) = get_d_raised (suc k) n i g l (omega arith) in
      ⊎_elim
      (λ r.
      ⊎_elim
      (λ q. omega (arith, extra_some 1 (get_or g i 0) (most i) r, extra_some (suc k) (get_or g i 0) (most i) r, extra_some k (get_or t i 0) (most i) q))
      (λ q. omega (arith, f i l r, extra_some 1 (get_or g i 0) (most i) r, extra_some (suc k) (get_or g i 0) (most i) r, extra_none k (get_or t i 0) (most i) q))
      (below_or_not (get_or t i 0) (most i)))
      (λ r.
      let z : extra 1 (get_or g i 0) (most i) ≡ 0 = extra_none 1 (get_or g i 0) (most i) r in
      omega (arith, extra_none (suc k) (get_or g i 0) (most i) r, extra_none k (get_or t i 0) (most i) (omega arith)))
      (below_or_not (get_or g i 0) (most i)))

  Fitting-less : (k : ℕ) (g : List ℕ) → Fitting (suc k) most g → Fitting k most (raised 1 most (length g) g)
  Fitting-less k g f i h r =
      let l : i < length g = omega (arith, length-raised 1 (length g) g) in
      let b : get_or (raised 1 most (length g) g) i 0 ≡ get_or g i 0 + extra 1 (get_or g i 0) (most i) = get_d_raised 1 (length g) i g l (omega arith) in
      ⊎_elim
      (λ q. omega (arith, f i l q, extra_some 1 (get_or g i 0) (most i) q))
      (λ q. absurd (omega (arith, extra_none 1 (get_or g i 0) (most i) q)))
      (below_or_not (get_or g i 0) (most i))

  -- who has no room gets none by that of others
  pub roomy_less : (n : ℕ) (g t : List ℕ) → ((i : ℕ) → i < n → get_or g i 0 ≤ get_or t i 0) → roomy most n t ≤ roomy most n g
  unfolding roomy
  roomy_less zero g t h = omega arith
  roomy_less (suc n) g t h =
      let e : roomy most n t ≤ roomy most n g = roomy_less n g t (λ i l. h i (omega arith)) in
      ⊎_elim
      (λ q. omega (arith, extra_some 1 (get_or t n 0) (most n) q, extra_some 1 (get_or g n 0) (most n) (omega (arith, h n (omega arith)))))
      (λ q. omega (arith, extra_none 1 (get_or t n 0) (most n) q))
      (below_or_not (get_or t n 0) (most n))

  -- who loses the last room makes them fewer
  roomy_fewer : (n : ℕ) (g t : List ℕ) → ((i : ℕ) → i < n → get_or g i 0 ≤ get_or t i 0) → (j : ℕ) → j < n → get_or g j 0 < most j → most j ≤ get_or t j 0
      → roomy most n t < roomy most n g
  unfolding roomy
  roomy_fewer zero g t h j l r q = absurd (omega arith)
  roomy_fewer (suc n) g t h j l r q =
      ⊎_elim
      (λ e. omega (arith, roomy_less n g t (λ i m. h i (omega arith)), extra_some 1 (get_or g n 0) (most n) (rw e at r), extra_none 1 (get_or t n 0) (most n) (rw e at q)))
      (λ m.
      let x : roomy most n t < roomy most n g = roomy_fewer n g t (λ i m. h i (omega arith)) j m r q in
      ⊎_elim
      (λ z. omega (arith, extra_some 1 (get_or t n 0) (most n) z, extra_some 1 (get_or g n 0) (most n) (omega (arith, h n (omega arith)))))
      (λ z. omega (arith, extra_none 1 (get_or t n 0) (most n) z))
      (below_or_not (get_or t n 0) (most n)))
      (eq-or-lt_of_le {n = j} {m = n} (omega arith))

  -- ---- the least room

  narrowed_some : (k g m : ℕ) → g < m → narrowed k g m ≡ min k (m - g)
  unfolding narrowed
  narrowed_some k g m h = rw (lt-ltb g m h)

  narrowed_none : (k g m : ℕ) → m ≤ g → narrowed k g m ≡ k
  unfolding narrowed
  narrowed_none k g m h = rw (le-ltb g m h)

  pub least_fits : (n : ℕ) (g : List ℕ) (i : ℕ) → i < n → get_or g i 0 < most i → get_or g i 0 + least_room most n g ≤ most i
  unfolding least_room
  least_fits zero g i l r = absurd (omega arith)
  least_fits (suc n) g i l r =
      let k = least_room most n g in
      ⊎_elim
      (λ e. rw e (let q : get_or g n 0 < most n = rw e at r in omega (arith, narrowed_some k (get_or g n 0) (most n) q)))
      (λ m.
      let f : get_or g i 0 + k ≤ most i = least_fits n g i m r in
      ⊎_elim
      (λ z. omega (arith, narrowed_some k (get_or g n 0) (most n) z))
      (λ z. omega (arith, narrowed_none k (get_or g n 0) (most n) z))
      (below_or_not (get_or g n 0) (most n)))
      (eq-or-lt_of_le {n = i} {m = n} (omega arith))

  -- a routine whose room is so many words
  pub record Filled (k n : ℕ) (g : List ℕ) : Type 0 where
    pub at : ℕ
    pub below : at < n
    pub some : get_or g at 0 < most at
    pub room : get_or g at 0 + k ≡ most at

  later : (n : ℕ) (g : List ℕ) (k : ℕ) → (k ≡ 2 ^ 32 - 1) ⊎ Filled k n g → (k ≡ 2 ^ 32 - 1) ⊎ Filled k (suc n) g
  later n g k s = ⊎_elim (λ e. inl e) (λ f. inr (record { at = f.at; below = omega (arith, f.below); some = f.some; room = f.room })) s

  least_Filled : (n : ℕ) (g : List ℕ) → (least_room most n g ≡ 2 ^ 32 - 1) ⊎ Filled (least_room most n g) n g
  unfolding least_room
  least_Filled zero g = inl refl
  least_Filled (suc n) g =
      let k = least_room most n g in
      ⊎_elim
      (λ r.
      let e : narrowed k (get_or g n 0) (most n) ≡ min k (most n - get_or g n 0) = narrowed_some k (get_or g n 0) (most n) r in
      ⊎_elim
      (λ q. let z : narrowed k (get_or g n 0) (most n) ≡ k = omega arith in rw z (later n g k (least_Filled n g)))
      (λ q. inr (record { at = n; below = omega arith; some = r; room = omega arith }))
      (below_or_not k (most n - get_or g n 0)))
      (λ r. rw (narrowed_none k (get_or g n 0) (most n) r) (later n g k (least_Filled n g)))
      (below_or_not (get_or g n 0) (most n))

  -- a room that is as large as a word can be is that of whoever has room
  any : (n : ℕ) (g : List ℕ) (k : ℕ) → k ≡ 2 ^ 32 - 1 → ((i : ℕ) → i < n → get_or g i 0 < most i → get_or g i 0 + k ≤ most i) → ((i : ℕ) → most i < 2 ^ 32)
      → 0 < roomy most n g → Filled k n g
  unfolding roomy
  any zero g k e f small some = absurd (omega arith)
  any (suc n) g k e f small some =
      ⊎_elim
      (λ r. record { at = n; below = omega arith; some = r; room = omega (arith, f n (omega arith) r, small n) })
      (λ r.
      let x : Filled k n g = any n g k e (λ i l q. f i (omega arith) q) small (omega (arith, extra_none 1 (get_or g n 0) (most n) r)) in
      record { at = x.at; below = omega (arith, x.below); some = x.some; room = x.room })
      (below_or_not (get_or g n 0) (most n))

  -- after a phase of the least room fewer have room
  pub fewer : (g : List ℕ) → ((i : ℕ) → most i < 2 ^ 32) → 0 < roomy most (length g) g
      → roomy most (length g) (raised (least_room most (length g) g) most (length g) g) < roomy most (length g) g
  fewer g small some =
      let n = length g in
      let k = least_room most n g in
      let t = raised k most n g in
      let grows : (i : ℕ) → i < n → get_or g i 0 ≤ get_or t i 0 = λ i h. omega (arith, get_d_raised k n i g h (omega arith)) in
      let by : Filled k n g → roomy most n t < roomy most n g =
      λ f.
      roomy_fewer n g t grows f.at f.below f.some
      (omega (arith, f.room, get_d_raised k n f.at g f.below (omega arith), extra_some k (get_or g f.at 0) (most f.at) f.some)) in
      ⊎_elim
      (λ e. by (any n g k e (least_fits n g) small some))
      by
      (least_Filled n g)

  module _ (period : ℕ) where
    -- a round in which the words suffice is one word to each that has room
    turns-raised : (n : ℕ) (g : List ℕ) → n ≤ length g → sum g + roomy most n g ≤ period → turns period most n g ≡ raised 1 most n g
    unfolding turns raised roomy
    turns-raised zero g h s = refl
    turns-raised (suc n) g h s =
        let t = turns period most n g in
        let e : t ≡ raised 1 most n g = turns-raised n g (omega arith) (omega arith) in
        let x : get_or t n 0 ≡ get_or g n 0 = turns_later period most n n g (omega arith) in
        let u : sum t ≡ min period (sum g + roomy most n g) = sum-turns period most n g (omega arith) (omega arith) in
        let w : extra (min 1 (period - sum t)) (get_or t n 0) (most n) ≡ extra 1 (get_or t n 0) (most n) =
        ⊎_elim
        (λ r. omega (arith, extra_some (min 1 (period - sum t)) (get_or t n 0) (most n) (omega arith), extra_some 1 (get_or t n 0) (most n) (omega arith), extra_some 1 (get_or g n 0) (most n) r))
        (λ r. omega (arith, extra_none (min 1 (period - sum t)) (get_or t n 0) (most n) (omega arith), extra_none 1 (get_or t n 0) (most n) (omega arith)))
        (below_or_not (get_or g n 0) (most n)) in
        turn_is period most n t ∙ (ap (λ (z : ℕ). set t n (get_or t n 0 + z)) w ∙ ap (λ (l : List ℕ). set l n (get_or l n 0 + extra 1 (get_or l n 0) (most n))) e)

    -- whole rounds at once
    whole : (k : ℕ) (g : List ℕ) → Fitting k most g → sum g + k * roomy most (length g) g ≤ period → rounds period most k g ≡ raised k most (length g) g
    unfolding rounds
    whole zero g f s = sym (raised_none (length g) g)
    whole (suc k) g f s =
        let n = length g in
        let t = raised 1 most n g in
        let m = roomy most n g in
        let p : suc k * m ≡ k * m + m = times k m in
        let e : turns period most n g ≡ t = turns-raised n g (omega arith) (omega arith) in
        let l : length t ≡ n = length-raised 1 n g in
        let u : sum t ≡ sum g + 1 * m = sum-raised 1 n g (omega arith) in
        let less : roomy most (length t) t ≤ m = rw l (roomy_less n g t (λ i h. omega (arith, get_d_raised 1 n i g h (omega arith)))) in
        let v : k * roomy most (length t) t ≤ k * m = mul-le-mul_left k less in
        rw e
        (whole k t (Fitting-less k g f) (omega arith) ∙ (rw l (raised_more k g f)))
      where
        times : (k m : ℕ) → suc k * m ≡ k * m + m
        times k m = omega arith

    -- a phase: the rounds that are left give what all would have given
    pub phase : (k : ℕ) (g : List ℕ) → Fitting k most g → sum g + k * roomy most (length g) g ≤ period
        → rounds period most period (raised k most (length g) g) ≡ rounds period most period g
    phase k g f s =
        ap (rounds period most period) (sym (whole k g f s))
        ∙ (sym (rounds-add period most k period g) ∙ enough period most (k + period) period g (omega arith) (omega arith) (omega arith))

    -- the last round uses the period up
    pub last : (g : List ℕ) → sum g ≤ period → period < sum g + roomy most (length g) g → turns period most (length g) g ≡ rounds period most period g
    unfolding rounds
    last g h l =
        let t = turns period most (length g) g in
        let u : sum t ≡ min period (sum g + roomy most (length g) g) = sum-turns period most (length g) g (omega arith) h in
        sym (rounds-Still period most period t (inl (omega arith))) ∙ enough period most (suc period) period g h (omega arith) (omega arith)

    -- nobody has room
    pub full : (g : List ℕ) → roomy most (length g) g ≡ 0 → g ≡ rounds period most period g
    full g e = sym (rounds-Still period most period g (inr (no_room period most (length g) g e)))

-- a phase has fewer routines with room after it, or is the last whole one
pub falls : (n m rest least k : ℕ) → n ≤ rest → 0 < n → m ≤ n → (k ≡ least → m < n) → k ≡ min least (rest / n) → m + (1 - (m - (rest - k * n))) < n + (1 - (n - rest))
falls n m rest least k h p l f e =
    ⊎_elim
    (λ r. let x : m < n = f (omega arith) in omega arith)
    (λ r.
    let q : k * n ≡ rest / n * n = ap (λ (z : ℕ). z * n) (omega arith) in
    omega (arith, last n rest p))
    (below_or_not least (rest / n))
  where
    last : (n rest : ℕ) → 0 < n → rest < rest / n * n + n
    last n rest p = omega (arith, div-add-mod' rest n, mod-lt rest p)

-- ---- a turn of the loop over phases

module _ (period : ℕ) (most : ℕ → ℕ) (g t : List ℕ) (n rest least each : ℕ) (counted : n ≡ roomy most (length g) g) (remains : sum g + rest ≡ period) where
  pub each_fits : least ≡ least_room most (length g) g → each ≡ min least (rest / n) → Fitting each most g
  each_fits e q i h r = omega (arith, least_fits most (length g) g i h r)

  pub each_within : each ≡ min least (rest / n) → each * n ≤ rest
  each_within q = le_trans (mul-le-mul_right n (omega arith)) (div-mul-le_self rest n)

  pub remains_after : each * n ≤ rest → t ≡ raised each most (length g) g → sum t + (rest - each * n) ≡ period
  remains_after h e =
      let p : each * n ≡ each * roomy most (length g) g = ap (λ (z : ℕ). each * z) counted in
      omega (arith, ap sum e, sum-raised most each (length g) g (omega arith))

  pub rounds_after : each * n ≤ rest → Fitting each most g → t ≡ raised each most (length g) g → rounds period most period t ≡ rounds period most period g
  rounds_after h f e =
      let p : each * n ≡ each * roomy most (length g) g = ap (λ (z : ℕ). each * z) counted in
      rw e (phase most period each g f (omega arith))

  pub less_after : (m : ℕ) → ((i : ℕ) → most i < 2 ^ 32) → n ≤ rest → 0 < n → least ≡ least_room most (length g) g → each ≡ min least (rest / n)
      → t ≡ raised each most (length g) g → m ≡ roomy most (length t) t → m + (1 - (m - (rest - each * n))) < n + (1 - (n - rest))
  less_after m small h p l q e k =
      let w : length t ≡ length g = ap length e ∙ length-raised most each (length g) g in
      let x : m ≡ roomy most (length g) (raised each most (length g) g) = k ∙ (rw (w, e)) in
      falls n m rest least each h p
      (omega (arith, roomy_less most (length g) g (raised each most (length g) g) (λ i b. omega (arith, get_d_raised most each (length g) i g b (omega arith)))))
      (λ z.
      let y : roomy most (length g) (raised (least_room most (length g) g) most (length g) g) < roomy most (length g) g = fewer most g small (omega arith) in
      omega (arith, ap (λ (b : ℕ). roomy most (length g) (raised b most (length g) g)) (z ∙ l)))
      q

  pub last_round : rest < n → t ≡ turns (sum g + rest) most (length g) g → t ≡ rounds period most period g
  last_round h e = e ∙ (rw remains (last most period g (omega arith) (omega arith)))

  pub no_round : n ≡ 0 → g ≡ rounds period most period g
  no_round h = full most period g (omega arith)
