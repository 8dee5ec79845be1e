-- Pairs that are laid last first, and turned round.
use Prim.Native.Nat.{ℕ, zero, suc, ◌+◌, ◌-◌, ◌*◌, ◌/◌, ◌<◌, ◌≤◌}
use native.Mathlib.Omega.{arith}
use native.Mathlib.Decide.{dec_lt, ℕ_discrete}
use mathlib.Core.Path.{◌≡◌, refl, ap, sym, ◌∙◌, subst}
use mathlib.Core.Logic.{◌⊎◌, inl, inr}
use mathlib.Core.List.{List, [], ◌∷◌, ◌++◌}
use lib.ListN.{length, get_or, set, drop, length-set, length-append, length-drop}
use lib.Seq.{get_or-set_same, get_or-set_other, get_or-drop, get_or-append-add, ext_get_or}
use lib.ListN.{get_or-append}
use Rattle.machine.specs.Place.{number}
use Rattle.chains.specs.Chain.{Pair}
use Rattle.links.specs.Pairs.{numbers, with_pair, laid, swapped, Turned}

-- ---- one pair

module _ (k v w : ℕ) (l : List ℕ) where
  pub pair_length : length (with_pair k v w l) ≡ length l
  pair_length = simp length-set

  pub pair_index : 2 * k + 1 < length l → get_or (with_pair k v w l) (2 * k) 0 ≡ v
  pair_index h = get_or-set_other (set l (2 * k) v) (2 * k + 1) (2 * k) w 0 (λ e. omega arith) ∙ get_or-set_same l (2 * k) v 0 (omega arith)

  pub pair_place : 2 * k + 1 < length l → get_or (with_pair k v w l) (2 * k + 1) 0 ≡ w
  pair_place h = get_or-set_same (set l (2 * k) v) (2 * k + 1) w 0 (simp length-set h)

  pub pair_other : (t : ℕ) → (t ≡ 2 * k → ⊥) → (t ≡ 2 * k + 1 → ⊥) → get_or (with_pair k v w l) t 0 ≡ get_or l t 0
  pair_other t a b = get_or-set_other (set l (2 * k) v) (2 * k + 1) t w 0 b ∙ get_or-set_other l (2 * k) t v 0 a

-- ---- pairs from pair k on

pub laid-length : (l : List ℕ) (k : ℕ) (ps : List Pair) → length (laid l k ps) ≡ length l
laid-length l k [] = refl
laid-length l k (x ∷ ps) = pair_length (k + length ps) x.index (number x.place) (laid l k ps) ∙ laid-length l k ps

module _ (l : List ℕ) where
  laid_rest : (ps : List Pair) (t : ℕ) → 2 * length ps ≤ t → get_or (laid l 0 ps) t 0 ≡ get_or l t 0
  laid_rest [] t h = refl
  laid_rest (x ∷ ps) t h =
      pair_other (0 + length ps) x.index (number x.place) (laid l 0 ps) t (λ e. omega arith) (λ e. omega arith) ∙ laid_rest ps t (omega arith)

  -- pair n - 1 - s is the s-th
  laid_index : (ps : List Pair) → 2 * length ps ≤ length l → (s : ℕ) → s < length ps → get_or (laid l 0 ps) (2 * (length ps - 1 - s)) 0 ≡ get_or (numbers ps) (2 * s) 0
  laid_index [] h s z = absurd (omega arith)
  laid_index (x ∷ ps) h zero z =
      let e : 2 * (suc (length ps) - 1 - 0) ≡ 2 * (0 + length ps) = omega arith in
      rw e (pair_index (0 + length ps) x.index (number x.place) (laid l 0 ps) (omega (arith, laid-length l 0 ps)))
  laid_index (x ∷ ps) h (suc s) z =
      let e : 2 * (suc (length ps) - 1 - suc s) ≡ 2 * (length ps - 1 - s) = omega arith in
      let g : 2 * suc s ≡ suc (suc (2 * s)) = omega arith in
      rw (e, g)
      (pair_other (0 + length ps) x.index (number x.place) (laid l 0 ps) (2 * (length ps - 1 - s)) (λ i. omega arith) (λ i. omega arith)
      ∙ laid_index ps (omega arith) s (omega arith))

  laid_place : (ps : List Pair) → 2 * length ps ≤ length l → (s : ℕ) → s < length ps → get_or (laid l 0 ps) (2 * (length ps - 1 - s) + 1) 0 ≡ get_or (numbers ps) (2 * s + 1) 0
  laid_place [] h s z = absurd (omega arith)
  laid_place (x ∷ ps) h zero z =
      let e : 2 * (suc (length ps) - 1 - 0) + 1 ≡ 2 * (0 + length ps) + 1 = omega arith in
      rw e (pair_place (0 + length ps) x.index (number x.place) (laid l 0 ps) (omega (arith, laid-length l 0 ps)))
  laid_place (x ∷ ps) h (suc s) z =
      let e : 2 * (suc (length ps) - 1 - suc s) + 1 ≡ 2 * (length ps - 1 - s) + 1 = omega arith in
      let g : 2 * suc s + 1 ≡ suc (suc (2 * s + 1)) = omega arith in
      rw (e, g)
      (pair_other (0 + length ps) x.index (number x.place) (laid l 0 ps) (2 * (length ps - 1 - s) + 1) (λ i. omega arith) (λ i. omega arith)
      ∙ laid_place ps (omega arith) s (omega arith))

numbers-length : (ps : List Pair) → length (numbers ps) ≡ 2 * length ps
numbers-length [] = refl
numbers-length (x ∷ ps) = let e = numbers-length ps in omega arith

-- turned round they stand in order
pub turned : (l l' : List ℕ) (ps : List Pair) → 2 * length ps ≤ length l → Turned (length ps) (laid l 0 ps) l' → l' ≡ numbers ps ++ drop (2 * length ps) l
turned l l' ps h r = ext_get_or 0 l' (numbers ps ++ drop (2 * length ps) l) same at
  where
    same : length l' ≡ length (numbers ps ++ drop (2 * length ps) l)
    same =
        let a = length-append (numbers ps) (drop (2 * length ps) l) in
        let b = length-drop (2 * length ps) l in
        let c = numbers-length ps in
        let d = laid-length l 0 ps in
        let e = r.size in
        omega arith

    front : (t : ℕ) → t < 2 * length ps → get_or (numbers ps ++ drop (2 * length ps) l) t 0 ≡ get_or (numbers ps) t 0
    front t z = get_or-append (numbers ps) (drop (2 * length ps) l) 0 t (omega (arith, numbers-length ps))

    at : (t : ℕ) → t < length l' → get_or l' t 0 ≡ get_or (numbers ps ++ drop (2 * length ps) l) t 0
    at t z = by (dec_lt t (2 * length ps)) (ℕ_discrete t (2 * (t / 2)))
      where
        by : Dec (t < 2 * length ps) → Dec (t ≡ 2 * (t / 2)) → get_or l' t 0 ≡ get_or (numbers ps ++ drop (2 * length ps) l) t 0
        by (yes a) (yes b) =
            ap (λ (j : ℕ). get_or l' j 0) b ∙ r.index (t / 2) (omega arith) ∙ laid_index l ps h (t / 2) (omega arith) ∙ ap (λ (j : ℕ). get_or (numbers ps) j 0) (sym b) ∙ sym (front t a)
        by (yes a) (no b) =
            let e : t ≡ 2 * (t / 2) + 1 = omega (arith, b) in
            ap (λ (j : ℕ). get_or l' j 0) e ∙ r.place (t / 2) (omega arith) ∙ laid_place l ps h (t / 2) (omega arith) ∙ ap (λ (j : ℕ). get_or (numbers ps) j 0) (sym e) ∙ sym (front t a)
        by (no a) b =
            let e : t ≡ length (numbers ps) + (t - 2 * length ps) = omega (arith, a, numbers-length ps) in
            let g : t ≡ 2 * length ps + (t - 2 * length ps) = omega (arith, a) in
            r.rest t (omega (arith, a)) ∙ laid_rest l ps t (omega (arith, a)) ∙ ap (λ (j : ℕ). get_or l j 0) g ∙ sym (get_or-drop (2 * length ps) l (t - 2 * length ps) 0)
            ∙ sym (get_or-append-add (numbers ps) (drop (2 * length ps) l) (t - 2 * length ps) 0) ∙ ap (λ (j : ℕ). get_or (numbers ps ++ drop (2 * length ps) l) j 0) (sym e)

-- ---- turning round, from both ends

-- i pairs from the front and those from j on have changed places
pub record Turning (n i j : ℕ) (l x : List ℕ) : Type 0 where
  pub size : length x ≡ length l
  pub sum : i + j ≡ n
  pub outer_index : (t : ℕ) → t < n → (t < i) ⊎ (j ≤ t) → get_or x (2 * t) 0 ≡ get_or l (2 * (n - 1 - t)) 0
  pub outer_place : (t : ℕ) → t < n → (t < i) ⊎ (j ≤ t) → get_or x (2 * t + 1) 0 ≡ get_or l (2 * (n - 1 - t) + 1) 0
  pub inner : (t : ℕ) → 2 * i ≤ t → t < 2 * j → get_or x t 0 ≡ get_or l t 0
  pub rest : (t : ℕ) → 2 * n ≤ t → get_or x t 0 ≡ get_or l t 0

pub turn_none : (n : ℕ) (l : List ℕ) → Turning n 0 n l l
turn_none n l =
    record {
      size = refl;
      sum = omega arith;
      outer_index = λ t h o. absurd (outside t h o);
      outer_place = λ t h o. absurd (outside t h o);
      inner = λ t a b. refl;
      rest = λ t a. refl;
    }
  where
    outside : (t : ℕ) → t < n → (t < 0) ⊎ (n ≤ t) → ⊥
    outside t h (inl a) = omega arith
    outside t h (inr a) = omega arith

pub turn_end : (n i j : ℕ) (l x : List ℕ) → j ≤ i + 1 → Turning n i j l x → Turned n l x
turn_end n i j l x h r =
    record {
      size = r.size;
      index = λ t a. by t a (dec_lt t i) (dec_lt t j);
      place = λ t a. at t a (dec_lt t i) (dec_lt t j);
      rest = r.rest;
    }
  where
    by : (t : ℕ) → t < n → Dec (t < i) → Dec (t < j) → get_or x (2 * t) 0 ≡ get_or l (2 * (n - 1 - t)) 0
    by t a (yes b) c = r.outer_index t a (inl b)
    by t a (no b) (no c) = r.outer_index t a (inr (omega (arith, c)))
    by t a (no b) (yes c) = let e : 2 * (n - 1 - t) ≡ 2 * t = omega (arith, b, r.sum) in r.inner (2 * t) (omega (arith, b)) (omega arith) ∙ ap (λ (k : ℕ). get_or l k 0) (sym e)

    at : (t : ℕ) → t < n → Dec (t < i) → Dec (t < j) → get_or x (2 * t + 1) 0 ≡ get_or l (2 * (n - 1 - t) + 1) 0
    at t a (yes b) c = r.outer_place t a (inl b)
    at t a (no b) (no c) = r.outer_place t a (inr (omega (arith, c)))
    at t a (no b) (yes c) =
        let e : 2 * (n - 1 - t) + 1 ≡ 2 * t + 1 = omega (arith, b, r.sum) in r.inner (2 * t + 1) (omega (arith, b)) (omega arith) ∙ ap (λ (k : ℕ). get_or l k 0) (sym e)

-- one more from each end: j is the one before
pub turn_one : (n i j : ℕ) (l x : List ℕ) → 2 * n ≤ length l → i < j → Turning n i (j + 1) l x
    → Turning n (i + 1) j l (swapped i j x)
turn_one n i j l x h z r =
    record {
      size = pair_length j a b y ∙ pair_length i c d x ∙ r.size;
      sum = omega (arith, r.sum);
      outer_index = λ t g o. index t g o (ℕ_discrete t i) (ℕ_discrete t j);
      outer_place = λ t g o. place t g o (ℕ_discrete t i) (ℕ_discrete t j);
      inner = λ t g o. away t (λ e. omega arith) (λ e. omega arith) (λ e. omega arith) (λ e. omega arith) ∙ r.inner t (omega arith) (omega arith);
      rest = λ t g. away t (λ e. omega (arith, r.sum)) (λ e. omega (arith, r.sum)) (λ e. omega (arith, r.sum)) (λ e. omega (arith, r.sum)) ∙ r.rest t g;
    }
  where
    a : ℕ
    a = get_or x (2 * i) 0

    b : ℕ
    b = get_or x (2 * i + 1) 0

    c : ℕ
    c = get_or x (2 * j) 0

    d : ℕ
    d = get_or x (2 * j + 1) 0

    y : List ℕ
    y = with_pair i c d x

    away : (t : ℕ) → (t ≡ 2 * i → ⊥) → (t ≡ 2 * i + 1 → ⊥) → (t ≡ 2 * j → ⊥) → (t ≡ 2 * j + 1 → ⊥) → get_or (with_pair j a b y) t 0 ≡ get_or x t 0
    away t p q u v = pair_other j a b y t u v ∙ pair_other i c d x t p q

    sized : 2 * j + 1 < length x
    sized = let e = r.size in let s = r.sum in omega arith

    elsewhere : (t : ℕ) → (t < i + 1) ⊎ (j ≤ t) → (t ≡ i → ⊥) → (t ≡ j → ⊥) → (t < i) ⊎ (j + 1 ≤ t)
    elsewhere t (inl o) e k = inl (omega (arith, e))
    elsewhere t (inr o) e k = inr (omega (arith, k))

    front : n - 1 - i ≡ j
    front = let s = r.sum in omega arith

    back : n - 1 - j ≡ i
    back = let s = r.sum in omega arith

    index : (t : ℕ) → t < n → (t < i + 1) ⊎ (j ≤ t) → Dec (t ≡ i) → Dec (t ≡ j) → get_or (with_pair j a b y) (2 * t) 0 ≡ get_or l (2 * (n - 1 - t)) 0
    index t g o (yes e) k =
        subst (λ (s : ℕ). get_or (with_pair j a b y) (2 * s) 0 ≡ get_or l (2 * (n - 1 - s)) 0) (sym e)
        (pair_other j a b y (2 * i) (λ f. omega arith) (λ f. omega arith) ∙ pair_index i c d x (omega (arith, sized)) ∙ r.inner (2 * j) (omega arith) (omega arith) ∙ ap (λ (s : ℕ). get_or l (2 * s) 0) (sym front))
    index t g o (no e) (yes k) =
        subst (λ (s : ℕ). get_or (with_pair j a b y) (2 * s) 0 ≡ get_or l (2 * (n - 1 - s)) 0) (sym k)
        (pair_index j a b y (omega (arith, sized, pair_length i c d x)) ∙ r.inner (2 * i) (omega arith) (omega arith) ∙ ap (λ (s : ℕ). get_or l (2 * s) 0) (sym back))
    index t g o (no e) (no k) =
        away (2 * t) (λ f. e (omega arith)) (λ f. omega arith) (λ f. k (omega arith)) (λ f. omega arith) ∙ r.outer_index t g (elsewhere t o e k)

    place : (t : ℕ) → t < n → (t < i + 1) ⊎ (j ≤ t) → Dec (t ≡ i) → Dec (t ≡ j) → get_or (with_pair j a b y) (2 * t + 1) 0 ≡ get_or l (2 * (n - 1 - t) + 1) 0
    place t g o (yes e) k =
        subst (λ (s : ℕ). get_or (with_pair j a b y) (2 * s + 1) 0 ≡ get_or l (2 * (n - 1 - s) + 1) 0) (sym e)
        (pair_other j a b y (2 * i + 1) (λ f. omega arith) (λ f. omega arith) ∙ pair_place i c d x (omega (arith, sized)) ∙ r.inner (2 * j + 1) (omega arith) (omega arith) ∙ ap (λ (s : ℕ). get_or l (2 * s + 1) 0) (sym front))
    place t g o (no e) (yes k) =
        subst (λ (s : ℕ). get_or (with_pair j a b y) (2 * s + 1) 0 ≡ get_or l (2 * (n - 1 - s) + 1) 0) (sym k)
        (pair_place j a b y (omega (arith, sized, pair_length i c d x)) ∙ r.inner (2 * i + 1) (omega arith) (omega arith) ∙ ap (λ (s : ℕ). get_or l (2 * s + 1) 0) (sym back))
    place t g o (no e) (no k) =
        away (2 * t + 1) (λ f. omega arith) (λ f. e (omega arith)) (λ f. omega arith) (λ f. k (omega arith)) ∙ r.outer_place t g (elsewhere t o e k)

pub turn_again : (n i j : ℕ) (l x y : List ℕ) → 2 * n ≤ length l → i + 1 < j → Turning n i j l x → y ≡ swapped i (j - 1) x → Turning n (i + 1) (j - 1) l y
turn_again n i j l x y h z r e =
    let g : j ≡ j - 1 + 1 = omega arith in
    rw e (turn_one n i (j - 1) l x h (omega arith) (subst (λ (k : ℕ). Turning n i k l x) g r))
