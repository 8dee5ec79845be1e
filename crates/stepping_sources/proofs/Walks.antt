-- The loops over the iterations of a stepping word: the marks before each, and the walk back.
use Prim.Native.Nat.{ℕ, suc, ◌+◌, ◌-◌, ◌*◌, ◌/◌, ◌%◌, ◌^◌, ◌<◌, ◌≤◌}
use native.Mathlib.Omega.{arith}
use native.Mathlib.Decide.{ℕ_discrete}
use mathlib.Core.Path.{◌≡◌, refl, ap, sym, ◌∙◌, subst}
use mathlib.Core.Bool.{Bool, true, false, cond}
use mathlib.Core.List.{List, [], ◌∷◌}
use lib.Dec.{eqb, ltb}
use lib.ListN.{length, get_or, set, length-set}
use lib.Seq.{get_or-set_same, get_or-set_other}
use lib.Ieee.{Format, binary32, binary64}
use borrow.Author.Tests.{lt-ltb, le-ltb}
use Rattle.machine.specs.Place.{place}
use Rattle.meaning.specs.Map.{Marks, Map, map_of, known}
use Rattle.meaning.specs.Step.{Step, Act, step_marks, after_marks, act_marks}
use Rattle.meaning.proofs.Laws.{marks_none, marks_one}
use Rattle.numbers.specs.declared.arithmetic.Arithmetic.{Arithmetic}
use Rattle.arithmetic_steps.specs.Arithmetic.{arithmetic_step}
use Rattle.sign_steps.specs.declared.sign.SignOperation.{SignOperation}
use Rattle.sign_steps.specs.Sign.{sign_step}
use Rattle.root_steps.specs.Root.{root_step}
use Rattle.short_vectors.specs.declared.vector.Vector.{Vector}
use Rattle.short_vectors.specs.Vector.{stride_of, step_of, second_of, precision, iterations_of, Vectored, Steppable}
use Rattle.registers.specs.Registers.{bank_of}
use Rattle.register_fields.specs.Fields.{reg_d, reg_n, reg_m}
use Rattle.decoding.specs.Operation.{operation_numbered, arithmetic_of}
use Rattle.chains.specs.Chain.{Pair}
use Rattle.chains.specs.Origin.{Mapped}
use Rattle.chains.proofs.Laws.{Walk, Walk-end, Walk-kept, Walk-from, Walk-Way, Mapped-after}
use Rattle.place_marks.specs.Word.{map_in, word_of}
use Rattle.place_marks.proofs.Word.{marks_word}
use Rattle.processing_marks.specs.Marked.{MarksStepped}
use Rattle.sources.specs.declared.Source.{Source}
use Rattle.sources.specs.declared.Source.TheVariants.{Kept, From}
use Rattle.sources.specs.Source.{Traced, Tracing}
use Rattle.sources.proofs.Rules.{Mapped-in}
use Rattle.links.specs.declared.Back.{Back}
use Rattle.links.specs.Pairs.{laid, with_pair, back_of, linked_in}
use Rattle.links.specs.Walked.{WalkedAct}
use Rattle.links.proofs.Laid.{laid-length}
use Rattle.links.proofs.Walking.{laid_more}
use Rattle.stepping_sources.specs.Stepping.{sign_of, step_by, steps_by, stepping_act, Befores}

-- ---- a step by the number of the operation

module _ (f : Format) (c n d a b : ℕ) where
  pub arithmetic_by : n < 10 → step_by f c n d a b ≡ arithmetic_step f c (arithmetic_of (operation_numbered n)) d a b
  arithmetic_by h = rw (lt-ltb n 10 h) refl

  pub sign_by : 10 ≤ n → n < 13 → step_by f c n d a b ≡ sign_step f (sign_of n) d b
  sign_by h g = rw (le-ltb n 10 h, lt-ltb n 13 g) refl

  pub root_by : 13 ≤ n → step_by f c n d a b ≡ root_step f c d b
  root_by h = rw (le-ltb n 10 (omega arith), le-ltb n 13 h) refl

-- ---- the registers of an iteration

iterations_few : (f : Format) (c d : ℕ) → iterations_of f c d ≤ 8
iterations_few f c d = by (ltb d (bank_of f))
  where
    by : (b : Bool) → cond b 1 (c / 2 ^ 16 % 8 + 1) ≤ 8
    by true = omega arith
    by false = omega arith

iterations_some : (f : Format) (c d : ℕ) → 0 < iterations_of f c d
iterations_some f c d = by (ltb d (bank_of f))
  where
    by : (b : Bool) → 0 < cond b 1 (c / 2 ^ 16 % 8 + 1)
    by true = omega arith
    by false = omega arith

pub one_only : (f : Format) (c d : ℕ) {t : ℕ} → t ≡ iterations_of f c d → t ≤ 1 → iterations_of f c d ≡ 1
one_only f c d e h = omega (arith, iterations_some f c d)

bank_bounds : (f : Format) → (0 < bank_of f) × (bank_of f ≤ 8)
bank_bounds binary32 = (omega arith, omega arith)
bank_bounds binary64 = (omega arith, omega arith)

stride_few : (c : ℕ) → stride_of c ≤ 2
stride_few c = by (eqb (c / 2 ^ 20 % 4) 3)
  where
    by : (b : Bool) → cond b 2 1 ≤ 2
    by true = omega arith
    by false = omega arith

-- those of the first are the word's
step_none : (f : Format) (s r : ℕ) → r ≡ step_of (bank_of f) s r 0
unfolding step_of
step_none binary32 s r = omega arith
step_none binary64 s r = omega arith

second_none : (f : Format) (s r : ℕ) → r ≡ second_of (bank_of f) s r 0
unfolding second_of
second_none f s r = by (ltb r (bank_of f))
  where
    by : (b : Bool) → r ≡ cond b r (step_of (bank_of f) s r 0)
    by true = refl
    by false = step_none f s r

first_is : (f : Format) (c n d a b : ℕ) → step_by f c n d a b ≡ steps_by f c n d a b 0
first_is f c n d a b = rw (← step_none f (stride_of c) d, ← step_none f (stride_of c) a, ← second_none f (stride_of c) b)

module _ (f : Format) (c d : ℕ) (v : Vector) (made : Vectored f c d v) where
  pub steppable : (r i : ℕ) → r < 32 → i < iterations_of f c d → Steppable v r i
  steppable r i h l =
      let z = bank_bounds f in
      record {
        bank = subst (λ (k : ℕ). 0 < k) (sym made.bank) z.0;
        few = subst (λ (k : ℕ). k ≤ 8) (sym made.bank) z.1;
        stride = subst (λ (k : ℕ). k ≤ 2) (sym made.stride) (stride_few c);
        register = h;
        iteration = omega (arith, l, iterations_few f c d);
      }

  -- a step over the registers that the vector gives
  pub iteration_is : (n a b i x y z : ℕ) → x ≡ step_of v.bank v.stride d i → y ≡ step_of v.bank v.stride a i → z ≡ second_of v.bank v.stride b i
      → step_by f c n x y z ≡ steps_by f c n d a b i
  iteration_is n a b i x y z p q r = rw (p, q, r, made.bank, made.stride) refl

-- ---- the marks before each iteration

pub record Making (f : Format) (c n d a b m : ℕ) (i : ℕ) (l : List ℕ) : Type 0 where
  pub some : 1 ≤ i
  pub few : i ≤ iterations_of f c d
  pub size : length l ≡ 8
  pub marks : (t : ℕ) → t < i → (w : List ℕ) → map_in (get_or l t 0) w ≡ after_marks t (steps_by f c n d a b) (map_in m w)

module _ (f : Format) (c n d a b m : ℕ) where
  pub make_first : (l : List ℕ) → length l ≡ 8 → get_or l 0 0 ≡ m → Making f c n d a b m 1 l
  make_first l h e =
      record {
        some = omega arith;
        few = iterations_some f c d;
        size = h;
        marks = λ t g w.
            let z : t ≡ 0 = omega arith in
            subst (λ (j : ℕ). map_in (get_or l j 0) w ≡ after_marks j (steps_by f c n d a b) (map_in m w)) (sym z)
            (ap (λ (x : ℕ). map_in x w) e ∙ marks_none (steps_by f c n d a b) (map_in m w));
      }

  pub make_index : (i : ℕ) (l : List ℕ) → Making f c n d a b m i l → i < iterations_of f c d → i < 8
  make_index i l h z = omega (arith, iterations_few f c d)

  pub make_more : (i y : ℕ) (l : List ℕ) (x : Step) → Making f c n d a b m i l → i < iterations_of f c d → x ≡ steps_by f c n d a b (i - 1) → MarksStepped x (get_or l (i - 1) 0) y
      → Making f c n d a b m (i + 1) (set l i y)
  make_more i y l x h z e s =
      record {
        some = omega arith;
        few = omega (arith, z);
        size = simp length-set h.size;
        marks = λ t g w. by t g w (ℕ_discrete t i);
      }
    where
      by : (t : ℕ) → t < i + 1 → (w : List ℕ) → Dec (t ≡ i) → map_in (get_or (set l i y) t 0) w ≡ after_marks t (steps_by f c n d a b) (map_in m w)
      by t g w (no k) = ap (λ (x : ℕ). map_in x w) (get_or-set_other l i t y 0 k) ∙ h.marks t (omega (arith, k)) w
      by t g w (yes k) =
          let o : i - 1 + 1 ≡ i = omega (arith, h.some) in
          subst (λ (j : ℕ). map_in (get_or (set l i y) j 0) w ≡ after_marks j (steps_by f c n d a b) (map_in m w)) (sym k)
          (ap (λ (x : ℕ). map_in x w) (get_or-set_same l i y 0 (omega (arith, h.size, make_index i l h z))) ∙ s w ∙ ap (λ (p : Step). step_marks p (map_in (get_or l (i - 1) 0) w)) e
          ∙ subst (λ (j : ℕ). step_marks (steps_by f c n d a b (i - 1)) (map_in (get_or l (i - 1) 0) w) ≡ after_marks j (steps_by f c n d a b) (map_in m w)) o
          (marks_one (i - 1) (steps_by f c n d a b) (map_in m w) (map_in (get_or l (i - 1) 0) w) (h.marks (i - 1) (omega (arith, h.some)) w)))

  pub made : (i : ℕ) (l : List ℕ) → Making f c n d a b m i l → iterations_of f c d ≤ i → Befores f c n d a b m l
  made i l h z = record { size = h.size; marks = λ t g. h.marks t (omega (arith, g, z)) }

-- ---- one iteration back

-- every map of all registers is that of a word of marks
as_word : (μ : Map) → Mapped μ → map_in (word_of μ.marks) μ.words ≡ μ
unfolding map_in
as_word μ h = ap (λ (k : Marks). map_of k μ.words) (marks_word μ.marks h.s h.r)

module _ (f : Format) (c n d a b m : ℕ) where
  abbrev before : ℕ → List ℕ → Map
  before j w = after_marks j (steps_by f c n d a b) (map_in m w)

  -- s is one step back from place p through iteration j
  abbrev Leads : ℕ → ℕ → Source → Type 0
  Leads j p s = (w : List ℕ) → known (before (suc j) w) (place p) ≡ false → Traced (steps_by f c n d a b j) (before j w) p s

  module _ (j p : ℕ) (s : Source) {x : Step} (e : x ≡ steps_by f c n d a b j) where
    led : (y : ℕ) (v w : List ℕ) → map_in y v ≡ before j w → Tracing x y p s → known (before (suc j) w) (place p) ≡ false → Traced (steps_by f c n d a b j) (before j w) p s
    unfolding after_marks
    led y v w g t = subst (λ (ν : Map). known (step_marks (steps_by f c n d a b j) ν) (place p) ≡ false → Traced (steps_by f c n d a b j) ν p s) g (subst (λ (z : Step). Tracing z y p s) e t v)

    -- by the marks before it
    pub by_marks : (y : ℕ) → ((w : List ℕ) → map_in y w ≡ before j w) → Tracing x y p s → Leads j p s
    by_marks y g t w = led y w w (g w) t

    -- by a source that is right for all marks
    pub by_any : ((y : ℕ) → Tracing x y p s) → Leads j p s
    by_any t w =
        let μ = before j w in
        led (word_of μ.marks) μ.words w (as_word μ (Mapped-after j (steps_by f c n d a b) (map_in m w) (Mapped-in m w))) (t (word_of μ.marks))

-- ---- the walk back

-- j iterations are left, from place p, and there are n pairs
pub record Walking (act : Act) (i m q k : ℕ) (l₀ l : List ℕ) (j p n : ℕ) : Type 0 where
  pub pairs : List Pair
  pub list : l ≡ laid l₀ k pairs
  pub count : n ≡ k + length pairs
  pub few : length pairs + j ≤ act.count
  pub walk : (w : List ℕ) → known (act_marks act (map_in m w)) (place q) ≡ false → Walk i act (map_in m w) j (place p) pairs (place q)

module _ (f : Format) (c n d a b i m q k : ℕ) (l₀ : List ℕ) where
  abbrev act : Act
  act = stepping_act f c n d a b

  pub walk_first : (j : ℕ) → j ≡ iterations_of f c d → Walking act i m q k l₀ l₀ j q k
  walk_first j e =
      record {
        pairs = [];
        list = refl;
        count = omega arith;
        few = omega arith;
        walk = λ w u. subst (λ (x : ℕ). Walk i act (map_in m w) x (place q) [] (place q)) (sym e) (Walk-end i act (map_in m w) (place q) refl u);
      }

  -- there is room for one more
  pub walk_room : (l : List ℕ) (j p o : ℕ) → Walking act i m q k l₀ l j p o → 0 < j → 2 * (k + 8) ≤ length l₀ → 2 * o + 1 < length l
  walk_room l j p o h z r =
      let e = ap length h.list ∙ laid-length l₀ k h.pairs in
      let g = h.count in
      let x = h.few in
      let y = iterations_few f c d in
      omega arith

  -- one iteration
  walk_one : (l : List ℕ) (j p o : ℕ) (s : Source) → Leads f c n d a b m j p s → Walking act i m q k l₀ l (suc j) p o
      → Walking act i m q k l₀ (linked_in s i p o l) j (back_of s p o).place (back_of s p o).pairs
  walk_one l j p o Kept t h =
      record {
        pairs = h.pairs;
        list = h.list;
        count = h.count;
        few = omega (arith, h.few);
        walk = λ w u. let x = h.walk w u in Walk-kept i act (map_in m w) (place q) j (place p) h.pairs (t w x.unknown) x;
      }
  walk_one l j p o (From r) t h =
      record {
        pairs = record { index = i; place = place p } ∷ h.pairs;
        list = ap (with_pair o i p) h.list ∙ ap (λ (x : ℕ). with_pair x i p (laid l₀ k h.pairs)) h.count ∙ laid_more l₀ k i p h.pairs;
        count = omega (arith, h.count);
        few = omega (arith, h.few);
        walk = λ w u. let x = h.walk w u in let y = t w x.unknown in Walk-from i act (map_in m w) (place q) j (place p) h.pairs (place r) y.0 y.1 x;
      }

  pub walk_again : (l l' : List ℕ) (j p o : ℕ) (s : Source) (y : Back) → 0 < j → Walking act i m q k l₀ l j p o → Leads f c n d a b m (j - 1) p s
      → (y ≡ back_of s p o) × (l' ≡ linked_in s i p o l) → Walking act i m q k l₀ l' (j - 1) y.place y.pairs
  walk_again l l' j p o s y z h t e =
      let u : j ≡ suc (j - 1) = omega arith in
      rw (e.1, e.0) (walk_one l (j - 1) p o s t (subst (λ (x : ℕ). Walking act i m q k l₀ l x p o) u h))

  pub walk_done : (l : List ℕ) (j p o : ℕ) → j ≤ 0 → Walking act i m q k l₀ l j p o → WalkedAct act i m q k l₀ l (record { place = p; pairs = o })
  walk_done l j p o z h =
      let e : j ≡ 0 = omega arith in
      record {
        pairs = h.pairs;
        list = h.list;
        count = h.count;
        few = omega (arith, h.few, iterations_few f c d);
        way = λ w g u. Walk-Way i act (map_in m w) (place q) (place p) h.pairs (subst (λ (x : ℕ). Walk i act (map_in m w) x (place p) h.pairs (place q)) e (h.walk w u));
      }

  -- a word of one iteration
  pub walk_only : (l' : List ℕ) (s : Source) (y : Back) → iterations_of f c d ≡ 1 → Tracing (step_by f c n d a b) m q s → (y ≡ back_of s q k) × (l' ≡ linked_in s i q k l₀)
      → WalkedAct act i m q k l₀ l' y
  walk_only l' s y e t g =
      walk_done l' 0 _ _ (omega arith)
      (walk_again l₀ l' 1 q k s y (omega arith) (walk_first 1 (sym e)) (by_marks f c n d a b m 0 q s (first_is f c n d a b) m (λ w. marks_none _ _) t) g)

-- ---- one iteration, by the number of the operation

module _ (f : Format) (c n d a b m : ℕ) where
  pub marked_arithmetic : (y : ℕ) {k : Arithmetic} → n < 10 → k ≡ arithmetic_of (operation_numbered n) → MarksStepped (arithmetic_step f c k d a b) m y → MarksStepped (step_by f c n d a b) m y
  marked_arithmetic y {k} h e g =
      subst (λ (x : Step). MarksStepped x m y) (sym (arithmetic_by f c n d a b h)) (subst (λ (z : Arithmetic). MarksStepped (arithmetic_step f c z d a b) m y) e g)

  pub marked_root : (y : ℕ) → 13 ≤ n → MarksStepped (root_step f c d b) m y → MarksStepped (step_by f c n d a b) m y
  marked_root y h g = subst (λ (x : Step). MarksStepped x m y) (sym (root_by f c n d a b h)) g

  pub traced_arithmetic : (q : ℕ) (r : Source) → n < 10 → ((kind : Arithmetic) → Tracing (arithmetic_step f c kind d a b) m q r) → Tracing (step_by f c n d a b) m q r
  traced_arithmetic q r h g = subst (λ (x : Step). Tracing x m q r) (sym (arithmetic_by f c n d a b h)) (g (arithmetic_of (operation_numbered n)))

  pub traced_sign : (q : ℕ) (r : Source) → 10 ≤ n → n < 13 → ((sign : SignOperation) → Tracing (sign_step f sign d b) m q r) → Tracing (step_by f c n d a b) m q r
  traced_sign q r h g t = subst (λ (x : Step). Tracing x m q r) (sym (sign_by f c n d a b h g)) (t (sign_of n))

  pub traced_root : (q : ℕ) (r : Source) → 13 ≤ n → Tracing (root_step f c d b) m q r → Tracing (step_by f c n d a b) m q r
  traced_root q r h g = subst (λ (x : Step). Tracing x m q r) (sym (root_by f c n d a b h)) g

pub walk_length : (act : Act) (i m q k : ℕ) (l₀ l : List ℕ) (j p n : ℕ) → Walking act i m q k l₀ l j p n → length l ≡ length l₀
walk_length act i m q k l₀ l j p n h = ap length h.list ∙ laid-length l₀ k h.pairs

-- fewer than 8 are before the last
pub walk_index : (f : Format) (c n d a b i m q k : ℕ) (l₀ l : List ℕ) (j p o : ℕ) → Walking (stepping_act f c n d a b) i m q k l₀ l j p o → 0 < j → j - 1 < iterations_of f c d
walk_index f c n d a b i m q k l₀ l j p o h z = omega (arith, h.few)

pub below_eight : (f : Format) (c d j : ℕ) → j < iterations_of f c d → j < 8
below_eight f c d j h = omega (arith, iterations_few f c d)

-- ---- by the registers that a word names

pub as_fields : (P : Format → ℕ → ℕ → ℕ → Type 0) (op : ℕ) {z t : Bool} → z ≡ t → {d a b : ℕ} → d ≡ reg_d (precision t) op → a ≡ reg_n (precision t) op → b ≡ reg_m (precision t) op
    → P (precision t) d a b → P (precision z) (reg_d (precision z) op) (reg_n (precision z) op) (reg_m (precision z) op)
as_fields P op u e g h x = rw (u, ← e, ← g, ← h) x

pub walked_fields : (c n op i m q k : ℕ) (l l' : List ℕ) (y : Back) {z t : Bool} → z ≡ t → {d a b : ℕ} → d ≡ reg_d (precision t) op → a ≡ reg_n (precision t) op → b ≡ reg_m (precision t) op
    → WalkedAct (stepping_act (precision t) c n d a b) i m q k l l' y
    → WalkedAct (stepping_act (precision z) c n (reg_d (precision z) op) (reg_n (precision z) op) (reg_m (precision z) op)) i m q k l l' y
walked_fields c n op i m q k l l' y = as_fields (λ f d a b. WalkedAct (stepping_act f c n d a b) i m q k l l' y) op
