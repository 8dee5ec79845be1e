-- The loops over a short vector, over the precision, the step and what it works on.
use Prim.Native.Nat.{ℕ, ◌+◌, ◌*◌, ◌/◌, ◌%◌, ◌^◌, ◌<◌, ◌≤◌}
use native.Mathlib.Nat.{mul-le-mul, add-mul, div-mul-le_self, mod-lt}
use native.Mathlib.Omega.{arith}
use mathlib.Core.Path.{◌≡◌, refl, sym, subst, ◌∙◌}
use mathlib.Core.Bool.{Bool, true, false, cond}
use mathlib.Core.List.{List}
use lib.Dec.{eqb, ltb}
use lib.Ieee.{Format, binary32, binary64}
use borrow.Author.Tests.{le-ltb, ltb-false}
use Rattle.meaning.specs.Step.{Step}
use Rattle.meaning.proofs.Laws.{after_none, after_one}
use Rattle.short_vectors.specs.declared.vector.Vector.{Vector}
use Rattle.short_vectors.specs.Vector.{iterations_of, stride_of, step_of, second_of, Vectored, Steppable}
use Rattle.registers.specs.Registers.{bank_of}
use Rattle.short_vectors.specs.Register.{Stepped, SteppedWith, Iterated, IteratedWith}

bank_some : (f : Format) → 0 < bank_of f
bank_some binary32 = omega arith
bank_some binary64 = omega arith

bank_few : (f : Format) → bank_of f ≤ 8
bank_few binary32 = omega arith
bank_few binary64 = omega arith

stride_few : (c : ℕ) → stride_of c ≤ 2
stride_few c = by (eqb (c / 2 ^ 20 % 4) 3)
  where
    by : (b : Bool) → cond b 2 1 ≤ 2
    by true = omega arith
    by false = omega arith

iterations_few : (f : Format) (c d : ℕ) → iterations_of f c d ≤ 8
iterations_few f c d = by (ltb d (bank_of f))
  where
    by : (b : Bool) → cond b 1 (c / 2 ^ 16 % 8 + 1) ≤ 8
    by true = omega arith
    by false = omega arith

iterations_some : (f : Format) (c d : ℕ) → 0 < iterations_of f c d
iterations_some f c d = by (ltb d (bank_of f))
  where
    by : (b : Bool) → 0 < cond b 1 (c / 2 ^ 16 % 8 + 1)
    by true = omega arith
    by false = omega arith

-- ---- the registers of an iteration, one step on from those of the one before

step_none : (f : Format) (s r : ℕ) → r ≡ step_of (bank_of f) s r 0
unfolding step_of
step_none binary32 s r = omega arith
step_none binary64 s r = omega arith

step_one : (f : Format) (s r i : ℕ) → step_of (bank_of f) s (step_of (bank_of f) s r i) 1 ≡ step_of (bank_of f) s r (i + 1)
unfolding step_of
step_one binary32 s r i = rw (add-mul i 1 s) (omega arith)
step_one binary64 s r i = rw (add-mul i 1 s) (omega arith)

step_within : (f : Format) (s r i : ℕ) → r < 32 → step_of (bank_of f) s r i < 32
unfolding step_of
step_within binary32 s r i h = omega arith
step_within binary64 s r i h = omega arith

-- no step leads into bank 0
step_stays : (f : Format) (s r i : ℕ) → bank_of f ≤ r → bank_of f ≤ step_of (bank_of f) s r i
unfolding step_of
step_stays binary32 s r i h = omega arith
step_stays binary64 s r i h = omega arith

module _ (f : Format) (s r : ℕ) where
  second_by : (b : Bool) → ltb r (bank_of f) ≡ b → (i : ℕ) → second_of (bank_of f) s r i ≡ cond b r (step_of (bank_of f) s r i)
  unfolding second_of
  second_by b e i = rw e

  second_none : r ≡ second_of (bank_of f) s r 0
  second_none = by _ refl
    where
      by : (b : Bool) → ltb r (bank_of f) ≡ b → r ≡ second_of (bank_of f) s r 0
      by true e = sym (second_by true e 0)
      by false e = step_none f s r ∙ sym (second_by false e 0)

  second_within : (i : ℕ) → r < 32 → second_of (bank_of f) s r i < 32
  second_within i h = by _ refl
    where
      by : (b : Bool) → ltb r (bank_of f) ≡ b → second_of (bank_of f) s r i < 32
      by true e = rw (second_by true e i) h
      by false e = rw (second_by false e i) (step_within f s r i h)

second_one : (f : Format) (s r i : ℕ) → second_of (bank_of f) s (second_of (bank_of f) s r i) 1 ≡ second_of (bank_of f) s r (i + 1)
second_one f s r i = by _ refl
  where
    by : (b : Bool) → ltb r (bank_of f) ≡ b → second_of (bank_of f) s (second_of (bank_of f) s r i) 1 ≡ second_of (bank_of f) s r (i + 1)
    by true e = rw (second_by f s r true e i, second_by f s r true e 1, second_by f s r true e (i + 1))
    by false e =
        rw (second_by f s r false e i, second_by f s r false e (i + 1), second_by f s (step_of (bank_of f) s r i) false (le-ltb _ _ (step_stays f s r i (ltb-false _ _ e))) 1)
        (step_one f s r i)

-- Steps of a kind Y on values of a kind S: what one step does, what the first so many of a family do, and how these follow.
pub record Repeats (S Y : Type 0) : Type 1 where
  pub one : Y → S → S → Type 0
  pub all : ℕ → (ℕ → Y) → S → S → Type 0
  pub none : (each : ℕ → Y) (s : S) → all 0 each s s
  pub next : (i : ℕ) (each : ℕ → Y) (s₀ s s' : S) → all i each s₀ s → one (each i) s s' → all (i + 1) each s₀ s'

-- iteration i of a step over d, n and m
abbrev pub iteration : {Y : Type 0} → Format → ℕ → (ℕ → ℕ → ℕ → Y) → ℕ → ℕ → ℕ → ℕ → Y
iteration f c y d n m i = y (step_of (bank_of f) (stride_of c) d i) (step_of (bank_of f) (stride_of c) n i) (second_of (bank_of f) (stride_of c) m i)

-- Before iteration i of a word with the registers d, n and m: the registers of the iteration, and what the earlier ones made of s₀.
pub record Iterating {S Y : Type 0} (R : Repeats S Y) (f : Format) (c : ℕ) (y : ℕ → ℕ → ℕ → Y) (d n m : ℕ) (v : Vector) (s₀ s : S) (dn nn mn i : ℕ) : Type 0 where
  pub made : Vectored f c d v
  pub few : v.iterations ≤ 8
  pub more : i < v.iterations
  pub d_is : dn ≡ step_of (bank_of f) (stride_of c) d i
  pub n_is : nn ≡ step_of (bank_of f) (stride_of c) n i
  pub m_is : mn ≡ second_of (bank_of f) (stride_of c) m i
  pub d_within : dn < 32
  pub n_within : nn < 32
  pub m_within : mn < 32
  pub did : R.all i (iteration f c y d n m) s₀ s

-- what a step on asks for
can_step : {f : Format} {c d : ℕ} {v : Vector} → Vectored f c d v → {r : ℕ} → r < 32 → Steppable v r 1
can_step {f} {c} made h =
    record {
      bank = rw made.bank (bank_some f);
      few = rw made.bank (bank_few f);
      stride = rw made.stride (stride_few c);
      register = h;
      iteration = omega arith;
    }

module _ {S Y : Type 0} {R : Repeats S Y} {f : Format} {c : ℕ} {y : ℕ → ℕ → ℕ → Y} {d n m : ℕ} {v : Vector} {s₀ : S} where
  pub initially : Vectored f c d v → d < 32 → n < 32 → m < 32 → Iterating R f c y d n m v s₀ s₀ d n m 0
  initially made dh nh mh =
      record {
        made = made;
        few = rw made.iterations (iterations_few f c d);
        more = rw made.iterations (iterations_some f c d);
        d_is = step_none f (stride_of c) d;
        n_is = step_none f (stride_of c) n;
        m_is = second_none f (stride_of c) m;
        d_within = dh;
        n_within = nh;
        m_within = mh;
        did = R.none _ s₀;
      }

  module _ {s : S} {dn nn mn i : ℕ} (here : Iterating R f c y d n m v s₀ s dn nn mn i) where
    pub d_steps : Steppable v dn 1
    d_steps = can_step here.made here.d_within

    pub n_steps : Steppable v nn 1
    n_steps = can_step here.made here.n_within

    pub m_steps : Steppable v mn 1
    m_steps = can_step here.made here.m_within

    module _ {s' : S} (does : R.one (y dn nn mn) s s') where
      did_one : R.all (i + 1) (iteration f c y d n m) s₀ s'
      did_one =
          let at : y dn nn mn ≡ iteration f c y d n m i = rw (here.d_is, here.n_is, here.m_is) in
          R.next i _ s₀ s s' here.did (subst (λ (z : Y). R.one z s s') at does)

      pub again : {dn' nn' mn' : ℕ} → i + 1 < v.iterations
          → dn' ≡ step_of v.bank v.stride dn 1 → nn' ≡ step_of v.bank v.stride nn 1 → mn' ≡ second_of v.bank v.stride mn 1
          → Iterating R f c y d n m v s₀ s' dn' nn' mn' (i + 1)
      again {dn'} {nn'} {mn'} more p q r =
          let p' : dn' ≡ step_of (bank_of f) (stride_of c) dn 1 = rw (here.made.bank, here.made.stride) at p in
          let q' : nn' ≡ step_of (bank_of f) (stride_of c) nn 1 = rw (here.made.bank, here.made.stride) at q in
          let r' : mn' ≡ second_of (bank_of f) (stride_of c) mn 1 = rw (here.made.bank, here.made.stride) at r in
          record {
            made = here.made;
            few = here.few;
            more = more;
            d_is = p' ∙ rw here.d_is (step_one f (stride_of c) d i);
            n_is = q' ∙ rw here.n_is (step_one f (stride_of c) n i);
            m_is = r' ∙ rw here.m_is (second_one f (stride_of c) m i);
            d_within = rw p' (step_within f (stride_of c) dn 1 here.d_within);
            n_within = rw q' (step_within f (stride_of c) nn 1 here.n_within);
            m_within = rw r' (second_within f (stride_of c) mn 1 here.m_within);
            did = did_one;
          }

      pub finally : v.iterations ≤ i + 1 → R.all (iterations_of f c d) (iteration f c y d n m) s₀ s'
      finally h = let last : iterations_of f c d ≡ i + 1 = omega (arith, here.made.iterations, here.more) in rw last did_one

-- ---- a loop that counts the registers that it went on, and not its iterations

module _ (b : Bool) (k n far : ℕ) (e : far ≡ k * cond b 2 1) where
  not_last : far + cond b 2 1 < n * cond b 2 1 → k + 1 < n
  not_last h = by b e h
    where
      by : (b : Bool) → far ≡ k * cond b 2 1 → far + cond b 2 1 < n * cond b 2 1 → k + 1 < n
      by true e h = omega arith
      by false e h = omega arith

  at_last : n * cond b 2 1 ≤ far + cond b 2 1 → n ≤ k + 1
  at_last h = by b e h
    where
      by : (b : Bool) → far ≡ k * cond b 2 1 → n * cond b 2 1 ≤ far + cond b 2 1 → n ≤ k + 1
      by true e h = omega arith
      by false e h = omega arith

  one_on : far + cond b 2 1 ≡ (k + 1) * cond b 2 1
  one_on = by b e
    where
      by : (b : Bool) → far ≡ k * cond b 2 1 → far + cond b 2 1 ≡ (k + 1) * cond b 2 1
      by true e = omega arith
      by false e = omega arith

  not_far : k < n → n ≤ 8 → far + cond b 2 1 ≤ 16
  not_far h g = by b e
    where
      by : (b : Bool) → far ≡ k * cond b 2 1 → far + cond b 2 1 ≤ 16
      by true e = omega arith
      by false e = omega arith

pub reach : {f : Format} {c d : ℕ} {v : Vector} → Vectored f c d v → v.iterations * v.stride ≤ 16
reach {f} {c} {d} {v} made = rw (made.iterations, made.stride) (by (eqb (c / 2 ^ 20 % 4) 3) (iterations_few f c d))
  where
    by : (b : Bool) → iterations_of f c d ≤ 8 → iterations_of f c d * cond b 2 1 ≤ 16
    by true h = omega arith
    by false h = omega arith

pub record Reaching {S Y : Type 0} (R : Repeats S Y) (f : Format) (c : ℕ) (y : ℕ → ℕ → ℕ → Y) (d n m : ℕ) (v : Vector) (s₀ s : S) (dn nn mn far : ℕ) : Type 0 where
  pub turn : ℕ
  pub far_is : far ≡ turn * v.stride
  pub here : Iterating R f c y d n m v s₀ s dn nn mn turn

module _ {S Y : Type 0} {R : Repeats S Y} {f : Format} {c : ℕ} {y : ℕ → ℕ → ℕ → Y} {d n m : ℕ} {v : Vector} {s₀ : S} where
  pub reach_none : Vectored f c d v → d < 32 → n < 32 → m < 32 → Reaching R f c y d n m v s₀ s₀ d n m 0
  reach_none made dh nh mh = record { turn = 0; far_is = omega arith; here = initially made dh nh mh }

  module _ {s : S} {dn nn mn far : ℕ} (at : Reaching R f c y d n m v s₀ s dn nn mn far) where
    far_of : far ≡ at.turn * stride_of c
    far_of = rw at.here.made.stride at at.far_is

    pub reach_on : 0 < v.stride
    reach_on = rw at.here.made.stride (by (eqb (c / 2 ^ 20 % 4) 3))
      where
        by : (b : Bool) → 0 < cond b 2 1
        by true = omega arith
        by false = omega arith

    pub reach_few : far + v.stride ≤ 16
    reach_few = rw at.here.made.stride (not_far (eqb (c / 2 ^ 20 % 4) 3) at.turn v.iterations far far_of at.here.more at.here.few)

    module _ {s' : S} (does : R.one (y dn nn mn) s s') where
      pub reach_again : {dn' nn' mn' : ℕ} → far + v.stride < v.iterations * v.stride
          → dn' ≡ step_of v.bank v.stride dn 1 → nn' ≡ step_of v.bank v.stride nn 1 → mn' ≡ second_of v.bank v.stride mn 1
          → Reaching R f c y d n m v s₀ s' dn' nn' mn' (far + v.stride)
      reach_again more p q r =
          record {
            turn = at.turn + 1;
            far_is = rw at.here.made.stride (one_on (eqb (c / 2 ^ 20 % 4) 3) at.turn v.iterations far far_of);
            here = again at.here does (not_last (eqb (c / 2 ^ 20 % 4) 3) at.turn v.iterations far far_of (rw at.here.made.stride at more)) p q r;
          }

      pub reach_end : v.iterations * v.stride ≤ far + v.stride → R.all (iterations_of f c d) (iteration f c y d n m) s₀ s'
      reach_end h = finally at.here does (at_last (eqb (c / 2 ^ 20 % 4) 3) at.turn v.iterations far far_of (rw at.here.made.stride at h))

-- where LEN is 0 a word makes one iteration
pub iterations_one : (f : Format) (c d : ℕ) → c / 2 ^ 16 % 8 ≡ 0 → iterations_of f c d ≡ 1
iterations_one f c d scalar = by (ltb d (bank_of f))
  where
    by : (b : Bool) → cond b 1 (c / 2 ^ 16 % 8 + 1) ≡ 1
    by true = refl
    by false = rw scalar

-- and that is a step of the registers that it names
pub once_only : {S Y : Type 0} (R : Repeats S Y) (f : Format) (c : ℕ) (y : ℕ → ℕ → ℕ → Y) (d n m : ℕ) {s s' : S}
    → c / 2 ^ 16 % 8 ≡ 0 → R.one (y d n m) s s' → R.all (iterations_of f c d) (iteration f c y d n m) s s'
once_only {Y = Y} R f c y d n m {s} {s'} scalar does =
    let at : y d n m ≡ iteration f c y d n m 0 = rw (← step_none f (stride_of c) d, ← step_none f (stride_of c) n, ← second_none f (stride_of c) m) in
    rw (iterations_one f c d scalar) (R.next 0 _ s s s' (R.none _ s) (subst (λ (z : Y). R.one z s s') at does))

-- steps on lent singles
abbrev pub on_singles : Repeats (List ℕ) Step
on_singles =
    record {
      one = Stepped;
      all = Iterated;
      none = λ each s q v. after_none each _;
      next = λ i each s₀ s s' h e q v. e q v ∙ after_one i each _ _ (h q v);
    }

-- and with FPSCR
pub record FpscrAndSingles : Type 0 where
  pub fpscr : ℕ
  pub s : List ℕ

abbrev pub both : ℕ → List ℕ → FpscrAndSingles
both fpscr s = record { fpscr = fpscr; s = s }

abbrev pub on_both : Repeats FpscrAndSingles Step
on_both =
    record {
      one = λ x a b. SteppedWith x a.fpscr a.s b.fpscr b.s;
      all = λ n each a b. IteratedWith n each a.fpscr a.s b.fpscr b.s;
      none = λ each a q v. after_none each _;
      next = λ i each a₀ a a' h e q v. e q v ∙ after_one i each _ _ (h q v);
    }

-- a distance of at most seven strides
pub small : (i s : ℕ) → i < 8 → s ≤ 2 → i * s ≤ 14
small i s h g = omega (arith, mul-le-mul {n₁ = i} {m₁ = s} {n₂ = 7} {m₂ = 2} (omega arith) g)

-- a bank's first register and a register's place in a bank
pub step_small : (r bank x : ℕ) → r < 32 → 0 < bank → bank ≤ 8 → r / bank * bank + x % bank < 2 ^ 64
step_small r bank x h some few = omega (arith, div-mul-le_self r bank, mod-lt x some)
