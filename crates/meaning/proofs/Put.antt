-- One write: two states that agree in the known places still do, where the value written is the same or the place is marked unknown.
use Prim.Native.Nat.{ℕ, zero, suc, ◌+◌, ◌*◌, ◌/◌, ◌%◌, ◌^◌}
use native.Mathlib.Omega.{arith}
use mathlib.Core.Path.{◌≡◌, refl, ap, sym, ◌∙◌}
use mathlib.Core.List.{List, [], ◌∷◌}
use mathlib.Core.Bool.{Bool, true, false}
use lib.ListN.{length, get_or, set, length-set}
use lib.Dec.{eqb}
use Rattle.bits.specs.Psr.{one_of, nzcv_of, psr_of}
use Rattle.bits.proofs.Laws.{high_part, low_part}
use Rattle.machine.specs.Place.{Place, single, core, word, flags, control, exc, nzcv, exceptions, control_of, State, get, put}
use Rattle.meaning.specs.Map.{Map, known, mark}
use Rattle.meaning.specs.Agree.{Fit, AgreeInPlaces}

-- a cell of two lists and of the marks' list
module _ {M : Type 0} (κ : M → Bool) (d : M) where
  cell : (l : List M) (x y : List ℕ) → length l ≡ length x → length l ≡ length y → (i j : ℕ) (t : M) (v v' : ℕ) → (κ t ≡ true → v ≡ v')
      → (κ (get_or l j d) ≡ true → get_or x j 0 ≡ get_or y j 0) → κ (get_or (set l i t) j d) ≡ true → get_or (set x i v) j 0 ≡ get_or (set y i v') j 0
  cell [] [] [] p q i j t v v' e ag h = refl
  cell [] [] (y ∷ ys) p q i j t v v' e ag h = absurd (omega arith)
  cell [] (x ∷ xs) y p q i j t v v' e ag h = absurd (omega arith)
  cell (m ∷ l) [] y p q i j t v v' e ag h = absurd (omega arith)
  cell (m ∷ l) (x ∷ xs) [] p q i j t v v' e ag h = absurd (omega arith)
  cell (m ∷ l) (x ∷ xs) (y ∷ ys) p q zero zero t v v' e ag h = e h
  cell (m ∷ l) (x ∷ xs) (y ∷ ys) p q zero (suc j) t v v' e ag h = ag h
  cell (m ∷ l) (x ∷ xs) (y ∷ ys) p q (suc i) zero t v v' e ag h = ag h
  cell (m ∷ l) (x ∷ xs) (y ∷ ys) p q (suc i) (suc j) t v v' e ag h = cell l xs ys (omega arith) (omega arith) i j t v v' e ag h

one_true : (t : Bool) → eqb (one_of t) 1 ≡ true → t ≡ true
one_true true g = refl
one_true false g = g

-- the parts of an FPSCR w of which one was replaced by v
module _ (v w : ℕ) where
  high_flags : (v * 2 ^ 28 + w % 2 ^ 28) / 2 ^ 28 ≡ v
  high_flags = high_part v 28 (w % 2 ^ 28) (omega arith)

  mid_flags : control_of (v * 2 ^ 28 + w % 2 ^ 28) ≡ control_of w
  mid_flags = ap (λ (x : ℕ). x / 2 ^ 5 * 2 ^ 5) (low_part v 28 (w % 2 ^ 28) (omega arith))

  low_flags : (v * 2 ^ 28 + w % 2 ^ 28) % 2 ^ 5 ≡ w % 2 ^ 5
  low_flags = omega arith

  high_control : (w / 2 ^ 28 * 2 ^ 28 + control_of v + w % 2 ^ 5) / 2 ^ 28 ≡ w / 2 ^ 28
  high_control = omega arith

  mid_control : control_of (w / 2 ^ 28 * 2 ^ 28 + control_of v + w % 2 ^ 5) ≡ control_of v
  mid_control = omega arith

  low_control : (w / 2 ^ 28 * 2 ^ 28 + control_of v + w % 2 ^ 5) % 2 ^ 5 ≡ w % 2 ^ 5
  low_control = omega arith

  high_exceptions : (w / 2 ^ 5 * 2 ^ 5 + v % 2 ^ 5) / 2 ^ 28 ≡ w / 2 ^ 28
  high_exceptions = omega arith

  mid_exceptions : control_of (w / 2 ^ 5 * 2 ^ 5 + v % 2 ^ 5) ≡ control_of w
  mid_exceptions = omega arith

  low_exceptions : (w / 2 ^ 5 * 2 ^ 5 + v % 2 ^ 5) % 2 ^ 5 ≡ v % 2 ^ 5
  low_exceptions = omega arith

pub agree_put : (μ : Map) (a b : State) → Fit μ a → Fit μ b → AgreeInPlaces μ a b → (p : Place) (t : Bool) (v v' : ℕ) → (t ≡ true → v ≡ v')
    → (q : Place) → known (mark μ p t) q ≡ true → get (put a p v) q ≡ get (put b p v') q
agree_put μ a b fa fb ag (single i) t v v' e (single j) h = cell (λ x. x) false μ.marks.s a.machine.s b.machine.s fa.s fb.s i j t v v' e (ag (single j)) h
agree_put μ a b fa fb ag (single i) t v v' e (core j) h = ag (core j) h
agree_put μ a b fa fb ag (single i) t v v' e (word j) h = ag (word j) h
agree_put μ a b fa fb ag (single i) t v v' e flags h = ag flags h
agree_put μ a b fa fb ag (single i) t v v' e control h = ag control h
agree_put μ a b fa fb ag (single i) t v v' e exc h = ag exc h
agree_put μ a b fa fb ag (single i) t v v' e nzcv h = ag nzcv h
agree_put μ a b fa fb ag (single i) t v v' e exceptions h = ag exceptions h
agree_put μ a b fa fb ag (core i) t v v' e (single j) h = ag (single j) h
agree_put μ a b fa fb ag (core i) t v v' e (core j) h = cell (λ x. x) false μ.marks.r a.machine.r b.machine.r fa.r fb.r i j t v v' e (ag (core j)) h
agree_put μ a b fa fb ag (core i) t v v' e (word j) h = ag (word j) h
agree_put μ a b fa fb ag (core i) t v v' e flags h = ag flags h
agree_put μ a b fa fb ag (core i) t v v' e control h = ag control h
agree_put μ a b fa fb ag (core i) t v v' e exc h = ag exc h
agree_put μ a b fa fb ag (core i) t v v' e nzcv h = ag nzcv h
agree_put μ a b fa fb ag (core i) t v v' e exceptions h = ag exceptions h
agree_put μ a b fa fb ag (word i) t v v' e (single j) h = ag (single j) h
agree_put μ a b fa fb ag (word i) t v v' e (core j) h = ag (core j) h
agree_put μ a b fa fb ag (word i) t v v' e (word j) h = cell (λ x. eqb x 1) 1 μ.words a.window b.window fa.words fb.words i j (one_of t) v v' (λ g. e (one_true t g)) (ag (word j)) h
agree_put μ a b fa fb ag (word i) t v v' e flags h = ag flags h
agree_put μ a b fa fb ag (word i) t v v' e control h = ag control h
agree_put μ a b fa fb ag (word i) t v v' e exc h = ag exc h
agree_put μ a b fa fb ag (word i) t v v' e nzcv h = ag nzcv h
agree_put μ a b fa fb ag (word i) t v v' e exceptions h = ag exceptions h
agree_put μ a b fa fb ag flags t v v' e (single j) h = ag (single j) h
agree_put μ a b fa fb ag flags t v v' e (core j) h = ag (core j) h
agree_put μ a b fa fb ag flags t v v' e (word j) h = ag (word j) h
agree_put μ a b fa fb ag flags t v v' e flags h = high_flags v _ ∙ e h ∙ sym (high_flags v' _)
agree_put μ a b fa fb ag flags t v v' e control h = mid_flags v _ ∙ ag control h ∙ sym (mid_flags v' _)
agree_put μ a b fa fb ag flags t v v' e exc h = ag exc h
agree_put μ a b fa fb ag flags t v v' e nzcv h = ag nzcv h
agree_put μ a b fa fb ag flags t v v' e exceptions h = low_flags v _ ∙ ag exceptions h ∙ sym (low_flags v' _)
agree_put μ a b fa fb ag control t v v' e (single j) h = ag (single j) h
agree_put μ a b fa fb ag control t v v' e (core j) h = ag (core j) h
agree_put μ a b fa fb ag control t v v' e (word j) h = ag (word j) h
agree_put μ a b fa fb ag control t v v' e flags h = high_control v _ ∙ ag flags h ∙ sym (high_control v' _)
agree_put μ a b fa fb ag control t v v' e control h = mid_control v _ ∙ ap control_of (e h) ∙ sym (mid_control v' _)
agree_put μ a b fa fb ag control t v v' e exc h = ag exc h
agree_put μ a b fa fb ag control t v v' e nzcv h = ag nzcv h
agree_put μ a b fa fb ag control t v v' e exceptions h = low_control v _ ∙ ag exceptions h ∙ sym (low_control v' _)
agree_put μ a b fa fb ag exc t v v' e (single j) h = ag (single j) h
agree_put μ a b fa fb ag exc t v v' e (core j) h = ag (core j) h
agree_put μ a b fa fb ag exc t v v' e (word j) h = ag (word j) h
agree_put μ a b fa fb ag exc t v v' e flags h = ag flags h
agree_put μ a b fa fb ag exc t v v' e control h = ag control h
agree_put μ a b fa fb ag exc t v v' e exc h = e h
agree_put μ a b fa fb ag exc t v v' e nzcv h = ag nzcv h
agree_put μ a b fa fb ag exc t v v' e exceptions h = ag exceptions h
agree_put μ a b fa fb ag nzcv t v v' e (single j) h = ag (single j) h
agree_put μ a b fa fb ag nzcv t v v' e (core j) h = ag (core j) h
agree_put μ a b fa fb ag nzcv t v v' e (word j) h = ag (word j) h
agree_put μ a b fa fb ag nzcv t v v' e flags h = ag flags h
agree_put μ a b fa fb ag nzcv t v v' e control h = ag control h
agree_put μ a b fa fb ag nzcv t v v' e exc h = ag exc h
agree_put μ a b fa fb ag nzcv t v v' e nzcv h = ap (λ (x : ℕ). nzcv_of (psr_of x)) (e h)
agree_put μ a b fa fb ag nzcv t v v' e exceptions h = ag exceptions h
agree_put μ a b fa fb ag exceptions t v v' e (single j) h = ag (single j) h
agree_put μ a b fa fb ag exceptions t v v' e (core j) h = ag (core j) h
agree_put μ a b fa fb ag exceptions t v v' e (word j) h = ag (word j) h
agree_put μ a b fa fb ag exceptions t v v' e flags h = high_exceptions v _ ∙ ag flags h ∙ sym (high_exceptions v' _)
agree_put μ a b fa fb ag exceptions t v v' e control h = mid_exceptions v _ ∙ ag control h ∙ sym (mid_exceptions v' _)
agree_put μ a b fa fb ag exceptions t v v' e exc h = ag exc h
agree_put μ a b fa fb ag exceptions t v v' e nzcv h = ag nzcv h
agree_put μ a b fa fb ag exceptions t v v' e exceptions h = low_exceptions v _ ∙ ap (λ (x : ℕ). x % 2 ^ 5) (e h) ∙ sym (low_exceptions v' _)

pub Fit-put : (μ : Map) (a : State) → Fit μ a → (p : Place) (t : Bool) (v : ℕ) → Fit (mark μ p t) (put a p v)
Fit-put μ a f (single i) t v = record { s = simp length-set f.s; r = f.r; words = f.words }
Fit-put μ a f (core i) t v = record { s = f.s; r = simp length-set f.r; words = f.words }
Fit-put μ a f (word i) t v = record { s = f.s; r = f.r; words = simp length-set f.words }
Fit-put μ a f flags t v = record { s = f.s; r = f.r; words = f.words }
Fit-put μ a f control t v = record { s = f.s; r = f.r; words = f.words }
Fit-put μ a f exc t v = record { s = f.s; r = f.r; words = f.words }
Fit-put μ a f nzcv t v = record { s = f.s; r = f.r; words = f.words }
Fit-put μ a f exceptions t v = record { s = f.s; r = f.r; words = f.words }
