-- The window's claims, from the laws `entry_inside` and `write_inside` of crate machine. Assumes nothing.
use mathlib.Core.Path.{◌≡◌, refl, sym, ap, ◌∙◌, subst}
use mathlib.Core.Bool.{Bool, true, false, cond}
use mathlib.Core.List.{List}
use Prim.Native.Nat.{ℕ, zero, suc, ◌+◌, ◌-◌, ◌*◌, ◌/◌, ◌%◌, ◌^◌, ◌≤◌, ◌<◌}
use native.Mathlib.Omega.{arith}
use lib.Dec.{eqb, ltb}
use lib.ListN.{length, get_or, set, length-set}
use borrow.Author.Tests.{eqb-true, ltb-false}
use lib.Ieee.{Format, binary32, binary64}
use Rattle.bits.specs.Field.{field, bit_of}
use Rattle.bits.specs.Psr.{one_of}
use Rattle.registers.specs.Registers.{reg_of}
use Rattle.machine.specs.Window.{aligned, inside, read_at, written_at, word_at}
use Rattle.machine.specs.Place.{State, state, core, s_word, low_word, high_word, get, put}
use Rattle.machine.proofs.Inside.{entry_inside, read_inside, write_inside}
use Rattle.meaning.specs.Map.{Map, map_of, known, mark}
use Rattle.meaning.specs.Step.{step, after, step_marks}
use Rattle.meaning.specs.Stop.{finished, refused, report}
use Rattle.meaning.specs.Tree.{Tree, Out, out, on, go, exit_of, plain}
use Rattle.meaning.proofs.Laws.{plain-go}
use Rattle.addresses.specs.Address.{start_of, count_of, write_back}
use Rattle.memory.specs.LoadStore.{bytes, access_step, access_at, access_act, access_tree, load_store_tree}
use Rattle.limits.specs.Limit.{most_words, window_limit}
use Rattle.vfp.specs.Call.{reply, load_store_reply}
use Rattle.claims.specs.Window.{coprocessor, above, accessed, transferred, known_at, accessed_marks, Window}

-- limits 3 and 4, of a window that is not turned back
within : (base words : ℕ) → window_limit base words ≡ 0 → (base % 4 ≡ 0) × (base + 4 * words ≤ 2 ^ 32)
unfolding window_limit
within base words e = by (ltb most_words words) (eqb (base % 4) 0) (ltb (2 ^ 32) (base + 4 * words)) e (eqb-true (base % 4) 0) (ltb-false (2 ^ 32) (base + 4 * words))
  where
    by : (x y z : Bool) → ◌≡◌ {A = ℕ} (cond x 2 (cond y (cond z 4 0) 3)) 0 → (y ≡ true → base % 4 ≡ 0) → (z ≡ false → base + 4 * words ≤ 2 ^ 32)
        → (base % 4 ≡ 0) × (base + 4 * words ≤ 2 ^ 32)
    by true y z e p q = absurd (omega arith)
    by false false z e p q = absurd (omega arith)
    by false true true e p q = absurd (omega arith)
    by false true false e p q = (p refl, q refl)

above-lt : (a : ℕ) → above a < 2 ^ 32
above-lt a = omega arith

module _ (base : ℕ) (l : List ℕ) (lim : window_limit base (length l) ≡ 0) where
  three : base % 4 ≡ 0
  three = (within base (length l) lim).0

  four : base + 4 * length l ≤ 2 ^ 32
  four = (within base (length l) lim).1

  read : (a : ℕ) → a < 2 ^ 32 → get_or l (word_at base a) 0 ≡ read_at base l a
  read a h = read_inside base l a three four h

  written : (a v : ℕ) → a < 2 ^ 32 → set l (word_at base a) v ≡ written_at base l a v
  written a v h = write_inside base l a three four h v

  marked : (a : ℕ) → a < 2 ^ 32 → eqb (get_or l (word_at base a) 1) 1 ≡ known_at base l a
  marked a h = ap (λ (x : ℕ). eqb x 1) (entry_inside base l a three four h 1) ∙ by (inside base (length l) a)
    where
      by : (b : Bool) → eqb (cond b (get_or l ((aligned a - base) / 4) 1) 1) 1 ≡ cond b (eqb (get_or l ((aligned a - base) / 4) 1) 1) true
      by true = refl
      by false = refl

-- two words written one after the other
twice : (base : ℕ) (l : List ℕ) → window_limit base (length l) ≡ 0 → (a b v u : ℕ) → a < 2 ^ 32 → b < 2 ^ 32
    → set (set l (word_at base a) v) (word_at base b) u ≡ written_at base (written_at base l a v) b u
twice base l lim a b v u h k =
    written base (set l (word_at base a) v) (subst (λ (n : ℕ). window_limit base n ≡ 0) (sym (length-set l (word_at base a) v)) lim) b u k
    ∙ ap (λ (x : List ℕ). written_at base x b u) (written base l lim a v h)

access : (f : Format) (load : Bool) (base n a : ℕ) (st : State) → window_limit base (length st.window) ≡ 0 → a < 2 ^ 32
    → step (access_step f load base n a) st ≡ accessed f load base n a st
access binary32 true base n a st lim h = ap (put st (s_word n)) (read base st.window lim a h)
access binary32 false base n a st lim h = ap (state st.machine) (written base st.window lim a (get st (s_word n)) h)
access binary64 true base n a st lim h =
    ap (λ (x : ℕ). put (put st (low_word n) x) (high_word n) (get_or st.window (word_at base (above a)) 0)) (read base st.window lim a h)
    ∙ ap (put (put st (low_word n) (read_at base st.window a)) (high_word n)) (read base st.window lim (above a) (above-lt a))
access binary64 false base n a st lim h =
    ap (state st.machine) (twice base st.window lim a (above a) (get st (low_word n)) (get st (high_word n)) h (above-lt a))

marks : (f : Format) (load : Bool) (base n a : ℕ) (μ : Map) → window_limit base (length μ.words) ≡ 0 → a < 2 ^ 32
    → step_marks (access_step f load base n a) μ ≡ accessed_marks f load base n a μ
marks binary32 true base n a μ lim h = ap (mark μ (s_word n)) (marked base μ.words lim a h)
marks binary32 false base n a μ lim h = ap (map_of μ.marks) (written base μ.words lim a (one_of (known μ (s_word n))) h)
marks binary64 true base n a μ lim h =
    ap (λ (x : Bool). mark (mark μ (low_word n) x) (high_word n) (eqb (get_or μ.words (word_at base (above a)) 1) 1)) (marked base μ.words lim a h)
    ∙ ap (mark (mark μ (low_word n) (known_at base μ.words a)) (high_word n)) (marked base μ.words lim (above a) (above-lt a))
marks binary64 false base n a μ lim h =
    ap (map_of μ.marks) (twice base μ.words lim a (above a) (one_of (known μ (low_word n))) (one_of (known μ (high_word n))) h (above-lt a))

-- no load or store changes how long the window is
keeps : (f : Format) (load : Bool) (base n a : ℕ) (st : State) → length (step (access_step f load base n a) st).window ≡ length st.window
keeps binary32 true base n a st = refl
keeps binary32 false base n a st = length-set st.window _ _
keeps binary64 true base n a st = refl
keeps binary64 false base n a st = length-set (set st.window (word_at base a) (get st (low_word n))) _ _ ∙ length-set st.window _ _

module _ (f : Format) (load : Bool) (base n a : ℕ) (st : State) where
  lasts : (i : ℕ) → length (after i (access_at f load base n a) st).window ≡ length st.window
  unfolding after
  lasts zero = refl
  lasts (suc i) = keeps f load base (n + i) ((a + bytes f * i) % 2 ^ 32) (after i (access_at f load base n a) st) ∙ lasts i

  turns : window_limit base (length st.window) ≡ 0 → (i : ℕ) → after i (access_at f load base n a) st ≡ transferred f load base n a i st
  unfolding after transferred
  turns lim zero = refl
  turns lim (suc i) =
      access f load base (n + i) ((a + bytes f * i) % 2 ^ 32) (after i (access_at f load base n a) st) (subst (λ (k : ℕ). window_limit base k ≡ 0) (sym (lasts i)) lim) (lt (a + bytes f * i))
      ∙ ap (accessed f load base (n + i) ((a + bytes f * i) % 2 ^ 32)) (turns lim i)
    where
      lt : (x : ℕ) → x % 2 ^ 32 < 2 ^ 32
      lt x = omega arith

-- the tree of a word of either coprocessor
tree : (f : Format) (base w : ℕ) → field w 8 11 ≡ coprocessor f → load_store_tree base w ≡ access_tree f base w
unfolding load_store_tree
tree binary32 base w e = rw e
tree binary64 base w e = rw e

acts : (f : Format) (base w : ℕ) (st : State) → eqb (field w 21 27) 0b110_0010 ≡ false
    → plain (access_tree f base w) st ≡ plain (go (access_act f base w (get st (core (field w 16 19))))) st
unfolding access_tree plain
acts f base w st e = rw e

call : (f : Format) (base w : ℕ) (st : State) → window_limit base (length st.window) ≡ 0 → field w 8 11 ≡ coprocessor f → eqb (field w 21 27) 0b110_0010 ≡ false
    → load_store_reply base w st
    ≡ record {
      report = report finished;
      leaves =
          step (write_back w)
          (transferred f (bit_of w 20) base (reg_of f (field w 12 15) (field w 22 22)) (start_of w (get st (core (field w 16 19)))) (count_of f w) st);
    }
call f base w st lim e p =
    ap (λ (n : ℕ). cond (eqb n 0) (reply (load_store_tree base w) st) (record { report = report (refused n); leaves = st })) lim
    ∙ ap (λ (t : Tree). reply t st) (tree f base w e)
    ∙ ap (λ (o : Out). record { report = report (exit_of o.next); leaves = o.st }) (acts f base w st p ∙ gone)
  where
    gone : plain (go (access_act f base w (get st (core (field w 16 19))))) st
        ≡ out (step (write_back w) (transferred f (bit_of w 20) base (reg_of f (field w 12 15) (field w 22 22)) (start_of w (get st (core (field w 16 19)))) (count_of f w) st)) on
    gone = sym (plain-go (access_act f base w (get st (core (field w 16 19)))) st _ (ap (step (write_back w)) (sym (turns f (bit_of w 20) base _ _ st lim (count_of f w)))))

pub window : Window
window =
    record {
      access = access;
      call = call;
      marks = marks;
      outside_known = λ base a μ lim h o. marked base μ.words lim a h ∙ ap (λ (b : Bool). cond b (eqb (get_or μ.words ((aligned a - base) / 4) 1) 1) true) o;
    }
