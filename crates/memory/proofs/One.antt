-- A transfer of one register, VLDR or VSTR: it needs no loop, and its base register stays.
use mathlib.Core.Path.{◌≡◌, refl, sym, ap, ap₂, ◌∙◌}
use mathlib.Core.Bool.{Bool, true, false, cond, not, ◌&&◌, true≢false}
use mathlib.Core.List.{[], ◌∷◌, ◌++◌}
use Prim.Native.Nat.{ℕ, ◌+◌, ◌-◌, ◌*◌, ◌%◌, ◌^◌, ◌<◌}
use native.Mathlib.Omega.{arith}
use lib.Ieee.{Format, binary32, binary64}
use Rattle.bits.specs.Field.{field, bit_of}
use Rattle.registers.specs.Registers.{single_index, low_index, high_index, reg_of}
use Rattle.machine.specs.Place.{core, State, get}
use Rattle.meaning.specs.Step.{Step, step, grow}
use Rattle.meaning.specs.Tree.{on, out, plain}
use Rattle.meaning.proofs.Laws.{after_none, after_one}
use Rattle.addresses.specs.Address.{offset, one_only, count_of, start_of, write_back}
use Rattle.memory.specs.LoadStore.{bytes, access_step, access_at, access_tree}
use Rattle.memory.proofs.Doubles.{in_turn}
use Rattle.memory.proofs.Trees.{accessed}

module _ (load : Bool) (base d a : ℕ) where
  -- the step of a double is that of its low word and that of its high word
  pub split : access_step binary64 load base d a ≡ access_step binary32 load base (low_index d) a ++ access_step binary32 load base (low_index d + 1) ((a + 4) % 2 ^ 32)
  split = by load
    where
      low : single_index (low_index d) ≡ low_index d
      low = omega arith

      high : single_index (low_index d + 1) ≡ high_index d
      high = omega arith

      by : (l : Bool) → access_step binary64 l base d a ≡ access_step binary32 l base (low_index d) a ++ access_step binary32 l base (low_index d + 1) ((a + 4) % 2 ^ 32)
      by true = rw (low, high)
      by false = rw (low, high)

  pub both : (n : ℕ) (st x y : State) → n ≡ low_index d → x ≡ step (access_step binary32 load base n a) st
      → y ≡ step (access_step binary32 load base (n + 1) ((a + 4) % 2 ^ 32)) x → y ≡ step (access_step binary64 load base d a) st
  both n st x y e p q =
      q ∙ rw (p, e) (sym (in_turn load base (low_index d) (low_index d + 1) a ((a + 4) % 2 ^ 32) st)) ∙ ap (λ (z : Step). step z st) (sym split)

-- the first register of a transfer
pub first_step : (f : Format) (load : Bool) (base n a : ℕ) → a < 2 ^ 32 → access_step f load base n a ≡ access_at f load base n a 0
first_step f load base n a h =
    let e : n ≡ n + 0 = omega arith in
    let z : a ≡ (a + bytes f * 0) % 2 ^ 32 = omega arith in
    ap₂ (λ (m b : ℕ). access_step f load base m b) e z

module _ (w : ℕ) (o : one_only w ≡ true) where
  pub one_count : (f : Format) → count_of f w ≡ 1
  one_count f = rw o

  pub one_start : (a : ℕ) → start_of w a < 2 ^ 32
  one_start a = rw o (by (bit_of w 23))
    where
      by : (u : Bool) → cond u ((a + offset w) % 2 ^ 32) ((a + (2 ^ 32 - offset w)) % 2 ^ 32) < 2 ^ 32
      by true = omega arith
      by false = omega arith

  stays : (x : State) → x ≡ step (write_back w) x
  stays x = by (bit_of w 24) (bit_of w 21) o
    where
      by : (p b : Bool) → (p && not b) ≡ true → x ≡ step (cond b (grow (core (field w 16 19)) (cond (bit_of w 23) (offset w) (2 ^ 32 - offset w)) ∷ []) []) x
      by true true h = absurd (true≢false (sym h))
      by true false h = refl
      by false b h = absurd (true≢false (sym h))

  pub one_accessed : (f : Format) (base : ℕ) (st x : State) → (field w 21 27 ≡ 0b110_0010 → ⊥)
      → x ≡ step (access_step f (bit_of w 20) base (reg_of f (field w 12 15) (field w 22 22)) (start_of w (get st (core (field w 16 19))))) st
      → out x on ≡ plain (access_tree f base w) st
  one_accessed f base st x h e =
      accessed f base w st x x h
      (rw (one_count f) (e ∙ ap (λ (z : Step). step z st) (first_step f _ _ _ _ (one_start (get st (core (field w 16 19))))) ∙ after_one 0 _ _ _ (after_none _ _)))
      (stays x)
