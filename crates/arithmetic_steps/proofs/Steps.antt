-- What one step of a word does to the words of its registers and to FPSCR, over the precision.
use Prim.Native.Nat.{ℕ, ◌+◌, ◌*◌, ◌%◌, ◌/◌, ◌^◌}
use native.Mathlib.Omega.{arith}
use mathlib.Core.Path.{◌≡◌, refl, sym, ap, ◌∙◌}
use mathlib.Core.Bool.{Bool, true, false, cond}
use mathlib.Core.List.{List, [], ◌∷◌, ◌++◌}
use lib.Bits.{bit_or}
use lib.ListN.{set}
use lib.Ieee.{Format, binary32, binary64}
use Rattle.machine.specs.declared.Machine.{Machine}
use Rattle.machine.specs.Machine.{with_s, with_fpscr, new_machine}
use Rattle.registers.specs.Registers.{single_index, low_index, high_index, double_of, value_in, stored_in}
use Rattle.machine.specs.Place.{State, state, get, put, s_word, low_word, high_word, exceptions, control_of, exceptions_of}
use Rattle.meaning.specs.Step.{step, fst, snd, rest}
use Rattle.numbers.specs.declared.arithmetic.Arithmetic.{Arithmetic}
use Rattle.numbers.specs.Arithmetic.{accumulates}
use Rattle.directed.specs.Directed.{arithmetic_by}
use Rattle.directed.specs.Exceptions.{exceptions_by}
use Rattle.directed.proofs.Control.{without_d, raised_without_d}
use Rattle.quiet.specs.Quiet.{IsQuick}
use Rattle.quiet.proofs.Native.{nothing_new}
use Rattle.quiet.proofs.Bound.{exceptions_lt}
use Rattle.short_vectors.specs.Register.{words_of, values_of, written, raising, raised_in, SteppedWith}
use Rattle.short_vectors.proofs.Raising.{raised_is}
use Rattle.arithmetic_steps.specs.Arithmetic.{arithmetic_step}

-- a register's value, and a state with another
abbrev pub fetch : Format → State → ℕ → ℕ
fetch binary32 st n = get st (s_word n)
fetch binary64 st n = double_of (get st (low_word n)) (get st (high_word n))

abbrev pub store : Format → State → ℕ → ℕ → State
store binary32 st d x = put st (s_word d) x
store binary64 st d x = put (put st (low_word d) (x % 2 ^ 32)) (high_word d) (x / 2 ^ 32)

module _ (f : Format) (c : ℕ) (kind : Arithmetic) (d n m : ℕ) (st : State) where
  abbrev result : ℕ → ℕ
  result x = arithmetic_by f c kind (fetch f st n) (fetch f st m) x

  abbrev raised : ℕ → ℕ
  raised x = exceptions_by f c kind (fetch f st n) (fetch f st m) x

  abbrev both : ℕ → ℕ → State
  both x e = put (store f st d x) exceptions (bit_or (get st exceptions) e)

-- old d is no operand of the five that do not accumulate
pub arithmetic_step_lem : (f : Format) (c : ℕ) (kind : Arithmetic) (d n m : ℕ) (st : State)
    → step (arithmetic_step f c kind d n m) st ≡ both f c kind d n m st (result f c kind d n m st (fetch f st d)) (raised f c kind d n m st (fetch f st d))
arithmetic_step_lem f c kind d n m st = by f (accumulates kind) refl
  where
    by : (f : Format) (b : Bool) → accumulates kind ≡ b
        → step
        (let sources = words_of f (cond b (n ∷ m ∷ d ∷ []) (n ∷ m ∷ [])) in
        written f d sources (λ vs. let x = values_of f vs in arithmetic_by f c kind (fst x) (snd x) (fst (rest (rest x))))
        ++ (raising sources (λ vs. let x = values_of f vs in exceptions_by f c kind (fst x) (snd x) (fst (rest (rest x)))) ∷ []))
        st
        ≡ both f c kind d n m st (result f c kind d n m st (fetch f st d)) (raised f c kind d n m st (fetch f st d))
    by binary32 true e = refl
    by binary64 true e = refl
    by binary32 false e =
        ap (λ (x : ℕ). both binary32 c kind d n m st x (raised binary32 c kind d n m st 0)) (without_d binary32 c kind (fetch binary32 st n) (fetch binary32 st m) 0 (fetch binary32 st d) e)
        ∙ ap (both binary32 c kind d n m st (result binary32 c kind d n m st (fetch binary32 st d))) (raised_without_d binary32 c kind (fetch binary32 st n) (fetch binary32 st m) 0 (fetch binary32 st d) e)
    by binary64 false e =
        ap (λ (x : ℕ). both binary64 c kind d n m st x (raised binary64 c kind d n m st 0)) (without_d binary64 c kind (fetch binary64 st n) (fetch binary64 st m) 0 (fetch binary64 st d) e)
        ∙ ap (both binary64 c kind d n m st (result binary64 c kind d n m st (fetch binary64 st d))) (raised_without_d binary64 c kind (fetch binary64 st n) (fetch binary64 st m) 0 (fetch binary64 st d) e)

-- a native result, where inexact is set already: FPSCR stays
module _ (f : Format) (c : ℕ) (kind : Arithmetic) (d n m : ℕ) (q : Machine) (fpscr : ℕ) (s v : List ℕ) (bits : ℕ) where
  abbrev st : State
  st = state (with_s (with_fpscr q fpscr) s) v

  abbrev e : ℕ
  e = raised f c kind d n m st (fetch f st d)

  keeps : raised_in fpscr e ≡ fpscr → put (store f st d bits) exceptions (bit_or (get st exceptions) e) ≡ store f st d bits
  keeps same = by f (raised f c kind d n m st (fetch f st d)) same
    where
      by : (f : Format) (e : ℕ) → raised_in fpscr e ≡ fpscr → put (store f st d bits) exceptions (bit_or (get st exceptions) e) ≡ store f st d bits
      by binary32 e same = ap (λ (x : ℕ). state (with_s (with_fpscr q x) (set s (single_index d) bits)) v) same
      by binary64 e same = ap (λ (x : ℕ). state (with_s (with_fpscr q x) (set (set s (low_index d) (bits % 2 ^ 32)) (high_index d) (bits / 2 ^ 32))) v) same

  pub quick_step : fpscr / 2 ^ 4 % 2 ≡ 1 → IsQuick f c kind (fetch f st n) (fetch f st m) (fetch f st d) bits → store f st d bits ≡ step (arithmetic_step f c kind d n m) st
  quick_step set_already k =
      sym (keeps (sym (raised_is fpscr e (exceptions_lt f c kind _ _ _)) ∙ nothing_new fpscr e set_already k.raises))
      ∙ ap (λ (x : ℕ). put (store f st d x) exceptions (bit_or (get st exceptions) e)) k.word
      ∙ sym (arithmetic_step_lem f c kind d n m st)

-- ---- the same of lent singles

pub quick_steps : (f : Format) (c : ℕ) (kind : Arithmetic) (d n m fpscr : ℕ) (s : List ℕ) (bits : ℕ) → fpscr / 2 ^ 4 % 2 ≡ 1
    → IsQuick f c kind (value_in f s n) (value_in f s m) (value_in f s d) bits
    → SteppedWith (arithmetic_step f c kind d n m) fpscr s fpscr (stored_in f s d bits)
quick_steps binary32 c kind d n m fpscr s bits set_already k q v = quick_step binary32 c kind d n m q fpscr s v bits set_already k
quick_steps binary64 c kind d n m fpscr s bits set_already k q v = quick_step binary64 c kind d n m q fpscr s v bits set_already k

pub rounded_steps : (f : Format) (c : ℕ) (kind : Arithmetic) (d n m fpscr : ℕ) (s : List ℕ)
    → SteppedWith (arithmetic_step f c kind d n m) fpscr s (raised_in fpscr (exceptions_by f c kind (value_in f s n) (value_in f s m) (value_in f s d)))
    (stored_in f s d (arithmetic_by f c kind (value_in f s n) (value_in f s m) (value_in f s d)))
rounded_steps binary32 c kind d n m fpscr s q v = sym (arithmetic_step_lem binary32 c kind d n m (state (with_s (with_fpscr q fpscr) s) v))
rounded_steps binary64 c kind d n m fpscr s q v = sym (arithmetic_step_lem binary64 c kind d n m (state (with_s (with_fpscr q fpscr) s) v))

-- what is raised leaves FPSCR 27:5
pub same_control : (f : Format) (c : ℕ) (kind : Arithmetic) (d n m fpscr : ℕ) (s : List ℕ) (fpscr' : ℕ) (s' : List ℕ) → SteppedWith (arithmetic_step f c kind d n m) fpscr s fpscr' s'
    → control_of fpscr' ≡ control_of fpscr
same_control f c kind d n m fpscr s fpscr' s' h =
    ap (λ (x : State). control_of x.machine.fpscr) (h new_machine [] ∙ arithmetic_step_lem f c kind d n m (state (with_s (with_fpscr new_machine fpscr) s) [])) ∙ kept f
  where
    low : (x : ℕ) → control_of (fpscr / 2 ^ 5 * 2 ^ 5 + exceptions_of x) ≡ control_of fpscr
    low x = omega arith

    kept : (f : Format)
        → (let st = state (with_s (with_fpscr new_machine fpscr) s) [] in
        control_of (both f c kind d n m st (result f c kind d n m st (fetch f st d)) (raised f c kind d n m st (fetch f st d))).machine.fpscr ≡ control_of fpscr)
    kept binary32 = low _
    kept binary64 = low _
