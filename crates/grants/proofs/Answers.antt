-- From what the parts do to what is promised of an answer.
use Prim.Native.Nat.{ℕ, zero, suc, ◌+◌, ◌≤◌}
use native.Mathlib.Omega.{arith}
use mathlib.Core.Path.{◌≡◌, refl, sym, ◌∙◌, ap}
use mathlib.Core.Bool.{Bool, true, false, cond, ◌&&◌, ◌||◌}
use mathlib.Core.List.{List, [], ◌∷◌}
use mathlib.Core.Logic.{⊎_elim}
use lib.Dec.{eqb, leb, ltb}
use lib.ListN.{length, get_or, replicate, get_or-replicate, length-replicate, get_or-eq_default}
use borrow.Author.Tests.{ltb-false, leb-true, eq-eqb, ne_eqb}
use Rattle.phases.specs.Round.{sum, most, rounds}
use Rattle.grants.specs.Refusal.{within, refusal_of}
use Rattle.phases.specs.Share.{shared}
use Rattle.grants.specs.Grant.{reply, grants_of, granted, answered, equal_lengths, unequal}
use Rattle.grants.specs.Promise.{Promise}
use Rattle.phases.proofs.Turns.{below_or_not, length-rounds, sum-rounds, rounds-Bounded, settled}
use Rattle.phases.proofs.Loops.{get_d_shared, length-shared}

differ : true ≡ false → ⊥
differ e = let z : ◌≡◌ {A = ℕ} 0 1 = cc in omega arith

or_right : (p q : Bool) → (p || q) ≡ false → q ≡ false
or_right true q e = absurd (differ e)
or_right false q e = e

and_left : (p q : Bool) → (p && q) ≡ true → p ≡ true
and_left true q e = refl
and_left false q e = absurd (differ (sym e))

and_right : (p q : Bool) → (p && q) ≡ true → q ≡ true
and_right true q e = e
and_right false q e = absurd (differ (sym e))

-- ---- what no refusal says

pub record Accepted (period : ℕ) (shares limits : List ℕ) : Type 0 where
  pub few : length shares ≤ 8
  pub limited : within shares limits ≡ true
  pub fitting : sum shares ≤ period

pub accepted : (period : ℕ) (shares limits : List ℕ) → refusal_of period shares limits ≡ 0 → Accepted period shares limits
unfolding refusal_of
accepted period shares limits e =
    by (eqb (length shares) 0 || ltb 8 (length shares)) (within shares limits) (ltb period (sum shares)) refl refl refl e
  where
    by : (a w s : Bool) → (eqb (length shares) 0 || ltb 8 (length shares)) ≡ a → within shares limits ≡ w → ltb period (sum shares) ≡ s
        → ◌≡◌ {A = ℕ} (cond a 14 (cond w (cond s 16 0) 15)) 0 → Accepted period shares limits
    by true w s p q r e = absurd (omega arith)
    by false false s p q r e = absurd (omega arith)
    by false true true p q r e = absurd (omega arith)
    by false true false p q r e =
        record { few = ltb-false 8 (length shares) (or_right (eqb (length shares) 0) (ltb 8 (length shares)) p); limited = q; fitting = ltb-false period (sum shares) r }

pub within_each : (s b : List ℕ) → within s b ≡ true → length s ≡ length b → (i : ℕ) → get_or s i 0 ≤ get_or b i 0
unfolding within
within_each [] b e h i = omega arith
within_each (x ∷ s) [] e h i = absurd (omega arith)
within_each (x ∷ s) (y ∷ b) e h zero = leb-true x y (and_left (leb x y) (within s b) e)
within_each (x ∷ s) (y ∷ b) e h (suc i) = within_each s b (and_right (leb x y) (within s b) e) (omega arith) i

pub sum-shared : (s l : List ℕ) → sum (shared s l) ≤ sum s
unfolding sum shared
sum-shared [] l = omega arith
sum-shared (x ∷ s) [] = omega arith
sum-shared (x ∷ s) (y ∷ l) = omega (arith, sum-shared s l)

sum_zeros : (n : ℕ) → sum (replicate n 0) ≡ 0
unfolding sum
sum_zeros zero = refl
sum_zeros (suc n) = omega (arith, sum_zeros n)

zeros : (n i : ℕ) → ◌≡◌ {A = ℕ} (get_or (replicate n 0) i 0) 0
zeros n i = ⊎_elim (λ h. get_or-replicate n i 0 0 h) (λ h. get_or-eq_default (replicate n 0) 0 (omega (arith, length-replicate {A = ℕ} n 0))) (below_or_not i n)

-- ---- the answers

module _ (period : ℕ) (shares limits left grants : List ℕ) where
  pub equal : length shares ≡ length grants → length limits ≡ length grants → length left ≡ length grants → equal_lengths shares limits left grants ≡ true
  unfolding equal_lengths
  equal a b c = rw (eq-eqb (length shares) (length grants) a, eq-eqb (length limits) (length grants) b, eq-eqb (length left) (length grants) c)

  not_equal : equal_lengths shares limits left grants ≡ false → Promise period shares limits left grants (reply unequal grants)
  unfolding answered
  not_equal e = record { answers = rw e; bounds = λ f. absurd (differ (sym f ∙ e)) }

  pub other_shares : (length shares ≡ length grants → ⊥) → Promise period shares limits left grants (reply unequal grants)
  unfolding equal_lengths
  other_shares a = not_equal (rw (ne_eqb (length shares) (length grants) a))

  pub other_limits : length shares ≡ length grants → (length limits ≡ length grants → ⊥) → Promise period shares limits left grants (reply unequal grants)
  unfolding equal_lengths
  other_limits a b = not_equal (rw (eq-eqb (length shares) (length grants) a, ne_eqb (length limits) (length grants) b))

  pub other_left : length shares ≡ length grants → length limits ≡ length grants → (length left ≡ length grants → ⊥) → Promise period shares limits left grants (reply unequal grants)
  unfolding equal_lengths
  other_left a b c = not_equal (rw (eq-eqb (length shares) (length grants) a, eq-eqb (length limits) (length grants) b, ne_eqb (length left) (length grants) c))

  module _ (a : length shares ≡ length grants) (b : length limits ≡ length grants) (c : length left ≡ length grants) where
    pub turned_away : (n : ℕ) (t : List ℕ) → n ≡ refusal_of period shares limits → (n ≡ 0 → ⊥) → t ≡ replicate (length grants) 0
        → Promise period shares limits left grants (reply n t)
    unfolding answered granted
    turned_away n t e f z =
        record {
          answers = rw (equal a b c, ← e, ne_eqb n 0 f, z, a);
          bounds = λ u.
              record {
                limited = λ i. omega (arith, ap (λ (l : List ℕ). get_or l i 0) z, zeros (length grants) i);
                covered = λ i. omega (arith, ap (λ (l : List ℕ). get_or l i 0) z, zeros (length grants) i);
                fitting = omega (arith, ap sum z, sum_zeros (length grants));
                used = λ q. absurd (f q);
                refused = λ q. rw a z;
              };
        }

    module _ (e : refusal_of period shares limits ≡ 0) where
      first_bounded : (i : ℕ) → get_or (shared shares left) i 0 ≤ most limits left i
      first_bounded i = omega (arith, get_d_shared shares left i, within_each shares limits (accepted period shares limits e).limited (a ∙ sym b) i)

      pub first_within : sum (shared shares left) ≤ period
      first_within = omega (arith, sum-shared shares left, (accepted period shares limits e).fitting)

      pub dealt : (t : List ℕ) → t ≡ grants_of period shares limits left → Promise period shares limits left grants (reply 0 t)
      unfolding answered granted grants_of
      dealt t z =
          let m = most limits left in
          let bound : (i : ℕ) → get_or t i 0 ≤ m i = λ i. rw z (rounds-Bounded period m period (shared shares left) first_bounded i) in
          let size : length t ≡ length grants = ap length z ∙ (length-rounds period m period (shared shares left) ∙ (length-shared shares left (a ∙ sym c) ∙ a)) in
          record {
            answers = rw (equal a b c, e, z);
            bounds = λ u.
                record {
                  limited = λ i. omega (arith, bound i);
                  covered = λ i. omega (arith, bound i);
                  fitting = rw z (sum-rounds period m period (shared shares left) first_within);
                  used = λ q l i.
                      ⊎_elim
                      (λ h.
                      ⊎_elim
                      (λ s. absurd (omega (arith, ap sum z)))
                      (λ s. let x : m i ≤ get_or t i 0 = rw z (s i (rw z at h)) in omega (arith, bound i))
                      (settled period m period (shared shares left) first_within (omega arith)))
                      (λ h. let y : get_or limits i 0 ≡ 0 = get_or-eq_default limits 0 (omega arith) in omega (arith, get_or-eq_default t 0 h))
                      (below_or_not i (length t));
                  refused = λ q. absurd (q refl);
                };
          }

pub dealt_is : (period : ℕ) (shares limits left g t : List ℕ) (rest : ℕ) → t ≡ rounds (sum g + rest) (most limits left) (sum g + rest) g → g ≡ shared shares left
    → sum g + rest ≡ period → t ≡ grants_of period shares limits left
unfolding grants_of
dealt_is period shares limits left g t rest e p q = e ∙ (rw (q, p))
