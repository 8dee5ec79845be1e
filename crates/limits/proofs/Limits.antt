-- The laws of the limits: what a run within them is.
use Prim.Native.Nat.{ℕ, zero, suc, ◌≤◌}
use native.Mathlib.Omega.{arith}
use mathlib.Core.Path.{◌≡◌, refl}
use mathlib.Core.Bool.{Bool, true, false, cond}
use mathlib.Core.List.{List}
use lib.Dec.{eqb, ltb}
use lib.ListN.{length}
use borrow.Author.Tests.{ne_eqb, eqb-true, ltb-false, le-ltb}
use Rattle.window_marks.specs.Marks.{bits_only}
use Rattle.limits.specs.Limit.{most_list, window_limit, run_limit, watch_limit}

-- ---- within the limits

module _ (list base words : ℕ) (thumb : Bool) (marks : List ℕ) (e : watch_limit list base words thumb marks ≡ 0) where
  pub run_within : run_limit list base words thumb ≡ 0
  unfolding watch_limit
  run_within = by (run_limit list base words thumb) (eqb (run_limit list base words thumb) 0) refl e
    where
      by : (n : ℕ) (b : Bool) → eqb n 0 ≡ b → cond b (cond (eqb (length marks) words) (cond (bits_only marks) 0 7) 6) n ≡ 0 → n ≡ 0
      by n true f g = eqb-true n 0 f
      by n false f g = g

  pub marks_within : length marks ≡ words
  unfolding watch_limit
  marks_within = by (eqb (length marks) words) refl (rw (run_within) at e)
    where
      by : (b : Bool) → eqb (length marks) words ≡ b → ◌≡◌ {A = ℕ} (cond b (cond (bits_only marks) 0 7) 6) 0 → length marks ≡ words
      by true f g = eqb-true (length marks) words f
      by false f g = absurd (six g)
        where
          six : ◌≡◌ {A = ℕ} 6 0 → ⊥
          six q = omega arith

-- a shorter list is within the limits too
pub shorter : (short list base words : ℕ) (thumb : Bool) → short ≤ list → run_limit list base words thumb ≡ 0 → run_limit short base words thumb ≡ 0
unfolding run_limit
shorter short list base words thumb h e = by (ltb most_list list) refl e
  where
    one : ◌≡◌ {A = ℕ} 1 0 → ⊥
    one q = omega arith

    by : (b : Bool) → ltb most_list list ≡ b → cond b 1 (cond (eqb (window_limit base words) 0) (cond thumb 5 0) (window_limit base words)) ≡ 0
        → cond (ltb most_list short) 1 (cond (eqb (window_limit base words) 0) (cond thumb 5 0) (window_limit base words)) ≡ 0
    by true f g = absurd (one g)
    by false f g = rw (le-ltb most_list short (omega (arith, ltb-false most_list list f))) g

pub watch_shorter : (short list base words : ℕ) (thumb : Bool) (marks : List ℕ) → short ≤ list → watch_limit list base words thumb marks ≡ 0
    → watch_limit short base words thumb marks ≡ 0
unfolding watch_limit
watch_shorter short list base words thumb marks h e =
    let n = run_within list base words thumb marks e in
    rw (shorter short list base words thumb h n) (rw n at e)

-- within the limits the list is short enough, and the Thumb bit is clear
pub list_within : (list base words : ℕ) (thumb : Bool) → run_limit list base words thumb ≡ 0 → list ≤ most_list
unfolding run_limit
list_within list base words thumb e = by (ltb most_list list) _ refl e
  where
    by : (b : Bool) (x : ℕ) → ltb most_list list ≡ b → cond b 1 x ≡ 0 → list ≤ most_list
    by true x f g = let one : ◌≡◌ {A = ℕ} 1 0 = g in absurd (omega (arith, one))
    by false x f g = ltb-false most_list list f

pub arm : (list base words : ℕ) (thumb : Bool) → run_limit list base words thumb ≡ 0 → thumb ≡ false
unfolding run_limit
arm list base words false e = refl
arm list base words true e = absurd (by (ltb most_list list) (window_limit base words) e)
  where
    some : (k : ℕ) → cond (eqb k 0) 5 k ≡ 0 → ⊥
    some zero h = omega arith
    some (suc k) h = let g : suc k ≡ 0 = rw (ne_eqb (suc k) 0 (λ e. omega arith)) at h in omega arith

    by : (b : Bool) (k : ℕ) → cond b 1 (cond (eqb k 0) (cond true 5 0) k) ≡ 0 → ⊥
    by true k h = omega arith
    by false k h = some k h
