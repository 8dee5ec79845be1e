use lib.Seq.{take-length, take-nil, drop-length}
use lib.ListN.{length, take, drop, length-drop, drop_of_length-le}
use native.Mathlib.Nat.{min-eq_left, min-eq_right}
use native.Mathlib.Omega.{arith}
use Prim.Native.Nat.{ℕ, ◌≤◌, ◌-◌}
use mathlib.Core.Path.{refl, ap, sym, ◌∙◌}
use Rattle.progress.proofs.rest.rest.Goals as goal

pub returns-then-count-end : goal.returns-then-count-end
returns-then-count-end c = let l = c.args.list.now in
    let n = c.args.count in
    (ap (λ (k : ℕ). take k (drop n l)) (sym (length-drop n l)) ∙ take-length (drop n l), refl, rw (min-eq_left {n = n} {m = length l} c.if-count-end.true) (omega arith))

pub returns : goal.returns
returns c = let l = c.args.list.now in
    let h : length l ≤ c.args.count = omega arith in
    (ap (take (length l - length l)) (drop-length l) ∙ take-nil (length l - length l) ∙ sym (drop_of_length-le l h), refl, rw (min-eq_right {n = length l} {m = c.args.count} h) (omega arith))
