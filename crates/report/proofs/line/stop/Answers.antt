use Rattle.report.specs.Line.{stop_text}
use Rattle.place_values.specs.Place.{known_at, value_at}
use borrow.Author.Tests.{ne_eqb}
use native.Mathlib.Omega.{arith}
use Prim.Native.Nat.{◌≤◌}
use Rattle.text.proofs.Chain.{begun, more, ended}
use mathlib.Core.List.{append_assoc}
use Rattle.report.proofs.line.stop.Goals as goal

pub returns-in-0 : goal.returns-in-0
unfolding stop_text known_at value_at
returns-in-0 c = rw (c.in-0.is, ← c.is_known-known.ensures, ← c.value-r15.ensures) (ended _ _ _ (more _ _ _ _ (more _ _ _ _ (begun _ c.new-t.ensures) c.add.ensures) c.with_r15.ensures) (simp append_assoc))

pub returns-in-1 : goal.returns-in-1
unfolding stop_text known_at value_at
returns-in-1 c = rw (c.in-1.is, ← c.is_known-known.ensures, ← c.value-r15.ensures) (ended _ _ _ (more _ _ _ _ (more _ _ _ _ (more _ _ _ _ (begun _ c.new-t.ensures) c.add-in-1.ensures) c.at_word.ensures) c.with_r15-in-1.ensures) (simp append_assoc))

pub returns-in-2 : goal.returns-in-2
unfolding stop_text
returns-in-2 c = rw c.in-2.is (ended _ _ _ (more _ _ _ _ (more _ _ _ _ (more _ _ _ _ (more _ _ _ _ (begun _ c.new-t.ensures) c.add-in-2.ensures) c.at_word-in-2.ensures) c.add-in-2-2.ensures) c.add_hex.ensures) (simp append_assoc))

pub returns-in-3 : goal.returns-in-3
unfolding stop_text known_at value_at
returns-in-3 c = rw (c.in-3.is, ← c.is_known-known.ensures, ← c.value-r15.ensures) (ended _ _ _ (more _ _ _ _ (more _ _ _ _ (more _ _ _ _ (begun _ c.new-t.ensures) c.add-in-3.ensures) c.after_word.ensures) c.with_r15-in-3.ensures) (simp append_assoc))

pub returns-in-4 : goal.returns-in-4
unfolding stop_text known_at value_at
returns-in-4 c = rw (c.in-4.is, ← c.is_known-known.ensures, ← c.value-r15.ensures) (ended _ _ _ (more _ _ _ _ (more _ _ _ _ (more _ _ _ _ (begun _ c.new-t.ensures) c.hung.ensures) c.at_word-in-4.ensures) c.with_r15-in-4.ensures) (simp append_assoc))

pub returns-in_default : goal.returns-in_default
unfolding stop_text
returns-in_default c =
    let other : 5 ≤ c.args.kind = omega arith in
    rw (ne_eqb c.args.kind 0 (λ e. omega arith), ne_eqb c.args.kind 1 (λ e. omega arith), ne_eqb c.args.kind 2 (λ e. omega arith), ne_eqb c.args.kind 3 (λ e. omega arith), ne_eqb c.args.kind 4 (λ e. omega arith)) (ended _ _ _ (more _ _ _ _ (more _ _ _ _ (begun _ c.new-t.ensures) c.add-in_default.ensures) c.add_decimal.ensures) (simp append_assoc))
