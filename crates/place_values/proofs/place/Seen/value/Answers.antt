use Rattle.place_values.specs.Place.{value_at}
use borrow.Author.Tests.{eq-eqb, ne_eqb, lt-ltb, le-ltb}
use mathlib.Core.Path.{ap}
use Prim.Native.Nat.{ℕ, ◌/◌, ◌^◌}
use Rattle.place_values.proofs.place.Seen.value.Goals as goal

pub returns-then-p-eq-FLAGS : goal.returns-then-p-eq-FLAGS
unfolding value_at
returns-then-p-eq-FLAGS c = rw (eq-eqb _ _ c.if-p-eq-FLAGS.true) (ap (λ (x : ℕ). x / 2 ^ 28) c.word.ensures)

pub returns-then-p-eq-NZCV : goal.returns-then-p-eq-NZCV
unfolding value_at
returns-then-p-eq-NZCV c = rw (ne_eqb _ _ c.if-p-eq-FLAGS.false, eq-eqb _ _ c.if-p-eq-NZCV.true) (ap (λ (x : ℕ). x / 2 ^ 28) c.word-then-p-eq-NZCV.ensures)

pub returns-then-p-lt-WINDOW : goal.returns-then-p-lt-WINDOW
unfolding value_at
returns-then-p-lt-WINDOW c = rw (ne_eqb _ _ c.if-p-eq-FLAGS.false, ne_eqb _ _ c.if-p-eq-NZCV.false, lt-ltb _ _ c.if-p-lt-WINDOW.true) c.word-then-p-lt-WINDOW.ensures

pub returns : goal.returns
unfolding value_at
returns c = rw (ne_eqb _ _ c.if-p-eq-FLAGS.false, ne_eqb _ _ c.if-p-eq-NZCV.false, le-ltb _ _ c.if-p-lt-WINDOW.false) c.word-2.ensures
