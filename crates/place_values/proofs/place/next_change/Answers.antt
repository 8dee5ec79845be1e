use Rattle.place_values.proofs.Order.{first_end, first_here, first_on}
use Rattle.place_values.specs.Place.{next_change}
use Rattle.place_values.specs.Seen.{changed_in}
use native.Mathlib.Omega.{arith}
use mathlib.Core.Path.{refl, sym, ◌∙◌}
use Rattle.place_values.proofs.place.next_change.Goals as goal

pub loop-p-init : goal.loop-p-init
unfolding next_change
loop-p-init c = (omega arith, refl)

pub loop-p-preserved : goal.loop-p-preserved
loop-p-preserved c = (omega arith, first_on (changed_in c.args.before c.args.after) _ _ c.loop-p-test.true (sym c.changed.ensures ∙ c.if-not-changed.true) ∙ c.loop-p.invariant.1)

pub returns-else-not-changed : goal.returns-else-not-changed
returns-else-not-changed c = (omega arith, first_here (changed_in c.args.before c.args.after) _ _ c.loop-p-test.true (sym c.changed.ensures ∙ c.if-not-changed.false) ∙ c.loop-p.invariant.1)

pub returns-after-loop-p : goal.returns-after-loop-p
returns-after-loop-p c = (omega arith, first_end (changed_in c.args.before c.args.after) _ _ c.loop-p-test.false ∙ c.loop-p.invariant.1)
