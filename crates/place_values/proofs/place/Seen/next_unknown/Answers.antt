use Rattle.place_values.proofs.Order.{first_end, first_here, first_on}
use Rattle.place_values.specs.Place.{next_unknown}
use Rattle.place_values.specs.Seen.{known_in}
use mathlib.Core.Bool.{not}
use native.Mathlib.Omega.{arith}
use mathlib.Core.Path.{refl, sym, ◌∙◌, ap}
use Rattle.place_values.proofs.place.Seen.next_unknown.Goals as goal

pub loop-p-init : goal.loop-p-init
unfolding next_unknown
loop-p-init c = (omega arith, refl)

pub loop-p-preserved : goal.loop-p-preserved
loop-p-preserved c = (omega arith, first_on (λ p. not (known_in c.args.self p)) _ _ c.loop-p-test.true (ap not (sym c.is_known.ensures) ∙ ap not c.if-is_known.true) ∙ c.loop-p.invariant.1)

pub returns-else-is_known : goal.returns-else-is_known
returns-else-is_known c = (omega arith, first_here (λ p. not (known_in c.args.self p)) _ _ c.loop-p-test.true (ap not (sym c.is_known.ensures) ∙ ap not c.if-is_known.false) ∙ c.loop-p.invariant.1)

pub returns-after-loop-p : goal.returns-after-loop-p
returns-after-loop-p c = (omega arith, first_end (λ p. not (known_in c.args.self p)) _ _ c.loop-p-test.false ∙ c.loop-p.invariant.1)
