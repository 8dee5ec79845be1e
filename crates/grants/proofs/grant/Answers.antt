use Rattle.grants.proofs.Answers.{accepted, first_within, other_shares, other_limits, other_left, turned_away, dealt, dealt_is}
use Rattle.phases.specs.Round.{sum}
use mathlib.Core.Path.{◌≡◌, sym, ◌∙◌, ap}
use lib.ListN.{length}
use native.Mathlib.Omega.{arith}
use Rattle.grants.proofs.grant.Goals as goal

pub returns-then-shares-grants : goal.returns-then-shares-grants
returns-then-shares-grants c = other_shares c.args.period c.args.shares.now c.args.limits.now c.args.left.now c.args.grants.now c.if-shares-grants.true

pub returns-then-limits-grants : goal.returns-then-limits-grants
returns-then-limits-grants c = other_limits c.args.period c.args.shares.now c.args.limits.now c.args.left.now c.args.grants.now c.if-shares-grants.false c.if-limits-grants.true

pub returns-then-left-grants : goal.returns-then-left-grants
returns-then-left-grants c = other_left c.args.period c.args.shares.now c.args.limits.now c.args.left.now c.args.grants.now c.if-shares-grants.false c.if-limits-grants.false c.if-left-grants.true

pub returns-then-refused-ne0 : goal.returns-then-refused-ne0
returns-then-refused-ne0 c = turned_away c.args.period c.args.shares.now c.args.limits.now c.args.left.now c.args.grants.now c.if-shares-grants.false c.if-limits-grants.false c.if-left-grants.false c.refusal-refused.result c.clear.new.grants c.refusal-refused.ensures c.if-refused-ne0.true c.clear.ensures

pub total-requires : goal.total-requires
total-requires c = let k : length c.share_out.new.grants ≡ length c.args.grants.now = c.share_out.auto.grants in omega (arith, (accepted c.args.period c.args.shares.now c.args.limits.now (sym c.refusal-refused.ensures ∙ c.if-refused-ne0.false)).few)

pub overflow_sub-rest : goal.overflow_sub-rest
overflow_sub-rest c = omega (arith, first_within c.args.period c.args.shares.now c.args.limits.now c.args.left.now c.args.grants.now c.if-shares-grants.false c.if-limits-grants.false c.if-left-grants.false (sym c.refusal-refused.ensures ∙ c.if-refused-ne0.false), ap sum c.share_out.ensures, c.total.ensures, c.wide.ensures)

pub deal-requires : goal.deal-requires
deal-requires c = let k : length c.share_out.new.grants ≡ length c.args.grants.now = c.share_out.auto.grants in record { limited = omega arith; covered = omega arith; few = omega (arith, (accepted c.args.period c.args.shares.now c.args.limits.now (sym c.refusal-refused.ensures ∙ c.if-refused-ne0.false)).few) }

pub returns : goal.returns
returns c = dealt c.args.period c.args.shares.now c.args.limits.now c.args.left.now c.args.grants.now c.if-shares-grants.false c.if-limits-grants.false c.if-left-grants.false (sym c.refusal-refused.ensures ∙ c.if-refused-ne0.false) c.deal.new.grants (dealt_is c.args.period c.args.shares.now c.args.limits.now c.args.left.now c.share_out.new.grants c.deal.new.grants _ c.deal.ensures c.share_out.ensures (omega (arith, first_within c.args.period c.args.shares.now c.args.limits.now c.args.left.now c.args.grants.now c.if-shares-grants.false c.if-limits-grants.false c.if-left-grants.false (sym c.refusal-refused.ensures ∙ c.if-refused-ne0.false), ap sum c.share_out.ensures, c.total.ensures, c.wide.ensures)))
