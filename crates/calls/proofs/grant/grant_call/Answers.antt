use Rattle.outcomes.proofs.Grants.{granting}
use Rattle.calls.proofs.grant.grant_call.Goals as goal

pub returns : goal.returns
returns c = granting c.args.period c.args.shares.now c.args.limits.now c.args.left.now c.args.grants.now c.grant-refusal.new.grants c.grant-refusal.result c.of_refusal.result c.of_refusal.ensures c.grant-refusal.ensures
