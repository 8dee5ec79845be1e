use Rattle.widths.proofs.Narrow.{below_away, below_kept, above_away, above_kept}
use Rattle.narrowing.proofs.narrow.directed_increment.Goals as goal

pub returns-then-control-eq0 : goal.returns-then-control-eq0
returns-then-control-eq0 c m = rw c.if-negative.true (below_away c.args.control m c.requires c.if-control-eq0.true)

pub returns-then-negative : goal.returns-then-negative
returns-then-negative c m = rw c.if-negative.true (below_kept c.args.control m c.requires c.if-control-eq0.false)

pub returns-then-control-eq0-2 : goal.returns-then-control-eq0-2
returns-then-control-eq0-2 c m = rw c.if-negative.false (above_away c.args.control m c.requires c.if-control-eq0-2.true)

pub returns : goal.returns
returns c m = rw c.if-negative.false (above_kept c.args.control m c.requires c.if-control-eq0-2.false)
