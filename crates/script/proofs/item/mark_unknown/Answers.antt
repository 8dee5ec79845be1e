use Rattle.script.proofs.Unknown.{window_unknown}
use Rattle.script.proofs.item.mark_unknown.Goals as goal

pub returns : goal.returns
returns c = rw c.clear_mark.ensures (window_unknown _ _ _ c.if-p-lt-WINDOW.false)
