use Rattle.machine.specs.Place.{state}
use Rattle.vfp.proofs.Replies.{allowed}
use Rattle.vfp.proofs.coprocessor_load_store.Goals as goal

pub returns : goal.returns
returns c = allowed c.args.base c.args.op (state c.args.machine c.args.window.now) c.window_limit-limit.result c.window_limit-limit.ensures _ c.if-limit-ne0.false (c.coprocessor_load_store.ensures c.args.machine)
