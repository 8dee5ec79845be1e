use Rattle.vfp.proofs.Replies.{data_done, data_undefined}
use Rattle.vfp.proofs.data_processing.Goals as goal

pub returns-in-Done : goal.returns-in-Done
returns-in-Done c = λ v. data_done c.args.machine c.args.op c.data_processing-done.new.s c.data_processing-done.result c.data_processing-done.ensures v _ c.in-Done.is

pub returns-in-Undefined : goal.returns-in-Undefined
returns-in-Undefined c = λ v. data_undefined c.args.machine c.args.op c.data_processing-done.new.s c.data_processing-done.result c.data_processing-done.ensures v _ c.in-Undefined.is c.current_pc-pc.ensures
