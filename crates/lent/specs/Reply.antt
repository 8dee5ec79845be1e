-- What a call over a lent machine answers.
use Rattle.machine.specs.Place.{State}
use Rattle.vfp.specs.Call.{Reply, exit_report}
use Rattle.vfp.specs.declared.Exit.{Exit}

-- the exit's report, with the machine behind the reference and the window as the call leaves them
abbrev pub lent_reply : Exit → State → Reply
lent_reply x st = record { report = exit_report x; leaves = st }
