use Prim.Native.Nat.{◌<◌, ◌^◌}
use native.Mathlib.Omega.{arith}
use mathlib.Core.Path.{subst}
use Rattle.run_word.specs.declared.Stop.{Stop}
use Rattle.run_word.specs.Stop.{stop_of}
use Rattle.meaning.specs.Stop.{report}
use Rattle.answer.proofs.report_stop.Goals as goal

pub overflow_cast-place : goal.overflow_cast-place
overflow_cast-place c =
    let h : c.in-Hangs.place < 2 ^ 32 = subst (λ (s : Stop). (report (stop_of s)).place < 2 ^ 32) c.in-Hangs.is c.requires.2 in
    omega (arith, h)

pub returns-in-Finished : goal.returns-in-Finished
returns-in-Finished c = rw c.in-Finished.is c.write_answer.ensures

pub returns-in-Foreign : goal.returns-in-Foreign
returns-in-Foreign c = rw c.in-Foreign.is c.write_answer-in-Foreign.ensures

pub returns-in-Undefined : goal.returns-in-Undefined
returns-in-Undefined c = rw c.in-Undefined.is c.write_answer-in-Undefined.ensures

pub returns-in-Branched : goal.returns-in-Branched
returns-in-Branched c = rw c.in-Branched.is c.write_answer-in-Branched.ensures

pub returns-in-Hangs : goal.returns-in-Hangs
returns-in-Hangs c = rw c.in-Hangs.is c.write_answer-in-Hangs.ensures

pub returns-in-Refused : goal.returns-in-Refused
returns-in-Refused c = rw c.in-Refused.is c.write_answer-in-Refused.ensures
