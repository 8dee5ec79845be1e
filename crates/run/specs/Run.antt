-- What a run answers, and what it should.
use Rattle.std.specs.Prelude.{ℕ, cond, List, eqb, length}
use Rattle.machine.specs.Place.{State, state}
use Rattle.meaning.specs.Stop as S
use Rattle.meaning.specs.Stop.{Report, report}
use Rattle.meaning.specs.Run.{Ended, run}
use Rattle.progress.specs.declared.Ran.{Ran}
use Rattle.limits.specs.Limit.{run_limit}
use Rattle.run_word.specs.Stop.{stop_of}
use Rattle.word_class.specs.Word.{meaning}

-- a report and a count, with the machine and the window that are left
pub record Reply : Type 0 where
  pub report : Report
  pub count : ℕ
  pub leaves : State

-- the code's answer, with the window as the run leaves it
abbrev pub answered : Ran → List ℕ → Reply
answered a window = record { report = report (stop_of a.stop); count = a.count; leaves = state a.machine window }

-- what a run that has ended gives
abbrev pub reply : Ended → Reply
reply e = record { report = report e.stop; count = e.count; leaves = e.st }

-- the run of a list: refused outside the limits, with zero words run and everything as it came
abbrev pub run_reply : ℕ → List ℕ → State → Reply
run_reply base list st =
    let n = run_limit (length list) base (length st.window) st.machine.thumb in
    cond (eqb n 0) (reply (run (meaning base) list 0 st)) (record { report = report (S.refused n); count = 0; leaves = st })
