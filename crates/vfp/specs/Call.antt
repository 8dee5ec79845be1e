-- What a call answers, and what it should.
use Rattle.std.specs.Prelude.{ℕ, cond, List, eqb, length}
use Rattle.machine.specs.Place.{State, state}
use Rattle.meaning.specs.Stop.{finished, undefined, branched, refused, Report, report}
use Rattle.meaning.specs.Tree.{Tree, exit_of, plain}
use Rattle.memory.specs.LoadStore.{load_store_tree}
use Rattle.vfp.specs.declared.Exit.{Exit}
use Rattle.vfp.specs.declared.Exit.TheVariants as E
use Rattle.vfp.specs.declared.Answer.{Answer}
use Rattle.limits.specs.Limit.{window_limit}

-- the number and the values of an exit
abbrev pub exit_report : Exit → Report
exit_report E.Nothing = report finished
exit_report (E.Undefined pc opcode) = report (undefined pc opcode)
exit_report E.Branched = report branched
exit_report (E.Refused n) = report (refused n)

-- a report, with the machine and the window that are left
pub record Reply : Type 0 where
  pub report : Report
  pub leaves : State

-- the code's answer, with the window as the call leaves it
abbrev pub answered : Answer → List ℕ → Reply
answered a window = record { report = exit_report a.exit; leaves = state a.machine window }

-- what a word of the meaning t should give
abbrev pub reply : Tree → State → Reply
reply t st = let o = plain t st in record { report = report (exit_of o.next); leaves = o.st }

-- loads and stores: refused outside the limits, with everything as it came
abbrev pub load_store_reply : ℕ → ℕ → State → Reply
load_store_reply base w st =
    let n = window_limit base (length st.window) in
    cond (eqb n 0) (reply (load_store_tree base w) st) (record { report = report (refused n); leaves = st })
