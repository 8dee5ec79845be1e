-- What a watched run answers, and what it should.
use Rattle.std.specs.Prelude.{ℕ, cond, List, eqb, length}
use Rattle.machine.specs.Place.{State, state}
use Rattle.meaning.specs.Map.{Map}
use Rattle.meaning.specs.Stop.{Report, report, refused}
use Rattle.meaning.specs.Run as R
use Rattle.place_marks.specs.Word.{map_in, word_of}
use Rattle.word_class.specs.Word.{meaning}
use Rattle.run_word.specs.Stop.{stop_of}
use Rattle.watch.specs.declared.Watched.{Watched}
use Rattle.limits.specs.Limit.{watch_limit}

-- a report and a count, with the machine, the window and the map that are left
pub record Reply : Type 0 where
  pub report : Report
  pub count : ℕ
  pub leaves : State
  pub map : Map

-- the code's answer, with the window and its marks as the run leaves them
abbrev pub answered : Watched → List ℕ → List ℕ → Reply
answered a window marks =
    record { report = report (stop_of a.stop); count = a.count; leaves = state a.machine window; map = map_in a.marks marks }

-- what a watched run that has ended gives
abbrev pub reply : R.Watched → Reply
reply e = record { report = report e.stop; count = e.count; leaves = e.st; map = e.map }

-- the first refusal that applies to a watched run, or 0: then it is within the limits
abbrev pub limit_of : ℕ → List ℕ → State → Map → ℕ
limit_of base list st μ = watch_limit (length list) base (length st.window) st.machine.thumb μ.words

-- the watched run of a list: refused outside the limits, with zero words run and everything as it came
unfoldable pub watch_reply : ℕ → List ℕ → State → Map → Reply
watch_reply base list st μ =
    let n = limit_of base list st μ in
    cond (eqb n 0) (reply (R.watch (meaning base) list 0 st μ)) (record { report = report (refused n); count = 0; leaves = st; map = μ })

-- the word of marks that is handed back, by the refusal: then the word that came, else that of the last map
abbrev pub handed_back : ℕ → ℕ → Map → ℕ
handed_back n m μ = cond (eqb n 0) (word_of μ.marks) m
