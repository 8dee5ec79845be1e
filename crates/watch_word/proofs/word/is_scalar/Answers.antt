use mathlib.Core.Bool.{true≢false}
use mathlib.Core.Path.{sym, ◌∙◌}
use native.Mathlib.Omega.{arith}
use Rattle.place_marks.proofs.Places.{place-control}
use Rattle.watch_word.proofs.word.is_scalar.Goals as goal

pub returns-then-n-eq0 : goal.returns-then-n-eq0
returns-then-n-eq0 c = λ e. absurd (true≢false (sym e))

pub returns-then-fpscr-ne0 : goal.returns-then-fpscr-ne0
returns-then-fpscr-ne0 c = λ e. absurd (true≢false (sym e))

pub returns : goal.returns
returns c = λ e. (omega arith, omega arith, λ w. sym (rw place-control at (c.is_known.ensures w)) ∙ e)
