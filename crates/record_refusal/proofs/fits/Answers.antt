use borrow.Author.Tests.{not-true, not-false}
use Rattle.record_refusal.proofs.Refusing.{short, old, missized, few, unlike, alike}
use mathlib.Core.Path.{sym, ◌∙◌}
use Rattle.record_refusal.proofs.fits.Goals as goal

pub returns-then-bytes-lt12 : goal.returns-then-bytes-lt12
returns-then-bytes-lt12 c = short c.args.bytes.now c.args.words c.args.marks c.if-bytes-lt12.true

pub returns-then-not-is_current : goal.returns-then-not-is_current
returns-then-not-is_current c = old c.args.bytes.now c.args.words c.args.marks (sym c.is_current.ensures ∙ not-true _ c.if-not-is_current.true-raw)

pub returns-then-bytes-stated : goal.returns-then-bytes-stated
returns-then-bytes-stated c = missized c.args.bytes.now c.args.words c.args.marks c.list_count-list.result c.index-stated.result (sym c.is_current.ensures ∙ not-false _ c.if-not-is_current.false-raw) c.list_count-list.ensures.0 (c.index-stated.ensures.0 ∙ c.nth.ensures) c.if-bytes-stated.true

pub returns-then-stated-lt-WINDOW : goal.returns-then-stated-lt-WINDOW
returns-then-stated-lt-WINDOW c = few c.args.bytes.now c.args.words c.args.marks c.list_count-list.result c.index-stated.result (sym c.is_current.ensures ∙ not-false _ c.if-not-is_current.false-raw) c.list_count-list.ensures.0 (c.index-stated.ensures.0 ∙ c.nth.ensures) c.if-bytes-stated.false c.if-stated-lt-WINDOW.true

pub returns-then-words-stated : goal.returns-then-words-stated
returns-then-words-stated c = unlike c.args.bytes.now c.args.words c.args.marks c.list_count-list.result c.index-stated.result (sym c.is_current.ensures ∙ not-false _ c.if-not-is_current.false-raw) c.list_count-list.ensures.0 (c.index-stated.ensures.0 ∙ c.nth.ensures) c.if-bytes-stated.false c.if-stated-lt-WINDOW.false c.if-words-stated.true

pub returns : goal.returns
returns c = alike c.args.bytes.now c.args.words c.args.marks c.list_count-list.result c.index-stated.result (sym c.is_current.ensures ∙ not-false _ c.if-not-is_current.false-raw) c.list_count-list.ensures.0 (c.index-stated.ensures.0 ∙ c.nth.ensures) c.if-bytes-stated.false c.if-stated-lt-WINDOW.false c.if-words-stated.false
