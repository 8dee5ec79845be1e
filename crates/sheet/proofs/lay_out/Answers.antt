use mathlib.Core.Path.{refl}
use native.Mathlib.Omega.{arith}
use borrow.Author.Rules.{rules}
use Rattle.place_marks.specs.Word.{map_in}
use Rattle.sheet.specs.Sheet.{line_of, lines_text}
use Rattle.sheet.proofs.Pages.{line_more, page_short, page_full}
use Rattle.sheet.proofs.lay_out.Goals as goal

pub returns-then-page-lt-SHEET_BYTES : goal.returns-then-page-lt-SHEET_BYTES
returns-then-page-lt-SHEET_BYTES c w = page_short c.args.machine (map_in c.args.marks w) c.args.page.now (omega arith)

pub loop-n-init : goal.loop-n-init
unfolding lines_text
loop-n-init c = (omega arith, refl, λ w. refl)

pub loop-n-preserved : goal.loop-n-preserved
loop-n-preserved c =
    (omega arith, search rules, λ w. line_more c.loop-n.n (line_of c.args.machine.s (map_in c.args.marks w)) c.args.page.now c.loop-n.page c.double_line-text.result _ (c.loop-n.invariant.2 w) (c.double_line-text.ensures w) c.copy_from_slice.ensures.after)

pub returns : goal.returns
returns c w = page_full c.args.machine (map_in c.args.marks w) c.args.page.now c.loop-n.n c.loop-n.page c.loop-n.invariant.0 c.loop-n-test.false c.if-page-lt-SHEET_BYTES.false (c.loop-n.invariant.2 w)
