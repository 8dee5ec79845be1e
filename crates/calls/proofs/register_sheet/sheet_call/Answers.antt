use Rattle.outcomes.proofs.Sheets.{not_laid, has_laid}
use Rattle.layout.proofs.Words.{valid_facts}
use mathlib.Core.Path.{sym, ◌∙◌}
use borrow.Author.Tests.{not-false}
use Rattle.calls.proofs.register_sheet.sheet_call.Goals as goal

pub returns-then-not-is_valid : goal.returns-then-not-is_valid
returns-then-not-is_valid c = not_laid c.args.state.now c.args.marks c.args.page.now c.is_valid.result c.is_valid.ensures c.if-not-is_valid.true-raw

pub decode-machine-requires : goal.decode-machine-requires
decode-machine-requires c = valid_facts _ (sym c.is_valid.ensures ∙ not-false _ c.if-not-is_valid.false-raw)

pub returns : goal.returns
returns c = has_laid c.args.state.now c.args.marks c.args.page.now c.is_valid.result c.is_valid.ensures c.decode-machine.result c.lay_out-refusal.result c.of_refusal.result c.lay_out-refusal.new.page c.if-not-is_valid.false-raw c.decode-machine.ensures c.lay_out-refusal.ensures c.of_refusal.ensures
