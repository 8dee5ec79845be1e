use Rattle.std.proofs.Common.{◌∙◌, refl}
use Rattle.tokens.proofs.Words.{content_before, content_end}
use Rattle.tokens.proofs.token.content.Goals as goal

pub returns-then-text-line : goal.returns-then-text-line
returns-then-text-line c =
    c.before-text.ensures ∙ content_before c.args.line.now (rw c.before-text.ensures at c.if-text-line.true)

pub returns : goal.returns
returns c =
    content_end c.args.line.now (rw c.before-text.ensures at c.if-text-line.false) c.args.line c.unwrap_or.result c.strip_suffix.result refl c.strip_suffix.ensures.cases c.unwrap_or.ensures
