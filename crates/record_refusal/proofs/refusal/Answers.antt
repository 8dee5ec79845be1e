use borrow.Author.Tests.{not-true, not-false}
use Rattle.record_refusal.proofs.Refusing.{nine, ten, limited, fitting}
use mathlib.Core.Path.{sym, ◌∙◌}
use Rattle.record_refusal.proofs.refusal.Goals as goal

pub returns-then-not-fits : goal.returns-then-not-fits
returns-then-not-fits c =
    let start = c in
    nine start.args.bytes.now start.args.words start.args.marks (sym c.fits.ensures ∙ not-true _ c.if-not-fits.true-raw)

pub is_well_formed-requires : goal.is_well_formed-requires
is_well_formed-requires c =
    let start = c in
    fitting start.args.bytes.now start.args.words start.args.marks (sym c.fits.ensures ∙ not-false _ c.if-not-fits.false-raw)

pub returns-then-not-is_well_formed : goal.returns-then-not-is_well_formed
returns-then-not-is_well_formed c =
    let c₁ = c in
    let c₂ = c₁ in
    let start = c₂ in
    ten start.args.bytes.now start.args.words start.args.marks (sym c₂.fits.ensures ∙ not-false _ c₁.if-not-fits.false-raw)
    (sym c.is_well_formed.ensures ∙ not-true _ c.if-not-is_well_formed.true-raw)

pub limit-requires : goal.limit-requires
limit-requires c =
    let c₁ = c in
    let c₂ = c₁ in
    let start = c₂ in
    fitting start.args.bytes.now start.args.words start.args.marks (sym c₂.fits.ensures ∙ not-false _ c₁.if-not-fits.false-raw)

pub returns : goal.returns
returns c =
    let c₁ = c in
    let c₂ = c₁ in
    let c₃ = c₂ in
    let start = c₃ in
    c.limit.ensures ∙ limited start.args.bytes.now start.args.words start.args.marks
    (sym c₃.fits.ensures ∙ not-false _ c₂.if-not-fits.false-raw) (sym c₁.is_well_formed.ensures ∙ not-false _ c.if-not-is_well_formed.false-raw)
