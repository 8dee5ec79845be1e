use borrow.Author.Tests.{not-true, not-false}
use Rattle.record_refusal.proofs.Refusing.{formed_not, formed_is}
use mathlib.Core.Bool.{false}
use Rattle.record_refusal.proofs.is_well_formed.Goals as goal

pub returns-then-not-is_valid : goal.returns-then-not-is_valid
returns-then-not-is_valid c =
    let c₁ = c in
    let start = c₁ in
    formed_not start.args.bytes.now start.args.words start.requires _ c.is_valid.result false c₁.fill.ensures
    c.is_valid.ensures (not-true _ c.if-not-is_valid.true-raw)

pub returns : goal.returns
returns c =
    let c₁ = c in
    let c₂ = c₁ in
    let start = c₂ in
    formed_is start.args.bytes.now start.args.words start.requires _ c₁.is_valid.result c.bits_only.result c₂.fill.ensures
    c₁.is_valid.ensures (not-false _ c.if-not-is_valid.false-raw) c.bits_only.ensures
