use Rattle.record_refusal.proofs.Refusing.{run_refused, by_marks, limit_is, marks_are}
use Rattle.records.specs.Number.{numbers_of}
use lib.ListN.{take, drop}
use Prim.Native.Nat.{◌+◌}
use mathlib.Core.Bool.{true, false}
use mathlib.Core.Path.{sym, ◌∙◌}
use Rattle.record_refusal.proofs.limit.Goals as goal

pub returns-then-n-ne0 : goal.returns-then-n-ne0
returns-then-n-ne0 c =
    let c₁ = c in
    let c₂ = c₁ in
    let start = c₂ in
    run_refused c₂.list_count-list.result c₁.nth-base.result start.args.words
    (take start.args.words (drop (108 + start.args.words) (numbers_of start.args.bytes.now))) c.run_limit-n.result
    c.run_limit-n.ensures c.if-n-ne0.true ∙ limit_is start.args.bytes.now start.args.words start.requires c₂.list_count-list.result
    c₁.nth-base.result c₂.list_count-list.ensures.0 c₁.nth-base.ensures

pub returns-then-bits_only : goal.returns-then-bits_only
returns-then-bits_only c =
    let c₁ = c in
    let c₂ = c₁ in
    let c₃ = c₂ in
    let c₄ = c₃ in
    let start = c₄ in
    by_marks c₄.list_count-list.result c₃.nth-base.result start.args.words
    (take start.args.words (drop (108 + start.args.words) (numbers_of start.args.bytes.now))) c₂.run_limit-n.result
    c₂.run_limit-n.ensures c₁.if-n-ne0.false (marks_are start.args.bytes.now start.args.words start.requires) true
    (sym c.if-bits_only.true ∙ c.bits_only.ensures) ∙ limit_is start.args.bytes.now start.args.words start.requires
    c₄.list_count-list.result c₃.nth-base.result c₄.list_count-list.ensures.0 c₃.nth-base.ensures

pub returns : goal.returns
returns c =
    let c₁ = c in
    let c₂ = c₁ in
    let c₃ = c₂ in
    let c₄ = c₃ in
    let start = c₄ in
    by_marks c₄.list_count-list.result c₃.nth-base.result start.args.words
    (take start.args.words (drop (108 + start.args.words) (numbers_of start.args.bytes.now))) c₂.run_limit-n.result
    c₂.run_limit-n.ensures c₁.if-n-ne0.false (marks_are start.args.bytes.now start.args.words start.requires) false
    (sym c.if-bits_only.false ∙ c.bits_only.ensures) ∙ limit_is start.args.bytes.now start.args.words start.requires
    c₄.list_count-list.result c₃.nth-base.result c₄.list_count-list.ensures.0 c₃.nth-base.ensures
