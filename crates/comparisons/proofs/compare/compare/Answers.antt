use Rattle.std.proofs.Common.{true, false, sym, ◌∙◌}
use Rattle.comparisons.proofs.Flags.{nan_l, nan_r, equal, ordered}
use Rattle.comparisons.proofs.compare.compare.Goals as goal

pub returns-then-differs : goal.returns-then-differs
returns-then-differs g c =
    nan_l _ _ _ _ _ _ _ _ c.float-x.ensures c.float-y.ensures (sym c.differs.ensures ∙ c.if-differs.true) c.unordered.ensures.0 c.unordered.ensures.1

pub returns-then-differs-2 : goal.returns-then-differs-2
returns-then-differs-2 g c =
    nan_r _ _ _ _ _ _ _ _ c.float-x.ensures c.float-y.ensures (sym c.differs.ensures ∙ c.if-differs.false) (sym c.differs-2.ensures ∙ c.if-differs-2.true)
    c.unordered-then-differs-2.ensures.0 c.unordered-then-differs-2.ensures.1

pub returns-then-equal : goal.returns-then-equal
returns-then-equal g c =
    equal _ _ _ _ _ _ _ _ c.float-x.ensures c.float-y.ensures (sym c.differs.ensures ∙ c.if-differs.false) (sym c.differs-2.ensures ∙ c.if-differs-2.false)
    (sym c.equal.ensures ∙ c.if-equal.true) c.ordered.ensures

pub returns-then-less : goal.returns-then-less
returns-then-less g c =
    ordered _ _ _ _ _ _ _ _ c.float-x.ensures c.float-y.ensures true (sym c.differs.ensures ∙ c.if-differs.false) (sym c.differs-2.ensures ∙ c.if-differs-2.false)
    (sym c.equal.ensures ∙ c.if-equal.false) (sym c.less.ensures ∙ c.if-less.true) c.ordered-then-less.ensures

pub returns-else-less : goal.returns-else-less
returns-else-less g c =
    ordered _ _ _ _ _ _ _ _ c.float-x.ensures c.float-y.ensures false (sym c.differs.ensures ∙ c.if-differs.false) (sym c.differs-2.ensures ∙ c.if-differs-2.false)
    (sym c.equal.ensures ∙ c.if-equal.false) (sym c.less.ensures ∙ c.if-less.false) c.ordered-else-less.ensures
