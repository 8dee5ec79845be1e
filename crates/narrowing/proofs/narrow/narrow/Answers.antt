use Rattle.widths.proofs.Narrow.{normal_lowered, narrow_normal, narrow_number_lem, narrow_resized}
use Rattle.rounding.proofs.Cutting.{mode_nearest}
use Rattle.exceptions.specs.Exceptions.{flushed_exceptions}
use Rattle.rounding.specs.Rounding.{rounding_of}
use lib.Ieee.{binary32}
use mathlib.Core.Path.{refl, ap, ◌∙◌}
use Rattle.narrowing.proofs.narrow.narrow.Goals as goal

pub returns-then-size-lt5183643171103440896 : goal.returns-then-size-lt5183643171103440896
returns-then-size-lt5183643171103440896 c = let s = c in
    narrow_normal _ s.args.b c.if-size-ge4039728865751334912.true c.if-size-lt5183643171103440896.true s.args.control _ _ _ (mode_nearest s.args.control c.if-control-eq0.true) s.ranges.b.fits c.cut-c.ensures.kept_is c.signed.ensures.0 c.signed.ensures.1

pub returns-then-size-lt5183643171103440896-2 : goal.returns-then-size-lt5183643171103440896-2
returns-then-size-lt5183643171103440896-2 c = let s = c in
    narrow_normal _ s.args.b c.if-size-ge4039728865751334912-2.true c.if-size-lt5183643171103440896-2.true s.args.control _ _ _ refl s.ranges.b.fits (normal_lowered (rounding_of c.args.control) c.args.b c.if-size-ge4039728865751334912-2.true c.if-size-lt5183643171103440896-2.true _ c.directed.ensures).1 c.signed-then-size-lt5183643171103440896-2.ensures.0 c.signed-then-size-lt5183643171103440896-2.ensures.1

pub returns-then-size-gt9218868437227405312 : goal.returns-then-size-gt9218868437227405312
returns-then-size-gt9218868437227405312 c = narrow_resized _ _ _ _ c.if-size-gt9218868437227405312.true c.narrowed_nan.ensures c.nan_exceptions.ensures

pub returns : goal.returns
returns c = let s = c in
    let told = c.narrowed-r.result in
    let is = narrow_number_lem s.args.control s.args.b _ told.bits told.exact told.over told.tiny c.rounding_of.ensures c.if-size-gt9218868437227405312.false c.narrowed-r.ensures in
    (c.flush.ensures ∙ is.0, c.flushed_exceptions.ensures ∙ ap (flushed_exceptions binary32 s.args.control told.bits) c.settled.ensures ∙ is.1)
