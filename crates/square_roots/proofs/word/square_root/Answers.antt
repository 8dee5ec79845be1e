use Rattle.std.proofs.Common.{◌/◌, ◌%◌, ◌^◌, cond, refl, sym, ◌∙◌, eqb}
use Rattle.rounding.specs.Rounding.{rounding_of}
use Rattle.rounding.specs.declared.rounding.Rounding.TheVariants.{Up, Zero}
use Rattle.roots.proofs.Laws.{root_number_lem, root_nan}
use Rattle.roots.proofs.RootNear.{below_nan, found, by_mode, near_word}
use Rattle.square_roots.proofs.word.square_root.Goals as goal

pub returns-then-e : goal.returns-then-e
returns-then-e g c =
    let p = g.met.W.Precision in
    let f = g.W.Precision.format in
    let control = c.args.control in
    let is = found (cond (eqb (control / 2 ^ 22 % 4) 1) Up Zero) _ _ _ _ _ _ _ (rw c.wide-w.ensures.value at c.estimated-e.ensures) c.if-e.true c.directed_root.ensures in
    let low = rw (c.wide-w.ensures.value, c.LEAST.ensures, p.least_normal) at c.if-w-LEAST.true in
    let high = rw (c.wide-w.ensures.value, c.infinity.ensures) at c.if-w-infinity.true in
    let word = rw c.wide-w.ensures.value at c.placed.ensures in
    root_number_lem f control _ _ _ (below_nan f _ high)
    (near_word (rounding_of control) f _ _ _ _ _ _ _ low high refl refl (is.0 ∙ by_mode control _ c.if-mode-gt0.true) is.2 word.0 word.1)

pub returns-then-is_nan : goal.returns-then-is_nan
returns-then-is_nan g c = root_nan g.W.Precision.format _ _ _ _ (sym c.is_nan.ensures ∙ c.if-is_nan.true) c.nan_of.ensures c.nan_exceptions.ensures

pub returns : goal.returns
returns g c =
    let f = g.W.Precision.format in
    root_number_lem f c.args.control _ _ _ (sym c.is_nan.ensures ∙ c.if-is_nan.false) (rw c.rounding_of.ensures at c.root.ensures)
