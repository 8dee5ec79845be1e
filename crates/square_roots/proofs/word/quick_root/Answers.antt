use Rattle.std.proofs.Common.{refl}
use Rattle.rounding.specs.declared.rounding.Rounding.TheVariants.{Nearest}
use Rattle.roots.proofs.RootNear.{below_nan, found, near_word}
use Rattle.square_roots.proofs.word.quick_root.Goals as goal

pub returns-then-e : goal.returns-then-e
returns-then-e g c =
    let p = g.met.W.Precision in
    let f = g.W.Precision.format in
    let is = found Nearest _ _ _ _ _ _ _ (rw c.wide-w.ensures.value at c.estimated-e.ensures) c.if-e.true c.nearest_root.ensures in
    let low = rw (c.wide-w.ensures.value, c.LEAST.ensures, p.least_normal) at c.if-w-LEAST.true in
    let high = rw (c.wide-w.ensures.value, c.infinity.ensures) at c.if-w-infinity.true in
    let word = rw c.wide-w.ensures.value at c.placed.ensures in
    (below_nan f _ high, near_word Nearest f _ _ _ _ _ _ _ low high refl refl is.0 is.2 word.0 word.1)
