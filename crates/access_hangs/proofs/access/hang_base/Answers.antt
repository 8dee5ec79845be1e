use mathlib.Core.Path.{◌∙◌}
use Rattle.place_marks.specs.Word.{map_in}
use Rattle.hangs.proofs.Hangs.{pair_clear, base_asked}
use Rattle.access_hangs.proofs.access.hang_base.Goals as goal

pub returns-then-bits-eq98 : goal.returns-then-bits-eq98
returns-then-bits-eq98 c = λ f b st w. pair_clear f b c.args.op st (map_in c.args.marks w) _ c.bits.ensures c.if-bits-eq98.true

pub returns : goal.returns
returns c = λ f b st w. (rw (c.core_known.ensures w) at c.asked.ensures) ∙ base_asked f b c.args.op st (map_in c.args.marks w) _ c.bits.ensures c.if-bits-eq98.false _ c.bits-rn.ensures
