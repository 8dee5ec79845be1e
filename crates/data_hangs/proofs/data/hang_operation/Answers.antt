use borrow.Enum.Refused.{opened}
use mathlib.Core.Path.{◌∙◌}
use Rattle.place_marks.specs.Word.{map_in}
use Rattle.place_marks.proofs.Places.{place-control}
use Rattle.hangs.proofs.Hangs.{operation_steps, operation_clear, operation_none}
use Rattle.data_hangs.proofs.data.hang_operation.Goals as goal

pub returns-in-Fmac : goal.returns-in-Fmac
returns-in-Fmac c f op st w = let a = c.args in (rw (c.is_known.ensures w, place-control) at c.asked.ensures) ∙ operation_steps f op a.o st (map_in a.marks w) (opened c.in-Fmac.in-Fmac-own.keys1)

pub returns-in-Fcmp : goal.returns-in-Fcmp
returns-in-Fcmp c f op st w = let a = c.args in operation_clear f op a.o st (map_in a.marks w) c.in-Fcmp.in-Fcmp-own.keys2

pub returns-in-Undefined : goal.returns-in-Undefined
returns-in-Undefined c f op st w = let a = c.args in (rw (c.core_known.ensures w) at c.asked-in-Undefined.ensures) ∙ operation_none f op a.o st (map_in a.marks w) c.in-Undefined.is
