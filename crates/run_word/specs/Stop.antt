-- Why a run stops, and what follows a word, as the code says it.
use Rattle.meaning.specs.Stop as S
use Rattle.meaning.specs.Tree as T
use Rattle.run_word.specs.declared.Stop.{Stop}
use Rattle.run_word.specs.declared.Stop.TheVariants.{Finished, Foreign, Undefined, Branched, Hangs, Refused}
use Rattle.run_word.specs.declared.Next.{Next}
use Rattle.run_word.specs.declared.Next.TheVariants.{On, Last, Halt}

-- the kind and the values of the code's stop; `report` gives their numbers
abbrev pub stop_of : Stop → S.Stop
stop_of Finished = S.finished
stop_of Foreign = S.foreign
stop_of (Undefined pc opcode) = S.undefined pc opcode
stop_of Branched = S.branched
stop_of (Hangs place) = S.hangs place
stop_of (Refused n) = S.refused n

abbrev pub next_of : Next → T.Next
next_of On = T.on
next_of Last = T.last
next_of (Halt s) = T.halt (stop_of s)
