use Rattle.std.proofs.Common.{◌∷◌, [], ◌∙◌, Some, None}
use Rattle.std.proofs.lemmas.Slice.Eq.{strip_prefix_is}
use Rattle.std.proofs.lemmas.Bool.Decides.{Decides-eqb}
use Rattle.numerals.proofs.Reading.{value_marked, value_plain}
use Rattle.numerals.proofs.number.value_of.Goals as goal

pub returns-in-Some : goal.returns-in-Some
returns-in-Some c =
    c.hex_of.ensures ∙ value_marked _ _ (strip_prefix_is Decides-eqb _ (48 ∷ 120 ∷ []) (Some c.in-Some.digits) c.in-Some.ensures.cases)

pub returns-in-None : goal.returns-in-None
returns-in-None c =
    c.hex_of-in-None.ensures ∙ value_plain _ (strip_prefix_is Decides-eqb _ (48 ∷ 120 ∷ []) None c.in-None.ensures.cases)
