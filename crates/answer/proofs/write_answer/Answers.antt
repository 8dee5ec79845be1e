use mathlib.Core.Path.{refl}
use Rattle.answer.proofs.Answer.{five_words, fifth}
use Rattle.answer.proofs.write_answer.Goals as goal

pub bounds-answer-4 : goal.bounds-answer-4
bounds-answer-4 c = fifth c.args.answer.now _ _ _ _ c.requires

pub returns : goal.returns
returns c = (refl, five_words c.args.answer.now _ _ _ _ _ c.requires)
