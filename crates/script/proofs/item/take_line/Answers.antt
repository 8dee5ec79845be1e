use Rattle.std.proofs.lemmas.Result.{err_from_is_err_and}
use Rattle.script.proofs.Lines.{line_nothing, line_word, line_set, line_unknown, line_window, line_mistake}
use Rattle.script.proofs.item.take_line.Goals as goal

pub returns-in_err-item_of : goal.returns-in_err-item_of
returns-in_err-item_of c =
    let error = err_from_is_err_and c.from_residual.result c.from_residual.ensures.1 in
    rw (error.1, error.2) (line_mistake c.args.line.now _ _ _ c.in_err-item_of.ensures)

pub returns-in-Nothing : goal.returns-in-Nothing
returns-in-Nothing c = line_nothing c.args.line.now _ _ (rw c.in-Nothing.is at c.in_ok-item_of.ensures)

pub returns-in-Word : goal.returns-in-Word
returns-in-Word c = line_word c.args.line.now _ _ _ _ (c.add_word.ensures _ _ _) (rw c.in-Word.is at c.in_ok-item_of.ensures)

pub returns-in-Set : goal.returns-in-Set
returns-in-Set c = line_set c.args.line.now _ _ _ _ _ (c.set_place.ensures _ _) (rw c.in-Set.is at c.in_ok-item_of.ensures)

pub returns-in-Unknown : goal.returns-in-Unknown
returns-in-Unknown c = line_unknown c.args.line.now _ _ _ _ (c.mark_all_unknown.ensures _ _ _) (rw c.in-Unknown.is at c.in_ok-item_of.ensures)

pub returns-in-Window : goal.returns-in-Window
returns-in-Window c = line_window c.args.line.now _ _ _ _ _ c.set_window.ensures (rw c.in-Window.is at c.in_ok-item_of.ensures)
