use mathlib.Core.Bool.{false}
use Rattle.machine.specs.Machine.{assembled}
use Rattle.machine.specs.Place.{state}
use Rattle.place_marks.specs.Word.{map_in}
use Rattle.memory.specs.LoadStore.{load_store_tree}
use Rattle.meaning.specs.Tree.{on}
use Rattle.watched_class.proofs.Worded.{hanging, not_hanging}
use Rattle.watch_word.proofs.word.watch_access.Goals as goal

pub returns-in-At : goal.returns-in-At
returns-in-At c = let a = c.args in (hanging (load_store_tree a.base a.op) (state (assembled a.s.now a.r.now a.x false) a.window.now) (map_in a.marks a.window_marks.now) _ (rw c.in-At.is at (c.hang_access-hang.ensures a.base (state (assembled a.s.now a.r.now a.x false) a.window.now) a.window_marks.now)), c.requires)

pub returns-in-Clear : goal.returns-in-Clear
returns-in-Clear c =
    let a = c.args in
    let done = c.watched_load_store-known.ensures in
    let machine = assembled a.s.now a.r.now a.x false in (
      not_hanging (load_store_tree a.base a.op) (state (assembled a.s.now a.r.now a.x false) a.window.now) _ (map_in a.marks a.window_marks.now) _ on
          (rw c.in-Clear.is at (c.hang_access-hang.ensures a.base (state (assembled a.s.now a.r.now a.x false) a.window.now) a.window_marks.now)) (done.0 machine) (done.1 machine a.window.now),
      done.2,
    )
