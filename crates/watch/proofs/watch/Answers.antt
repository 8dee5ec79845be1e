use Rattle.watch.proofs.Promised.{refuses, refusing, promised, word_refused, word_promised}
use Rattle.watch.proofs.Demanded.{mapped, within}
use Rattle.known_places.proofs.Count.{places_counted}
use Rattle.place_marks.specs.Word.{map_in}
use Rattle.window_marks.proofs.Ones.{ones_le}
use Rattle.limits.proofs.Limits.{run_within, arm}
use Rattle.machine.specs.Place.{state}
use mathlib.Core.Path.{refl, sym, ◌∙◌}
use native.Mathlib.Omega.{arith}
use borrow.Author.Rules.{rules}
use Rattle.watch.proofs.watch.Goals as goal

pub overflow_add-known : goal.overflow_add-known
overflow_add-known c = omega (arith, c.known_before.ensures.1, c.count_ones.ensures, ones_le c.args.window_marks.now)

pub returns-then-limit-ne0 : goal.returns-then-limit-ne0
unfolding map_in
returns-then-limit-ne0 c = let a = c.args in (refusing a.base a.list.now (state a.machine a.window.now) (map_in a.marks a.window_marks.now) (mapped a.marks a.window_marks.now) (record { s = search rules; r = search rules }) c.watch_limit-limit.result.number c.watch_limit-limit.ensures.0 c.if-limit-ne0.true, word_refused a.base a.list.now (state a.machine a.window.now) a.marks a.window_marks.now _ c.watch_limit-limit.result.number c.watch_limit-limit.ensures.0 c.if-limit-ne0.true (refuses a.base a.list.now (state a.machine a.window.now) (map_in a.marks a.window_marks.now) c.watch_limit-limit.result.number c.watch_limit-limit.ensures.0 c.if-limit-ne0.true), places_counted a.marks a.window_marks.now _ _ c.known_before.ensures.0 c.count_ones.ensures)

pub watch_words-requires : goal.watch_words-requires
unfolding map_in
watch_words-requires c = let a = c.args in ((arm _ _ _ _ (run_within _ _ _ _ a.window_marks.now (sym c.watch_limit-limit.ensures.0 ∙ c.if-limit-ne0.false))), c.operations-table.ensures, c.watch_limit-limit.ensures.1 c.if-limit-ne0.false, refl, refl)

pub returns : goal.returns
unfolding map_in
returns c = let a = c.args in (promised a.base a.list.now (state a.machine a.window.now) (map_in a.marks a.window_marks.now) (mapped a.marks a.window_marks.now) (record { s = search rules; r = search rules }) _ (arm _ _ _ _ (run_within _ _ _ _ a.window_marks.now (sym c.watch_limit-limit.ensures.0 ∙ c.if-limit-ne0.false))) (c.watch_words.ensures.0 ∙ sym (within a.base a.list.now (state a.machine a.window.now) (map_in a.marks a.window_marks.now) (sym c.watch_limit-limit.ensures.0 ∙ c.if-limit-ne0.false))), word_promised a.base a.list.now (state a.machine a.window.now) a.marks a.window_marks.now _ c.watch_words.result.marks _ (sym c.watch_limit-limit.ensures.0 ∙ c.if-limit-ne0.false) (c.watch_words.ensures.0 ∙ sym (within a.base a.list.now (state a.machine a.window.now) (map_in a.marks a.window_marks.now) (sym c.watch_limit-limit.ensures.0 ∙ c.if-limit-ne0.false))) refl c.watch_words.ensures.1, c.watch_words.ensures.2)
