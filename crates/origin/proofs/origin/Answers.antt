use lib.ListN.{length}
use mathlib.Core.Path.{◌≡◌, refl, sym, ◌∙◌}
use Rattle.walk_back.proofs.Refusals.{room}
use Rattle.origin.proofs.Promised.{not_run, not_given, gives, limit, in_arm, short, has_Promise, has_word, counted, still_unknown}
use Rattle.watch.specs.Watch.{answered}
use Rattle.place_marks.specs.Word.{map_in}
use Rattle.machine.specs.Place.{state}
use native.Mathlib.Omega.{arith}
use borrow.Author.Rules.{rules}
use Rattle.origin.proofs.origin.Goals as goal

pub returns-then-limit-ne0 : goal.returns-then-limit-ne0
unfolding map_in
returns-then-limit-ne0 c = let a = c.args in (c.watch-watched.ensures.0, c.watch-watched.ensures.1, c.watch-watched.ensures.2, not_run a.base a.list.now (state a.machine a.window.now) (map_in a.marks a.window_marks.now) a.place _ a.pairs.now (λ z. c.if-limit-ne0.true (c.watch_limit-limit.ensures.0 ∙ z)))

pub watch_words-watched-requires : goal.watch_words-watched-requires
unfolding map_in
watch_words-watched-requires c = let a = c.args in (in_arm a.base a.list.now a.machine (record { s = search rules; r = search rules }) a.window.now a.marks a.window_marks.now _ c.watch_limit-limit.ensures.0 c.if-limit-ne0.false, c.operations-table.ensures, c.watch_limit-limit.ensures.1 c.if-limit-ne0.false, refl, refl)

pub origin_refusal-refusal-requires : goal.origin_refusal-refusal-requires
unfolding map_in
origin_refusal-refusal-requires c = let a = c.args in omega (arith, counted a.base a.list.now a.machine (record { s = search rules; r = search rules }) a.window.now a.marks a.window_marks.now _ c.watch_limit-limit.ensures.0 c.if-limit-ne0.false c.watch_words-watched.result c.watch_words-watched.new.window c.watch_words-watched.new.window_marks c.watch_words-watched.ensures.0, short a.base a.list.now a.machine (record { s = search rules; r = search rules }) a.window.now a.marks a.window_marks.now _ c.watch_limit-limit.ensures.0 c.if-limit-ne0.false)

pub returns-then-refusal-ne0 : goal.returns-then-refusal-ne0
unfolding map_in
returns-then-refusal-ne0 c = let a = c.args in (has_Promise a.base a.list.now a.machine (record { s = search rules; r = search rules }) a.window.now a.marks a.window_marks.now _ c.watch_limit-limit.ensures.0 c.if-limit-ne0.false c.watch_words-watched.result c.watch_words-watched.new.window c.watch_words-watched.new.window_marks c.watch_words-watched.ensures.0, has_word a.base a.list.now a.machine (record { s = search rules; r = search rules }) a.window.now a.marks a.window_marks.now _ c.watch_limit-limit.ensures.0 c.if-limit-ne0.false c.watch_words-watched.result c.watch_words-watched.new.window c.watch_words-watched.new.window_marks c.watch_words-watched.ensures.0 c.watch_words-watched.ensures.1, c.watch_words-watched.ensures.2, not_given a.base a.list.now (state a.machine a.window.now) (map_in a.marks a.window_marks.now) a.place (answered c.watch_words-watched.result c.watch_words-watched.new.window c.watch_words-watched.new.window_marks) a.pairs.now c.origin_refusal-refusal.result (limit a.base a.list.now a.machine (record { s = search rules; r = search rules }) a.window.now a.marks a.window_marks.now _ c.watch_limit-limit.ensures.0 c.if-limit-ne0.false) c.origin_refusal-refusal.ensures c.if-refusal-ne0.true)

pub walk-back-requires : goal.walk-back-requires
unfolding map_in
walk-back-requires c = let a = c.args in (c.operations-table.ensures, counted a.base a.list.now a.machine (record { s = search rules; r = search rules }) a.window.now a.marks a.window_marks.now _ c.watch_limit-limit.ensures.0 c.if-limit-ne0.false c.watch_words-watched.result c.watch_words-watched.new.window c.watch_words-watched.new.window_marks c.watch_words-watched.ensures.0, omega (arith, counted a.base a.list.now a.machine (record { s = search rules; r = search rules }) a.window.now a.marks a.window_marks.now _ c.watch_limit-limit.ensures.0 c.if-limit-ne0.false c.watch_words-watched.result c.watch_words-watched.new.window c.watch_words-watched.new.window_marks c.watch_words-watched.ensures.0, short a.base a.list.now a.machine (record { s = search rules; r = search rules }) a.window.now a.marks a.window_marks.now _ c.watch_limit-limit.ensures.0 c.if-limit-ne0.false), (room _ _ _ _ (sym c.if-refusal-ne0.false ∙ c.origin_refusal-refusal.ensures)).holds)

pub returns : goal.returns
unfolding map_in
returns c = let a = c.args in (has_Promise a.base a.list.now a.machine (record { s = search rules; r = search rules }) a.window.now a.marks a.window_marks.now _ c.watch_limit-limit.ensures.0 c.if-limit-ne0.false c.watch_words-watched.result c.watch_words-watched.new.window c.watch_words-watched.new.window_marks c.watch_words-watched.ensures.0, has_word a.base a.list.now a.machine (record { s = search rules; r = search rules }) a.window.now a.marks a.window_marks.now _ c.watch_limit-limit.ensures.0 c.if-limit-ne0.false c.watch_words-watched.result c.watch_words-watched.new.window c.watch_words-watched.new.window_marks c.watch_words-watched.ensures.0 c.watch_words-watched.ensures.1, c.watch_words-watched.ensures.2, gives a.base a.list.now (state a.machine a.window.now) (map_in a.marks a.window_marks.now) a.place (answered c.watch_words-watched.result c.watch_words-watched.new.window c.watch_words-watched.new.window_marks) a.pairs.now _ _ _ (limit a.base a.list.now a.machine (record { s = search rules; r = search rules }) a.window.now a.marks a.window_marks.now _ c.watch_limit-limit.ensures.0 c.if-limit-ne0.false) (sym c.if-refusal-ne0.false ∙ c.origin_refusal-refusal.ensures) (c.walk-back.ensures (state a.machine a.window.now) (map_in a.marks a.window_marks.now) c.watch_words-watched.ensures.3 (let e : length c.watch_words-watched.new.log_marks ≡ 4096 = c.watch_words-watched.auto.log_marks in omega (arith, e, short a.base a.list.now a.machine (record { s = search rules; r = search rules }) a.window.now a.marks a.window_marks.now _ c.watch_limit-limit.ensures.0 c.if-limit-ne0.false)) (still_unknown a.base a.list.now a.machine (record { s = search rules; r = search rules }) a.window.now a.marks a.window_marks.now _ c.watch_limit-limit.ensures.0 c.if-limit-ne0.false c.watch_words-watched.result c.watch_words-watched.new.window c.watch_words-watched.new.window_marks c.watch_words-watched.ensures.0 a.place (room _ _ _ _ (sym c.if-refusal-ne0.false ∙ c.origin_refusal-refusal.ensures)).unknown)))
