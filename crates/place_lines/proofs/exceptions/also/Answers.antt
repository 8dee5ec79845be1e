use borrow.Author.Tests.{not-true, not-false}
use mathlib.Core.List.{append_assoc}
use Rattle.text.proofs.Chain.{more, ended}
use Rattle.place_lines.specs.Exceptions.{raised_text}
use Rattle.place_lines.proofs.exceptions.also.Goals as goal

pub returns-then-not-told : goal.returns-then-not-told
unfolding raised_text
returns-then-not-told c = rw (not-true c.args.told c.if-not-told.true-raw) c.add.ensures

pub returns-then-first : goal.returns-then-first
unfolding raised_text
returns-then-first c =
    rw (not-false c.args.told c.if-not-told.false-raw, c.if-first.true) (ended _ _ _ (more _ _ _ _ c.add-then-first.ensures c.add-then-first-2.ensures) (simp append_assoc))

pub returns : goal.returns
unfolding raised_text
returns c =
    rw (not-false c.args.told c.if-not-told.false-raw, c.if-first.false) (ended _ _ _ (more _ _ _ _ c.add-2.ensures c.add-3.ensures) (simp append_assoc))
