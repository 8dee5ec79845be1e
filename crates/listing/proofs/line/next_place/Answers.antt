use Rattle.std.proofs.Common.{◌≡◌, ◌+◌, ◌-◌, ◌∙◌, ap, arith, length, drop}
use lib.ListN.{length-drop}
use Rattle.place_names.specs.Place.{place_of}
use Rattle.numerals.proofs.Reading.{rest}
use Rattle.listing.specs.Next.{Place, Mistake}
use Rattle.listing.specs.Line.{end_of, next_place}
use Rattle.listing.proofs.Items.{end_is, blank_is, given_some, given_none, next_none}
use Rattle.listing.proofs.line.next_place.Goals as goal

pub returns-then-line-from-clause-next : goal.returns-then-line-from-clause-next
returns-then-line-from-clause-next c = next_none c.args.line.now c.args.from (omega arith)

pub returns-then-is_empty-clause-next : goal.returns-then-is_empty-clause-next
unfolding next_place
returns-then-is_empty-clause-next c =
    let l = drop c.args.from c.args.line.now in
    let word = rw (rest c.args.line.now c.args.from) at c.first.ensures.word in
    let after = rw (rest c.args.line.now c.args.from) at c.first.ensures.rest in
    rw (← blank_is l word after, ← c.if-is_empty.ensures)

pub returns-in-Some-clause-next : goal.returns-in-Some-clause-next
unfolding next_place
returns-in-Some-clause-next c =
    let l = drop c.args.from c.args.line.now in
    let word = rw (rest c.args.line.now c.args.from) at c.first.ensures.word in
    let after = rw (rest c.args.line.now c.args.from) at c.first.ensures.rest in
    let end : length c.args.line.now - length c.first.result.1.now ≡ c.args.from + end_of l =
    omega (arith, end_is l word after, length-drop c.args.from c.args.line.now) in
    rw (← blank_is l word after, ← c.if-is_empty.ensures)
    (ap (Place c.in-Some.place) end ∙ given_some l word after place_of _ c.place_of.ensures (λ p. Place p (c.args.from + end_of l)) Mistake _ c.in-Some.is)

pub returns-in-None-clause-next : goal.returns-in-None-clause-next
unfolding next_place
returns-in-None-clause-next c =
    let l = drop c.args.from c.args.line.now in
    let word = rw (rest c.args.line.now c.args.from) at c.first.ensures.word in
    let after = rw (rest c.args.line.now c.args.from) at c.first.ensures.rest in
    rw (← blank_is l word after, ← c.if-is_empty.ensures) (given_none l word after place_of _ c.place_of.ensures (λ p. Place p (c.args.from + end_of l)) Mistake c.in-None.is)
