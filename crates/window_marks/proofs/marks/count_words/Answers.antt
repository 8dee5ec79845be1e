use Prim.Native.Nat.{◌+◌, ◌*◌}
use native.Mathlib.Omega.{arith}
use mathlib.Core.Path.{◌≡◌, sym, ◌∙◌}
use borrow.Author.Tests.{not-true, not-false}
use Rattle.window_marks.proofs.Ones.{differ, sum_on, word_on, word_not}
use Rattle.window_marks.proofs.marks.count_words.Goals as goal

pub returns-then-not-word_bits_only : goal.returns-then-not-word_bits_only
returns-then-not-word_bits_only c = (λ e. sym c.loop-i.invariant.1 ∙ word_not c.args.marks.now (λ k. omega (arith, c.shared_slice_known-1.given k)) (c.args.from + 8 * c.loop-i.i) c.word-w.result (omega (arith, c.loop-i-test.true, c.requires.1)) c.word-w.ensures (sym c.word_bits_only.ensures ∙ not-true c.word_bits_only.result c.if-not-word_bits_only.true-raw), λ e. absurd (differ e))

pub overflow_add-sum : goal.overflow_add-sum
overflow_add-sum c = let f = word_on c.args.marks.now (λ k. omega (arith, c.shared_slice_known-1.given k)) (c.args.from + 8 * c.loop-i.i) c.word-w.result (omega (arith, c.loop-i-test.true, c.requires.1)) c.word-w.ensures (omega arith) (sym c.word_bits_only.ensures ∙ not-false c.word_bits_only.result c.if-not-word_bits_only.false-raw) in omega (arith, f.3, c.loop-i.invariant.4, c.loop-i-test.true, c.requires.0)

pub loop-i-preserved : goal.loop-i-preserved
loop-i-preserved c = let f = word_on c.args.marks.now (λ k. omega (arith, c.shared_slice_known-1.given k)) (c.args.from + 8 * c.loop-i.i) c.word-w.result (omega (arith, c.loop-i-test.true, c.requires.1)) c.word-w.ensures (omega arith) (sym c.word_bits_only.ensures ∙ not-false c.word_bits_only.result c.if-not-word_bits_only.false-raw) in let q : c.args.from + 8 * (c.loop-i.i + 1) ≡ c.args.from + 8 * c.loop-i.i + 8 = omega arith in let g = sum_on c.loop-i.sum c.word-w.result (8 * c.loop-i.i) c.loop-i.invariant.3 (omega (arith, c.loop-i-test.true, c.requires.0)) f.2 in (omega arith, rw q (f.0 ∙ c.loop-i.invariant.1), rw q (omega (arith, f.1, g, c.loop-i.invariant.2)), omega (arith, f.2, g, c.loop-i.invariant.3), omega (arith, f.3, c.loop-i.invariant.4))
