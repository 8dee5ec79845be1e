use Rattle.replay.proofs.Running.{carried, known_bits, window_bits, short_list, Fitting-as}
use Rattle.record_refusal.proofs.Fields.{window_is, known_is, window_known_is}
use Rattle.records.specs.Recorded.{of_bytes, word_of_marks}
use Rattle.records.specs.Number.{numbers_of}
use lib.ListN.{take, drop}
use Prim.Native.Nat.{ℕ, ◌+◌}
use native.Mathlib.Omega.{arith}
use lib.ListN.{length}
use mathlib.Core.Path.{refl, sym, ap, ◌∙◌}
use Rattle.replay.proofs.cycle.run_cycle.Goals as goal

pub word-known-requires : goal.word-known-requires
word-known-requires c =
    let start = c in
    (omega (arith, start.requires.0.fitting.bytes), known_bits start.args.bytes.now (length start.args.window.now) start.requires.0)

pub fill-requires-2 : goal.fill-requires-2
fill-requires-2 c =
    let start = c in (
      omega (arith, start.requires.0.fitting.bytes, start.requires.1),
      window_bits start.args.bytes.now (length start.args.window.now)
          start.requires.0 (length start.args.window_marks.now) start.requires.1,
    )

pub run_list-requires : goal.run_list-requires
run_list-requires c =
    let c₁ = c in
    let start = c₁ in (
      Fitting-as start.args.bytes.now (length start.args.window.now) start.requires.0 _ c₁.fill.auto.to,
      short_list
          start.args.bytes.now (length start.args.window.now) start.requires.0,
    )

pub returns : goal.returns
returns c =
    let c₁ = c in
    let c₂ = c₁ in
    let c₃ = c₂ in
    let c₄ = c₃ in
    let c₅ = c₄ in
    let start = c₅ in (
      carried (of_bytes start.args.bytes.now).base _ (of_bytes start.args.bytes.now).list _ _ _ _ _ _ _ _ _ _ _ refl refl
          c₅.machine_of-machine.ensures (c₃.fill.ensures ∙ sym (window_is start.args.bytes.now (length start.args.window.now)
          start.requires.0.fitting)) (c₄.word-known.ensures ∙ ap word_of_marks
          (sym (known_is start.args.bytes.now (length start.args.window.now) start.requires.0.fitting)))
          (c₂.fill-2.ensures ∙ (ap (λ (n : ℕ). take n (drop (108 + (length start.args.window.now)) (numbers_of start.args.bytes.now)))
          start.requires.1 ∙ sym (window_known_is start.args.bytes.now (length start.args.window.now) start.requires.0.fitting)))
          c₁.run_list.ensures.0,
      c₁.run_list.ensures.1,
    )
