use Rattle.replay.proofs.Running.{carried, count_fits, within_list}
use Rattle.record_refusal.proofs.Fields.{base_is}
use lib.Seq.{length-take-le}
use lib.ListN.{length, take}
use mathlib.Core.Path.{refl, sym, ◌∙◌}
use Rattle.replay.proofs.cycle.run_list.Goals as goal

pub fill_list-requires : goal.fill_list-requires
fill_list-requires c =
    let start = c in (
      start.requires.0,
      c.list_count-n.ensures.0,
      (count_fits start.args.bytes.now (length start.args.window.now) start.requires.0 c.list_count-n.result
          c.list_count-n.ensures.0 start.requires.1),
    )

pub slice_bounds-list-end : goal.slice_bounds-list-end
slice_bounds-list-end c =
    let c₁ = c in
    let c₂ = c₁ in
    let start = c₂ in
    within_list c₂.list_count-n.result c₁.fill_list.new.list
    (count_fits start.args.bytes.now (length start.args.window.now) start.requires.0 c₂.list_count-n.result
    c₂.list_count-n.ensures.0 start.requires.1) c₁.fill_list.auto.list

pub slice_bounds-watch-end : goal.slice_bounds-watch-end
slice_bounds-watch-end c =
    let c₁ = c in
    let c₂ = c₁ in
    let start = c₂ in
    sym (length-take-le c₂.list_count-n.result c₁.fill_list.new.list
    (within_list c₂.list_count-n.result c₁.fill_list.new.list
    (count_fits start.args.bytes.now (length start.args.window.now) start.requires.0 c₂.list_count-n.result
    c₂.list_count-n.ensures.0 start.requires.1) c₁.fill_list.auto.list))

pub returns : goal.returns
returns c =
    let c₁ = c in
    let c₂ = c₁ in
    let c₃ = c₂ in
    let c₄ = c₃ in
    let start = c₄ in (
      carried c₄.nth-base.result _ (take c₃.list_count-n.result c₂.fill_list.new.list) _ _ _ _ _ _ _ _ _ _ _
          (c₄.nth-base.ensures ∙ sym (base_is start.args.bytes.now (length start.args.window.now) start.requires.0)) c₂.fill_list.ensures
          refl refl refl refl (c₁.watch.ensures.0, c₁.watch.ensures.1),
      c₁.watch.ensures.2,
    )
