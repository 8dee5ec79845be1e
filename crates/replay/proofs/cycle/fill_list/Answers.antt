use Rattle.replay.proofs.Running.{list_first}
use native.Mathlib.Omega.{arith}
use lib.Seq.{length-take-le}
use lib.ListN.{length, take}
use mathlib.Core.Path.{sym}
use Rattle.replay.proofs.cycle.fill_list.Goals as goal

pub slice_bounds-fill-end-2 : goal.slice_bounds-fill-end-2
slice_bounds-fill-end-2 c =
    let start = c in
    sym (length-take-le start.args.n start.args.list.now start.requires.2)

pub fill-requires : goal.fill-requires
fill-requires c =
    let start = c in
    rw (length-take-le start.args.n start.args.list.now start.requires.2) (omega (arith, start.requires.0.bytes, start.requires.1))

pub returns : goal.returns
returns c =
    let c₁ = c in
    let start = c₁ in
    list_first start.args.bytes.now start.args.words start.requires.0 start.args.n start.requires.1
    (length (take start.args.n start.args.list.now)) c₁.fill.new.to _
    (length-take-le start.args.n start.args.list.now start.requires.2) c₁.fill.ensures
