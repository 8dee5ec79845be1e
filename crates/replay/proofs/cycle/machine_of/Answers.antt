use Rattle.record_refusal.proofs.Refusing.{Valid-state, decoded_state}
use mathlib.Core.Path.{◌∙◌}
use Rattle.replay.proofs.cycle.machine_of.Goals as goal

pub decode-requires : goal.decode-requires
decode-requires c =
    let c₁ = c in
    let start = c₁ in
    Valid-state start.args.bytes.now start.args.words start.requires.0 _ c₁.fill.ensures start.requires.1

pub returns : goal.returns
returns c =
    let c₁ = c in
    let start = c₁ in
    c.decode.ensures ∙ decoded_state start.args.bytes.now start.args.words start.requires.0 _ c₁.fill.ensures
