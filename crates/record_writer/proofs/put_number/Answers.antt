use mathlib.Core.Path.{refl}
use Rattle.record_writer.proofs.Laying.{number_laid}
use Rattle.record_writer.proofs.put_number.Goals as goal

pub returns : goal.returns
returns c =
    let c₁ = c in
    let c₂ = c₁ in
    let start = c₂ in (
      refl,
      rw (c₂.low_byte.ensures, c₁.low_byte-2.ensures, c.low_byte-3.ensures, c.low_byte-4.ensures)
          (number_laid start.args.to.now start.args.at start.args.x start.requires),
    )
