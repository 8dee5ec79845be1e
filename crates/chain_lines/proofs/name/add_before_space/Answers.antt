use Rattle.chain_lines.proofs.Spaces.{so_many, shorter}
use native.Mathlib.Omega.{arith}
use mathlib.Core.Path.{sym}
use lib.Seq.{length-take-le}
use Rattle.chain_lines.proofs.name.add_before_space.Goals as goal

pub slice_bounds-add-end : goal.slice_bounds-add-end
slice_bounds-add-end c = sym (length-take-le _ _ (omega (arith, shorter c.args.bytes.now, c.count_before_space-n.ensures)))

pub returns : goal.returns
returns c = rw (← so_many _ _ c.count_before_space-n.ensures) c.add.ensures
