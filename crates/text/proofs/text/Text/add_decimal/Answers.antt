use Rattle.numerals.proofs.Digits.{decimal_part}
use Rattle.text.specs.Text.{clip}
use Prim.Native.Nat.{ℕ}
use mathlib.Core.List.{List, ◌++◌}
use mathlib.Core.Path.{◌∙◌, ap}
use Rattle.text.proofs.text.Text.add_decimal.Goals as goal

pub returns : goal.returns
returns c = c.add.ensures ∙ ap (λ (l : List ℕ). clip (c.args.self ++ l)) (decimal_part _ c.zeros-n.result c.args.x c.write_digits.ensures c.zeros-n.ensures.1)
