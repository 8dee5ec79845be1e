use Rattle.numerals.specs.Number.{hex_text}
use Rattle.text.proofs.text.Text.add_hex.Goals as goal

pub returns : goal.returns
unfolding hex_text
returns c = rw c.write_digits.ensures at c.add.ensures
