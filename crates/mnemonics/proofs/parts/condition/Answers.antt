use native.Mathlib.Omega.{arith}
use Prim.Native.Nat.{◌*◌, ◌≤◌}
use lib.ListN.{drop_of_length-le}
use Rattle.mnemonics.specs.Ascii.{ascii}
use Rattle.mnemonics.specs.Parts.{condition_text}
use Rattle.mnemonics.proofs.parts.condition.Goals as goal

pub returns-then-c-lt14 : goal.returns-then-c-lt14
unfolding condition_text
returns-then-c-lt14 c = rw (← c.bits-c.ensures) c.two_letters.ensures

pub returns : goal.returns
unfolding condition_text
returns c = rw (← c.bits-c.ensures, drop_of_length-le (ascii "EQNECSCCMIPLVSVCHILSGELTGTLE") (let h : 28 ≤ 2 * c.bits-c.result = omega arith in h)) c.add.ensures
