-- Back through a word that was counted.
use Rattle.std.specs.Prelude.{ℕ, List}
use Rattle.machine.specs.Place.{State}
use Rattle.meaning.specs.Tree.{Tree, watched}
use Rattle.chains.specs.Steps.{act_of}
use Rattle.reached.specs.Point.{Goes}
use Rattle.links.specs.declared.Back.{Back}
use Rattle.links.specs.Walked.{WalkedIf}

abbrev pub WalkedCounted : Tree → State → ℕ → ℕ → ℕ → ℕ → List ℕ → List ℕ → Back → Type 0
WalkedCounted t st = WalkedIf (λ μ. Goes (watched t st μ).next) (act_of t st)
