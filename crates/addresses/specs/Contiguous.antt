-- A transfer that lies in the window as a block.
use Rattle.std.specs.Prelude.{ℕ, ◌+◌, ◌^◌, ◌≤◌}
use Rattle.machine.specs.Window.{word_at}

-- The k words from the address a on, in a window of so many words, and the k singles from n on: none lies past the window's end, and neither
-- addresses nor singles go on at 0. Word i of them is then the word after i others: the law `word_on` of proofs/Block.antt.
abbrev pub Contiguous : ℕ → ℕ → ℕ → ℕ → ℕ → Type 0
Contiguous words base a n k = (word_at base a + k ≤ words) × (word_at base a + k ≤ 2 ^ 30) × (n + k ≤ 32)
