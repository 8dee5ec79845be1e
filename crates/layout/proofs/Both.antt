-- Of two tests that hold, each does.
use mathlib.Core.Path.{◌≡◌, refl, sym}
use mathlib.Core.Bool.{Bool, true, false, ◌&&◌, true≢false}

pub fst : (a b : Bool) → a && b ≡ true → a ≡ true
fst true b e = refl
fst false b e = e

pub snd : (a b : Bool) → a && b ≡ true → b ≡ true
snd true b e = e
snd false b e = absurd (true≢false (sym e))
