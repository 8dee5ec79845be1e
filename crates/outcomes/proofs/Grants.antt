-- From a period's grants to what the exported grant leaves.
use Prim.Native.Nat.{ℕ}
use mathlib.Core.Path.{◌≡◌, ◌∙◌, ap}
use mathlib.Core.List.{List}
use Rattle.grants.specs.Grant.{reply}
use Rattle.grants.specs.Promise.{Promise}
use Rattle.outcomes.specs.Outcome.{result_of}
use Rattle.outcomes.specs.Grant.{grant_outcome, reported_grant}
use Rattle.outcomes.specs.GrantPromise.{GrantPromise}

pub granting : (period : ℕ) (shares limits left grants t : List ℕ) (n r : ℕ) → r ≡ result_of n → Promise period shares limits left grants (reply n t)
    → GrantPromise period shares limits left grants (grant_outcome r t)
granting period shares limits left grants t n r e p =
    let q : grant_outcome r t ≡ reported_grant (reply n t) = rw e in
    record { leaves = q ∙ ap reported_grant p.answers; reply = reply n t; reports = q; promise = p }
