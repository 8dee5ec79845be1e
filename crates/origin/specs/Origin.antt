-- What is answered of an unknown place: a chain, or one of refusals 11 to 13.
use Rattle.std.specs.Prelude.{ℕ, ◌≡◌, cond, List, eqb, length}
use Rattle.machine.specs.Place.{State}
use Rattle.meaning.specs.Map.{Map}
use Rattle.watch.specs.Watch.{Reply, limit_of}
use Rattle.walk_back.specs.Refusal.{origin_refusal}
use Rattle.walk_back.specs.Given.{Given}

-- no chain: the list is as it came
abbrev pub Nothing : List ℕ → List ℕ → ℕ → ℕ → Type 0
Nothing l l' first n = (l' ≡ l) × (first ≡ 0) × (n ≡ 0)

-- of the refusal k, the first place and the number n of pairs, after a run that answered x
pub record OriginPromise (base : ℕ) (list : List ℕ) (st : State) (μ : Map) (q : ℕ) (x : Reply) (l l' : List ℕ) (k first n : ℕ) : Type 0 where
  -- after a run; a refused run has none besides its own
  pub refusal : k ≡ cond (eqb (limit_of base list st μ) 0) (origin_refusal q x.map x.count (length l)) 0
  -- a refused run, and a refused chain
  pub refused : (limit_of base list st μ ≡ 0 → ⊥) → Nothing l l' first n
  pub turned : (k ≡ 0 → ⊥) → Nothing l l' first n
  -- else a chain of the run
  pub given : limit_of base list st μ ≡ 0 → k ≡ 0 → Given base list st μ q x.count l l' first n
