-- Places by their numbers: what holds of each known place by its number holds of each known place.
use Prim.Native.Nat.{ℕ, ◌+◌, ◌<◌}
use native.Mathlib.Omega.{arith}
use native.Mathlib.Decide.{dec_lt}
use mathlib.Core.Path.{◌≡◌, sym, ◌∙◌, subst}
use mathlib.Core.Bool.{true, false, true≢false}
use lib.ListN.{get_or-eq_default}
use Rattle.machine.specs.Place.{Place, single, core, word, flags, control, exc, nzcv, exceptions, before, number, place}
use Rattle.meaning.specs.Map.{Map, known}
use Rattle.place_marks.proofs.Places.{place-single, place-core, place-word, place-flags, place-control, place-exc, place-nzcv, place-exceptions}
use Rattle.watch.specs.Demand.{Mapped}

-- past the registers nothing is marked known
module _ (μ : Map) (sized : Mapped μ) (P : Place → Type 0) (f : (n : ℕ) → known μ (place n) ≡ true → P (place n)) where
  at : (n : ℕ) (p : Place) → place n ≡ p → known μ p ≡ true → P p
  at n p e = subst (λ (q : Place). known μ q ≡ true → P q) e (f n)

  pub by_place : (p : Place) → known μ p ≡ true → P p
  by_place (single n) h = by (dec_lt n 32)
    where
      by : Dec (n < 32) → P (single n)
      by (yes l) = at n (single n) (place-single n l) h
      by (no l) = absurd (true≢false (sym h ∙ get_or-eq_default μ.marks.s false (omega (arith, sized.s))))
  by_place (core n) h = by (dec_lt n 16)
    where
      by : Dec (n < 16) → P (core n)
      by (yes l) = at (32 + n) (core n) (place-core n l) h
      by (no l) = absurd (true≢false (sym h ∙ get_or-eq_default μ.marks.r false (omega (arith, sized.r))))
  by_place (word n) h = at (before + n) (word n) (place-word n) h
  by_place flags h = at (number flags) flags place-flags h
  by_place control h = at (number control) control place-control h
  by_place exc h = at (number exc) exc place-exc h
  by_place nzcv h = at (number nzcv) nzcv place-nzcv h
  by_place exceptions h = at (number exceptions) exceptions place-exceptions h
