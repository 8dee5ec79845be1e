-- Demand 3, from the two theorems of crate meaning.
use Prim.Native.Nat.{ℕ, ◌≤◌}
use native.Mathlib.Omega.{arith}
use mathlib.Core.Path.{◌≡◌, ap, sym, ◌∙◌}
use mathlib.Core.List.{List}
use lib.ListN.{length, take, length-take}
use Rattle.machine.specs.Machine.{Sized}
use Rattle.machine.specs.Place.{place, State, state, get}
use Rattle.meaning.specs.Map.{Map}
use Rattle.meaning.specs.Stop.{report}
use Rattle.meaning.specs.Run as R
use Rattle.meaning.specs.Agree as A
use Rattle.meaning.proofs.TwoRuns.{two_runs}
use Rattle.meaning.proofs.Prefix.{prefix}
use Rattle.limits.proofs.Limits.{run_within, marks_within, shorter}
use Rattle.place_marks.specs.Word.{map_in}
use Rattle.place_marks.proofs.Word.{singles_marked, cores_marked}
use Rattle.word_class.specs.Word.{meaning}
use Rattle.watch.specs.Watch.{reply, limit_of, watch_reply}
use Rattle.watch.specs.Demand.{Agree, Alike, Mapped, Plainly, Demand3}
use Rattle.watch.proofs.Places.{by_place}

-- a word holds as many marks as there are places before the window
pub mapped : (m : ℕ) (words : List ℕ) → Mapped (map_in m words)
mapped m words = record { s = singles_marked m words; r = cores_marked m words }

-- ---- within the limits the answer is the watched run's

pub within : (base : ℕ) (list : List ℕ) (st : State) (μ : Map) → limit_of base list st μ ≡ 0 → watch_reply base list st μ ≡ reply (R.watch (meaning base) list 0 st μ)
unfolding watch_reply
within base list st μ e = rw e

module _ (base : ℕ) (list : List ℕ) (st : State) (μ : Map) (e : limit_of base list st μ ≡ 0) where
  fit : Mapped μ → Sized st.machine → A.Fit μ st
  fit m z =
      record {
        s = m.s ∙ sym z.s;
        r = m.r ∙ sym z.r;
        words = marks_within (length list) base (length st.window) st.machine.thumb μ.words e;
      }

  pub Plainly-within : Plainly base list st (reply (R.watch (meaning base) list 0 st μ))
  Plainly-within =
      let n = (R.watch (meaning base) list 0 st μ).count in
      let h : length (take n list) ≤ length list = rw (length-take n list) (omega arith) in
      rw (shorter (length (take n list)) (length list) base (length st.window) st.machine.thumb h (run_within (length list) base (length st.window) st.machine.thumb μ.words e))
      (prefix (meaning base) list st μ)

  pub Alike-within : (b : State) → Mapped μ → Sized st.machine → Sized b.machine → limit_of base list b μ ≡ 0 → Agree μ st b
      → Alike (reply (R.watch (meaning base) list 0 st μ)) (reply (R.watch (meaning base) list 0 b μ))
  Alike-within b m za zb e' ag =
      let x = two_runs (meaning base) list 0 μ st b (record { fa = fit m za; fb = record { s = m.s ∙ sym zb.s; r = m.r ∙ sym zb.r; words = marks_within (length list) base (length b.window) b.machine.thumb μ.words e' }; ag = by_place μ m (λ p. get st p ≡ get b p) ag }) in
      record { report = ap report x.stop; count = x.count; map = x.map; agree = λ n h. x.agree (place n) h }

-- ---- the demand

pub demand_3 : Demand3
demand_3 base list μ a b v w m za zb l ea eb ag = (
  rw (within base list (state a v) μ ea, within base list (state b w) μ eb) (Alike-within base list (state a v) μ ea (state b w) m za zb eb ag),
  rw (within base list (state a v) μ ea) (Plainly-within base list (state a v) μ ea),
  rw (within base list (state b w) μ eb) (Plainly-within base list (state b w) μ eb),
)
