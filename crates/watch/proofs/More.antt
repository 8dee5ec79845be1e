-- More known never shows less, from the theorem of crate meaning.
use Prim.Native.Nat.{ℕ, ◌≤◌}
use native.Mathlib.Omega.{arith}
use mathlib.Core.Path.{◌≡◌, sym, ◌∙◌}
use mathlib.Core.Bool.{true}
use mathlib.Core.List.{List}
use lib.ListN.{length, take, length-take}
use Rattle.machine.specs.Place.{place, State}
use Rattle.meaning.specs.Map.{Map, known}
use Rattle.meaning.specs.Run as R
use Rattle.meaning.specs.Monotone.{SameSize}
use Rattle.meaning.proofs.Monotone.{monotone}
use Rattle.limits.proofs.Limits.{marks_within, watch_shorter}
use Rattle.word_class.specs.Word.{meaning}
use Rattle.watch.specs.Watch.{reply, limit_of, watch_reply}
use Rattle.watch.specs.Demand.{Mapped}
use Rattle.watch.specs.More.{KnowsAll, NoLess, MoreKnown}
use Rattle.watch.proofs.Places.{by_place}
use Rattle.watch.proofs.Demanded.{within}

-- the first words of a list are within the limits too
pub first_within : (base : ℕ) (list : List ℕ) (st : State) (μ : Map) (k : ℕ) → limit_of base list st μ ≡ 0 → limit_of base (take k list) st μ ≡ 0
first_within base list st μ k e =
    let h : length (take k list) ≤ length list = rw (length-take k list) (omega arith) in
    watch_shorter (length (take k list)) (length list) base (length st.window) st.machine.thumb μ.words h e

module _ (base : ℕ) (list : List ℕ) (st : State) (μ ν : Map) (m : Mapped μ) (n : Mapped ν) (e : limit_of base list st μ ≡ 0) (e' : limit_of base list st ν ≡ 0) where
  -- both maps mark as many window words
  pub same_size : SameSize μ ν
  same_size =
      record {
        s = m.s ∙ sym n.s;
        r = m.r ∙ sym n.r;
        words = marks_within (length list) base (length st.window) st.machine.thumb μ.words e ∙ sym (marks_within (length list) base (length st.window) st.machine.thumb ν.words e');
      }

  more_within : KnowsAll μ ν → NoLess base list st ν (reply (R.watch (meaning base) list 0 st μ)) (reply (R.watch (meaning base) list 0 st ν))
  more_within k =
      let x = monotone (meaning base) list st μ ν same_size (by_place μ m (λ p. known ν p ≡ true) k) in
      let c = (R.watch (meaning base) list 0 st μ).count in
      let w = within base (take c list) st ν (first_within base list st ν c e') in
      record { count = x.count; reached = rw w x.reached; known = rw w (λ i h. x.known (place i) h) }

  -- and leave as many marks
  pub size_left : KnowsAll μ ν → SameSize (watch_reply base list st μ).map (watch_reply base (take (watch_reply base list st μ).count list) st ν).map
  size_left k =
      let c = (R.watch (meaning base) list 0 st μ).count in
      rw (within base list st μ e, within base (take c list) st ν (first_within base list st ν c e'))
      (monotone (meaning base) list st μ ν same_size (by_place μ m (λ p. known ν p ≡ true) k)).size

pub more_known : MoreKnown
more_known base list st μ ν m n e e' k = rw (within base list st μ e, within base list st ν e') (more_within base list st μ ν m n e e' k)
