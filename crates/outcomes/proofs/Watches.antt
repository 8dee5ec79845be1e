-- From what the watched run promises to what its exported function leaves and promises.
use Prim.Native.Nat.{ℕ, ◌^◌, ◌<◌}
use mathlib.Core.Path.{◌≡◌, sym, ◌∙◌}
use mathlib.Core.Bool.{Bool, true, false, not}
use mathlib.Core.List.{List}
use lib.Dec.{eqb}
use lib.ListN.{length, get_or}
use borrow.Author.Tests.{not-true, not-false}
use mathlib.Core.Bool.{true≢false}
use Rattle.machine.specs.declared.Machine.{Machine}
use Rattle.machine.specs.Place.{state}
use Rattle.place_marks.specs.Word.{map_in}
use Rattle.meaning.specs.Stop.{report}
use Rattle.run_word.specs.Stop.{stop_of}
use Rattle.watch.specs.declared.Watched.{Watched}
use Rattle.watch.specs.Watch.{answered, watch_reply}
use Rattle.watch.specs.Promise.{Promise, WordPromise}
use Rattle.layout.specs.State.{encode, decode}
use Rattle.known_places.specs.Count.{known_places}
use Rattle.answer.specs.Answer.{answer_of}
use Rattle.outcomes.specs.Outcome.{invalid_argument, valid_call, decoded_state}
use Rattle.outcomes.specs.WatchOutcome.{watch_outcome, reported_watch, watched, WatchOutcome}
use Rattle.outcomes.specs.Buffers.{UnchangedMarks, NonInterference, Above}
use Rattle.outcomes.specs.More.{MoreKnown}
use Rattle.outcomes.specs.WatchPromise.{WatchPromise}
use Rattle.outcomes.proofs.Unchanged.{unchanged_marks}
use Rattle.outcomes.proofs.NonInterference.{non_interference}
use Rattle.outcomes.proofs.More.{more_known, above}

module _ (base : ℕ) (list l : List ℕ) (m : ℕ) (w v : List ℕ) (thumb : ℕ) (a : List ℕ) (b : Bool) (u : b ≡ valid_call l thumb (length a)) where
  -- what the definition leaves has the promises over the buffers
  module _ (x : WatchOutcome) (e : x ≡ watched base list l m w v thumb a) where
    keeps : ((n : ℕ) → get_or l n 0 < 2 ^ 32) → UnchangedMarks l m w v x
    keeps small = rw e (unchanged_marks l w thumb a small base list m v)

    hides : NonInterference base list l m w v thumb a x
    hides = rw e (non_interference base list l m w v thumb a)

    shows : MoreKnown base list l m w v thumb a x
    shows = rw e (more_known base list l m w v thumb a)

    ignores : Above base list l m w v thumb a x
    ignores = rw e (above base list l m w v thumb a)

  -- 255
  pub not_watched : not b ≡ true → WatchPromise base list l m w v thumb a (watch_outcome invalid_argument l m w v a)
  not_watched e =
      record {
        leaves = same;
        unchanged = keeps _ same;
        non_interference = hides _ same;
        more_known = shows _ same;
        above = ignores _ same;
        reply = watch_reply base list (decoded_state l w thumb) (map_in m v);
        reports = λ t. absurd (no t);
        promise = λ t. absurd (no t);
        word_promise = λ t. absurd (no t);
      }
    where
      same : watch_outcome invalid_argument l m w v a ≡ watched base list l m w v thumb a
      same = rw (← u, not-true b e)

      no : valid_call l thumb (length a) ≡ true → ⊥
      no t = true≢false (sym t ∙ (sym u ∙ not-true b e))

  -- a watched run
  module _ (q : Machine) (x : Watched) (r : ℕ) (l' w' v' a' : List ℕ) (e : not b ≡ false) (eq : q ≡ decode (eqb thumb 1) l)
      (p : Promise base list (state q w) (map_in m v) (answered x w' v')) (pw : WordPromise base list (state q w) m v (answered x w' v') x.marks) (ek : x.known ≡ known_places (map_in x.marks v')) (el : l' ≡ encode x.machine)
      (et : (r ≡ (report (stop_of x.stop)).kind) × (a' ≡ answer_of x.count (report (stop_of x.stop)) x.known))
    where
      promised : Promise base list (decoded_state l w thumb) (map_in m v) (answered x w' v')
      promised = rw (← eq) p

      word_promised : WordPromise base list (decoded_state l w thumb) m v (answered x w' v') x.marks
      word_promised = rw (← eq) pw

      reported : watch_outcome r l' x.marks w' v' a' ≡ reported_watch x.marks (answered x w' v')
      unfolding map_in
      reported = rw (el, et.0, et.1, ek)

      same : watch_outcome r l' x.marks w' v' a' ≡ watched base list l m w v thumb a
      same = rw (← u, not-false b e, ← promised.answer, ← word_promised.word) reported

      pub has_watched : WatchPromise base list l m w v thumb a (watch_outcome r l' x.marks w' v' a')
      has_watched =
          record {
            leaves = same;
            unchanged = keeps _ same;
            non_interference = hides _ same;
            more_known = shows _ same;
            above = ignores _ same;
            reply = answered x w' v';
            reports = λ t. reported;
            promise = λ t. promised;
            word_promise = λ t. word_promised;
          }
