-- From what the replay of a record promises to what its exported function leaves and promises.
use Prim.Native.Nat.{ℕ, ◌≤◌}
use native.Mathlib.Omega.{arith}
use mathlib.Core.Path.{◌≡◌, refl, sym, subst, ◌∙◌}
use mathlib.Core.Bool.{Bool, true, false, not, cond, true≢false}
use mathlib.Core.List.{List}
use lib.Dec.{eqb}
use lib.ListN.{length, take, drop}
use borrow.Author.Tests.{not-true, not-false, eqb-true}
use Rattle.machine.specs.Machine.{new_machine}
use Rattle.machine.specs.Place.{state, before}
use Rattle.place_marks.specs.Word.{map_in}
use Rattle.place_marks.proofs.Word.{word_marks, words_in}
use Rattle.meaning.specs.Stop.{report, refused}
use Rattle.run_word.specs.Stop.{stop_of}
use Rattle.layout.specs.State.{encode, decode, valid}
use Rattle.layout.proofs.Both.{fst, snd}
use Rattle.watch.specs.declared.Watched.{Watched}
use Rattle.watch.specs.Watch.{Reply, answered, watch_reply}
use Rattle.window_marks.specs.Marks.{bits_only}
use Rattle.records.specs.Recorded.{of_bytes, word_of_marks}
use Rattle.record_refusal.specs.Refusal.{state_in, map_of, well_formed, refusal_of}
use Rattle.replay.specs.Replay.{replay_reply}
use Rattle.replay.specs.Promise.{ReplayPromise}
use Rattle.record_refusal.proofs.Refusing.{accepted}
use Rattle.known_places.specs.Count.{known_places}
use Rattle.answer.specs.Answer.{answer_of}
use Rattle.answer.proofs.Bounds.{Fits, watch_Fits}
use Rattle.outcomes.specs.Outcome.{invalid_argument, valid_call}
use Rattle.outcomes.specs.WatchOutcome.{WatchOutcome, watch_outcome}
use Rattle.outcomes.specs.Replay.{valid_replay, reported_replay, replayed, WatchedRecord, ReplayedPromise}
use Rattle.outcomes.proofs.Unchanged.{watch_unchanged}
use Rattle.outcomes.proofs.Watches.{has_watched}

-- ---- the reply

module _ (b w v : List ℕ) where
  abbrev n : ℕ
  n = refusal_of b (length w) (length v)

  -- by whether nothing is refused
  chosen : Bool → Reply
  chosen c =
      cond c (watch_reply (of_bytes b).base (of_bytes b).list (state_in (of_bytes b)) (map_of (of_bytes b)))
      (record { report = report (refused n); count = 0; leaves = state new_machine w; map = map_in 0 v })

  fits : Fits (replay_reply b w v).report (replay_reply b w v).count
  unfolding replay_reply chosen
  fits = by (eqb n 0)
    where
      by : (c : Bool) → Fits (chosen c).report (chosen c).count
      by true = watch_Fits (of_bytes b).base (of_bytes b).list (state_in (of_bytes b)) (map_of (of_bytes b))
      by false = (omega arith, omega arith)

  -- its count and its place fit in a word
  pub replayed_Fits : (x : Watched) (w' v' : List ℕ) → answered x w' v' ≡ replay_reply b w v → Fits (report (stop_of x.stop)) x.count
  replayed_Fits x w' v' e = subst (λ (y : Reply). Fits y.report y.count) (sym e) fits

  -- a kind of 100 or more is a refusal's
  turned_back : 100 ≤ (replay_reply b w v).report.kind → replay_reply b w v ≡ chosen false
  unfolding replay_reply chosen
  turned_back = by (eqb n 0) refl
    where
      by : (c : Bool) → eqb n 0 ≡ c → 100 ≤ (chosen c).report.kind → chosen c ≡ chosen false
      by true e p =
          let k = (watch_unchanged (of_bytes b).base (of_bytes b).list (state_in (of_bytes b)) (map_of (of_bytes b)) p).2 in
          let z = (accepted b (length w) (length v) (eqb-true n 0 e)).within in
          let f : true ≡ false = rw z at k in
          absurd (true≢false f)
      by false e p = refl

-- ---- what the definition leaves

module _ (b l : List ℕ) (m : ℕ) (w v a : List ℕ) where
  laid : Bool → WatchOutcome
  laid c = cond c (reported_replay (replay_reply b w v)) (watch_outcome invalid_argument l m w v a)

  unchanged : 100 ≤ (replayed b l m w v a).result → ((replayed b l m w v a).window ≡ w) × ((replayed b l m w v a).window_marks ≡ v)
  unfolding laid chosen
  unchanged = by (valid_replay (length l) (length a))
    where
      by : (c : Bool) → 100 ≤ (laid c).result → ((laid c).window ≡ w) × ((laid c).window_marks ≡ v)
      by true p = let e = turned_back b w v p in (rw e, rw e (words_in 0 v))
      by false p = (refl, refl)

  renewed : valid_replay (length l) (length a) ≡ true → 100 ≤ (replayed b l m w v a).result
      → ((replayed b l m w v a).words ≡ encode new_machine) × ((replayed b l m w v a).marks ≡ 0)
  unfolding laid chosen map_in
  renewed = by (valid_replay (length l) (length a))
    where
      by : (c : Bool) → c ≡ true → 100 ≤ (laid c).result → ((laid c).words ≡ encode new_machine) × ((laid c).marks ≡ 0)
      by true u p = let e = turned_back b w v p in (rw e, rw e (word_marks 0))
      by false u p = absurd (true≢false (sym u))

  promised : (x : WatchOutcome) → x ≡ replayed b l m w v a
      → (valid_replay (length l) (length a) ≡ true → refusal_of b (length w) (length v) ≡ 0 → WatchedRecord (of_bytes b) a x) → ReplayedPromise b l m w v a x
  promised x e h = record { leaves = e; unchanged = rw e unchanged; renewed = rw e renewed; watched = h }

-- ---- what the function leaves

module _ (b l : List ℕ) (m : ℕ) (w v a : List ℕ) (t : Bool) (u : t ≡ valid_replay (length l) (length a)) where
  -- 255
  pub not_replayed : not t ≡ true → ReplayedPromise b l m w v a (watch_outcome invalid_argument l m w v a)
  not_replayed e = promised b l m w v a _ (rw (← u, not-true t e)) (λ k. absurd (true≢false (sym k ∙ (sym u ∙ not-true t e))))

  pub state_words : not t ≡ false → length l ≡ before
  unfolding valid_replay
  state_words e = eqb-true (length l) before (fst (eqb (length l) before) (eqb (length a) 5) (sym u ∙ not-false t e))

  pub answer_words : not t ≡ false → length a ≡ 5
  unfolding valid_replay
  answer_words e = eqb-true (length a) 5 (snd (eqb (length l) before) (eqb (length a) 5) (sym u ∙ not-false t e))

  module _ (x : Watched) (r : ℕ) (l' w' v' a' : List ℕ) (e : not t ≡ false) (p : ReplayPromise b w v (answered x w' v') x.marks) (ek : x.known ≡ known_places (map_in x.marks v')) (el : l' ≡ encode x.machine)
      (et : (r ≡ (report (stop_of x.stop)).kind) × (a' ≡ answer_of x.count (report (stop_of x.stop)) x.known))
    where
      same : watch_outcome r l' x.marks w' v' a' ≡ replayed b l m w v a
      unfolding map_in
      same = rw (← u, not-false t e, ← p.answer, ← p.word, el, et.0, et.1, ek)

      module _ (z : refusal_of b (length w) (length v) ≡ 0) where
        formed : valid_call (take before (of_bytes b).values) 0 (length a) ≡ true
        unfolding valid_call well_formed
        formed =
            rw (fst (valid (take before (of_bytes b).values)) (bits_only (take before (of_bytes b).marks)) (accepted b (length w) (length v) z).formed, answer_words e)

        ran : WatchedRecord (of_bytes b) a (watch_outcome r l' x.marks w' v' a')
        ran =
            has_watched (of_bytes b).base (of_bytes b).list (take before (of_bytes b).values) (word_of_marks (take before (of_bytes b).marks)) (drop before (of_bytes b).values) (drop before (of_bytes b).marks) 0 a
            true (sym formed) (decode false (take before (of_bytes b).values)) x r l' w' v' a' refl refl (p.watched z).0 (p.watched z).1 ek el et

      pub has_replayed : ReplayedPromise b l m w v a (watch_outcome r l' x.marks w' v' a')
      has_replayed = promised b l m w v a _ same (λ _. ran)
