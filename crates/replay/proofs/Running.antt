-- The laws of the run of a record, and of the promise.
use Prim.Native.Nat.{ℕ, ◌+◌, ◌*◌, ◌≤◌}
use native.Mathlib.Omega.{arith}
use mathlib.Core.Path.{◌≡◌, refl, ap, sym, subst, ◌∙◌}
use mathlib.Core.Bool.{Bool, true, false, cond}
use mathlib.Core.List.{List, ◌++◌}
use lib.ListN.{length, take, drop}
use lib.Seq.{take_at}
use lib.Count.{ones}
use borrow.Author.Tests.{ne_eqb, eq-eqb}
use Rattle.machine.specs.declared.Machine.{Machine}
use Rattle.machine.specs.Machine.{new_machine}
use Rattle.machine.specs.Place.{state, before}
use Rattle.meaning.specs.Stop.{report, refused}
use Rattle.window_marks.specs.Marks.{bits_only, ones_of}
use Rattle.limits.specs.Limit.{watch_limit}
use Rattle.limits.proofs.Limits.{run_within, marks_within, list_within}
use Rattle.layout.specs.State.{decode, valid}
use Rattle.layout.proofs.Both.{snd}
use Rattle.place_marks.specs.Word.{marks_of, map_in, word_of}
use Rattle.known_places.specs.Count.{known_before, known_places}
use Rattle.known_places.proofs.Count.{before_counted, places_counted}
use Rattle.place_marks.proofs.Word.{word_marks}
use Rattle.watch.specs.Watch.{Reply, watch_reply}
use Rattle.records.specs.Number.{numbers_of}
use Rattle.records.specs.Recorded.{list_count, of_bytes}
use Rattle.record_refusal.specs.Refusal.{state_in, map_of, refusal_of, Fitting, Accepted}
use Rattle.replay.specs.Replay.{replay_reply}
use Rattle.replay.specs.Promise.{Ran, CycleRan, ReplayPromise}
use Rattle.record_refusal.proofs.Fields.{window_known_is, list_is, list-length}
use Rattle.record_refusal.proofs.Refusing.{well_formed_lem, accepted}

-- equal machines, windows and marks promise the same
pub carried : (base base₁ : ℕ) (l l₁ : List ℕ) (m m₁ : Machine) (w w₁ : List ℕ) (k k₁ : ℕ) (v v₁ : List ℕ) (x : Reply) (k' : ℕ)
    → base ≡ base₁ → l ≡ l₁ → m ≡ m₁ → w ≡ w₁ → k ≡ k₁ → v ≡ v₁ → Ran base l m w k v x k' → Ran base₁ l₁ m₁ w₁ k₁ v₁ x k'
carried base base₁ l l₁ m m₁ w w₁ k k₁ v v₁ x k' p q r s t u h = rw (← p, ← q, ← r, ← s, ← t, ← u) h

-- within the limits the window marks are 0 or 1
bits_within : (n base words : ℕ) (thumb : Bool) (marks : List ℕ) → watch_limit n base words thumb marks ≡ 0 → bits_only marks ≡ true
unfolding watch_limit
bits_within n base words thumb marks e =
    by (bits_only marks) (rw (run_within n base words thumb marks e, eq-eqb (length marks) words (marks_within n base words thumb marks e)) at e)
  where
    by : (b : Bool) → ◌≡◌ {A = ℕ} (cond b 0 7) 0 → b ≡ true
    by true g = refl
    by false g = let z : ◌≡◌ {A = ℕ} 7 0 = g in absurd (omega (arith, z))

module _ (b : List ℕ) (words : ℕ) (a : Accepted b words) where
  pub known_bits : bits_only (take before (drop (55 + words) (numbers_of b))) ≡ true
  known_bits = snd (valid (take before (drop 2 (numbers_of b)))) _ (sym (well_formed_lem b words a.fitting) ∙ a.formed)

  abbrev n : ℕ
  n = length (of_bytes b).list

  abbrev window_words : ℕ
  window_words = length (drop before (of_bytes b).values)

  limit_words : watch_limit n (of_bytes b).base window_words false (drop before (of_bytes b).marks) ≡ 0
  unfolding decode map_in
  limit_words = a.within

  pub window_bits : (k : ℕ) → k ≡ words → bits_only (take k (drop (108 + words) (numbers_of b))) ≡ true
  window_bits k e = rw (e, ← window_known_is b words a.fitting) (bits_within n (of_bytes b).base window_words false _ limit_words)

  pub short_list : length (of_bytes b).list ≤ 4096
  short_list = list_within n (of_bytes b).base window_words false (run_within n (of_bytes b).base window_words false _ limit_words)

  pub Fitting-as : (n : ℕ) → n ≡ words → Fitting b n
  Fitting-as n e = subst (Fitting b) (sym e) a.fitting

-- ---- the list

module _ (b : List ℕ) (words : ℕ) (f : Fitting b words) (n : ℕ) (e : n ≡ list_count (numbers_of b)) where
  pub list_first : (k : ℕ) (x rest : List ℕ) → k ≡ n → x ≡ take k (drop (109 + 2 * words) (numbers_of b)) → take n (x ++ rest) ≡ (of_bytes b).list
  list_first k x rest h g =
      let y : x ≡ (of_bytes b).list = g ∙ (ap (λ (i : ℕ). take i (drop (109 + 2 * words) (numbers_of b))) (h ∙ e) ∙ sym (list_is b words f)) in
      take_at x rest n (ap length y ∙ (list-length b words f ∙ sym e)) ∙ y

  pub count_fits : length (of_bytes b).list ≤ 4096 → n ≤ 4096
  count_fits h = omega (arith, e, list-length b words f)

pub within_list : (n : ℕ) (l : List ℕ) → n ≤ 4096 → length l ≡ 4096 → n ≤ length l
within_list n l h e = omega arith

-- ---- the known places after a refusal

none_before : 0 ≡ known_before (marks_of 0)
unfolding ones
none_before = before_counted 0

pub known_refused : (w : List ℕ) (n : ℕ) → n ≡ ones_of w → n ≡ known_places (map_in 0 w)
known_refused w n e = let z : 0 + n ≡ n = omega arith in sym z ∙ places_counted 0 w 0 n none_before e

-- ---- the promise

module _ (b w v : List ℕ) where
  pub refused_promise : (k : ℕ) (m : Machine) → k ≡ refusal_of b (length w) (length v) → (k ≡ 0 → ⊥) → m ≡ new_machine
      → ReplayPromise b w v (record { report = report (refused k); count = 0; leaves = state m w; map = map_in 0 v }) 0
  unfolding replay_reply map_in
  refused_promise k m p q r =
      record {
        answer = rw (← p, ne_eqb k 0 q, r);
        word = sym (word_marks 0);
        watched = λ e. absurd (q (p ∙ e));
      }

  module _ (x : Reply) (k : ℕ) (e : refusal_of b (length w) (length v) ≡ 0) (h : CycleRan (of_bytes b) x k) where
    replayed : watch_reply (of_bytes b).base (of_bytes b).list (state_in (of_bytes b)) (map_of (of_bytes b)) ≡ replay_reply b w v
    unfolding replay_reply
    replayed = rw e

    handed : k ≡ word_of x.map.marks
    handed = rw (accepted b (length w) (length v) e).within at h.1.word

    pub run_promise : ReplayPromise b w v x k
    run_promise = record { answer = h.0.answer ∙ replayed; word = handed; watched = λ _. h }
