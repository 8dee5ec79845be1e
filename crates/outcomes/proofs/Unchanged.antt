-- After a refusal and after 255 everything is as it came.
use Prim.Native.Nat.{ℕ, ◌^◌, ◌<◌, ◌≤◌}
use native.Mathlib.Omega.{arith}
use mathlib.Core.Path.{◌≡◌, refl, sym}
use mathlib.Core.Bool.{Bool, true, false, cond}
use mathlib.Core.List.{List, []}
use lib.Dec.{eqb}
use lib.ListN.{length, get_or}
use Rattle.machine.specs.Machine.{new_machine}
use Rattle.machine.specs.Place.{State, before}
use Rattle.meaning.specs.Map.{Map}
use Rattle.meaning.specs.Stop.{report, refused}
use Rattle.meaning.specs.Tree.{Tree}
use Rattle.processing.specs.Data.{data_tree}
use Rattle.transfers.specs.Transfer.{transfer_tree}
use Rattle.memory.specs.LoadStore.{load_store_tree}
use Rattle.limits.specs.Limit.{window_limit, run_limit}
use Rattle.vfp.specs.Call.{Reply, reply, load_store_reply}
use Rattle.word_class.specs.Word.{meaning}
use Rattle.run.specs.Run as Run
use Rattle.watch.specs.Watch as Watch
use Rattle.watch.specs.Watch.{limit_of, watch_reply}
use Rattle.meaning.specs.Run as R
use Rattle.layout.specs.State.{Valid, encode}
use Rattle.layout.proofs.Words.{encode-decode}
use Rattle.place_marks.specs.Word.{map_in}
use Rattle.place_marks.proofs.Word.{words_in}
use Rattle.answer.proofs.Bounds.{Near, Near-data, Near-transfer, Near-load_store, Near-meaning, plain-Fine, run-Bounded, watch-Bounded}
use Rattle.outcomes.specs.Outcome.{outcome, reported, invalid_argument, valid_call, decoded_state, renewed}
use Rattle.outcomes.specs.WatchOutcome.{watch_outcome, watched_from, watched}
use Rattle.outcomes.specs.Buffers.{Unchanged, UnchangedMarks, Refusals}
use Rattle.outcomes.proofs.Calls.{Valid-call_state}

-- ---- a reply that is a refusal leaves the state

tree_unchanged : (t : Tree) (st : State) → Near t → 100 ≤ (reply t st).report.kind → (reply t st).leaves ≡ st
tree_unchanged t st n p = absurd (omega (arith, (plain-Fine t st n).1, p))

access_unchanged : (base w : ℕ) (st : State) → 100 ≤ (load_store_reply base w st).report.kind → (load_store_reply base w st).leaves ≡ st
access_unchanged base w st = by (eqb n 0)
  where
    n : ℕ
    n = window_limit base (length st.window)

    y : Bool → Reply
    y b = cond b (reply (load_store_tree base w) st) (record { report = report (refused n); leaves = st })

    by : (b : Bool) → 100 ≤ (y b).report.kind → (y b).leaves ≡ st
    by true p = tree_unchanged (load_store_tree base w) st (Near-load_store base w) p
    by false p = refl

run_unchanged : (base : ℕ) (list : List ℕ) (st : State) → 100 ≤ (Run.run_reply base list st).report.kind → (Run.run_reply base list st).leaves ≡ st
run_unchanged base list st = by (eqb n 0)
  where
    n : ℕ
    n = run_limit (length list) base (length st.window) st.machine.thumb

    y : Bool → Run.Reply
    y b = cond b (Run.reply (R.run (meaning base) list 0 st)) (record { report = report (refused n); count = 0; leaves = st })

    by : (b : Bool) → 100 ≤ (y b).report.kind → (y b).leaves ≡ st
    by true p = absurd (omega (arith, (run-Bounded (meaning base) (Near-meaning base) list 0 st).0.1, p))
    by false p = refl

pub watch_unchanged : (base : ℕ) (list : List ℕ) (st : State) (μ : Map) → 100 ≤ (watch_reply base list st μ).report.kind
    → ((watch_reply base list st μ).leaves ≡ st) × ((watch_reply base list st μ).map ≡ μ) × (eqb (limit_of base list st μ) 0 ≡ false)
unfolding watch_reply
watch_unchanged base list st μ = by (eqb n 0)
  where
    n : ℕ
    n = limit_of base list st μ

    y : Bool → Watch.Reply
    y b = cond b (Watch.reply (R.watch (meaning base) list 0 st μ)) (record { report = report (refused n); count = 0; leaves = st; map = μ })

    by : (b : Bool) → 100 ≤ (y b).report.kind → ((y b).leaves ≡ st) × ((y b).map ≡ μ) × (b ≡ false)
    by true p = absurd (omega (arith, (watch-Bounded (meaning base) (Near-meaning base) list 0 st μ).0.1, p))
    by false p = (refl, refl, refl)

-- ---- in the buffers

module _ (l w : List ℕ) (thumb : ℕ) (a : List ℕ) (small : (n : ℕ) → get_or l n 0 < 2 ^ 32) where
  unchanged : (n : ℕ) (y : Reply) → (100 ≤ y.report.kind → y.leaves ≡ decoded_state l w thumb)
      → Unchanged l w (cond (valid_call l thumb (length a)) (reported n y) (outcome invalid_argument l w a))
  unchanged n y k = by (valid_call l thumb (length a)) refl
    where
      by : (b : Bool) → valid_call l thumb (length a) ≡ b → Unchanged l w (cond b (reported n y) (outcome invalid_argument l w a))
      by true e p =
          let v : Valid l = Valid-call_state l thumb (length a) true (sym e) refl in
          (rw (k p) (encode-decode (eqb thumb 1) l v (small 51)), rw (k p))
      by false e p = (refl, refl)

  pub unchanged_marks : (base : ℕ) (list : List ℕ) (m : ℕ) (v : List ℕ) → UnchangedMarks l m w v (watched base list l m w v thumb a)
  unchanged_marks base list m v = by (valid_call l thumb (length a)) refl
    where
      by : (b : Bool) → valid_call l thumb (length a) ≡ b → UnchangedMarks l m w v (cond b (watched_from base list (decoded_state l w thumb) m v) (watch_outcome invalid_argument l m w v a))
      by true e p =
          let k = watch_unchanged base list (decoded_state l w thumb) (map_in m v) p in
          let z : Valid l = Valid-call_state l thumb (length a) true (sym e) refl in
          (rw k.0 (encode-decode (eqb thumb 1) l z (small 51)), rw k.2, rw k.0, rw k.1 (words_in m v))
      by false e p = (refl, refl, refl, refl)

Unchanged-new : (l : List ℕ) → Unchanged l [] (renewed l)
Unchanged-new l = by (eqb (length l) before)
  where
    by : (b : Bool) → Unchanged l [] (cond b (outcome 0 (encode new_machine) [] []) (outcome invalid_argument l [] []))
    by true p = absurd (omega (arith, p))
    by false p = (refl, refl)

pub refusals : Refusals
refusals l w thumb a small =
    record {
      renewing = Unchanged-new l;
      processing = λ word. unchanged l w thumb a small 0 (reply (data_tree (eqb thumb 1) word) (decoded_state l w thumb)) (tree_unchanged (data_tree (eqb thumb 1) word) _ (Near-data (eqb thumb 1) word));
      transferring = λ word. unchanged l w thumb a small 0 (reply (transfer_tree (eqb thumb 1) word) (decoded_state l w thumb)) (tree_unchanged (transfer_tree (eqb thumb 1) word) _ (Near-transfer (eqb thumb 1) word));
      accessing = λ base word. unchanged l w thumb a small 0 (load_store_reply base word (decoded_state l w thumb)) (access_unchanged base word (decoded_state l w thumb));
      running = λ base list.
          let y = Run.run_reply base list (decoded_state l w thumb) in
          unchanged l w thumb a small y.count (record { report = y.report; leaves = y.leaves }) (run_unchanged base list (decoded_state l w thumb));
      watching = unchanged_marks l w thumb a small;
    }
