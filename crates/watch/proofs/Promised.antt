-- The promise of the public watched run: of an answer that is the definition's, and of a refusal.
use Prim.Native.Nat.{ℕ, ◌%◌, ◌^◌, ◌<◌}
use native.Mathlib.Nat.{mod-eq_of_lt}
use mathlib.Core.Path.{◌≡◌, sym, ◌∙◌}
use mathlib.Core.Bool.{false}
use mathlib.Core.List.{List}
use lib.ListN.{length}
use borrow.Author.Tests.{ne_eqb}
use Rattle.machine.specs.declared.Machine.{Machine}
use Rattle.machine.specs.Machine.{Sized}
use Rattle.machine.specs.Place.{State, state, before}
use Rattle.meaning.specs.Map.{Map}
use Rattle.meaning.specs.Stop.{report, refused}
use Rattle.place_marks.specs.Word.{map_in}
use Rattle.place_marks.proofs.Word.{same_map, word_marks}
use Rattle.watch.specs.Watch.{Reply, limit_of, watch_reply}
use Rattle.watch.specs.Demand.{Mapped}
use Rattle.watch.specs.Promise.{Promise, WordPromise}
use Rattle.watch.proofs.Demanded.{within, Plainly-within, Alike-within}
use Rattle.watch.proofs.More.{more_known}

pub refuses : (base : ℕ) (list : List ℕ) (st : State) (μ : Map) (k : ℕ) → k ≡ limit_of base list st μ → (k ≡ 0 → ⊥)
    → record { report = report (refused k); count = 0; leaves = st; map = μ } ≡ watch_reply base list st μ
unfolding watch_reply
refuses base list st μ k p q = rw (← p, ne_eqb _ _ q)

-- the same limits for another machine in ARM state with a window of the same size
same_limit : (base : ℕ) (list : List ℕ) (st : State) (μ : Map) (b : Machine) (w : List ℕ) → st.machine.thumb ≡ false → b.thumb ≡ false → length w ≡ length st.window
    → limit_of base list (state b w) μ ≡ limit_of base list st μ
same_limit base list st μ b w p q l = rw (p, q, l)

module _ (base : ℕ) (list : List ℕ) (st : State) (μ : Map) (m : Mapped μ) (z : Sized st.machine) where
  -- an answer that is the definition's, in ARM state
  pub promised : (x : Reply) → st.machine.thumb ≡ false → x ≡ watch_reply base list st μ → Promise base list st μ x
  promised x arm e =
      record {
        answer = e;
        alike = λ n b w zb t l ag.
            let n' : limit_of base list (state b w) μ ≡ 0 = same_limit base list st μ b w arm t l ∙ n in
            rw (e ∙ within base list st μ n, within base list (state b w) μ n') (Alike-within base list st μ n (state b w) m z zb n' ag);
        plainly = λ n. rw (e ∙ within base list st μ n) (Plainly-within base list st μ n);
        more = λ n ν y n' k. rw e (more_known base list st μ ν m y n n' k);
        fewer = λ n ν y n' k. rw e (more_known base list st ν μ y m n' n k);
      }

  -- a refusal
  pub refusing : (k : ℕ) → k ≡ limit_of base list st μ → (k ≡ 0 → ⊥) → Promise base list st μ (record { report = report (refused k); count = 0; leaves = st; map = μ })
  refusing k p q =
      record {
        answer = refuses base list st μ k p q;
        alike = λ n. absurd (q (p ∙ n));
        plainly = λ n. absurd (q (p ∙ n));
        more = λ n. absurd (q (p ∙ n));
        fewer = λ n. absurd (q (p ∙ n));
      }

-- ---- the word of marks

module _ (base : ℕ) (list : List ℕ) (st : State) (m : ℕ) (words : List ℕ) where
  same_answer : (x : Reply) → x ≡ watch_reply base list st (map_in m words) → (n : ℕ) → n % 2 ^ before ≡ m % 2 ^ before → watch_reply base list st (map_in n words) ≡ x
  same_answer x e n h = rw (same_map n m words h) (sym e)

  -- of an answer within the limits, with a word that has no bit above the last place
  pub word_promised : (x : Reply) (m' : ℕ) (w : List ℕ) → limit_of base list st (map_in m words) ≡ 0 → x ≡ watch_reply base list st (map_in m words)
      → x.map ≡ map_in m' w → m' < 2 ^ before → WordPromise base list st m words x m'
  unfolding map_in
  word_promised x m' w n e f l = record { word = rw (n, f) (sym (word_marks m' ∙ mod-eq_of_lt l)); above = same_answer x e }

  -- of a refusal
  pub word_refused : (x : Reply) (k : ℕ) → k ≡ limit_of base list st (map_in m words) → (k ≡ 0 → ⊥) → x ≡ watch_reply base list st (map_in m words) → WordPromise base list st m words x m
  word_refused x k p q e = record { word = rw (← p, ne_eqb _ _ q); above = same_answer x e }
