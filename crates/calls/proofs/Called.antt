-- From what the call promises to what is left of the buffers.
use Prim.Native.Nat.{ℕ, ◌+◌, ◌*◌, ◌/◌, ◌%◌, ◌^◌, ◌≤◌, ◌<◌}
use native.Mathlib.Omega.{arith}
use native.Mathlib.Decide.{ℕ_discrete}
use mathlib.Core.Path.{◌≡◌, refl, ap, sym, ◌∙◌}
use mathlib.Core.Bool.{Bool, true, false, not, cond, true≢false}
use mathlib.Core.List.{List, [], ◌∷◌, ◌++◌}
use lib.Dec.{eqb, ltb}
use lib.ListN.{length, take, length-take}
use borrow.Author.Tests.{eqb-true, not-true, not-false}
use Rattle.machine.specs.declared.Machine.{Machine}
use Rattle.machine.specs.Place.{State, state, before, place}
use Rattle.meaning.specs.Map.{Map, known}
use Rattle.meaning.specs.Stop.{report}
use Rattle.meaning.proofs.Prefix.{count_within}
use Rattle.limits.proofs.Limits.{run_within, list_within}
use Rattle.word_class.specs.Word.{meaning}
use Rattle.place_marks.specs.Word.{map_in}
use Rattle.known_places.specs.Count.{known_places}
use Rattle.run_word.specs.Stop.{stop_of}
use Rattle.watch.specs.declared.Watched.{Watched}
use Rattle.watch.specs.Watch.{Reply, answered, limit_of, watch_reply}
use Rattle.watch.specs.Promise.{Promise, WordPromise}
use Rattle.watch.proofs.Demanded.{within}
use Rattle.layout.specs.State.{encode, decode, Valid, valid}
use Rattle.layout.proofs.Both.{fst, snd}
use Rattle.layout.proofs.Words.{valid_facts}
use Rattle.answer.specs.Answer.{answer_of}
use Rattle.outcomes.specs.Outcome.{invalid_argument, valid_call}
use Rattle.outcomes.proofs.Watches.{has_watched}
use Rattle.walk_back.specs.Refusal.{origin_refusal}
use Rattle.origin.specs.Origin.{OriginPromise}
use Rattle.calls.specs.Outcome.{origin_outcome, valid_origin, refusal_word}
use Rattle.calls.specs.Promise.{OriginCallPromise}

module _ (base : ℕ) (list l : List ℕ) (m : ℕ) (w v : List ℕ) (thumb q : ℕ) (p a : List ℕ) (b : Bool) (u : b ≡ valid_origin l thumb (length a) (length p)) where
  -- 255
  pub not_called : not b ≡ true → OriginCallPromise base list l m w v thumb q p a (origin_outcome invalid_argument l m w v p a)
  not_called e =
      record {
        invalid = λ z. refl;
        called = λ t. absurd (true≢false (sym t ∙ (sym u ∙ not-true b e)));
      }

  module _ (e : not b ≡ false) where
    so : valid_origin l thumb (length a) (length p) ≡ true
    so = sym u ∙ not-false b e

    below : ltb thumb 2 ≡ true
    unfolding valid_origin
    below = fst (ltb thumb 2) _ so

    pub eight : length a ≡ 8
    unfolding valid_origin
    eight = eqb-true (length a) 8 (fst (eqb (length a) 8) _ (snd (ltb thumb 2) _ so))

    valid_words : valid l ≡ true
    unfolding valid_origin
    valid_words = snd (eqb (length p % 2) 0) _ (snd (eqb (length a) 8) _ (snd (ltb thumb 2) _ so))

    pub Valid-state : Valid l
    Valid-state = valid_facts l valid_words

    five : length (take 5 a) ≡ 5
    five = length-take 5 a ∙ rw eight refl

    -- the state and the thumb are those of a watched run, with an answer of five words
    run_valid : valid_call l thumb (length (take 5 a)) ≡ true
    unfolding valid_call
    run_valid = rw (below, five, valid_words) refl

    -- the run and the chain
    module _ (y : Machine) (x : Watched) (k first n : ℕ) (r : ℕ) (l' w' v' p' a' : List ℕ) (eq : y ≡ decode (eqb thumb 1) l)
        (pr : Promise base list (state y w) (map_in m v) (answered x w' v')) (pw : WordPromise base list (state y w) m v (answered x w' v') x.marks) (ek : x.known ≡ known_places (map_in x.marks v'))
        (po : OriginPromise base list (state y w) (map_in m v) q (answered x w' v') p p' k first n) (el : l' ≡ encode x.machine)
        (et : (r ≡ (report (stop_of x.stop)).kind) × (a' ≡ answer_of x.count (report (stop_of x.stop)) x.known ++ (refusal_word k ∷ first ∷ n ∷ [])))
      where
        front : take 5 a' ≡ answer_of x.count (report (stop_of x.stop)) x.known
        front = ap (take 5) et.1

        pub has_called : OriginCallPromise base list l m w v thumb q p a (origin_outcome r l' x.marks w' v' p' a')
        has_called =
            record {
              invalid = λ z. absurd (true≢false (sym so ∙ z));
              called = λ t. record {
                run = has_watched base list l m w v thumb (take 5 a) true (sym run_valid) y x r l' w' v' (take 5 a') refl eq pr pw ek el (et.0, front);
                refusal = k;
                first = first;
                pairs = n;
                answer = et.1 ∙ ap (λ (z : List ℕ). z ++ (refusal_word k ∷ first ∷ n ∷ [])) (sym front);
                origin = rw (← eq, ← pr.answer) po;
              };
            }

-- ---- what is told of a chain fits in a word

module _ (base : ℕ) (list : List ℕ) (st : State) (μ : Map) (q : ℕ) (x : Reply) (l l' : List ℕ) (k first n : ℕ) (o : OriginPromise base list st μ q x l l' k first n) where
  pub refusal_small : k ≤ 13
  unfolding origin_refusal
  refusal_small = by (eqb (limit_of base list st μ) 0) (ltb q (before + length x.map.words)) (known x.map (place q)) (ltb (length l / 2) (8 * x.count)) o.refusal
    where
      by : (a b c d : Bool) → k ≡ cond a (cond b (cond c 12 (cond d 13 0)) 11) 0 → k ≤ 13
      by true true true d e = omega arith
      by true true false true e = omega arith
      by true true false false e = omega arith
      by true false c d e = omega arith
      by false b c d e = omega arith

  pub pairs_small : x ≡ watch_reply base list st μ → n < 2 ^ 32
  pairs_small e = by (ℕ_discrete (limit_of base list st μ) 0) (ℕ_discrete k 0)
    where
      counted : limit_of base list st μ ≡ 0 → x.count ≤ 4096
      counted z =
          let c = ap (λ (y : Reply). y.count) (e ∙ within base list st μ z) in
          let s = list_within (length list) base (length st.window) st.machine.thumb (run_within (length list) base (length st.window) st.machine.thumb μ.words z) in
          omega (arith, c, count_within (meaning base) list st μ, s)

      by : Dec (limit_of base list st μ ≡ 0) → Dec (k ≡ 0) → n < 2 ^ 32
      by (no z) d = omega (arith, (o.refused z).2)
      by (yes z) (no d) = omega (arith, (o.turned d).2)
      by (yes z) (yes d) = omega (arith, (o.given z d).few, counted z)
