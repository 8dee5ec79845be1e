-- More known never shows less, over the buffers.
use Prim.Native.Nat.{ℕ, ◌-◌, ◌+◌, ◌<◌}
use native.Mathlib.Omega.{arith}
use native.Mathlib.Decide.{dec_lt}
use mathlib.Core.Path.{◌≡◌, refl, ap, sym, ◌∙◌, subst}
use mathlib.Core.Bool.{Bool, true, false, cond}
use mathlib.Core.List.{List}
use lib.Dec.{eqb}
use lib.ListN.{length, get_or, take, get_or-eq_default}
use borrow.Author.Tests.{eqb-true, eq-eqb}
use Rattle.machine.specs.Place.{Place, word, place, before, State}
use Rattle.meaning.specs.Map.{Map, known}
use Rattle.watch.specs.Watch.{limit_of, watch_reply}
use Rattle.watch.specs.Demand.{Mapped}
use Rattle.watch.specs.More as Watch
use Rattle.watch.proofs.More as Run
use Rattle.layout.specs.State.{Valid}
use Rattle.place_marks.specs.Word.{map_in, word_of}
use Rattle.place_marks.proofs.Word.{known_in_lem, known_of, same_map}
use Rattle.outcomes.specs.Outcome.{valid_call, decoded_state}
use Rattle.outcomes.specs.WatchOutcome.{watch_outcome, watched_from, watched}
use Rattle.outcomes.specs.More.{KnowsWords, KnowsWindow, count_of, NoLess, MoreKnown}
use Rattle.outcomes.specs.Buffers.{Above}
use Rattle.outcomes.proofs.Calls.{Valid-call_state}
use Rattle.outcomes.proofs.Numbered.{word-place, inside, one_inside}
use Rattle.outcomes.proofs.NonInterference.{sized, Sizes-left, refused_reply}
use Rattle.watch.proofs.Demanded.{mapped}

-- ---- from buffers to places, and back

module _ (m m' : ℕ) (v v' : List ℕ) (e : length v ≡ length v') (f : KnowsWords m m') (g : KnowsWindow v v') where
  before-known : (n : ℕ) → n < before → known (map_in m v) (place n) ≡ true → known (map_in m' v') (place n) ≡ true
  before-known n l h = known_in_lem m' v' n l ∙ f n l (sym (known_in_lem m v n l) ∙ h)

  word_known : (i : ℕ) → eqb (get_or v i 1) 1 ≡ true → eqb (get_or v' i 1) 1 ≡ true
  word_known i h = by (dec_lt i (length v))
    where
      by : Dec (i < length v) → eqb (get_or v' i 1) 1 ≡ true
      by (yes l) = eq-eqb _ _ (one_inside v' i (g i (inside v i l ∙ eqb-true _ _ h)))
      by (no l) = eq-eqb _ _ (get_or-eq_default v' 1 (omega (arith, e)))

  decoded_known : Watch.KnowsAll (map_in m v) (map_in m' v')
  unfolding map_in
  decoded_known n = by (dec_lt n before)
    where
      by : Dec (n < before) → known (map_in m v) (place n) ≡ true → known (map_in m' v') (place n) ≡ true
      by (yes l) = before-known n l
      by (no l) = subst (λ (p : Place). known (map_in m v) p ≡ true → known (map_in m' v') p ≡ true) (sym (word-place n (omega arith))) (word_known (n - before))

module _ (μ ν : Map) (z : Mapped μ) (z' : Mapped ν) (e : length μ.words ≡ length ν.words) (f : Watch.KnowsAll μ ν) where
  marks_known : KnowsWords (word_of μ.marks) (word_of ν.marks)
  marks_known n l h = sym (known_of ν.marks z'.s z'.r ν.words n l) ∙ f n (known_of μ.marks z.s z.r μ.words n l ∙ h)

  window_known : KnowsWindow μ.words ν.words
  window_known i h = by (dec_lt i (length ν.words))
    where
      known_word : eqb (get_or ν.words i 1) 1 ≡ true
      known_word =
          let q : before + i - before ≡ i = omega arith in
          let p : place (before + i) ≡ word i = word-place (before + i) (omega arith) ∙ ap word q in
          subst (λ (p : Place). known μ p ≡ true → known ν p ≡ true) p (f (before + i)) (eq-eqb _ _ (one_inside μ.words i h))

      by : Dec (i < length ν.words) → get_or ν.words i 0 ≡ 1
      by (yes l) = inside ν.words i l ∙ eqb-true _ _ known_word
      by (no l) =
          let o : get_or μ.words i 0 ≡ 0 = get_or-eq_default μ.words 0 (omega (arith, e)) in
          absurd (omega (arith, o, h))

-- ---- what is no refusal

-- its arguments are valid
not_invalid : (base : ℕ) (list l : List ℕ) (m : ℕ) (w v : List ℕ) (thumb : ℕ) (a : List ℕ) → (watched base list l m w v thumb a).result < 100 → valid_call l thumb (length a) ≡ true
not_invalid base list l m w v thumb a = by (valid_call l thumb (length a))
  where
    by : (b : Bool) → (cond b (watched_from base list (decoded_state l w thumb) m v) (watch_outcome 255 l m w v a)).result < 100 → b ≡ true
    by true h = refl
    by false h = absurd (omega (arith, h))

-- and it is within the limits
not_refused : (base : ℕ) (list : List ℕ) (st : State) (μ : Map) → (watch_reply base list st μ).report.kind < 100 → limit_of base list st μ ≡ 0
not_refused base list st μ h = by (eqb (limit_of base list st μ) 0) refl
  where
    by : (b : Bool) → eqb (limit_of base list st μ) 0 ≡ b → limit_of base list st μ ≡ 0
    by true t = eqb-true _ _ t
    by false t = let n : 100 + limit_of base list st μ < 100 = rw (refused_reply base list st μ t) at h in absurd (omega (arith, n))

-- ---- the theorem

module _ (base : ℕ) (list l w : List ℕ) (thumb m : ℕ) (v : List ℕ) (m' : ℕ) (v' : List ℕ) (z : Valid l) (f : KnowsWords m m') (g : KnowsWindow v v') where
  abbrev st : State
  st = decoded_state l w thumb

  abbrev μ : Map
  μ = map_in m v

  abbrev ν : Map
  ν = map_in m' v'

  replies : limit_of base list st μ ≡ 0 → limit_of base list st ν ≡ 0
      → NoLess (watched_from base list st m v) (watched_from base list st m' v') (watched_from base (take (watch_reply base list st μ).count list) st m' v')
  unfolding map_in
  replies e e' =
      let c = (watch_reply base list st μ).count in
      let zs = sized (eqb thumb 1) l z.words in
      let zμ = mapped m v in
      let zν = mapped m' v' in
      let y = Run.same_size base list st μ ν zμ zν e e' in
      let k = decoded_known m m' v v' y.words f g in
      let x = Run.more_known base list st μ ν zμ zν e e' k in
      let o = Run.size_left base list st μ ν zμ zν e e' k in
      let first = Run.first_within base list st ν c e' in
      let pμ = (Sizes-left base list st μ e (zs, zμ)).1 in
      let pν = (Sizes-left base (take c list) st ν first (zs, zν)).1 in
      rw (e, e', first)
      record {
        count = x.count;
        reached = x.reached;
        marks = marks_known _ _ pμ pν o.words x.known;
        window_marks = window_known _ _ pμ pν o.words x.known;
      }

no_less : (base : ℕ) (list l w : List ℕ) (thumb m : ℕ) (v a : List ℕ) (m' : ℕ) (v' a' : List ℕ) → (watched base list l m w v thumb a).result < 100 → (watched base list l m' w v' thumb a').result < 100
    → KnowsWords m m' → KnowsWindow v v'
    → NoLess (watched base list l m w v thumb a) (watched base list l m' w v' thumb a') (watched base (take (count_of (watched base list l m w v thumb a)) list) l m' w v' thumb a')
no_less base list l w thumb m v a m' v' a' h h' f g =
    let u = not_invalid base list l m w v thumb a h in
    let u' = not_invalid base list l m' w v' thumb a' h' in
    let e = not_refused base list (decoded_state l w thumb) (map_in m v) (rw u at h) in
    let e' = not_refused base list (decoded_state l w thumb) (map_in m' v') (rw u' at h') in
    rw (u, u') (replies base list l w thumb m v m' v' (Valid-call_state l thumb (length a) true (sym u) refl) f g e e')

pub more_known : (base : ℕ) (list l : List ℕ) (m : ℕ) (w v : List ℕ) (thumb : ℕ) (a : List ℕ) → MoreKnown base list l m w v thumb a (watched base list l m w v thumb a)
more_known base list l m w v thumb a =
    record {
      more = λ m' v' a' h h' f g. no_less base list l w thumb m v a m' v' a' h h' f g;
      fewer = λ m' v' a' h h' f g. no_less base list l w thumb m' v' a' m v a h' h f g;
    }

-- ---- bits above the last place

pub above : (base : ℕ) (list l : List ℕ) (m : ℕ) (w v : List ℕ) (thumb : ℕ) (a : List ℕ) → Above base list l m w v thumb a (watched base list l m w v thumb a)
above base list l m w v thumb a m' h q =
    let u = not_invalid base list l m w v thumb a h in
    let e = not_refused base list (decoded_state l w thumb) (map_in m v) (rw u at h) in
    rw (u, same_map m' m v q, e)
