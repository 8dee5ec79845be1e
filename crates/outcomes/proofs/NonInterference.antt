-- Demand 3 over the buffers: what an unknown word holds shows nowhere.
use Prim.Native.Nat.{ℕ, ◌+◌, ◌-◌, ◌<◌}
use native.Mathlib.Omega.{arith}
use native.Mathlib.Decide.{dec_lt}
use mathlib.Core.Path.{◌≡◌, refl, ap, sym, ◌∙◌, subst}
use mathlib.Core.Bool.{Bool, true, false}
use mathlib.Core.List.{List}
use lib.Dec.{eqb}
use lib.ListN.{length, get_or, drop, length-drop, get_or-eq_default}
use lib.Seq.{length-take-le}
use borrow.Author.Tests.{eqb-true, eq-eqb}
use Rattle.machine.specs.declared.Machine.{Machine}
use Rattle.machine.specs.Machine.{Sized}
use Rattle.machine.specs.Place.{Place, word, place, before, State, get, state}
use Rattle.meaning.specs.Map.{Map, known}
use Rattle.meaning.specs.Stop.{Report, report, refused}
use Rattle.word_class.specs.Word.{meaning}
use Rattle.watch.specs.Watch.{Reply, limit_of, watch_reply}
use Rattle.watch.specs.Demand.{Agree}
use Rattle.watch.proofs.Demanded.{mapped, within, demand_3}
use Rattle.bits.specs.Field.{bit_of}
use Rattle.place_marks.specs.Word.{map_in, word_of}
use Rattle.place_marks.proofs.Word.{known_in_lem, known_of}
use Rattle.layout.specs.State.{encode, decode, Valid, in_position}
use Rattle.layout.proofs.Words.{place_word}
use Rattle.limits.proofs.Limits.{marks_within}
use Rattle.outcomes.specs.Outcome.{decoded_state}
use Rattle.outcomes.specs.WatchOutcome.{reported_watch, watched_from, watched}
use Rattle.outcomes.specs.Buffers.{SameWindow, SameWords, Alike, NonInterference}
use Rattle.outcomes.proofs.Calls.{Valid-call_state}
use Rattle.outcomes.proofs.Sizes.{Sizes, watch-Sizes}
use Rattle.outcomes.proofs.Numbered.{held, decoded_place, word-place, inside, one_inside}

-- agreement in the known places before the window
abbrev AgreeBefore : Map → State → State → Type 0
AgreeBefore μ a b = (n : ℕ) → n < before → known μ (place n) ≡ true → get a (place n) ≡ get b (place n)

-- ---- from buffers to places

pub sized : (t : Bool) (l : List ℕ) → length l ≡ before → Sized (decode t l)
unfolding decode
sized t l h = record { s = length-take-le 32 l (omega arith); r = length-take-le 16 (drop 32 l) (rw (length-drop 32 l, h) (omega arith)) }

agree_before : (t : Bool) (m : ℕ) (v l l' w w' : List ℕ) → Valid l → Valid l' → SameWords m l l' → AgreeBefore (map_in m v) (state (decode t l) w) (state (decode t l') w')
agree_before t m v l l' w w' z z' s n h k =
    decoded_place t l w z n h ∙ (ap (held (place n)) (s n h (sym (known_in_lem m v n h) ∙ k)) ∙ sym (decoded_place t l' w' z' n h))

agree_window : (v w w' : List ℕ) → length v ≡ length w → length w ≡ length w' → SameWindow v w w' → (i : ℕ) → eqb (get_or v i 1) 1 ≡ true → get_or w i 0 ≡ get_or w' i 0
agree_window v w w' e e' s i k = by (dec_lt i (length v))
  where
    by : Dec (i < length v) → get_or w i 0 ≡ get_or w' i 0
    by (yes h) = s i (inside v i h ∙ eqb-true _ _ k)
    by (no h) = get_or-eq_default w 0 (omega (arith, e)) ∙ sym (get_or-eq_default w' 0 (omega (arith, e, e')))

agree : (μ : Map) (a b : State) → AgreeBefore μ a b → ((i : ℕ) → eqb (get_or μ.words i 1) 1 ≡ true → get_or a.window i 0 ≡ get_or b.window i 0) → Agree μ a b
agree μ a b f g n = by (dec_lt n before)
  where
    by : Dec (n < before) → known μ (place n) ≡ true → get a (place n) ≡ get b (place n)
    by (yes h) = f n h
    by (no h) = subst (λ (p : Place). known μ p ≡ true → get a p ≡ get b p) (sym (word-place n (omega arith))) (g (n - before))

-- ---- and back

-- of a map, and of a word with its marks
module _ (μ : Map) (k : ℕ) (p q : Machine) (w w' : List ℕ) (zp : Sized p) (zq : Sized q) (b : (n : ℕ) → n < before → known μ (place n) ≡ bit_of k n)
    (f : AgreeBefore μ (state p w) (state q w'))
  where
    encoded_same : SameWords k (encode p) (encode q)
    encoded_same n h e = place_word p zp w n h ∙ (ap (in_position (place n)) (f n h (b n h ∙ e)) ∙ sym (place_word q zq w' n h))

reported_Alike : (k k' : ℕ) (x y : Reply) → k ≡ k' → x.report ≡ y.report → x.count ≡ y.count → x.map ≡ y.map → Sized x.leaves.machine → Sized y.leaves.machine
    → ((n : ℕ) → n < before → known x.map (place n) ≡ bit_of k n) → AgreeBefore x.map x.leaves y.leaves → SameWindow x.map.words x.leaves.window y.leaves.window
    → Alike (reported_watch k x) (reported_watch k' y)
reported_Alike k k' x y ek er ec em zx zy b f g =
    record {
      result = ap (λ (p : Report). p.kind) er;
      answer = rw (er, ec, em);
      marks = ek;
      window_marks = ap (λ (μ : Map). μ.words) em;
      words = encoded_same x.map k x.leaves.machine y.leaves.machine x.leaves.window y.leaves.window zx zy b f;
      window = g;
    }

window_place : (μ : Map) (a b : State) → Agree μ a b → SameWindow μ.words a.window b.window
window_place μ a b ag i e =
    let q : before + i - before ≡ i = omega arith in
    let h : place (before + i) ≡ word i = word-place (before + i) (omega arith) ∙ ap word q in
    subst (λ (p : Place). known μ p ≡ true → get a p ≡ get b p) h (ag (before + i)) (eq-eqb _ _ (one_inside μ.words i e))

-- ---- the demand

pub refused_reply : (base : ℕ) (list : List ℕ) (st : State) (μ : Map) → eqb (limit_of base list st μ) 0 ≡ false
    → watch_reply base list st μ ≡ record { report = report (refused (limit_of base list st μ)); count = 0; leaves = st; map = μ }
unfolding watch_reply
refused_reply base list st μ e = rw e

pub Sizes-left : (base : ℕ) (list : List ℕ) (st : State) (μ : Map) → limit_of base list st μ ≡ 0 → Sizes st μ → Sizes (watch_reply base list st μ).leaves (watch_reply base list st μ).map
Sizes-left base list st μ e z = rw (within base list st μ e) (watch-Sizes (meaning base) list 0 st μ z)

module _ (base : ℕ) (list : List ℕ) (m : ℕ) (v : List ℕ) (thumb : ℕ) (l l' w w' : List ℕ) (z : Valid l) (z' : Valid l') (e : length w ≡ length w')
    (s : SameWords m l l') (g : SameWindow v w w')
  where
    abbrev μ : Map
    μ = map_in m v

    abbrev a : State
    a = decoded_state l w thumb

    abbrev b : State
    b = decoded_state l' w' thumb

    same_limit : limit_of base list a μ ≡ limit_of base list b μ
    unfolding decode
    same_limit = rw e

    za : Sizes a μ
    za = (sized (eqb thumb 1) l z.words, mapped m v)

    zb : Sizes b μ
    zb = (sized (eqb thumb 1) l' z'.words, mapped m v)

    first : AgreeBefore μ a b
    first = agree_before (eqb thumb 1) m v l l' w w' z z' s

    -- within the limits
    made : limit_of base list a μ ≡ 0 → Alike (watched_from base list a m v) (watched_from base list b m v)
    unfolding map_in
    made n =
        let n' = sym same_limit ∙ n in
        let ag = agree μ a b first (agree_window v w w' (marks_within (length list) base (length w) a.machine.thumb v n) e g) in
        let x = (demand_3 base list μ a.machine b.machine w w' za.1 za.0 zb.0 e n n' ag).0 in
        let zs = Sizes-left base list a μ n za in
        let k = (watch_reply base list a μ).map in
        rw (n, n')
        (reported_Alike (word_of k.marks) (word_of (watch_reply base list b μ).map.marks) (watch_reply base list a μ) (watch_reply base list b μ) (ap (λ (ν : Map). word_of ν.marks) x.map) x.report x.count x.map zs.0 (Sizes-left base list b μ n' zb).0 (known_of k.marks zs.1.s zs.1.r k.words) (λ i h. x.agree i) (window_place k (watch_reply base list a μ).leaves (watch_reply base list b μ).leaves x.agree))

    -- turned back
    turned_back : eqb (limit_of base list a μ) 0 ≡ false → Alike (watched_from base list a m v) (watched_from base list b m v)
    unfolding map_in
    turned_back t =
        let t' = sym (ap (λ (k : ℕ). eqb k 0) same_limit) ∙ t in
        rw (t, t', refused_reply base list a μ t, refused_reply base list b μ t')
        (reported_Alike m m (record { report = report (refused (limit_of base list a μ)); count = 0; leaves = a; map = μ }) (record { report = report (refused (limit_of base list b μ)); count = 0; leaves = b; map = μ }) refl (ap (λ (k : ℕ). report (refused k)) same_limit) refl refl za.0 zb.0 (known_in_lem m v) first g)

    replies : Alike (watched_from base list a m v) (watched_from base list b m v)
    replies = by (eqb (limit_of base list a μ) 0) refl
      where
        by : (t : Bool) → eqb (limit_of base list a μ) 0 ≡ t → Alike (watched_from base list a m v) (watched_from base list b m v)
        by true t = made (eqb-true _ _ t)
        by false t = turned_back t

pub non_interference : (base : ℕ) (list l : List ℕ) (m : ℕ) (w v : List ℕ) (thumb : ℕ) (a : List ℕ) → NonInterference base list l m w v thumb a (watched base list l m w v thumb a)
non_interference base list l m w v thumb a l' w' a' u u' e s g =
    rw (u, u')
    (replies base list m v thumb l l' w w' (Valid-call_state l thumb (length a) true (sym u) refl) (Valid-call_state l' thumb (length a') true (sym u') refl) e s g)
