-- The promises of the call, from those of the run and of the walk back.
use Prim.Native.Nat.{ℕ, ◌^◌, ◌≤◌, ◌<◌}
use native.Mathlib.Omega.{arith}
use mathlib.Core.Path.{◌≡◌, refl, ap, sym, ◌∙◌}
use mathlib.Core.Bool.{false}
use mathlib.Core.List.{List}
use lib.ListN.{length}
use borrow.Author.Tests.{ne_eqb}
use Rattle.machine.specs.declared.Machine.{Machine}
use Rattle.machine.specs.Machine.{Sized}
use Rattle.machine.specs.Place.{State, state, before, place}
use Rattle.meaning.specs.Map.{Map, known}
use Rattle.place_marks.specs.Word.{map_in}
use Rattle.meaning.specs.Run.{watch}
use Rattle.meaning.proofs.Prefix.{count_within}
use Rattle.limits.proofs.Limits.{run_within, list_within, arm}
use Rattle.word_class.specs.Word.{meaning}
use Rattle.watch.specs.declared.Watched.{Watched}
use Rattle.watch.specs.Watch.{Reply, answered, reply, limit_of, watch_reply}
use Rattle.watch.specs.Promise.{Promise, WordPromise}
use Rattle.watch.proofs.Demanded.{mapped, within}
use Rattle.walk_back.specs.Refusal.{origin_refusal}
use Rattle.walk_back.specs.Given.{Given}
use Rattle.watch.proofs.Promised.{promised, word_promised}
use Rattle.origin.specs.Origin.{OriginPromise}

module _ (base : ℕ) (list : List ℕ) (st : State) (μ : Map) (q : ℕ) (x : Reply) (l : List ℕ) where
  -- a refused run
  pub not_run : (limit_of base list st μ ≡ 0 → ⊥) → OriginPromise base list st μ q x l l 0 0 0
  not_run n =
      record {
        refusal = rw (ne_eqb _ 0 n) refl;
        refused = λ z. (refl, refl, refl);
        turned = λ z. (refl, refl, refl);
        given = λ z. absurd (n z);
      }

  -- a refused chain
  pub not_given : (k : ℕ) → limit_of base list st μ ≡ 0 → k ≡ origin_refusal q x.map x.count (length l) → (k ≡ 0 → ⊥) → OriginPromise base list st μ q x l l k 0 0
  not_given k e r n =
      record {
        refusal = r ∙ rw e refl;
        refused = λ z. (refl, refl, refl);
        turned = λ z. (refl, refl, refl);
        given = λ z o. absurd (n o);
      }

  pub gives : (l' : List ℕ) (first n : ℕ) → limit_of base list st μ ≡ 0 → 0 ≡ origin_refusal q x.map x.count (length l) → Given base list st μ q x.count l l' first n
      → OriginPromise base list st μ q x l l' 0 first n
  gives l' first n e r g =
      record {
        refusal = r ∙ rw e refl;
        refused = λ z. absurd (z e);
        turned = λ z. absurd (z refl);
        given = λ z o. g;
      }

-- ---- the run within the limits

module _ (base : ℕ) (list : List ℕ) (m : Machine) (z : Sized m) (v : List ℕ) (marks : ℕ) (w : List ℕ) (k : ℕ) (e : k ≡ limit_of base list (state m v) (map_in marks w)) (n : k ≡ 0) where
  abbrev st : State
  st = state m v

  abbrev μ : Map
  μ = map_in marks w

  pub limit : limit_of base list st μ ≡ 0
  limit = sym e ∙ n

  pub in_arm : m.thumb ≡ false
  in_arm = arm (length list) base (length v) m.thumb (run_within (length list) base (length v) m.thumb μ.words limit)

  pub short : length list ≤ 4096
  short = list_within (length list) base (length v) m.thumb (run_within (length list) base (length v) m.thumb μ.words limit)

  -- what was run and logged
  module _ (a : Watched) (v' w' : List ℕ) (r : answered a v' w' ≡ reply (watch (meaning base) list 0 st μ)) where
    same : answered a v' w' ≡ watch_reply base list st μ
    same = r ∙ sym (within base list st μ limit)

    pub has_Promise : Promise base list st μ (answered a v' w')
    has_Promise = promised base list st μ (mapped marks w) z (answered a v' w') in_arm same

    pub has_word : a.marks < 2 ^ before → WordPromise base list st marks w (answered a v' w') a.marks
    has_word l = word_promised base list st marks w (answered a v' w') a.marks w' limit same refl l

    pub counted : a.count ≤ length list
    counted = omega (arith, ap (λ (x : Reply). x.count) r, count_within (meaning base) list st μ)

    pub still_unknown : (q : ℕ) → known (map_in a.marks w') (place q) ≡ false → known (watch (meaning base) list 0 st μ).map (place q) ≡ false
    still_unknown q u = ap (λ (x : Reply). known x.map (place q)) (sym r) ∙ u
