-- From the words' promises to the watched run's.
use Prim.Native.Nat.{ℕ, ◌+◌, ◌%◌, ◌^◌, ◌<◌}
use native.Mathlib.Omega.{arith}
use native.Mathlib.Nat.{mod-mod, mod-lt}
use lib.Pow.{pow_pos}
use mathlib.Core.Path.{◌≡◌, refl, ap, subst, ◌∙◌}
use mathlib.Core.Bool.{Bool, false}
use mathlib.Core.List.{List}
use lib.ListN.{length}
use Rattle.machine.specs.declared.Machine.{Machine}
use Rattle.machine.specs.declared.Controls.{Controls}
use Rattle.machine.specs.Machine.{assembled, controls_of}
use Rattle.machine.specs.Place.{state, before}
use Rattle.meaning.specs.Map.{Map}
use Rattle.window_marks.specs.Marks.{ones_of}
use Rattle.window_marks.proofs.Ones.{ones_le}
use Rattle.place_marks.specs.Word.{marks_of, map_in}
use Rattle.known_places.specs.Count.{known_before, known_places}
use Rattle.known_places.proofs.Count.{places_counted}
use Rattle.place_marks.proofs.Word.{same_map}
use Rattle.run_word.specs.declared.Stop.{Stop}
use Rattle.run_word.specs.Stop.{stop_of}
use Rattle.run.proofs.Replies.{whole}
use Rattle.run_log.specs.Log.{Logged}
use Rattle.word_class.specs.Word.{meaning}
use Rattle.watch.specs.declared.Watched.{Watched}
use Rattle.watch.specs.Watch.{answered, reply}
use Rattle.meaning.specs.Run as R

-- an answer of these parts: the bits above the last place are cut off, and do not count
pub answered_as : (a : Watched) (stop : Stop) (count : ℕ) (m : Machine) (k n : ℕ) (v w : List ℕ) (e : R.Watched)
    → (a.stop ≡ stop) × (a.count ≡ count) × (a.machine ≡ m) × (a.marks ≡ k % 2 ^ before) × (a.known ≡ known_before (marks_of k) + n)
    → n ≡ ones_of w → R.ended_with (state m v) (map_in k w) count (stop_of stop) ≡ e
    → (answered a v w ≡ reply e) × (a.marks < 2 ^ before) × (a.known ≡ known_places (map_in a.marks w))
answered_as a stop count m k n v w e p h q = (
  rw (p.0, p.1, p.2, p.3, same_map (k % 2 ^ before) k w (mod-mod k (2 ^ before))) (ap reply q),
  rw p.3 (mod-lt k (pow_pos before)),
  rw (p.4, p.3, same_map (k % 2 ^ before) k w (mod-mod k (2 ^ before))) (places_counted k w (known_before (marks_of k)) n refl h),
)

-- a number of marks is far from the greatest number
pub few : (w : List ℕ) (n : ℕ) → n ≡ ones_of w → length w < 2 ^ 63 → n < 2 ^ 63
few w n e h = omega (arith, e, ones_le w)

-- ---- the run's answer, from a machine in its parts

module _ (base : ℕ) (list : List ℕ) (μ : Map) (m : Machine) (v₀ s r : List ℕ) (x : Controls) (t : m.thumb ≡ false) (p : s ≡ m.s) (q : r ≡ m.r) (e : x ≡ controls_of m) where
  parts : assembled s r x false ≡ m
  parts = rw (p, q, e) (whole m t)

  pub ends_as : (a : Watched) (stop : Stop) (count : ℕ) (m' : Machine) (k n : ℕ) (v w ms vs : List ℕ) (ss : List Bool)
      → (a.stop ≡ stop) × (a.count ≡ count) × (a.machine ≡ m') × (a.marks ≡ k % 2 ^ before) × (a.known ≡ known_before (marks_of k) + n)
      → n ≡ ones_of w
      → (R.ended_with (state m' v) (map_in k w) count (stop_of stop) ≡ R.watch (meaning base) list 0 (state (assembled s r x false) v₀) μ) × Logged base list (state (assembled s r x false) v₀) μ count ms vs ss
      → (answered a v w ≡ reply (R.watch (meaning base) list 0 (state m v₀) μ)) × (a.marks < 2 ^ before) × (a.known ≡ known_places (map_in a.marks w)) × Logged base list (state m v₀) μ a.count ms vs ss
  ends_as a stop count m' k n v w ms vs ss d o g =
      let z = answered_as a stop count m' k n v w _ d o (g.0 ∙ ap (λ (b : Machine). R.watch (meaning base) list 0 (state b v₀) μ) parts) in
      (z.0, z.1, z.2, rw d.1 (subst (λ (b : Machine). Logged base list (state b v₀) μ count ms vs ss) parts g.1))
