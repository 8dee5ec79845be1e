-- From a step, or from the words that were moved, to a word's tree.
use Prim.Native.Nat.{ℕ}
use native.Mathlib.Omega.{arith}
use mathlib.Core.Path.{◌≡◌, refl, sym, subst}
use mathlib.Core.Bool.{Bool, true, false, cond}
use lib.Dec.{eqb}
use lib.Ieee.{Format, binary32, binary64}
use borrow.Author.Tests.{eq-eqb, ne_eqb}
use Rattle.bits.specs.Field.{field, bit_of}
use Rattle.machine.specs.Place.{Place, State, core, get, number, place}
use Rattle.registers.specs.Registers.{reg_of}
use Rattle.meaning.specs.Map.{Map, known}
use Rattle.meaning.specs.Tree.{Tree, go, ask}
use Rattle.meaning.specs.Step.{Act, act_marks, once, nothing}
use Rattle.meaning.specs.Hang.{clear, at, hang_of}
use Rattle.addresses.specs.Address.{count_of, start_of}
use Rattle.pairs.specs.Pair.{pair_step}
use Rattle.memory.specs.LoadStore.{access_act, access_tree, load_store_tree}
use Rattle.chains.specs.Steps.{act_of}
use Rattle.place_marks.specs.Word.{map_in}
use Rattle.sources.specs.declared.Source.{Source}
use Rattle.sources.specs.declared.Source.TheVariants.{Kept}
use Rattle.sources.specs.Source.{Tracing, Leading, Led}
use Rattle.sources.proofs.Rules.{once-Leading, nothing-Leading}
use Rattle.access_sources.specs.Moved.{LeadingMoved, LeadingClear}

module _ (st : State) (m q : ℕ) (r : Source) where
  Leading-go : (a : Act) → Leading a m q r → LeadingClear (go a) st m q r
  unfolding act_of
  Leading-go a h w g u = h w u

  -- what was asked for is known
  asked : (μ : Map) (p : Place) (k : ℕ → Tree) → hang_of (ask p k) st μ ≡ clear → known μ p ≡ true
  unfolding hang_of
  asked μ p k = by (known μ p)
    where
      by : (b : Bool) → cond b (hang_of (k (get st p)) st μ) (at (number p)) ≡ clear → b ≡ true
      by true e = refl
      by false e = absurd (let z : ◌≡◌ {A = ℕ} 0 1 = cc in omega arith)

  module _ (f : Format) (base op : ℕ) where
    pub pair_tree : field op 21 27 ≡ 0b110_0010 → Tracing (pair_step f op) m q r → LeadingClear (access_tree f base op) st m q r
    unfolding access_tree
    pair_tree e h =
        subst (λ (t : Tree). LeadingClear t st m q r) (rw (eq-eqb (field op 21 27) 0b110_0010 e) refl) (Leading-go (once (pair_step f op)) (once-Leading (pair_step f op) m q r h))

    pub moved_tree : (field op 21 27 ≡ 0b110_0010 → ⊥) → (value : ℕ) → get st (core (field op 16 19)) ≡ value
        → LeadingMoved f (bit_of op 20) base (reg_of f (field op 12 15) (field op 22 22)) (start_of op value) (count_of f op) op m q r
        → LeadingClear (access_tree f base op) st m q r
    unfolding access_tree act_of
    moved_tree n value e h =
        subst (λ (t : Tree). LeadingClear t st m q r) (rw (ne_eqb (field op 21 27) 0b110_0010 n) refl)
        (λ w g u.
        subst (λ (v : ℕ). known (act_marks (access_act f base op v) (map_in m w)) (place q) ≡ false → Led (access_act f base op v) (map_in m w) q r) (sym e)
        (h w (asked (map_in m w) (core (field op 16 19)) (λ a. go (access_act f base op a)) g)) u)

  module _ (base op c : ℕ) (e : c ≡ field op 8 11) where
    pub single_tree : c ≡ 10 → LeadingClear (access_tree binary32 base op) st m q r → LeadingClear (load_store_tree base op) st m q r
    unfolding load_store_tree
    single_tree g h = subst (λ (t : Tree). LeadingClear t st m q r) (rw (← e, eq-eqb c 10 g) refl) h

    pub double_tree : c ≡ 11 → LeadingClear (access_tree binary64 base op) st m q r → LeadingClear (load_store_tree base op) st m q r
    unfolding load_store_tree
    double_tree g h =
        let n : eqb c 10 ≡ false = ne_eqb c 10 (λ z. omega arith) in
        subst (λ (t : Tree). LeadingClear t st m q r) (rw (← e, n, eq-eqb c 11 g) refl) h

pub no_tree : (st : State) (m q base op c : ℕ) → c ≡ field op 8 11 → (c ≡ 10 → ⊥) → (c ≡ 11 → ⊥) → LeadingClear (load_store_tree base op) st m q Kept
unfolding load_store_tree
no_tree st m q base op c e a b =
    subst (λ (t : Tree). LeadingClear t st m q Kept) (rw (← e, ne_eqb c 10 a, ne_eqb c 11 b) refl) (Leading-go st m q Kept nothing (nothing-Leading m q))

-- by bit 20, from the first address
pub load_moved : (f : Format) (base n value k op m q : ℕ) (r : Source) (a : ℕ) → a ≡ start_of op value → {load : Bool} → bit_of op 20 ≡ load
    → LeadingMoved f load base n a k op m q r → LeadingMoved f (bit_of op 20) base n (start_of op value) k op m q r
load_moved f base n value k op m q r a e {load} g h =
    subst (λ (b : Bool). LeadingMoved f b base n (start_of op value) k op m q r) (sym g) (subst (λ (x : ℕ). LeadingMoved f load base n x k op m q r) e h)
