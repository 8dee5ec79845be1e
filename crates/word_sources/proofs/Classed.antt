-- From a word of a class to its tree.
use Prim.Native.Nat.{ℕ, ◌+◌, ◌≤◌}
use native.Mathlib.Omega.{arith}
use mathlib.Core.Path.{◌≡◌, refl, sym, ◌∙◌, subst}
use mathlib.Core.Bool.{Bool, true, false}
use mathlib.Core.List.{List, []}
use lib.Dec.{eqb}
use borrow.Author.Tests.{eq-eqb, ne_eqb}
use Rattle.bits.specs.Field.{field, bit_of}
use Rattle.machine.specs.Machine.{new_machine, with_fpscr}
use Rattle.machine.specs.Place.{State, state, core, get}
use Rattle.meaning.specs.Tree.{Tree}
use Rattle.meaning.specs.Hang.{clear, hang_of}
use Rattle.memory.specs.LoadStore.{load_store_tree}
use Rattle.transfers.specs.Transfer.{transfer_tree}
use Rattle.processing.specs.Data.{data_tree}
use Rattle.word_class.specs.Word.{class_tree}
use Rattle.chains.specs.Steps.{act_of}
use Rattle.sources.specs.declared.Source.{Source}
use Rattle.sources.specs.declared.Source.TheVariants.{Kept, From}
use Rattle.sources.specs.Source.{Leading}
use Rattle.access_sources.specs.Moved.{LeadingClear}
use Rattle.links.specs.declared.Back.{Back}
use Rattle.links.specs.Pairs.{back_of, linked_in}
use Rattle.links.specs.Walked.{Walked}
use Rattle.links.proofs.Walking.{walked_link}
use Rattle.word_sources.specs.Value.{value_of}

-- at most 8 pairs more
pub link_few : (s : Source) (q k : ℕ) (y : Back) → y ≡ back_of s q k → y.pairs ≤ k + 8
link_few Kept q k y e = rw e (omega arith)
link_few (From p) q k y e = rw e (omega arith)

-- in some state with this FPSCR
pub Walked-few : (op fpscr i m q k : ℕ) (l l' : List ℕ) (y : Back) → ((st : State) → st.machine.fpscr ≡ fpscr → Walked (data_tree false op) st i m q k l l' y) → y.pairs ≤ k + 8
Walked-few op fpscr i m q k l l' y f =
    let r = f (state (with_fpscr new_machine fpscr) []) refl in
    omega (arith, r.count, r.few)

module _ (base op : ℕ) (st : State) (i m q k : ℕ) (l l' : List ℕ) (y : Back) where
  -- by a link
  linked : (t : Tree) (s : Source) → (y ≡ back_of s q k) × (l' ≡ linked_in s i q k l) → LeadingClear t st m q s → Walked t st i m q k l l' y
  linked t s e f = walked_link (λ μ. hang_of t st μ ≡ clear) (act_of t st) i m q k l s l' y e f

  as_tree : (t : Tree) → class_tree base op ≡ t → Walked t st i m q k l l' y → Walked (class_tree base op) st i m q k l l' y
  as_tree t e h = subst (λ (x : Tree). Walked x st i m q k l l' y) (sym e) h

  pub accessed : (s : Source) (value c : ℕ) → c ≡ field op 25 27 → c ≡ 0b110 → value ≡ value_of op st → (y ≡ back_of s q k) × (l' ≡ linked_in s i q k l)
      → ((x : State) → get x (core (field op 16 19)) ≡ value → (n : ℕ) → LeadingClear (load_store_tree base op) x n q s) → Walked (class_tree base op) st i m q k l l' y
  unfolding class_tree
  accessed s value c e g v z f =
      let t : eqb (field op 25 27) 0b110 ≡ true = eq-eqb (field op 25 27) 0b110 (sym e ∙ g) in
      as_tree (load_store_tree base op) (rw t refl) (linked (load_store_tree base op) s z (f st (sym (v ∙ rw t refl)) m))

  pub transferred : (s : Source) (c : ℕ) → c ≡ field op 25 27 → (c ≡ 0b110 → ⊥) → bit_of op 4 ≡ true → (y ≡ back_of s q k) × (l' ≡ linked_in s i q k l)
      → ((thumb : Bool) (x : State) → Leading (act_of (transfer_tree thumb op) x) m q s) → Walked (class_tree base op) st i m q k l l' y
  unfolding class_tree
  transferred s c e g b z f =
      let t : eqb (field op 25 27) 0b110 ≡ false = ne_eqb (field op 25 27) 0b110 (λ x. g (e ∙ x)) in
      as_tree (transfer_tree false op) (rw (t, b) refl) (linked (transfer_tree false op) s z (λ w h. f false st w))

  pub processed : (value c : ℕ) → c ≡ field op 25 27 → (c ≡ 0b110 → ⊥) → bit_of op 4 ≡ false → value ≡ value_of op st
      → ((x : State) → x.machine.fpscr ≡ value → Walked (data_tree false op) x i m q k l l' y) → Walked (class_tree base op) st i m q k l l' y
  unfolding class_tree
  processed value c e g b v f =
      let t : eqb (field op 25 27) 0b110 ≡ false = ne_eqb (field op 25 27) 0b110 (λ x. g (e ∙ x)) in
      as_tree (data_tree false op) (rw (t, b) refl) (f st (sym (v ∙ rw t refl)))
