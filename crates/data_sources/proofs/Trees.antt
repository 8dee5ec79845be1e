-- From the act of a word to its tree.
use Prim.Native.Nat.{ℕ, zero, suc, ◌<◌}
use native.Mathlib.Omega.{arith}
use mathlib.Core.Path.{◌≡◌, refl, ap, sym, ◌∙◌, subst}
use mathlib.Core.Bool.{Bool, false}
use mathlib.Core.List.{List, [], ◌∷◌}
use lib.Dec.{eqb, ltb}
use lib.Ieee.{Format, binary32, binary64}
use borrow.Author.Tests.{eq-eqb, ne_eqb, ltb-false}
use denote.Enum.Declared.{tag_of}
use types.Run.{OneOf}
use Rattle.bits.specs.Field.{field}
use Rattle.machine.specs.Place.{State, control_of, place}
use Rattle.meaning.specs.Map.{Map, known}
use Rattle.meaning.specs.Step.{Step, Act, act_marks, once, nothing}
use Rattle.meaning.specs.Tree.{Tree, go}
use Rattle.meaning.specs.Hang.{clear, hang_of}
use Rattle.compare_steps.specs.Compare.{compare_step, compare_zero_step}
use Rattle.integer_steps.specs.Integer.{from_step, truncate_step, round_step}
use Rattle.decoding.specs.declared.operation.Operation.{Operation}
use Rattle.decoding.specs.declared.operation.Operation.TheVariants.{Fcvt}
use Rattle.register_fields.specs.Fields.{reg_d, reg_n, reg_m}
use Rattle.decoding.specs.Operation.{operation_of, operation_numbered, number_of}
use Rattle.decoding.specs.contracts.operation.Operation.{the_type}
use Rattle.decoding.proofs.Entries.{numbered_number}
use Rattle.decoding.proofs.Named.{each, one_of}
use Rattle.processing.specs.Data.{stepping, undefined_tree, operation_tree, data_tree, convert_step}
use Rattle.chains.specs.Steps.{act_of}
use Rattle.chains.specs.Chain.{Way}
use Rattle.chains.proofs.Laws.{nothing-Way, nothing_marks}
use Rattle.place_marks.specs.Word.{map_in}
use Rattle.sources.specs.declared.Source.{Source}
use Rattle.sources.specs.Source.{Tracing, Leading}
use Rattle.sources.proofs.Rules.{once-Leading}
use Rattle.links.specs.declared.Back.{Back}
use Rattle.links.specs.Walked.{WalkedAct, Walked}
use Rattle.links.specs.Pairs.{back_of, linked_in}
use Rattle.links.proofs.Walking.{walked_none, walked_link}
use Rattle.stepping_sources.specs.Stepping.{steps_by, stepping_act}

-- ---- stepping words, operations 1 to 13

abbrev steps : Format → ℕ → ℕ → Tree
steps f w n = stepping f (reg_d f w) (λ c. steps_by f c n (reg_d f w) (reg_n f w) (reg_m f w))

thirteen : (thumb : Bool) (f : Format) (w n : ℕ) → 0 < n → n < 14 → operation_tree thumb f w (operation_numbered n) ≡ steps f w n
unfolding operation_tree operation_numbered
thirteen thumb f w zero h g = absurd (omega arith)
thirteen thumb f w (suc zero) h g = refl
thirteen thumb f w (suc (suc zero)) h g = refl
thirteen thumb f w (suc (suc (suc zero))) h g = refl
thirteen thumb f w (suc (suc (suc (suc zero)))) h g = refl
thirteen thumb f w (suc (suc (suc (suc (suc zero))))) h g = refl
thirteen thumb f w (suc (suc (suc (suc (suc (suc zero)))))) h g = refl
thirteen thumb f w (suc (suc (suc (suc (suc (suc (suc zero))))))) h g = refl
thirteen thumb f w (suc (suc (suc (suc (suc (suc (suc (suc zero)))))))) h g = refl
thirteen thumb f w (suc (suc (suc (suc (suc (suc (suc (suc (suc zero))))))))) h g = refl
thirteen thumb f w (suc (suc (suc (suc (suc (suc (suc (suc (suc (suc zero)))))))))) h g = refl
thirteen thumb f w (suc (suc (suc (suc (suc (suc (suc (suc (suc (suc (suc zero))))))))))) h g = refl
thirteen thumb f w (suc (suc (suc (suc (suc (suc (suc (suc (suc (suc (suc (suc zero)))))))))))) h g = refl
thirteen thumb f w (suc (suc (suc (suc (suc (suc (suc (suc (suc (suc (suc (suc (suc zero))))))))))))) h g = refl
thirteen thumb f w (suc (suc (suc (suc (suc (suc (suc (suc (suc (suc (suc (suc (suc (suc n)))))))))))))) h g = absurd (omega arith)

-- what is left of a word, under another tree that is equal
pub Walked-as : (t u : Tree) (st : State) (i m q k : ℕ) (l l' : List ℕ) (y : Back) → u ≡ t → Walked t st i m q k l l' y → Walked u st i m q k l l' y
Walked-as t u st i m q k l l' y e h = subst (λ (x : Tree). Walked x st i m q k l l' y) (sym e) h

module _ (st : State) (i m q k : ℕ) (l l' : List ℕ) (y : Back) where
  acted : (a : Act) (t : Tree) → act_of t st ≡ a → WalkedAct a i m q k l l' y → Walked t st i m q k l l' y
  acted a t e h =
      record {
        pairs = h.pairs;
        list = h.list;
        count = h.count;
        few = h.few;
        way = λ w g. subst (λ (x : Act). known (act_marks x (map_in m w)) (place q) ≡ false → Way i x (map_in m w) (place y.place) h.pairs (place q)) (sym e) (h.way w tt);
      }

  pub stepped : (f : Format) (w n fpscr : ℕ) → 0 < n → n < 14 → st.machine.fpscr ≡ fpscr
      → WalkedAct (stepping_act f (control_of fpscr) n (reg_d f w) (reg_n f w) (reg_m f w)) i m q k l l' y → Walked (operation_tree false f w (operation_numbered n)) st i m q k l l' y
  unfolding act_of
  stepped f w n fpscr h g e x =
      Walked-as (steps f w n) (operation_tree false f w (operation_numbered n)) st i m q k l l' y (thirteen false f w n h g)
      (acted (stepping_act f (control_of fpscr) n (reg_d f w) (reg_n f w) (reg_m f w)) (steps f w n)
      (ap (λ (c : ℕ). stepping_act f (control_of c) n (reg_d f w) (reg_n f w) (reg_m f w)) e) x)

  -- by the coprocessor
  module _ (op c n : ℕ) (e : c ≡ field op 8 11) (z : n ≡ number_of (operation_of op)) where
    named : operation_numbered n ≡ operation_of op
    named = ap operation_numbered z ∙ numbered_number (operation_of op)

    pub single_data : c ≡ 10 → Walked (operation_tree false binary32 op (operation_numbered n)) st i m q k l l' y → Walked (data_tree false op) st i m q k l l' y
    unfolding data_tree
    single_data g h =
        Walked-as (operation_tree false binary32 op (operation_numbered n)) (data_tree false op) st i m q k l l' y
        (rw (← e, eq-eqb c 10 g) (ap (operation_tree false binary32 op) (sym named))) h

    pub double_data : c ≡ 11 → Walked (operation_tree false binary64 op (operation_numbered n)) st i m q k l l' y → Walked (data_tree false op) st i m q k l l' y
    unfolding data_tree
    double_data g h =
        Walked-as (operation_tree false binary64 op (operation_numbered n)) (data_tree false op) st i m q k l l' y
        (rw (← e, ne_eqb c 10 (λ x. omega arith), eq-eqb c 11 g) (ap (operation_tree false binary64 op) (sym named))) h

-- ---- an Undefined word does nothing

undefined_Walked : (st : State) (w i m q k : ℕ) (l : List ℕ) → Walked (undefined_tree false w) st i m q k l l (record { place = q; pairs = k })
unfolding act_of
undefined_Walked st w i m q k l =
    walked_none (λ μ. hang_of (undefined_tree false w) st μ ≡ clear) nothing i m q k l
    (λ v g u. nothing-Way i (map_in m v) (place q) (ap (λ (ν : Map). known ν (place q)) (sym (nothing_marks (map_in m v))) ∙ u))

pub undefined_number : (st : State) (f : Format) (w n i m q k : ℕ) (l : List ℕ) → n ≡ 0 → Walked (operation_tree false f w (operation_numbered n)) st i m q k l l (record { place = q; pairs = k })
unfolding operation_tree operation_numbered
undefined_number st f w n i m q k l e = rw e (undefined_Walked st w i m q k l)

pub undefined_data : (st : State) (op c i m q k : ℕ) (l : List ℕ) → c ≡ field op 8 11 → (c ≡ 10 → ⊥) → (c ≡ 11 → ⊥) → Walked (data_tree false op) st i m q k l l (record { place = q; pairs = k })
unfolding data_tree
undefined_data st op c i m q k l e a b = rw (← e, ne_eqb c 10 a, ne_eqb c 11 b) (undefined_Walked st op i m q k l)

-- ---- words of one step, operations from 14 on

-- the number of a word's operation is that of the operation of this number
pub number_named : (n : ℕ) (o : Operation) → n ≡ number_of o → number_of (operation_numbered n) ≡ n
number_named n o e = ap (λ (x : ℕ). number_of (operation_numbered x)) e ∙ ap number_of (numbered_number o) ∙ sym e

module _ (f : Format) (w m q : ℕ) (o : Operation) (r : Source) (thumb : Bool) (st : State) where
  once_of : (ks : List ℕ) (x : Operation → Step) → OneOf ks (tag_of the_type o) → each (λ p. operation_tree thumb f w p) ks ≡ each (λ p. go (once (x p))) ks → Tracing (x o) m q r
      → Leading (act_of (operation_tree thumb f w o) st) m q r
  unfolding act_of
  once_of ks x h e t =
      subst (λ (u : Tree). Leading (act_of u st) m q r) (sym (one_of (λ p. operation_tree thumb f w p) (λ p. go (once (x p))) ks o h e)) (once-Leading (x o) m q r t)

  pub compared : OneOf (14 ∷ 15 ∷ []) (tag_of the_type o) → ((any : Bool) → Tracing (compare_step f any (reg_d f w) (reg_m f w)) m q r) → Leading (act_of (operation_tree thumb f w o) st) m q r
  unfolding operation_tree operation_numbered
  compared h t = once_of (14 ∷ 15 ∷ []) (λ p. compare_step f (eqb (number_of p) 15) (reg_d f w) (reg_m f w)) h refl (t (eqb (number_of o) 15))

  pub compared_zero : OneOf (16 ∷ 17 ∷ []) (tag_of the_type o) → ((any : Bool) → Tracing (compare_zero_step f any (reg_d f w)) m q r) → Leading (act_of (operation_tree thumb f w o) st) m q r
  unfolding operation_tree operation_numbered
  compared_zero h t = once_of (16 ∷ 17 ∷ []) (λ p. compare_zero_step f (eqb (number_of p) 17) (reg_d f w)) h refl (t (eqb (number_of o) 17))

  pub converted : o ≡ Fcvt → Tracing (convert_step f w) m q r → Leading (act_of (operation_tree thumb f w o) st) m q r
  unfolding operation_tree act_of
  converted e t = subst (λ (p : Operation). Leading (act_of (operation_tree thumb f w p) st) m q r) (sym e) (once-Leading (convert_step f w) m q r t)

  pub from_integer : OneOf (19 ∷ 20 ∷ []) (tag_of the_type o) → ((sign : Bool) → Tracing (from_step f sign (reg_d f w) (reg_m binary32 w)) m q r)
      → Leading (act_of (operation_tree thumb f w o) st) m q r
  unfolding operation_tree operation_numbered
  from_integer h t = once_of (19 ∷ 20 ∷ []) (λ p. from_step f (eqb (number_of p) 20) (reg_d f w) (reg_m binary32 w)) h refl (t (eqb (number_of o) 20))

  pub rounded : OneOf (21 ∷ 23 ∷ []) (tag_of the_type o) → ((sign : Bool) → Tracing (round_step f sign (reg_d binary32 w) (reg_m f w)) m q r) → Leading (act_of (operation_tree thumb f w o) st) m q r
  unfolding operation_tree operation_numbered
  rounded h t = once_of (21 ∷ 23 ∷ []) (λ p. round_step f (eqb (number_of p) 23) (reg_d binary32 w) (reg_m f w)) h refl (t (eqb (number_of o) 23))

  pub truncated : OneOf (22 ∷ 24 ∷ []) (tag_of the_type o) → ((sign : Bool) → Tracing (truncate_step f sign (reg_d binary32 w) (reg_m f w)) m q r)
      → Leading (act_of (operation_tree thumb f w o) st) m q r
  unfolding operation_tree operation_numbered
  truncated h t = once_of (22 ∷ 24 ∷ []) (λ p. truncate_step f (eqb (number_of p) 24) (reg_d binary32 w) (reg_m f w)) h refl (t (eqb (number_of o) 24))

-- operations 0 to 13 are no words of one step
pub stepping_only : (o : Operation) → OneOf (0 ∷ 1 ∷ 2 ∷ 3 ∷ 4 ∷ 5 ∷ 6 ∷ 7 ∷ 8 ∷ 9 ∷ 10 ∷ 11 ∷ 12 ∷ 13 ∷ []) (tag_of the_type o) → 13 < number_of o → {A : Type 0} → A
unfolding operation_numbered
stepping_only o h g =
    let ks : List ℕ = 0 ∷ 1 ∷ 2 ∷ 3 ∷ 4 ∷ 5 ∷ 6 ∷ 7 ∷ 8 ∷ 9 ∷ 10 ∷ 11 ∷ 12 ∷ 13 ∷ [] in
    let no : ltb 13 (number_of o) ≡ false = one_of (λ o. ltb 13 (number_of o)) (λ o. false) ks o h refl in
    absurd (omega (arith, ltb-false 13 (number_of o) no))

-- ---- by a link, and by FPSCR 27:5

pub linked_once : (st : State) (f : Format) (w n i m q k : ℕ) (l l' : List ℕ) (y : Back) (s : Source) (o : Operation) → o ≡ operation_numbered n → (y ≡ back_of s q k) × (l' ≡ linked_in s i q k l)
    → Leading (act_of (operation_tree false f w o) st) m q s → Walked (operation_tree false f w (operation_numbered n)) st i m q k l l' y
linked_once st f w n i m q k l l' y s o e z h =
    subst (λ (p : Operation). Walked (operation_tree false f w p) st i m q k l l' y) e
    (walked_link (λ μ. hang_of (operation_tree false f w o) st μ ≡ clear) (act_of (operation_tree false f w o) st) i m q k l s l' y z (λ v g. h v))

pub as_control : (f : Format) (n d a b i m q k : ℕ) (l l' : List ℕ) (y : Back) {c c' : ℕ} → c ≡ c' → WalkedAct (stepping_act f c n d a b) i m q k l l' y
    → WalkedAct (stepping_act f c' n d a b) i m q k l l' y
as_control f n d a b i m q k l l' y e x = rw (← e) x
