-- The marks that one step leaves, over the precision.
use Prim.Native.Nat.{ℕ}
use mathlib.Core.Path.{◌≡◌, refl, ap, ◌∙◌}
use mathlib.Core.Bool.{Bool, true, false, cond, ◌&&◌}
use mathlib.Core.List.{List, [], ◌∷◌, ◌++◌}
use lib.Ieee.{Format, binary32, binary64}
use Rattle.machine.specs.Place.{Place, low_word, high_word, flags, control, exceptions}
use Rattle.meaning.specs.Map.{Map, known, mark}
use Rattle.meaning.specs.Step.{Step, all_known, step_marks}
use Rattle.meaning.proofs.Laws.{marks_none, marks_one}
use Rattle.numbers.specs.Arithmetic.{accumulates}
use Rattle.numbers.specs.declared.arithmetic.Arithmetic.{Arithmetic}
use Rattle.sign_steps.specs.declared.sign.SignOperation.{SignOperation}
use Rattle.short_vectors.specs.Register.{words_of, written}
use Rattle.sign_steps.specs.Sign.{sign_step}
use Rattle.arithmetic_steps.specs.Arithmetic.{operands, arithmetic_step}
use Rattle.root_steps.specs.Root.{root_step}
use Rattle.compare_steps.specs.Compare.{compare_step, compare_zero_step}
use Rattle.width_steps.specs.Width.{widen_step, narrow_step}
use Rattle.integer_steps.specs.Integer.{from_step, truncate_step, round_step}
use Rattle.register_fields.specs.Fields.{reg_d, reg_m}
use Rattle.short_vectors.specs.Vector.{precision}
use Rattle.short_vectors.proofs.Loop.{Repeats}
use Rattle.register_marks.specs.Register.{known_in, mark_in}
use Rattle.processing_marks.specs.Marked.{MarksStepped, MarksIterated, Copies, all_in, mark_raised}

and_assoc : (a b c : Bool) → ((a && b) && c) ≡ (a && (b && c))
and_assoc true b c = refl
and_assoc false b c = refl

module _ (μ : Map) where
  all_known_lem : (f : Format) (ns : List ℕ) → all_known μ (words_of f ns) ≡ all_in f μ ns
  all_known_lem f [] = refl
  all_known_lem binary32 (n ∷ ns) = ap (λ (b : Bool). b && known_in binary32 μ n) (all_known_lem binary32 ns)
  all_known_lem binary64 (n ∷ ns) =
      and_assoc (all_known μ (words_of binary64 ns)) (known μ (high_word n)) (known μ (low_word n)) ∙ ap (λ (b : Bool). b && known_in binary64 μ n) (all_known_lem binary64 ns)

  -- a register that is written, and the cumulative exception bits beside it
  raising_marks : (f : Format) (d : ℕ) (sources by : List Place) (value raised : List ℕ → ℕ)
      → step_marks (written f d sources value ++ (record { target = exceptions; sources = exceptions ∷ by; value = raised } ∷ [])) μ
      ≡ mark_raised (mark_in f μ d (all_known μ sources)) (all_known μ by)
  raising_marks binary32 d sources by value raised = refl
  raising_marks binary64 d sources by value raised = refl

  -- the marks of register d and of what is raised, from the same sources
  abbrev pub result_in : Format → ℕ → Bool → Map
  result_in f d all = mark_raised (mark_in f μ d all) all

  arithmetic_marks : (f : Format) (c : ℕ) (kind : Arithmetic) (d n m : ℕ) → step_marks (arithmetic_step f c kind d n m) μ ≡ result_in f d (all_in f μ (operands kind d n m))
  arithmetic_marks f c kind d n m =
      let sources = words_of f (operands kind d n m) in raising_marks f d sources sources _ _ ∙ ap (result_in f d) (all_known_lem f (operands kind d n m))

  pub accumulate_marks : (f : Format) (c : ℕ) (kind : Arithmetic) (d n m : ℕ) → accumulates kind ≡ true
      → step_marks (arithmetic_step f c kind d n m) μ ≡ result_in f d ((known_in f μ d && known_in f μ m) && known_in f μ n)
  accumulate_marks f c kind d n m e = arithmetic_marks f c kind d n m ∙ ap (λ (b : Bool). result_in f d (all_in f μ (cond b (n ∷ m ∷ d ∷ []) (n ∷ m ∷ [])))) e

  pub two_operand_marks : (f : Format) (c : ℕ) (kind : Arithmetic) (d n m : ℕ) → accumulates kind ≡ false
      → step_marks (arithmetic_step f c kind d n m) μ ≡ result_in f d (known_in f μ m && known_in f μ n)
  two_operand_marks f c kind d n m e = arithmetic_marks f c kind d n m ∙ ap (λ (b : Bool). result_in f d (all_in f μ (cond b (n ∷ m ∷ d ∷ []) (n ∷ m ∷ [])))) e

  pub root_marks : (f : Format) (c d m : ℕ) → step_marks (root_step f c d m) μ ≡ result_in f d (known_in f μ m)
  root_marks f c d m = let sources = words_of f (m ∷ []) in raising_marks f d sources sources _ _ ∙ ap (result_in f d) (all_known_lem f (m ∷ []))

  -- FPSCR 31:28 from the same sources as what is raised
  abbrev pub flags_in : Bool → Map
  flags_in all = mark_raised (mark μ flags all) all

  pub compare_marks : (f : Format) (any : Bool) (d m : ℕ) → step_marks (compare_step f any d m) μ ≡ flags_in (known_in f μ m && known_in f μ d)
  compare_marks f any d m = ap flags_in (all_known_lem f (d ∷ m ∷ []))

  pub compare_zero_marks : (f : Format) (any : Bool) (d : ℕ) → step_marks (compare_zero_step f any d) μ ≡ flags_in (known_in f μ d)
  compare_zero_marks f any d = ap flags_in (all_known_lem f (d ∷ []))

  pub widen_marks : (d m : ℕ) → step_marks (widen_step d m) μ ≡ mark_raised (mark_in binary64 μ d (known_in binary32 μ m && known μ control)) (known_in binary32 μ m)
  widen_marks d m = refl

  pub narrow_marks : (d m : ℕ) → step_marks (narrow_step d m) μ ≡ result_in binary32 d (known_in binary64 μ m && known μ control)
  narrow_marks d m = ap (λ (b : Bool). result_in binary32 d (b && known μ control)) (all_known_lem binary64 (m ∷ []))

  pub from_single_marks : (sign : Bool) (d m : ℕ)
      → step_marks (from_step binary32 sign d m) μ ≡ mark_raised (mark_in binary32 μ d (known_in binary32 μ m && known μ control)) (known_in binary32 μ m)
  from_single_marks sign d m = refl

  pub from_double_marks : (sign : Bool) (d m : ℕ) → step_marks (from_step binary64 sign d m) μ ≡ result_in binary64 d (known_in binary32 μ m)
  from_double_marks sign d m = refl

  pub truncate_marks : (f : Format) (sign : Bool) (d m : ℕ) → step_marks (truncate_step f sign d m) μ ≡ result_in binary32 d (known_in f μ m)
  truncate_marks f sign d m = ap (result_in binary32 d) (all_known_lem f (m ∷ []))

  pub round_marks : (f : Format) (sign : Bool) (d m : ℕ) → step_marks (round_step f sign d m) μ ≡ result_in binary32 d (known_in f μ m && known μ control)
  round_marks f sign d m = ap (λ (b : Bool). result_in binary32 d (b && known μ control)) (all_known_lem f (m ∷ []))

-- moves and sign changes copy marks
pub sign_Copies : (f : Format) (sign : SignOperation) → Copies f (sign_step f sign)
sign_Copies binary32 sign d m μ = refl
sign_Copies binary64 sign d m μ = refl

-- a step of the registers that a word names, once its precision is told
pub of_word : (one : Format → ℕ → ℕ → Step) (w k k' : ℕ) {double b : Bool} {d m : ℕ} → double ≡ b → d ≡ reg_d (precision b) w → m ≡ reg_m (precision b) w
    → MarksStepped (one (precision b) d m) k k' → MarksStepped (one (precision double) (reg_d (precision double) w) (reg_m (precision double) w)) k k'
of_word one w k k' e d' m' h = rw (e, ← d', ← m') h

-- steps on a word of marks, and steps that copy marks, whichever they are
abbrev pub on_marks : Repeats ℕ Step
on_marks =
    record {
      one = MarksStepped;
      all = MarksIterated;
      none = λ each m w. marks_none each _;
      next = λ i each m₀ m m' h e w. e w ∙ marks_one i each _ _ (h w);
    }

abbrev pub on_copies : Format → Repeats ℕ ((ℕ → ℕ → Step) → Step)
on_copies f =
    record {
      one = λ y m m'. (one : ℕ → ℕ → Step) → Copies f one → MarksStepped (y one) m m';
      all = λ n each m m'. (one : ℕ → ℕ → Step) → Copies f one → MarksIterated n (λ i. each i one) m m';
      none = λ each m one k w. marks_none (λ i. each i one) _;
      next = λ i each m₀ m m' h e one k w. e one k w ∙ marks_one i (λ j. each j one) _ _ (h one k w);
    }
