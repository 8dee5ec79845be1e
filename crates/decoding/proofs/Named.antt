-- What an arm of several operations tells.
use Prim.Native.Nat.{ℕ}
use mathlib.Core.Path.{◌≡◌, refl, subst}
use mathlib.Core.List.{List, [], ◌∷◌}
use mathlib.Core.Logic.{inl, inr}
use denote.Enum.Declared.{tag_of}
use types.Run.{OneOf}
use Rattle.decoding.specs.declared.operation.Operation.{Operation}
use Rattle.decoding.specs.declared.operation.Operation.TheVariants.{Undefined, Fmac, Fnmac, Fmsc, Fnmsc, Fmul, Fnmul, Fadd, Fsub, Fdiv, Fcpy, Fabs, Fneg, Fsqrt, Fcmp, Fcmpe, Fcmpz, Fcmpez, Fcvt, Fuito, Fsito, Ftoui, Ftouiz, Ftosi, Ftosiz}
use Rattle.decoding.specs.Operation.{number_of, operation_numbered}
use Rattle.decoding.specs.contracts.operation.Operation.{the_type}
use Rattle.decoding.proofs.Entries.{numbered_number}

-- the operations stand in the order of their numbers
tag_number : (o : Operation) → tag_of the_type o ≡ number_of o
tag_number Undefined = refl
tag_number Fmac = refl
tag_number Fnmac = refl
tag_number Fmsc = refl
tag_number Fnmsc = refl
tag_number Fmul = refl
tag_number Fnmul = refl
tag_number Fadd = refl
tag_number Fsub = refl
tag_number Fdiv = refl
tag_number Fcpy = refl
tag_number Fabs = refl
tag_number Fneg = refl
tag_number Fsqrt = refl
tag_number Fcmp = refl
tag_number Fcmpe = refl
tag_number Fcmpz = refl
tag_number Fcmpez = refl
tag_number Fcvt = refl
tag_number Fuito = refl
tag_number Fsito = refl
tag_number Ftoui = refl
tag_number Ftouiz = refl
tag_number Ftosi = refl
tag_number Ftosiz = refl

-- two functions that give the same at each number of a list give the same at an operation of one of these numbers
abbrev pub each : {A : Type 0} → (Operation → A) → List ℕ → List A
each f [] = []
each f (k ∷ ks) = f (operation_numbered k) ∷ each f ks

module _ {A : Type 0} (f g : Operation → A) where
  head_same : (x y : A) (l m : List A) → x ∷ l ≡ y ∷ m → x ≡ y
  head_same x y l m e = cc

  tail_same : (x y : A) (l m : List A) → x ∷ l ≡ y ∷ m → l ≡ m
  tail_same x y l m e = cc

  of_number : (ks : List ℕ) (n : ℕ) → OneOf ks n → each f ks ≡ each g ks → f (operation_numbered n) ≡ g (operation_numbered n)
  of_number [] n h e = absurd h
  of_number (k ∷ []) n h e = rw h (head_same _ _ _ _ e)
  of_number (k ∷ k' ∷ ks) n (inl h) e = rw h (head_same _ _ _ _ e)
  of_number (k ∷ k' ∷ ks) n (inr h) e = of_number (k' ∷ ks) n h (tail_same _ _ _ _ e)

  pub one_of : (ks : List ℕ) (o : Operation) → OneOf ks (tag_of the_type o) → each f ks ≡ each g ks → f o ≡ g o
  one_of ks o h e = subst (λ (p : Operation). f p ≡ g p) (numbered_number o) (of_number ks (number_of o) (rw (tag_number o) at h) e)
