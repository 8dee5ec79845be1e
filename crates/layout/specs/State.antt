-- A machine in the words of a state: places 0 to 52 in order. FPSCR 31:28 (place 48) and NZCV (place 51) stand in bits 31:28 of their
-- words, and a bit outside a place's own is 0.
use Rattle.std.specs.Prelude.{ℕ, ◌+◌, ◌*◌, ◌/◌, ◌%◌, ◌^◌, ◌<◌, ◌≡◌, Bool, ◌&&◌, List, [], ◌∷◌, ◌++◌, eqb, ltb, length, get_or, take, drop}
use Rattle.bits.specs.Psr.{nzcv_of, psr_of}
use Rattle.machine.specs.declared.Machine.{Machine}
use Rattle.machine.specs.Place.{Place, single, core, word, flags, control, exc, nzcv, exceptions, before, control_of, exceptions_of}

-- a machine's words
unfoldable pub encode : Machine → List ℕ
encode m = m.s ++ (m.r ++ (m.fpscr / 2 ^ 28 * 2 ^ 28 ∷ control_of m.fpscr ∷ m.fpexc ∷ nzcv_of m.cpsr * 2 ^ 28 ∷ exceptions_of m.fpscr ∷ []))

-- the machine of such words; the Thumb bit is none of them
unfoldable pub decode : Bool → List ℕ → Machine
decode thumb l =
    record {
      s = take 32 l;
      r = take 16 (drop 32 l);
      fpscr = get_or l 48 0 + get_or l 49 0 + get_or l 52 0;
      fpexc = get_or l 50 0;
      cpsr = psr_of (get_or l 51 0 / 2 ^ 28);
      thumb = thumb;
    }

-- whether words are a machine's: as many as they should be, and no bit outside a place's own
unfoldable pub valid : List ℕ → Bool
valid l =
    eqb (length l) before
    && (eqb (get_or l 48 0 % 2 ^ 28) 0
    && (eqb (control_of (get_or l 49 0)) (get_or l 49 0) && (eqb (get_or l 51 0 % 2 ^ 28) 0 && ltb (get_or l 52 0) (2 ^ 5))))

-- the same as facts
pub record Valid (l : List ℕ) : Type 0 where
  pub words : length l ≡ before
  pub flags_only : get_or l 48 0 % 2 ^ 28 ≡ 0
  pub control_only : control_of (get_or l 49 0) ≡ get_or l 49 0
  pub nzcv_only : get_or l 51 0 % 2 ^ 28 ≡ 0
  pub exceptions_only : get_or l 52 0 < 2 ^ 5

-- the bits of a place, where its word has them
abbrev pub in_position : Place → ℕ → ℕ
in_position (single n) x = x
in_position (core n) x = x
in_position (word n) x = x
in_position flags x = x * 2 ^ 28
in_position control x = x
in_position exc x = x
in_position nzcv x = x * 2 ^ 28
in_position exceptions x = x
