-- A map (document 01's term) marks each place known or unknown.
use Rattle.std.specs.Prelude.{ℕ, Bool, false, List, eqb, get_or, set}
use Rattle.bits.specs.Psr.{one_of}
use Rattle.machine.specs.Place.{Place, single, core, word, flags, control, exc, nzcv, exceptions}

-- whether each place before the window is known: s0 to s31, r0 to r15, FPSCR 31:28 and 27:5, FPEXC, NZCV, FPSCR 4:0
pub record Marks : Type 0 where
  pub s : List Bool
  pub r : List Bool
  pub flags : Bool
  pub control : Bool
  pub exc : Bool
  pub nzcv : Bool
  pub exceptions : Bool

-- the marks before the window, and the window's own, each 0 or 1
pub record Map : Type 0 where
  pub marks : Marks
  pub words : List ℕ

abbrev pub map_of : Marks → List ℕ → Map
map_of k w = record { marks = k; words = w }

-- what is read outside the window is known
abbrev pub known : Map → Place → Bool
known μ (single n) = get_or μ.marks.s n false
known μ (core n) = get_or μ.marks.r n false
known μ (word n) = eqb (get_or μ.words n 1) 1
known μ flags = μ.marks.flags
known μ control = μ.marks.control
known μ exc = μ.marks.exc
known μ nzcv = μ.marks.nzcv
known μ exceptions = μ.marks.exceptions

abbrev pub mark : Map → Place → Bool → Map
mark μ (single n) b = let k = μ.marks in map_of (record { s = set k.s n b; r = k.r; flags = k.flags; control = k.control; exc = k.exc; nzcv = k.nzcv; exceptions = k.exceptions }) μ.words
mark μ (core n) b = let k = μ.marks in map_of (record { s = k.s; r = set k.r n b; flags = k.flags; control = k.control; exc = k.exc; nzcv = k.nzcv; exceptions = k.exceptions }) μ.words
mark μ (word n) b = map_of μ.marks (set μ.words n (one_of b))
mark μ flags b = let k = μ.marks in map_of (record { s = k.s; r = k.r; flags = b; control = k.control; exc = k.exc; nzcv = k.nzcv; exceptions = k.exceptions }) μ.words
mark μ control b = let k = μ.marks in map_of (record { s = k.s; r = k.r; flags = k.flags; control = b; exc = k.exc; nzcv = k.nzcv; exceptions = k.exceptions }) μ.words
mark μ exc b = let k = μ.marks in map_of (record { s = k.s; r = k.r; flags = k.flags; control = k.control; exc = b; nzcv = k.nzcv; exceptions = k.exceptions }) μ.words
mark μ nzcv b = let k = μ.marks in map_of (record { s = k.s; r = k.r; flags = k.flags; control = k.control; exc = k.exc; nzcv = b; exceptions = k.exceptions }) μ.words
mark μ exceptions b = let k = μ.marks in map_of (record { s = k.s; r = k.r; flags = k.flags; control = k.control; exc = k.exc; nzcv = k.nzcv; exceptions = b }) μ.words
