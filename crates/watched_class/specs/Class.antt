-- The class of a watched word.
use Rattle.std.specs.Prelude.{ℕ, Bool, cond, ◌||◌, ◌&&◌, eqb}
use Rattle.bits.specs.Field.{field, bit_of}
use Rattle.bits.specs.Psr.{holds}
use Rattle.bits.specs.declared.psr.Psr.{Psr}
use Rattle.machine.specs.Place.{core, exc, nzcv, number}
use Rattle.meaning.specs.Map.{Map, known}
use Rattle.word_class.specs.Word.{foreign_word, exempt}
use Rattle.word_class.specs.Class.{class_of}
use Rattle.word_class.specs.declared.class.Class.{Class}
use Rattle.word_class.specs.declared.class.Class.TheVariants as C
use Rattle.watched_class.specs.declared.WatchedClass.{WatchedClass}
use Rattle.watched_class.specs.declared.WatchedClass.TheVariants.{Data, Access, Transfer, Skipped, Foreign, Hangs, Off}

-- a class of the plain run
abbrev pub seen_as : Class → WatchedClass
seen_as C.Data = Data
seen_as C.Access = Access
seen_as C.Transfer = Transfer
seen_as C.Skipped = Skipped
seen_as C.Foreign = Foreign
seen_as C.Off = Off

-- that of the plain run; but under a condition a word that is not Foreign hangs where NZCV is unknown
abbrev pub watched_class_of : Bool → ℕ → Psr → WatchedClass
watched_class_of flags_known w flags = cond (eqb (field w 28 31) 14 || (foreign_word w || flags_known)) (seen_as (class_of w flags)) (Hangs (number nzcv))

-- with the unit off, or not known to be on: an exempt word is a transfer, any other hangs on FPEXC, or is Undefined, for which r15 is asked
abbrev pub disabled_watched_class : Map → ℕ → Psr → WatchedClass
disabled_watched_class μ w flags =
    cond (foreign_word w) Foreign
    (cond (eqb (field w 28 31) 14 || known μ nzcv)
    (cond (holds (field w 28 31) flags)
    (cond (exempt w) Transfer (cond (known μ exc) (cond (known μ (core 15)) Off (Hangs (number (core 15)))) (Hangs (number exc)))) Skipped)
    (Hangs (number nzcv)))

abbrev pub enabled_watched_class : Map → ℕ → ℕ → Psr → WatchedClass
enabled_watched_class μ fpexc w flags = cond (known μ exc && bit_of fpexc 30) (watched_class_of (known μ nzcv) w flags) (disabled_watched_class μ w flags)
