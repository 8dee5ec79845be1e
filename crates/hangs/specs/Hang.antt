-- The code's hang.
use Rattle.meaning.specs.Hang as H
use Rattle.hangs.specs.declared.Hang.{Hang}
use Rattle.hangs.specs.declared.Hang.TheVariants.{Clear, At}

abbrev pub hang_is : Hang → H.Hang
hang_is Clear = H.clear
hang_is (At p) = H.at p
