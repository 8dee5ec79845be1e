-- Document 01's watch: a new machine, no window, s0 alone unknown.
use Prim.Native.Nat.{ℕ}
use mathlib.Core.Path.{◌≡◌, refl}
use mathlib.Core.Bool.{true, false}
use mathlib.Core.List.{List, [], ◌∷◌}
use lib.ListN.{replicate}
use Rattle.machine.specs.Machine.{new_machine}
use Rattle.machine.specs.Place.{place, state}
use Rattle.meaning.specs.Map.{Map, map_of, mark}
use Rattle.meaning.specs.Run as R
use Rattle.meaning.specs.Step.{after, after_marks}
use Rattle.meaning.specs.Stop.{report, hangs}
use Rattle.meaning.specs.Tree.{watched}
use Rattle.processing.specs.Data.{operation_tree, data_tree}
use Rattle.decoding.specs.Operation.{extension_by, arithmetics, operation_by, operation_of}
use Rattle.short_vectors.specs.Vector.{step_of, second_of}
use Rattle.window_marks.specs.Marks.{bits_only}
use Rattle.limits.specs.Limit.{window_limit, run_limit, watch_limit}
use Rattle.word_class.specs.Word.{class_tree, exempt, enabled, conditioned, meaning}
use Rattle.transfers.specs.Transfer.{transfer_tree}
use Rattle.watch.specs.Watch.{Reply, watch_reply}

-- with no window: all known, and with the places of a list unknown
abbrev pub all_known : Map
all_known = map_of (record { s = replicate 32 true; r = replicate 16 true; flags = true; control = true; exc = true; nzcv = true; exceptions = true }) []

abbrev pub all_but : List ℕ → Map
all_but [] = all_known
all_but (n ∷ ns) = mark (all_but ns) (place n) false

abbrev pub words : List ℕ
words = 0xEE30_0A00 ∷ 0xEEB5_0A40 ∷ 0xEEF1_FA10 ∷ 0x0E30_0A00 ∷ []

abbrev pub answer : Reply
answer = watch_reply 0 words (state new_machine []) (all_but (0 ∷ []))

pub record Claim : Type 0 where
  pub stops : answer.report ≡ report (hangs 51)
  pub counts : answer.count ≡ 3
  pub marks : answer.map ≡ all_but (0 ∷ 48 ∷ 51 ∷ 52 ∷ [])

pub claim : Claim
unfolding exempt enabled watch_reply watch_limit bits_only run_limit window_limit R.watch R.follow_with watched meaning class_tree conditioned data_tree operation_tree operation_of operation_by extension_by arithmetics transfer_tree after after_marks step_of second_of place
claim = record { stops = refl; counts = refl; marks = refl }
