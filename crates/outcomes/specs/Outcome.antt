-- The outcome of an exported function: its result, and each lent buffer.
use Rattle.std.specs.Prelude.{ℕ, ◌+◌, ◌/◌, ◌%◌, ◌^◌, Bool, cond, ◌&&◌, List, [], eqb, ltb, length}
use Rattle.bits.specs.Psr.{one_of, psr_of, holds}
use Rattle.machine.specs.Machine.{new_machine}
use Rattle.machine.specs.Place.{State, state, before}
use Rattle.vfp.specs.Call.{Reply}
use Rattle.run.specs.Run as Run
use Rattle.layout.specs.State.{encode, decode, valid}
use Rattle.answer.specs.Answer.{answer_of}

pub record Outcome : Type 0 where
  pub result : ℕ
  pub words : List ℕ
  pub window : List ℕ
  pub answer : List ℕ

abbrev pub outcome : ℕ → List ℕ → List ℕ → List ℕ → Outcome
outcome r l w a = record { result = r; words = l; window = w; answer = a }

-- a reply, after so many words of a list; a call's count is 0
abbrev pub reported : ℕ → Reply → Outcome
reported count y = outcome y.report.kind (encode y.leaves.machine) y.leaves.window (answer_of count y.report 0)

-- the result where an argument is invalid; it is tested first
abbrev pub invalid_argument : ℕ
invalid_argument = 255

-- the result of a call that answers with a refusal's number: 0 for none, the number of an invalid argument as it is, 100 + n for refusal n
unfoldable pub result_of : ℕ → ℕ
result_of n = cond (eqb n 0) 0 (cond (eqb n invalid_argument) invalid_argument (100 + n))

-- whether a state, a thumb and an answer of so many words are valid
unfoldable pub valid_call : List ℕ → ℕ → ℕ → Bool
valid_call l thumb words = ltb thumb 2 && (eqb words 5 && valid l)

-- the machine of a state's words, with a window
abbrev pub decoded_state : List ℕ → List ℕ → ℕ → State
decoded_state l w thumb = state (decode (eqb thumb 1) l) w

-- what a call leaves whose reply is y: 255 touches nothing
abbrev pub called : (State → Reply) → List ℕ → List ℕ → ℕ → List ℕ → Outcome
called y l w thumb a = cond (valid_call l thumb (length a)) (reported 0 (y (decoded_state l w thumb))) (outcome invalid_argument l w a)

-- what a plain run leaves whose reply is y, with its count
abbrev pub reported_run : Run.Reply → Outcome
reported_run y = reported y.count (record { report = y.report; leaves = y.leaves })

abbrev pub ran : (State → Run.Reply) → List ℕ → List ℕ → ℕ → List ℕ → Outcome
ran y l w thumb a = cond (valid_call l thumb (length a)) (reported_run (y (decoded_state l w thumb))) (outcome invalid_argument l w a)

-- what is left of a state that is to become new: its result is 0, or 255 where it has not a state's words
abbrev pub renewed : List ℕ → Outcome
renewed l = cond (eqb (length l) before) (outcome 0 (encode new_machine) [] []) (outcome invalid_argument l [] [])

-- whether a condition holds on flags in bits 31:28, as a number; other bits there have to be 0
abbrev pub checked : ℕ → ℕ → ℕ
checked condition nzcv = cond (eqb (nzcv % 2 ^ 28) 0) (one_of (holds (condition % 16) (psr_of (nzcv / 2 ^ 28)))) invalid_argument
