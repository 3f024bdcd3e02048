-- What the calls on a core answer, with document 01's numbers. Assumes nothing.
use Rattle.std.specs.Prelude.{ℕ, List, [], ◌∷◌, ◌++◌, Bool, true, false, replicate, Err, Ok, Result, ⊤}
use Rattle.lists.specs.Refusals.{answer_number}
use Rattle.memory_access.specs.declared.MemoryAccessKind.TheVariants.{Read, Write}
use Rattle.exceptions.specs.declared.Core.{Core}
use Rattle.exceptions.specs.declared.Recipient.TheVariants.{Firmware, Platform}
use Rattle.core_answers.specs.declared.CoreError.{CoreError}
use Rattle.core_answers.specs.declared.CoreError.TheVariants.{NoSuchCore, CoreWaiting, UnexpectedExceptionClass, NoGuestVector, NothingWaiting, UnknownReplyKind}
use Rattle.core_answers.specs.declared.CoreStep.{CoreStep}
use Rattle.core_answers.specs.declared.TrapAnswer.{TrapAnswer}
use Rattle.core_answers.specs.declared.TrapAnswer.TheVariants.{AccessHandled, AbortInjected, Forwarded}
use Rattle.core_answers.specs.declared.TrapResult.{TrapResult}
use Rattle.core_answers.specs.declared.TrapStep.{TrapStep}

-- the numbers of the refusals in document 01's table
abbrev pub core_error_number : CoreError → ℕ
core_error_number NoSuchCore = 10
core_error_number CoreWaiting = 11
core_error_number UnexpectedExceptionClass = 12
core_error_number NoGuestVector = 13
core_error_number NothingWaiting = 14
core_error_number UnknownReplyKind = 15

-- the number of a save's or a reply's answer: 0 where it is accepted
abbrev pub core_number : Result ⊤ CoreError → ℕ
core_number answer = answer_number core_error_number answer

-- the number of a trap's answer: 0 where it is accepted
abbrev pub trap_number : Result TrapAnswer CoreError → ℕ
trap_number answer = answer_number core_error_number answer

-- which of "load handled, store handled, abort injected, to the firmware .., to the platform" an accepted trap answers, from 1 on
abbrev pub trap_kind : Result TrapAnswer CoreError → ℕ
trap_kind (Ok (AccessHandled Read)) = 1
trap_kind (Ok (AccessHandled Write)) = 2
trap_kind (Ok AbortInjected) = 3
trap_kind (Ok (Forwarded Firmware)) = 4
trap_kind (Ok (Forwarded Platform)) = 5
trap_kind (Err error) = 0

-- a trap handed the guest's call out
abbrev pub is_forwarded : Result TrapAnswer CoreError → Bool
is_forwarded (Ok (AccessHandled kind)) = false
is_forwarded (Ok AbortInjected) = false
is_forwarded (Ok (Forwarded recipient)) = true
is_forwarded (Err error) = false

-- how many values a trap's result has: a forwarded call hands out "x0 to x17" at most
abbrev pub forwarded_length : ℕ
forwarded_length = 18

-- "every other result field 0": the result of an answer that has no values and no hint
abbrev pub without_values : Result TrapAnswer CoreError → TrapResult
without_values answer = record { answer = answer; values = replicate forwarded_length 0; sve_hint = 0 }

-- the words of a result: the kind of the answer, the values, and the SVE hint
abbrev pub result_words : TrapResult → List ℕ
result_words result = trap_kind result.answer ∷ (result.values ++ (result.sve_hint ∷ []))

-- a step whose answer has no values and no hint
abbrev pub answered : Result TrapAnswer CoreError → Core → ℕ → TrapStep
answered answer core counter = record { result = without_values answer; core = core; counter = counter }

-- "A refusal returns its number with every other result field 0, and all state is as before"
abbrev pub refused_trap : CoreError → Core → ℕ → TrapStep
refused_trap error core counter = answered (Err error) core counter

-- a refusal of a save or a reply
abbrev pub refused_core : CoreError → Core → CoreStep
refused_core error core = record { answer = Err error; core = core }
