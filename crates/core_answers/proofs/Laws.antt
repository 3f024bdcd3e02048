-- Laws on answers. Assumes nothing.
use Prim.Native.Nat.{ℕ, ◌-◌}
use mathlib.Core.Path.{◌≡◌, refl, sym, ap, ap₂, ◌∙◌}
use mathlib.Core.Bool.{false}
use mathlib.Core.List.Memᴰ
use mathlib.Core.List.{List, [], ◌∷◌, ◌++◌, length, drop_last, get_last_d, Memᴰ}
use lib.Dec.{eqb}
use lib.ListN.{get_or}
use Rattle.memory_access.specs.declared.MemoryAccessKind.TheVariants.{Read, Write}
use Rattle.exceptions.specs.declared.Recipient.TheVariants.{Firmware, Platform}
use Rattle.core_answers.specs.declared.CoreError.{CoreError}
use Rattle.core_answers.specs.declared.CoreError.TheVariants.{NoSuchCore, CoreWaiting, UnexpectedExceptionClass, NoGuestVector, NothingWaiting, UnknownReplyKind}
use Rattle.core_answers.specs.declared.TrapAnswer.{TrapAnswer}
use Rattle.core_answers.specs.declared.TrapAnswer.TheVariants.{AccessHandled, AbortInjected, Forwarded}
use Rattle.core_answers.specs.declared.TrapResult.{TrapResult}
use Rattle.core_answers.specs.Answers.{core_error_number, trap_number, trap_kind, without_values, result_words}
use Rattle.std.specs.Prelude.{Err, Ok, Result}

-- no refusal has the number of an accepted call
pub error_not_zero : (error : CoreError) → eqb (core_error_number error) 0 ≡ false
error_not_zero NoSuchCore = refl
error_not_zero CoreWaiting = refl
error_not_zero UnexpectedExceptionClass = refl
error_not_zero NoGuestVector = refl
error_not_zero NothingWaiting = refl
error_not_zero UnknownReplyKind = refl

-- a refusal's result is zeros
pub refused_zero : (error : CoreError) (v : ℕ) → Memᴰ v (result_words (without_values (Err error))) → v ≡ 0
refused_zero error v m = Memᴰ.eq_of_replicate (length (result_words (without_values (Err error)))) m

-- The number and the words of a result, read back: no field of a result is missing from them.

-- the answer that has this number and this kind
unfoldable answer_of : ℕ → ℕ → Result TrapAnswer CoreError
answer_of number kind =
    let refusals = NoSuchCore ∷ CoreWaiting ∷ UnexpectedExceptionClass ∷ NoGuestVector ∷ NothingWaiting ∷ UnknownReplyKind ∷ [] in
    get_or
    (Err (get_or refusals (number - 10) NoSuchCore) ∷ Ok (AccessHandled Read) ∷ Ok (AccessHandled Write) ∷ Ok AbortInjected ∷ Ok (Forwarded Firmware) ∷ Ok (Forwarded Platform) ∷ [])
    kind
    (Ok AbortInjected)

answer_back : (answer : Result TrapAnswer CoreError) → answer_of (trap_number answer) (trap_kind answer) ≡ answer
unfolding answer_of
answer_back (Ok (AccessHandled Read)) = refl
answer_back (Ok (AccessHandled Write)) = refl
answer_back (Ok AbortInjected) = refl
answer_back (Ok (Forwarded Firmware)) = refl
answer_back (Ok (Forwarded Platform)) = refl
answer_back (Err NoSuchCore) = refl
answer_back (Err CoreWaiting) = refl
answer_back (Err UnexpectedExceptionClass) = refl
answer_back (Err NoGuestVector) = refl
answer_back (Err NothingWaiting) = refl
answer_back (Err UnknownReplyKind) = refl

-- words before the last, and the last
before_last : (ws : List ℕ) (w : ℕ) → drop_last (ws ++ (w ∷ [])) ≡ ws
before_last [] w = refl
before_last (a ∷ []) w = refl
before_last (a ∷ b ∷ ws) w = ap (◌∷◌ a) (before_last (b ∷ ws) w)

last_of : (ws : List ℕ) (w : ℕ) → get_last_d (ws ++ (w ∷ [])) 0 ≡ w
unfolding get_last_d
last_of [] w = refl
last_of (a ∷ []) w = refl
last_of (a ∷ b ∷ ws) w = last_of (b ∷ ws) w

unfoldable result_of : ℕ → List ℕ → TrapResult
result_of number [] = without_values (Ok AbortInjected)
result_of number (kind ∷ ws) = record { answer = answer_of number kind; values = drop_last ws; sve_hint = get_last_d ws 0 }

result_back : (r : TrapResult) → result_of (trap_number r.answer) (result_words r) ≡ r
unfolding result_of
result_back r = rw (answer_back r.answer, before_last, last_of)

-- "every result field": results with the same number and the same words are the same
pub result_told : (a b : TrapResult) → trap_number a.answer ≡ trap_number b.answer → result_words a ≡ result_words b → a ≡ b
result_told a b number words = sym (result_back a) ∙ ap₂ result_of number words ∙ result_back b
