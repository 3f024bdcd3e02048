-- Replies to forwarded calls (document 01, "Reply"). Assumes nothing.
use Rattle.std.specs.Prelude.{ℕ, suc, ◌-◌, ◌^◌, List, [], ◌∷◌, ◌++◌, length, take, drop, get_or, ℤ, pos, negsuc, Err, Ok, Result}
use Rattle.lists.specs.Refusals.{answer_number}
use Rattle.core_answers.specs.declared.CoreError.TheVariants.{UnknownReplyKind}
use Rattle.core_answers.specs.Answers.{core_error_number}
use Rattle.exceptions.specs.declared.Core.{Core}
use Rattle.exceptions.specs.Registers.{with_registers}
use Rattle.hvc_response.specs.declared.HvcResult.{HvcResult}
use Rattle.hvc_response.specs.declared.HvcResult.TheVariants.{Unhandled, Value, Success, SuccessLarge, Error}
use Rattle.core_answers.specs.declared.CoreError.{CoreError}

-- "sign-extended": the 64-bit two's complement word of a signed number; `negsuc n` is -(n + 1)
unfoldable pub signed_word : ℤ → ℕ
signed_word (pos n) = n
signed_word (negsuc n) = 2 ^ 64 - suc n

-- the values of the longest reply: "x0 to x17"
abbrev pub reply_length : ℕ
reply_length = 18

-- the values that a reply writes to x0 and the registers after it
unfoldable pub response : HvcResult → List ℕ → List ℕ
-- "kind 0 acts as error -1"
response Unhandled values = signed_word (negsuc 0) ∷ []
-- "Kind 1 writes the value to x0 and zero to x1, x2, x3"
response (Value value) values = value ∷ 0 ∷ 0 ∷ 0 ∷ []
-- "kind 2 writes x0 to x3"
response Success values = take 4 values
-- "kind 3 x0 to x17"
response SuccessLarge values = take reply_length values
-- "kind 4 writes the error, sign-extended, to x0 only"
response (Error error) values = signed_word error ∷ []

-- the core with its first registers written, the others as they were
unfoldable pub with_first : Core → List ℕ → Core
with_first core values = with_registers core (values ++ drop (length values) core.x)

-- "Kind 0 unhandled, 1 one value, 2 four values, 3 eighteen values, 4 an error"; 15 "kind above 4"
unfoldable pub result_of_kind : ℕ → ℕ → ℤ → Result HvcResult CoreError
result_of_kind kind value error =
    get_or (Ok Unhandled ∷ Ok (Value value) ∷ Ok Success ∷ Ok SuccessLarge ∷ Ok (Error error) ∷ []) kind
    (Err UnknownReplyKind)

-- the number of an answer in document 01's table
abbrev pub result_kind_number : Result HvcResult CoreError → ℕ
result_kind_number answer = answer_number core_error_number answer
