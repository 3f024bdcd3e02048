-- Calls that leave the guest: the hand-out, and the reply (document 01, "Trap", EC 0x16 and 0x17, and "Reply"). Assumes nothing.
use Rattle.std.specs.Prelude.{ℕ, ◌-◌, Bool, true, false, cond, ◌&&◌, ◌||◌, List, ◌++◌, eqb, leb, ℤ, take, get_or, set, replicate, Err, None, Ok, Result, Some}
use Rattle.bits.specs.Bits.{bits_at, bit_at, low_bits, with_bits}
use Rattle.exceptions.specs.declared.Core.{Core}
use Rattle.exceptions.specs.declared.Conduit.{Conduit}
use Rattle.exceptions.specs.declared.Conduit.TheVariants.{Hvc, Smc}
use Rattle.exceptions.specs.declared.Recipient.{Recipient}
use Rattle.exceptions.specs.declared.Recipient.TheVariants.{Firmware, Platform}
use Rattle.exceptions.specs.Registers.{Wait}
use Rattle.exceptions.specs.Registers.{next_instruction}
use Rattle.core_answers.specs.declared.CoreError.TheVariants.{NothingWaiting, UnknownReplyKind}
use Rattle.core_answers.specs.declared.CoreStep.{CoreStep}
use Rattle.core_answers.specs.declared.TrapAnswer.TheVariants.{Forwarded}
use Rattle.core_answers.specs.declared.TrapResult.{TrapResult}
use Rattle.core_answers.specs.Answers.{forwarded_length, refused_core}
use Rattle.hvc_response.specs.Response.{response, result_of_kind, with_first}
use Rattle.forwarded_call.specs.declared.ForwardedCall.{ForwardedCall}
use Rattle.forwarded_call.specs.declared.GuestCall.{GuestCall}
use Rattle.forwarded_call.specs.declared.HvcReply.{HvcReply}
use Rattle.core_answers.specs.declared.CoreError.{CoreError}
use Rattle.hvc_response.specs.declared.HvcResult.{HvcResult}

-- a number lies between two others, both included
abbrev pub between : ℕ → ℕ → ℕ → Bool
between low high n = leb low n && leb n high

-- W0: "the low 32 bits of x0", in which DEN0028, from version 1.3 on, passes a call's function identifier
abbrev pub w0 : ℕ → ℕ
w0 x0 = low_bits 32 x0

-- the call type: "a fast call (bit 31 set)", else a yielding one
abbrev pub is_fast_call : ℕ → Bool
is_fast_call x0 = bit_at (w0 x0) 31

-- the function identifier, document 02's function number: W0, "with bit 16 cleared in a fast call". (DEN0028's own function number is the
-- identifier's bits 15:0.)
unfoldable pub function_id_of : ℕ → ℕ
function_id_of x0 = cond (is_fast_call x0) (with_bits (w0 x0) 16 1 0) (w0 x0)

-- the SVE hint: "In a fast call .. bit 16 is a hint that the guest holds no live SVE state"; "0 in other calls"
unfoldable pub sve_hint_of : ℕ → ℕ
sve_hint_of x0 = cond (is_fast_call x0) (bits_at (w0 x0) 16 1) 0

-- an identifier "from 0x84000000 to 0x8400001F, or 0xC4000000 to 0xC400001F", a PSCI function's, is for the firmware, "any other" for the
-- platform
unfoldable pub recipient_of : ℕ → Recipient
recipient_of id = cond (between 0x84000000 0x8400001F id || between 0xC4000000 0xC400001F id) Firmware Platform

-- what x0 says of a call
unfoldable pub guest_call : ℕ → GuestCall
guest_call x0 = record { function_id = function_id_of x0; sve_hint = sve_hint_of x0; recipient = recipient_of (function_id_of x0) }

-- how many registers are handed out: "x0 to x3 to the firmware", "x0 to x17 to the platform"
abbrev pub registers_for : Recipient → ℕ
registers_for Firmware = 4
registers_for Platform = 18

-- the first registers, and zeros past them
unfoldable pub first_registers : List ℕ → ℕ → List ℕ
first_registers x n = take n x ++ replicate (forwarded_length - n) 0

-- the values of a call: "hand out that number in place of x0", the other registers as they stand
abbrev pub forwarded_values : ℕ → List ℕ → ℕ → List ℕ
forwarded_values id x n = first_registers (set x 0 id) n

-- what a forwarded call gives its recipient (document 01: a hand-out), "plus the hint"
abbrev pub forwarded_result : GuestCall → List ℕ → TrapResult
forwarded_result call x = record {
  answer = Ok (Forwarded call.recipient);
  values = forwarded_values call.function_id x (registers_for call.recipient);
  sve_hint = call.sve_hint;
}

-- the core with another wait
unfoldable pub with_wait : Core → Wait → Core
with_wait core wait = record { x = core.x; elr = core.elr; spsr = core.spsr; el1 = core.el1; wait = wait }

-- a forwarded call: "The core then waits and nothing else changes yet"
unfoldable pub forward_call : Core → Conduit → ForwardedCall
forward_call core conduit =
    let call = guest_call (get_or core.x 0 0) in
    record { result = forwarded_result call core.x; core = with_wait core (Some (conduit, call.recipient)) }

-- a core waits
abbrev pub waits : Wait → Bool
waits None = false
waits (Some (conduit, recipient)) = true

-- a core waits for the firmware
abbrev pub waits_for_firmware : Wait → Bool
waits_for_firmware None = false
waits_for_firmware (Some (conduit, Firmware)) = true
waits_for_firmware (Some (conduit, Platform)) = false

-- 15 is met where a kind is "not 1 or 4 for the firmware"
unfoldable pub may_reply : Recipient → ℕ → Bool
may_reply Firmware kind = eqb kind 1 || eqb kind 4
may_reply Platform kind = true

-- 15 is met where there is no such kind, too
abbrev pub taken_by : Conduit → Result HvcResult CoreError → Result (HvcResult × Conduit) CoreError
taken_by conduit (Ok result) = Ok (result, conduit)
taken_by conduit (Err error) = Err error

-- what becomes of a reply, by what the core waits for, the reply's kind, first value and error; 14: "reply to a core that waits for none"
unfoldable pub decide_reply : Wait → ℕ → ℕ → ℤ → Result (HvcResult × Conduit) CoreError
decide_reply None kind value error = Err NothingWaiting
decide_reply (Some (conduit, recipient)) kind value error =
    cond (may_reply recipient kind) (taken_by conduit (result_of_kind kind value error)) (Err UnknownReplyKind)

-- "for an SMC, whichever reply it was, ELR grows by 4 modulo 2^64, for an HVC it stays"
abbrev pub resumed_elr : Conduit → ℕ → ℕ
resumed_elr Hvc elr = elr
resumed_elr Smc elr = next_instruction elr

-- the core goes on there, and waits no more
unfoldable pub resumed : Conduit → Core → Core
resumed conduit core = record { x = core.x; elr = resumed_elr conduit core.elr; spsr = core.spsr; el1 = core.el1; wait = None }

-- "The reply writes its registers"
abbrev pub replied_by : Result (HvcResult × Conduit) CoreError → Core → List ℕ → CoreStep
replied_by (Ok (result, conduit)) core values = record { answer = Ok tt; core = resumed conduit (with_first core (response result values)) }
replied_by (Err error) core values = refused_core error core

unfoldable pub reply_core : Core → HvcReply → CoreStep
reply_core core reply =
    replied_by (decide_reply core.wait reply.kind (get_or reply.values 0 0) reply.error) core reply.values
