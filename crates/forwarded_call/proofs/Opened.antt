-- The definitions of this crate and of those below it, opened together, for proofs by computation. Assumes nothing.
use Rattle.hvc_response.proofs.Opened as hvc-response
use Rattle.forwarded_call.specs.ForwardedCall.{function_id_of, sve_hint_of, recipient_of, guest_call, first_registers, with_wait, forward_call, may_reply, decide_reply, resumed, reply_core}

unfoldable pub opened : Unit {0}
unfolding hvc-response.opened function_id_of sve_hint_of recipient_of guest_call first_registers with_wait forward_call may_reply decide_reply resumed reply_core
opened = tt
