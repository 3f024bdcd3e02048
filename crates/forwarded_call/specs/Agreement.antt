-- Where a call is handed out as document 01 had it, before document 02's request 3. Assumes nothing.
use Rattle.std.specs.Prelude.{ℕ, ◌^◌, ◌<◌, ◌≡◌, get_or, Ok, Some}
use Rattle.bits.specs.Bits.{bits_at}
use Rattle.exceptions.specs.declared.Core.{Core}
use Rattle.exceptions.specs.declared.Conduit.{Conduit}
use Rattle.core_answers.specs.declared.TrapAnswer.TheVariants.{Forwarded}
use Rattle.forwarded_call.specs.declared.ForwardedCall.{ForwardedCall}
use Rattle.forwarded_call.specs.ForwardedCall.{recipient_of, registers_for, first_registers, with_wait}

-- "Agreement with the Rust is promised where the upper half and bit 16 of x0 are zero"
abbrev pub Agreed : ℕ → Type 0
Agreed x0 = (x0 < 2 ^ 32) × (bits_at x0 16 1 ≡ 0)

-- document 01's hand-out, which is the Rust's: x0 "compared over all 64 bits, hands x0 to x3 to the firmware; any other x0 hands x0 to x17 to
-- the platform. The core then waits and nothing else changes yet"; there was no hint
unfoldable pub forward_by_x0 : Core → Conduit → ForwardedCall
forward_by_x0 core conduit =
    let recipient = recipient_of (get_or core.x 0 0) in
    record {
      result = record { answer = (Ok (Forwarded recipient)); values = first_registers core.x (registers_for recipient); sve_hint = 0 };
      core = with_wait core (Some (conduit, recipient));
    }
