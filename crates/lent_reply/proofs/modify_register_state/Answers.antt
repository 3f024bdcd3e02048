-- Each result stores its values from x0 on, arm by arm: one store, four, or the reply's values in parts.
use mathlib.Core.Path.{refl}
use Rattle.hvc_response.specs.Response.{response}
use Rattle.lent_reply.proofs.modify_register_state.Goals as goal

pub returns-in-SuccessLarge : goal.returns-in-SuccessLarge
unfolding response
returns-in-SuccessLarge c =
    rw (
      c.put_values-in-SuccessLarge-2.ensures,
      c.put_values-in-SuccessLarge.ensures,
      c.in-SuccessLarge.is,
    )
    refl
