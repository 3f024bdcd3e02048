use mathlib.Core.Path.{refl}
use Rattle.lent_policy.proofs.Calls.{allow_refused, allow_done, allow_room}
use Rattle.lent_policy.proofs.allow_range.Goals as goal

pub add_range-requires : goal.add_range-requires
add_range-requires c =
    let a = c.args in
    allow_room a.policy.now a.base_ipa a.size a.attributes c.allow_answer.ensures c.in-Ok.is

pub returns-in-Err : goal.returns-in-Err
returns-in-Err c =
    let a = c.args in
    let told = c.allow_answer.ensures in
    rw (allow_refused a.policy.now a.base_ipa a.size a.attributes told _ c.in-Err.is) (c.number.ensures, refl, refl)

pub returns-in-Ok : goal.returns-in-Ok
returns-in-Ok c =
    let a = c.args in
    let told = c.allow_answer.ensures in
    rw (allow_done a.policy.now a.base_ipa a.size a.attributes told c.in-Ok.is, ← c.new.ensures) (refl, c.add_range.ensures, refl)
