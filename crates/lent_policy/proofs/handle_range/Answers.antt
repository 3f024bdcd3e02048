use mathlib.Core.Path.{refl}
use Rattle.lent_policy.proofs.Calls.{handle_refused, handle_done, handle_room}
use Rattle.lent_policy.proofs.handle_range.Goals as goal

pub insert_region-requires : goal.insert_region-requires
insert_region-requires c =
    let a = c.args in
    handle_room a.policy.now a.base_ipa a.size a.read a.write c.handle_answer.ensures c.in-Ok.is

pub returns-in-Err : goal.returns-in-Err
returns-in-Err c =
    let a = c.args in
    let told = c.handle_answer.ensures in
    rw (handle_refused a.policy.now a.base_ipa a.size a.read a.write told _ c.in-Err.is) (c.number.ensures, refl, refl)

pub returns-in-Ok : goal.returns-in-Ok
returns-in-Ok c =
    let a = c.args in
    let told = c.handle_answer.ensures in
    rw (handle_done a.policy.now a.base_ipa a.size a.read a.write told c.in-Ok.is, ← c.new.ensures) (refl, c.insert_region.ensures, refl)
