use mathlib.Core.Path.{refl, sym, ◌∙◌}
use Rattle.lent_release.proofs.Laws.{refused-first, then_valid}
use Rattle.lent_release.proofs.release_range.Goals as goal

pub returns-in-Err : goal.returns-in-Err
returns-in-Err c =
    let a = c.args in
    let e = sym c.validate_range.ensures ∙ c.in-Err.is in
    rw (refused-first a.policy.now a.base_ipa a.size _ e) (c.number.ensures, refl, refl)

pub returns-in-Ok : goal.returns-in-Ok
returns-in-Ok c =
    let a = c.args in
    let e = sym c.validate_range.ensures ∙ c.in-Ok.is in
    rw (then_valid a.policy.now a.base_ipa a.size e) c.release_valid.ensures
