use mathlib.Core.Path.{sym, ◌∙◌}
use Rattle.std.proofs.lemmas.Result.{err_from_is_err_and}
use Rattle.stage2.proofs.Laws.{handle_unfit}
use Rattle.lent_policy.proofs.handle_answer.Goals as goal

pub returns-in_err-validate_range : goal.returns-in_err-validate_range
returns-in_err-validate_range c =
    let a = c.args in
    let e = err_from_is_err_and c.from_residual.result c.from_residual.ensures.1 in
    rw (e.1, e.2)
    (sym (handle_unfit _ a.base_ipa a.size a.read a.write (sym c.is_handler.ensures ∙ c.if-not-is_handler.false) (sym c.is_handler-2.ensures ∙ c.if-not-is_handler-2.false) _
    (sym c.validate_range.ensures ∙ c.in_err-validate_range.was)))
