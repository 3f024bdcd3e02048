use mathlib.Core.Path.{sym, ◌∙◌}
use Rattle.stage2.specs.Policy.{handle_range}
use Rattle.stage2.proofs.Laws.{handle_unfit}
use Rattle.stage2.proofs.Policy.handle_range.Goals as goal

pub returns-in-Err : goal.returns-in-Err
unfolding handle_range
returns-in-Err c =
    let a = c.args in
    let read = sym c.is_handler.ensures ∙ c.if-not-is_handler.false in
    let write = sym c.is_handler-2.ensures ∙ c.if-not-is_handler-2.false in
    rw (c.refuse-in-Err.ensures, handle_unfit a.self a.base_ipa a.size a.read a.write read write _ (sym c.validate_range.ensures ∙ c.in-Err.is))
