use Rattle.std.proofs.Common.{◌∙◌, ap}
use Rattle.fdt_tokens.specs.Devicetree.{has_zero}
use Rattle.fdt_tokens.proofs.Laws.{any_zero}
use Rattle.fdt_tokens.proofs.terminated.Goals as goal

pub returns : goal.returns
returns c = c.contains.ensures.value ∙ (any_zero _ ∙ ap has_zero c.tail.ensures)
