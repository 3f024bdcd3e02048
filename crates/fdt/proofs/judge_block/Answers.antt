use Rattle.std.proofs.Common.{sym, ◌∙◌, arith}
use Rattle.fdt.proofs.Laws.{scan_step, scan_skip}
use Rattle.fdt.proofs.judge_block.Goals as goal
use Rattle.fdt.proofs.judge_block.Goals.{then-is_some, else-is_some}

pub loop-word-preserved : goal.loop-word-preserved
loop-word-preserved c = elim c.if-is_some.branch [
  | then-is_some w ↦ scan_step c.loop-word.invariant (omega arith) _ (omega arith) _ c.lex_at-lexed.ensures _ (w.nodes-is ∙ w.met.ensures)
  | else-is_some w ↦ scan_skip c.loop-word.invariant (omega arith) _ (omega arith) _ c.lex_at-lexed.ensures _ w.nodes-is (sym c.is_some.ensures ∙ w.if-is_some.false)
]
