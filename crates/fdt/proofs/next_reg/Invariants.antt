use Rattle.std.proofs.Common.{◌+◌, ◌*◌, drop}
use Rattle.fdt.specs.Passes.{pairs_from}
use Rattle.fdt.proofs.Laws.{PairsLeft}
use Rattle.fdt.proofs.next_reg.Given as goal

abbrev pub invariant-loop-word : goal.invariant-loop-word
invariant-loop-word l = PairsLeft l.block l.strings (l.from + 4 * l.word) l.lexer l.nodes (pairs_from l.block l.strings l.from l.fn.scan.lexer l.fn.scan.nodes (drop l.from l.block))
