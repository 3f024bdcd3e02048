use Rattle.std.proofs.Common.{◌*◌}
use Rattle.fdt_tokens.specs.Lex.{read}
use Rattle.fdt_tokens.specs.declared.Lexer.TheVariants.{Token}
use Rattle.fdt_nodes.specs.Scan.{started}
use Rattle.fdt.specs.Passes.{folded}
use Rattle.fdt.proofs.Laws.{ScanLeft}
use Rattle.fdt.proofs.judge_block.Given as goal

abbrev pub invariant-loop-word : goal.invariant-loop-word
invariant-loop-word l = ScanLeft l.block l.strings (4 * l.word) l.lexer l.nodes (read Token 0 l.block).lexer (folded l.block l.strings started.nodes (read Token 0 l.block).tokens)
