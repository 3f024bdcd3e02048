-- The structure block up to a place, as the reader keeps it, and what it comes to. Assumes nothing.
use Rattle.std.specs.Prelude.{Bool, true, false, cond, Option, None, Some, Result, Ok, Err, ◌==◌, nat_lt}
use Rattle.fdt_tokens.specs.Devicetree.{one_or_two}
use Rattle.fdt_tokens.specs.Lex.{is_done}
use Rattle.fdt_tokens.specs.declared.Lexer.{Lexer}
use Rattle.fdt_tokens.specs.declared.Lexer.TheVariants.{Token}
use Rattle.fdt_tokens.specs.declared.Event.{Event}
use Rattle.fdt_tokens.specs.declared.Event.TheVariants.{Begin, EndNode, Prop, End}
use Rattle.fdt_nodes.specs.Nodes.{absent, is_memory, pair_bytes}
use Rattle.fdt_nodes.specs.declared.Nodes.{Nodes}
use Rattle.fdt_nodes.specs.declared.Scan.{Scan}
use Rattle.fdt_nodes.specs.declared.DevicetreeError.{DevicetreeError}
use Rattle.fdt_nodes.specs.declared.DevicetreeError.TheVariants.{Invalid, UnsupportedCellCounts}

-- before the first token: the counts have their defaults
unfoldable pub started : Scan
started =
    record {
      lexer = Token;
      nodes = record {
        ok = true;
        depth = 0;
        props = false;
        rooted = false;
        address = record { seen = false; length = 4; value = 2 };
        size = record { seen = false; length = 4; value = 1 };
        kind = absent;
        reg = absent;
      };
    }

-- 21 before 22: an invalid block, then unsupported cell counts
unfoldable pub judged : Lexer → Nodes → Result (Unit {0}) DevicetreeError
judged x n =
    cond (is_done x)
    (cond n.ok
    (cond (n.address.length == 4)
    (cond (n.size.length == 4)
    (cond (one_or_two n.address.value)
    (cond (one_or_two n.size.value) (Ok tt)
    (Err UnsupportedCellCounts)) (Err UnsupportedCellCounts)) (Err Invalid)) (Err Invalid)) (Err Invalid)) (Err Invalid)

-- a memory child of the root that has a pair was just ended
unfoldable pub has_pair : Nodes → Bool
has_pair n =
    cond (n.depth == 1)
    (cond (is_memory n.kind) (cond (nat_lt n.reg.length (pair_bytes n.address.value n.size.value)) false true) false)
    false

-- a token ends such a child
unfoldable pub at_pair : Option Event → Nodes → Bool
at_pair None n = false
at_pair (Some Begin) n = false
at_pair (Some EndNode) n = has_pair n
at_pair (Some (Prop w o)) n = false
at_pair (Some End) n = false
