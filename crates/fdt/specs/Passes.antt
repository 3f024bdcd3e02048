-- The two passes over the structure block. Assumes nothing.
use Rattle.std.specs.Prelude.{ℕ, zero, suc, ◌+◌, ◌-◌, ◌*◌, ◌/◌, ◌%◌, ◌^◌, cond, Some, Result, List, [], ◌∷◌, ◌++◌, drop, ◌==◌, slice_index}
use Rattle.fdt_tokens.specs.Devicetree.{Pair}
use Rattle.fdt_tokens.specs.Bytes.{be32_at}
use Rattle.fdt_tokens.specs.Lex.{lex_word, Placed, read}
use Rattle.fdt_tokens.specs.declared.Lexed.{Lexed}
use Rattle.fdt_tokens.specs.declared.Lexer.{Lexer}
use Rattle.fdt_tokens.specs.declared.Lexer.TheVariants.{Token}
use Rattle.fdt_nodes.specs.Nodes.{width, pair_bytes, advance}
use Rattle.fdt_nodes.specs.Scan.{started, judged, at_pair}
use Rattle.fdt_nodes.specs.declared.Nodes.{Nodes}
use Rattle.fdt_nodes.specs.declared.DevicetreeError.{DevicetreeError}
use Rattle.fdt.specs.declared.Walk.{Walk}
use Rattle.fdt.specs.declared.Next.{Next}

-- the four bytes at a place
abbrev pub lex_at : Lexer → List ℕ → ℕ → Lexed
lex_at x block at = lex_word x (slice_index block at) (slice_index block (at + 1)) (slice_index block (at + 2)) (slice_index block (at + 3))

-- the nodes after some tokens
unfoldable pub folded : List ℕ → List ℕ → Nodes → List Placed → Nodes
folded block strings n [] = n
folded block strings n (e ∷ es) = folded block strings (advance block strings e.place n (Some e.event)) es

-- what a structure block comes to
unfoldable pub judged_block : List ℕ → List ℕ → Result (Unit {0}) DevicetreeError
judged_block block strings =
    judged (read Token 0 block).lexer (folded block strings started.nodes (read Token 0 block).tokens)

-- one cell, or two
unfoldable pub cells_at : List ℕ → ℕ → ℕ → ℕ
cells_at s at n = cond (n == 1) (be32_at s at) (be32_at s at * 4294967296 + be32_at s (at + 4))

-- a pair, and the one at a place
abbrev pub pair_of : ℕ → ℕ → Pair
pair_of b z = record { base = b; size = z }

abbrev pub pair_at : List ℕ → ℕ → ℕ → ℕ → Pair
pair_at s at a z = pair_of (cells_at s at a) (cells_at s (at + width a) z)

-- so many pairs from a place on
unfoldable pub pairs_at : List ℕ → ℕ → ℕ → ℕ → ℕ → List Pair
pairs_at s zero at a z = []
pairs_at s (suc n) at a z = pair_at s at a z ∷ pairs_at s n ((at + pair_bytes a z) % 2 ^ 32) a z

-- the pairs of the child just ended, of which there is one
unfoldable pub reg_pairs : List ℕ → Nodes → List Pair
reg_pairs s n =
    let a = n.address.value in
    let z = n.size.value in
    pairs_at s (suc ((n.reg.length - pair_bytes a z) / pair_bytes a z)) n.reg.value a z

-- the pairs of some tokens
unfoldable pub pairs_met : List ℕ → List ℕ → Nodes → List Placed → List Pair
pairs_met block strings n [] = []
pairs_met block strings n (e ∷ es) =
    cond (at_pair (Some e.event) (advance block strings e.place n (Some e.event)))
    (reg_pairs block (advance block strings e.place n (Some e.event)) ++ pairs_met block strings (advance block strings e.place n (Some e.event)) es)
    (pairs_met block strings (advance block strings e.place n (Some e.event)) es)

-- the pairs of the bytes left
unfoldable pub pairs_from : List ℕ → List ℕ → ℕ → Lexer → Nodes → List ℕ → List Pair
pairs_from block strings at x n l = pairs_met block strings n (read x at l).tokens

-- the pairs left in a walk: those of its reg, and those of the bytes left
unfoldable pub left_in : List ℕ → List ℕ → Walk → List Pair
left_in block strings w =
    let a = w.scan.nodes.address.value in
    let z = w.scan.nodes.size.value in
    pairs_at block (w.left / pair_bytes a z) w.place a z
    ++ pairs_from block strings w.at w.scan.lexer w.scan.nodes (drop w.at block)

-- the pair at a place, after which so many bytes are left
unfoldable pub handed : List ℕ → Walk → ℕ → ℕ → Next Walk
handed block w place left =
    let a = w.scan.nodes.address.value in
    let z = w.scan.nodes.size.value in
    record {
      base = cells_at block place a;
      size = cells_at block (place + width a) z;
      after = record { at = w.at; scan = w.scan; place = (place + pair_bytes a z) % 2 ^ 32; left = left };
    }
