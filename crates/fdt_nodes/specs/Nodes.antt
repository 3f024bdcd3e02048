-- The nodes up to a place in the structure block, as the reader keeps them. Assumes nothing.
use Rattle.std.specs.Prelude.{ℕ, ◌+◌, ◌-◌, ◌%◌, ◌^◌, Bool, true, false, cond, not, Option, None, Some, List, [], ◌∷◌, ◌++◌, drop, ◌==◌}
use Rattle.fdt_tokens.specs.Devicetree as dt
use Rattle.fdt_tokens.specs.Devicetree.{has_zero, one_or_two, memory_type}
use Rattle.fdt_tokens.specs.Bytes.{be32_at, starts_with}
use Rattle.fdt_tokens.specs.declared.Event.{Event}
use Rattle.fdt_tokens.specs.declared.Event.TheVariants.{Begin, EndNode, Prop, End}
use Rattle.fdt_nodes.specs.declared.First.{First}
use Rattle.fdt_nodes.specs.declared.Nodes.{Nodes}

-- the names that are looked for, and "memory", each with its zero byte
abbrev terminated : List ℕ → List ℕ
terminated name = name ++ (0 ∷ [])

abbrev pub address_cells_text : List ℕ
address_cells_text = terminated dt.address_cells

abbrev pub size_cells_text : List ℕ
size_cells_text = terminated dt.size_cells

abbrev pub device_type_text : List ℕ
device_type_text = terminated dt.device_type

abbrev pub reg_text : List ℕ
reg_text = terminated dt.reg_name

-- no property of the name yet
abbrev pub absent : First
absent = record { seen = false; length = 0; value = 0 }

-- in a node the first property of a name counts
unfoldable pub first_kept : First → ℕ → ℕ → First
first_kept f n v = cond f.seen f (record { seen = true; length = n; value = v })

-- a property counts where the text stands at its name's offset
unfoldable pub first_named : List ℕ → ℕ → List ℕ → First → ℕ → ℕ → First
first_named strings name text f n v = cond (starts_with text (drop name strings)) (first_kept f n v) f

-- a cell, in a value of four bytes
unfoldable pub cell_at : List ℕ → ℕ → ℕ → ℕ
cell_at s at n = cond (n == 4) (be32_at s at) 0

-- nodes with another place in the tree, other counts, another last child
abbrev pub at_depth : Nodes → ℕ → Bool → Bool → Nodes
at_depth n d o r =
    record { ok = n.ok; depth = d; props = o; rooted = r; address = n.address; size = n.size; kind = n.kind; reg = n.reg }

abbrev pub with_counts : Nodes → First → First → Nodes
with_counts n a s =
    record { ok = n.ok; depth = n.depth; props = n.props; rooted = n.rooted; address = a; size = s; kind = n.kind; reg = n.reg }

abbrev pub with_child : Nodes → First → First → Nodes
with_child n k r =
    record { ok = n.ok; depth = n.depth; props = n.props; rooted = n.rooted; address = n.address; size = n.size; kind = k; reg = r }

-- a rule is broken
unfoldable pub bad_nodes : Nodes → Nodes
bad_nodes n =
    record { ok = false; depth = n.depth; props = n.props; rooted = n.rooted; address = n.address; size = n.size; kind = n.kind; reg = n.reg }

-- device_type is the seven bytes of "memory" and a zero byte
unfoldable pub is_memory : First → Bool
is_memory k = cond (k.length == 7) (k.value == 1) false

-- a test as a number
unfoldable pub flag : Bool → ℕ
flag b = cond b 1 0

-- the bytes of one cell, or of two; those of a pair
unfoldable pub width : ℕ → ℕ
width n = cond (n == 1) 4 8

unfoldable pub pair_bytes : ℕ → ℕ → ℕ
pair_bytes a z = width a + width z

-- a reg that is no whole number of pairs, where both counts are 1 or 2
unfoldable pub ragged_reg : ℕ → ℕ → ℕ → Bool
ragged_reg n a z = cond (one_or_two a) (cond (one_or_two z) (not (n % pair_bytes a z == 0)) false) false

-- FDT_BEGIN_NODE: the one root, a child of it, or a deeper node
unfoldable pub begin_node : Nodes → Nodes
begin_node n =
    cond (n.depth == 0)
    (cond n.rooted (bad_nodes n) (at_depth n 1 true true))
    (cond (n.depth == 1) (with_child (at_depth n 2 true n.rooted) absent absent)
    (at_depth n ((n.depth + 1) % 2 ^ 64) true n.rooted))

-- a memory child's reg is judged at its end
unfoldable pub child_end : Nodes → Nodes
child_end n =
    cond (n.depth == 1)
    (cond (is_memory n.kind) (cond (ragged_reg n.reg.length n.address.value n.size.value) (bad_nodes n) n) n)
    n

-- FDT_END_NODE, which needs a node
unfoldable pub end_node : Nodes → Nodes
end_node n = cond (n.depth == 0) (bad_nodes n) (child_end (at_depth n (n.depth - 1) false n.rooted))

-- a property of the root may be a cell count
unfoldable pub root_property : List ℕ → List ℕ → ℕ → Nodes → ℕ → ℕ → Nodes
root_property s strings at n w name =
    with_counts n (first_named strings name address_cells_text n.address w (cell_at s at w)) (first_named strings name size_cells_text n.size w (cell_at s at w))

-- one of its child a device_type or a reg
unfoldable pub child_property : List ℕ → List ℕ → ℕ → Nodes → ℕ → ℕ → Nodes
child_property s strings at n w name =
    with_child n (first_named strings name device_type_text n.kind w (flag (starts_with memory_type (drop at s)))) (first_named strings name reg_text n.reg w at)

-- FDT_PROP: in a node before its first subnode, with a name that ends
unfoldable pub property : List ℕ → List ℕ → ℕ → Nodes → ℕ → ℕ → Nodes
property s strings at n w name =
    cond n.props
    (cond (has_zero (drop name strings))
    (cond (n.depth == 1) (root_property s strings at n w name)
    (cond (n.depth == 2) (child_property s strings at n w name)
    n))
    (bad_nodes n))
    (bad_nodes n)

-- FDT_END: after one root, outside of it
unfoldable pub ended : Nodes → Nodes
ended n = cond (n.depth == 0) (cond n.rooted n (bad_nodes n)) (bad_nodes n)

-- the nodes after one more token, or none
unfoldable pub advance : List ℕ → List ℕ → ℕ → Nodes → Option Event → Nodes
advance s strings at n None = n
advance s strings at n (Some Begin) = begin_node n
advance s strings at n (Some EndNode) = end_node n
advance s strings at n (Some (Prop w name)) = property s strings at n w name
advance s strings at n (Some End) = ended n
