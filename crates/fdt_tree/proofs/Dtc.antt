-- A worked value: tests/devicetree/board.dtb, which dtc made of board.dts: two cells each, a reservation, reg before device_type, a deeper
-- memory node. It is a blob of the tree that the source describes, the tree says its three pairs, and so the reader answers them.
-- Assumes nothing.
use Prim.Native.Nat.{ℕ}
use mathlib.Core.Path.{◌≡◌, refl, ◌∙◌}
use mathlib.Core.List.{List, [], ◌∷◌}
use native.Mathlib.Omega.{arith}
use lib.ListN.{drop, take}
use Rattle.fdt_tokens.specs.Devicetree as dt
use Rattle.fdt_tokens.specs.Devicetree.{Property, Tree, Tokens, BlobOf, number_from, has_zero, padded, tokens_of, field, same, property_value, pairs_of, regs_of, all_pairs, ragged, one_or_two, answer_by, says}
use Rattle.fdt.specs.Blob.{blob_answer}
use Rattle.fdt_tree.proofs.Theorems.{blob_answered}

-- the blob
abbrev pub dtc : List ℕ
dtc =
    208 ∷ 13 ∷ 254 ∷ 237 ∷ 0 ∷ 0 ∷ 2 ∷ 9 ∷ 0 ∷ 0 ∷ 0 ∷ 72 ∷ 0 ∷ 0 ∷ 1 ∷ 216 ∷ 0 ∷ 0 ∷ 0 ∷ 40 ∷ 0 ∷ 0 ∷ 0 ∷ 17 ∷
    0 ∷ 0 ∷ 0 ∷ 16 ∷ 0 ∷ 0 ∷ 0 ∷ 0 ∷ 0 ∷ 0 ∷ 0 ∷ 49 ∷ 0 ∷ 0 ∷ 1 ∷ 144 ∷ 0 ∷ 0 ∷ 0 ∷ 0 ∷ 128 ∷ 0 ∷ 0 ∷ 0 ∷
    0 ∷ 0 ∷ 0 ∷ 0 ∷ 0 ∷ 1 ∷ 0 ∷ 0 ∷ 0 ∷ 0 ∷ 0 ∷ 0 ∷ 0 ∷ 0 ∷ 0 ∷ 0 ∷ 0 ∷ 0 ∷ 0 ∷ 0 ∷ 0 ∷ 0 ∷ 0 ∷ 0 ∷
    0 ∷ 0 ∷ 0 ∷ 1 ∷ 0 ∷ 0 ∷ 0 ∷ 0 ∷ 0 ∷ 0 ∷ 0 ∷ 3 ∷ 0 ∷ 0 ∷ 0 ∷ 4 ∷ 0 ∷ 0 ∷ 0 ∷ 0 ∷ 0 ∷ 0 ∷ 0 ∷ 2 ∷
    0 ∷ 0 ∷ 0 ∷ 3 ∷ 0 ∷ 0 ∷ 0 ∷ 4 ∷ 0 ∷ 0 ∷ 0 ∷ 15 ∷ 0 ∷ 0 ∷ 0 ∷ 2 ∷ 0 ∷ 0 ∷ 0 ∷ 3 ∷ 0 ∷ 0 ∷ 0 ∷ 6 ∷
    0 ∷ 0 ∷ 0 ∷ 27 ∷ 98 ∷ 111 ∷ 97 ∷ 114 ∷ 100 ∷ 0 ∷ 0 ∷ 0 ∷ 0 ∷ 0 ∷ 0 ∷ 1 ∷ 99 ∷ 112 ∷ 117 ∷ 115 ∷ 0 ∷ 0 ∷ 0 ∷ 0 ∷
    0 ∷ 0 ∷ 0 ∷ 3 ∷ 0 ∷ 0 ∷ 0 ∷ 4 ∷ 0 ∷ 0 ∷ 0 ∷ 0 ∷ 0 ∷ 0 ∷ 0 ∷ 1 ∷ 0 ∷ 0 ∷ 0 ∷ 3 ∷ 0 ∷ 0 ∷ 0 ∷ 4 ∷
    0 ∷ 0 ∷ 0 ∷ 15 ∷ 0 ∷ 0 ∷ 0 ∷ 0 ∷ 0 ∷ 0 ∷ 0 ∷ 1 ∷ 99 ∷ 112 ∷ 117 ∷ 64 ∷ 48 ∷ 0 ∷ 0 ∷ 0 ∷ 0 ∷ 0 ∷ 0 ∷ 3 ∷
    0 ∷ 0 ∷ 0 ∷ 4 ∷ 0 ∷ 0 ∷ 0 ∷ 33 ∷ 99 ∷ 112 ∷ 117 ∷ 0 ∷ 0 ∷ 0 ∷ 0 ∷ 3 ∷ 0 ∷ 0 ∷ 0 ∷ 4 ∷ 0 ∷ 0 ∷ 0 ∷ 45 ∷
    0 ∷ 0 ∷ 0 ∷ 0 ∷ 0 ∷ 0 ∷ 0 ∷ 2 ∷ 0 ∷ 0 ∷ 0 ∷ 2 ∷ 0 ∷ 0 ∷ 0 ∷ 1 ∷ 109 ∷ 101 ∷ 109 ∷ 111 ∷ 114 ∷ 121 ∷ 64 ∷ 52 ∷
    48 ∷ 48 ∷ 48 ∷ 48 ∷ 48 ∷ 48 ∷ 48 ∷ 0 ∷ 0 ∷ 0 ∷ 0 ∷ 3 ∷ 0 ∷ 0 ∷ 0 ∷ 32 ∷ 0 ∷ 0 ∷ 0 ∷ 45 ∷ 0 ∷ 0 ∷ 0 ∷ 0 ∷
    64 ∷ 0 ∷ 0 ∷ 0 ∷ 0 ∷ 0 ∷ 0 ∷ 0 ∷ 8 ∷ 0 ∷ 0 ∷ 0 ∷ 0 ∷ 0 ∷ 0 ∷ 1 ∷ 0 ∷ 0 ∷ 0 ∷ 0 ∷ 0 ∷ 0 ∷ 0 ∷ 0 ∷
    0 ∷ 0 ∷ 16 ∷ 0 ∷ 0 ∷ 0 ∷ 0 ∷ 3 ∷ 0 ∷ 0 ∷ 0 ∷ 7 ∷ 0 ∷ 0 ∷ 0 ∷ 33 ∷ 109 ∷ 101 ∷ 109 ∷ 111 ∷ 114 ∷ 121 ∷ 0 ∷ 0 ∷
    0 ∷ 0 ∷ 0 ∷ 2 ∷ 0 ∷ 0 ∷ 0 ∷ 1 ∷ 115 ∷ 111 ∷ 99 ∷ 0 ∷ 0 ∷ 0 ∷ 0 ∷ 1 ∷ 109 ∷ 101 ∷ 109 ∷ 111 ∷ 114 ∷ 121 ∷ 64 ∷ 48 ∷
    0 ∷ 0 ∷ 0 ∷ 0 ∷ 0 ∷ 0 ∷ 0 ∷ 3 ∷ 0 ∷ 0 ∷ 0 ∷ 7 ∷ 0 ∷ 0 ∷ 0 ∷ 33 ∷ 109 ∷ 101 ∷ 109 ∷ 111 ∷ 114 ∷ 121 ∷ 0 ∷ 0 ∷
    0 ∷ 0 ∷ 0 ∷ 3 ∷ 0 ∷ 0 ∷ 0 ∷ 12 ∷ 0 ∷ 0 ∷ 0 ∷ 45 ∷ 0 ∷ 0 ∷ 0 ∷ 1 ∷ 0 ∷ 0 ∷ 0 ∷ 2 ∷ 0 ∷ 0 ∷ 0 ∷ 3 ∷
    0 ∷ 0 ∷ 0 ∷ 2 ∷ 0 ∷ 0 ∷ 0 ∷ 2 ∷ 0 ∷ 0 ∷ 0 ∷ 1 ∷ 109 ∷ 101 ∷ 109 ∷ 111 ∷ 114 ∷ 121 ∷ 64 ∷ 54 ∷ 48 ∷ 48 ∷ 48 ∷ 48 ∷
    48 ∷ 48 ∷ 48 ∷ 0 ∷ 0 ∷ 0 ∷ 0 ∷ 3 ∷ 0 ∷ 0 ∷ 0 ∷ 7 ∷ 0 ∷ 0 ∷ 0 ∷ 33 ∷ 109 ∷ 101 ∷ 109 ∷ 111 ∷ 114 ∷ 121 ∷ 0 ∷ 0 ∷
    0 ∷ 0 ∷ 0 ∷ 3 ∷ 0 ∷ 0 ∷ 0 ∷ 16 ∷ 0 ∷ 0 ∷ 0 ∷ 45 ∷ 0 ∷ 0 ∷ 0 ∷ 0 ∷ 96 ∷ 0 ∷ 0 ∷ 0 ∷ 0 ∷ 0 ∷ 0 ∷ 0 ∷
    0 ∷ 0 ∷ 32 ∷ 0 ∷ 0 ∷ 0 ∷ 0 ∷ 2 ∷ 0 ∷ 0 ∷ 0 ∷ 2 ∷ 0 ∷ 0 ∷ 0 ∷ 9 ∷ 35 ∷ 97 ∷ 100 ∷ 100 ∷ 114 ∷ 101 ∷ 115 ∷ 115 ∷
    45 ∷ 99 ∷ 101 ∷ 108 ∷ 108 ∷ 115 ∷ 0 ∷ 35 ∷ 115 ∷ 105 ∷ 122 ∷ 101 ∷ 45 ∷ 99 ∷ 101 ∷ 108 ∷ 108 ∷ 115 ∷ 0 ∷ 109 ∷ 111 ∷ 100 ∷ 101 ∷ 108 ∷
    0 ∷ 100 ∷ 101 ∷ 118 ∷ 105 ∷ 99 ∷ 101 ∷ 95 ∷ 116 ∷ 121 ∷ 112 ∷ 101 ∷ 0 ∷ 114 ∷ 101 ∷ 103 ∷ 0 ∷
    []

-- its strings block: the names of the properties, each with a zero byte
abbrev strings : List ℕ
strings = take 49 (drop 472 dtc)

-- "model"
abbrev model_name : List ℕ
model_name = 109 ∷ 111 ∷ 100 ∷ 101 ∷ 108 ∷ []

-- the root's cell counts, and those of the node cpus
abbrev address_1 : Property
address_1 = record { name = dt.address_cells; value = 0 ∷ 0 ∷ 0 ∷ 2 ∷ [] }

abbrev address_2 : Property
address_2 = record { name = dt.address_cells; value = 0 ∷ 0 ∷ 0 ∷ 1 ∷ [] }

abbrev size_1 : Property
size_1 = record { name = dt.size_cells; value = 0 ∷ 0 ∷ 0 ∷ 2 ∷ [] }

abbrev size_2 : Property
size_2 = record { name = dt.size_cells; value = 0 ∷ 0 ∷ 0 ∷ 0 ∷ [] }

-- model: "board"
abbrev model_1 : Property
model_1 = record { name = model_name; value = 98 ∷ 111 ∷ 97 ∷ 114 ∷ 100 ∷ 0 ∷ [] }

-- device_type: "cpu", "memory"
abbrev kind_1 : Property
kind_1 = record { name = dt.device_type; value = 99 ∷ 112 ∷ 117 ∷ 0 ∷ [] }

abbrev kind_2 : Property
kind_2 = record { name = dt.device_type; value = 109 ∷ 101 ∷ 109 ∷ 111 ∷ 114 ∷ 121 ∷ 0 ∷ [] }

-- the regs: of a cpu, of two pairs, of the deeper memory node, of one pair
abbrev reg_1 : Property
reg_1 = record { name = dt.reg_name; value = 0 ∷ 0 ∷ 0 ∷ 0 ∷ [] }

abbrev reg_2 : Property
reg_2 = record { name = dt.reg_name; value = 0 ∷ 0 ∷ 0 ∷ 0 ∷ 64 ∷ 0 ∷ 0 ∷ 0 ∷ 0 ∷ 0 ∷ 0 ∷ 0 ∷ 8 ∷ 0 ∷ 0 ∷ 0 ∷ 0 ∷ 0 ∷ 0 ∷ 1 ∷ 0 ∷ 0 ∷ 0 ∷ 0 ∷ 0 ∷ 0 ∷ 0 ∷ 0 ∷ 0 ∷ 0 ∷ 16 ∷ 0 ∷ [] }

abbrev reg_3 : Property
reg_3 = record { name = dt.reg_name; value = 0 ∷ 0 ∷ 0 ∷ 1 ∷ 0 ∷ 0 ∷ 0 ∷ 2 ∷ 0 ∷ 0 ∷ 0 ∷ 3 ∷ [] }

abbrev reg_4 : Property
reg_4 = record { name = dt.reg_name; value = 0 ∷ 0 ∷ 0 ∷ 0 ∷ 96 ∷ 0 ∷ 0 ∷ 0 ∷ 0 ∷ 0 ∷ 0 ∷ 0 ∷ 0 ∷ 0 ∷ 32 ∷ 0 ∷ [] }

-- the tree that board.dts describes: cpus with a cpu, memory, soc with a memory node, memory
abbrev pub tree : Tree
tree = record {
  properties = address_1 ∷ size_1 ∷ model_1 ∷ [];
  children =
      dt.node (address_2 ∷ size_2 ∷ []) (dt.node (kind_1 ∷ reg_1 ∷ []) dt.none
      dt.none)
      (dt.node (reg_2 ∷ kind_2 ∷ []) dt.none
      (dt.node ([]) (dt.node (kind_2 ∷ reg_3 ∷ []) dt.none
      dt.none)
      (dt.node (kind_2 ∷ reg_4 ∷ []) dt.none
      dt.none)));
}

-- the bytes of its structure block are the tree's tokens
block_is : Tokens strings (take 400 (drop 72 dtc)) (tokens_of (dt.node tree.properties tree.children dt.none))
unfolding has_zero padded tokens_of
block_is =
    dt.begins [] refl refl (
    dt.has address_1 refl refl (record { rest = drop 15 strings; stands = refl; free = refl }) (
    dt.has size_1 refl refl (record { rest = drop 27 strings; stands = refl; free = refl }) (
    dt.has model_1 refl refl (record { rest = drop 33 strings; stands = refl; free = refl }) (
    dt.begins (99 ∷ 112 ∷ 117 ∷ 115 ∷ []) refl refl (
    dt.has address_2 refl refl (record { rest = drop 15 strings; stands = refl; free = refl }) (
    dt.has size_2 refl refl (record { rest = drop 27 strings; stands = refl; free = refl }) (
    dt.begins (99 ∷ 112 ∷ 117 ∷ 64 ∷ 48 ∷ []) refl refl (
    dt.has kind_1 refl refl (record { rest = drop 45 strings; stands = refl; free = refl }) (
    dt.has reg_1 refl refl (record { rest = drop 49 strings; stands = refl; free = refl }) (
    dt.ends refl (
    dt.ends refl (
    dt.begins (109 ∷ 101 ∷ 109 ∷ 111 ∷ 114 ∷ 121 ∷ 64 ∷ 52 ∷ 48 ∷ 48 ∷ 48 ∷ 48 ∷ 48 ∷ 48 ∷ 48 ∷ []) refl refl (
    dt.has reg_2 refl refl (record { rest = drop 49 strings; stands = refl; free = refl }) (
    dt.has kind_2 refl refl (record { rest = drop 45 strings; stands = refl; free = refl }) (
    dt.ends refl (
    dt.begins (115 ∷ 111 ∷ 99 ∷ []) refl refl (
    dt.begins (109 ∷ 101 ∷ 109 ∷ 111 ∷ 114 ∷ 121 ∷ 64 ∷ 48 ∷ []) refl refl (
    dt.has kind_2 refl refl (record { rest = drop 45 strings; stands = refl; free = refl }) (
    dt.has reg_3 refl refl (record { rest = drop 49 strings; stands = refl; free = refl }) (
    dt.ends refl (
    dt.ends refl (
    dt.begins (109 ∷ 101 ∷ 109 ∷ 111 ∷ 114 ∷ 121 ∷ 64 ∷ 54 ∷ 48 ∷ 48 ∷ 48 ∷ 48 ∷ 48 ∷ 48 ∷ 48 ∷ []) refl refl (
    dt.has kind_2 refl refl (record { rest = drop 45 strings; stands = refl; free = refl }) (
    dt.has reg_4 refl refl (record { rest = drop 49 strings; stands = refl; free = refl }) (
    dt.ends refl (
    dt.ends refl (
    dt.last refl)))))))))))))))))))))))))))

pub dtc_is : BlobOf dtc tree
unfolding field number_from
dtc_is = record {
  blob = dtc;
  rest = [];
  front = refl;
  least = omega arith;
  most = omega arith;
  magic = refl;
  totalsize = refl;
  version = omega arith;
  compatible = omega arith;
  aligned_list = refl;
  list_ends = record { entries = 1; within = omega arith; zeros = refl };
  aligned_struct = refl;
  struct_inside = omega arith;
  strings_inside = omega arith;
  struct = block_is;
}

-- what the tree says, by computation: the pairs of its two memory children
abbrev pub memory : List dt.Pair
memory =
    record { base = 0x40000000; size = 0x8000000 }
    ∷ record { base = 0x100000000; size = 0x1000 }
    ∷ record { base = 0x60000000; size = 0x2000 }
    ∷ []

pub tree-says : says tree ≡ dt.pairs memory
unfolding says answer_by property_value same regs_of all_pairs pairs_of ragged one_or_two number_from
tree-says = refl

-- so the reader answers these
pub dtc_answer : blob_answer dtc ≡ dt.pairs memory
dtc_answer = blob_answered dtc tree dtc_is ∙ tree-says
