-- An import of a blob of a tree goes by what the tree says. Assumes nothing.
use Prim.Native.Nat.{ℕ}
use mathlib.Core.Path.{◌≡◌, ◌∙◌, ap}
use mathlib.Core.List.{List}
use Rattle.fdt_tokens.specs.Devicetree.{Tree, BlobOf, says}
use Rattle.stage2.specs.declared.Policy.{Policy}
use Rattle.memory_import.specs.Import.{import_memory, import_by}
use Rattle.memory_import.proofs.Changes.{import_said}
use Rattle.fdt_tree.proofs.Theorems.{blob_answered}

pub import_of_tree : (p : Policy) (s : List ℕ) (attributes : ℕ) (t : Tree) → BlobOf s t → import_memory p s attributes ≡ import_by (says t) p attributes
import_of_tree p s attributes t x = import_said p s attributes ∙ ap (λ said. import_by said p attributes) (blob_answered s t x)
