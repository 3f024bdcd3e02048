-- What the theorems say of a slice: that some tree is there, and what it says. Assumes nothing.
use Rattle.std.specs.Prelude.{◌≡◌, List, ℕ}
use Rattle.fdt_tokens.specs.Devicetree.{Tree, BlobOf, Said, says}

-- a slice that is a blob of some tree
pub record Blob (s : List ℕ) : Type 0 where
  pub tree : Tree
  pub is : BlobOf s tree

-- some tree that the slice is a blob of says this
pub record Says (s : List ℕ) (a : Said) : Type 0 where
  pub tree : Tree
  pub is : BlobOf s tree
  pub says_so : says tree ≡ a
