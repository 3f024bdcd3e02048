-- What the theorems of `fdt_tree` say; the devicetree's own definitions stand in `fdt_tokens`.
pub mod Blobs
