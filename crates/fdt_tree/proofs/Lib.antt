-- The reader answers what the tree says: the steps to it, the theorems, an import, a worked blob.
pub mod Steps
pub mod Deep
pub mod Firsts
pub mod Children
pub mod Memory
pub mod Answer
pub mod Shape
pub mod Header
pub mod Theorems
pub mod Import
pub mod Dtc
