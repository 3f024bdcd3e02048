-- The definitions of this crate, opened together, for proofs by computation. Assumes nothing.
use Rattle.exceptions.specs.Registers.{fresh_core, with_registers, advance_pc, read_gpr, write_gpr}

unfoldable pub opened : Unit {0}
unfolding fresh_core with_registers advance_pc read_gpr write_gpr
opened = tt
