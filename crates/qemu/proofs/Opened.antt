-- The definitions of this crate and of those below it, opened together, for proofs by computation. Assumes nothing.
use Rattle.memory_access.proofs.Opened as memory-access
use Rattle.qemu.specs.FilteredMmio.{page_word, loads_counter, counter_after, read_filtered_mmio, write_filtered_mmio}

unfoldable pub opened : Unit {0}
unfolding memory-access.opened page_word loads_counter counter_after read_filtered_mmio write_filtered_mmio
opened = tt
