-- The definitions of this crate and of those below it, opened together, for proofs by computation. Assumes nothing.
use Rattle.memory_access.proofs.Opened as memory-access
use Rattle.stage2_range.proofs.Opened as stage2-range
use Rattle.exceptions.proofs.Opened as exceptions
use Rattle.qemu.proofs.Opened as qemu
use Rattle.data_abort.specs.DataAbort.{injection_due, try_memory_access, injected, inject_data_abort, handle_data_abort}

unfoldable pub opened : Unit {0}
unfolding memory-access.opened stage2-range.opened exceptions.opened qemu.opened injection_due try_memory_access injected inject_data_abort handle_data_abort
opened = tt
