-- The definitions of this crate and of those below it, opened together, for proofs by computation. Assumes nothing.
use Rattle.stage2.proofs.Opened as stage2
use Rattle.data_abort.proofs.Opened as data-abort
use Rattle.forwarded_call.proofs.Opened as forwarded-call
use Rattle.hypervisor.specs.Trap.{exception_class, by_class, handle_sync_lower}
use Rattle.hypervisor.specs.Cores.{fresh_cores, save_core, on_core, save_on, reply_on, trap_on}

unfoldable pub opened : Unit {0}
unfolding stage2.opened data-abort.opened forwarded-call.opened exception_class by_class handle_sync_lower fresh_cores save_core on_core save_on reply_on trap_on
opened = tt
