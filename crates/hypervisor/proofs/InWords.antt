-- A core and a counter whose numbers fit words have them fit after a save and after a trap. Assumes nothing.
use Prim.Native.Nat.{ℕ}
use mathlib.Core.Path.{◌≡◌}
use mathlib.Core.List.{List}
use lib.ListN.{length}
use Rattle.bits.specs.Bits.{FitsWord}
use Rattle.lists.proofs.Laws.{cond_all}
use Rattle.lists.proofs.Every.{Every}
use Rattle.stage2_range.specs.declared.MemoryAccessRegion.{MemoryAccessRegion}
use Rattle.exceptions.specs.declared.Core.{Core}
use Rattle.exceptions.proofs.InWords.{InWords}
use Rattle.data_abort.specs.declared.TrapRegisters.{TrapRegisters}
use Rattle.data_abort.proofs.Laws.{in_aborted}
use Rattle.forwarded_call.specs.ForwardedCall.{waits}
use Rattle.forwarded_call.proofs.Laws.{in_forwarded}
use Rattle.core_answers.specs.declared.CoreStep.{CoreStep}
use Rattle.hypervisor.specs.Trap.{handle_sync_lower}
use Rattle.hypervisor.specs.Cores.{save_core}
use Rattle.hypervisor.proofs.Laws.{trap_all}

pub in_saved : (c : Core) → InWords c → (x : List ℕ) (elr spsr : ℕ) → length x ≡ 31 → Every FitsWord x → FitsWord elr → FitsWord spsr
    → InWords (save_core c x elr spsr).core
unfolding save_core
in_saved c h x elr spsr long fits f g =
    cond_all (λ (s : CoreStep). InWords s.core) (waits c.wait) _ _ h
    (record { registers = long; x_fits = fits; rest_fits = (f, (g, h.rest_fits.1.1)) })

pub in_trapped : (regions : List MemoryAccessRegion) (core : Core) (counter : ℕ) (trap : TrapRegisters) → InWords core → FitsWord counter
    → FitsWord trap.esr → FitsWord trap.far →
    let step = handle_sync_lower regions core counter trap in
    InWords step.core × FitsWord step.counter
in_trapped regions core counter trap h f esr far =
    trap_all (λ c n. InWords c × FitsWord n) regions core counter trap (h, f) (λ conduit. (in_forwarded core h conduit, f))
    (in_aborted regions core counter trap h f esr far)
