-- A data abort: the access is handled, or the guest gets the abort (document 01, "Trap", EC 0x24). Assumes nothing.
use Rattle.std.specs.Prelude.{ℕ, ◌+◌, ◌%◌, ◌^◌, Bool, true, false, cond, not, ◌||◌, List, ◌==◌, None, Ok, Option, Some}
use Rattle.memory_access.specs.declared.MemoryAccess.{MemoryAccess}
use Rattle.memory_access.specs.declared.MemoryAccessKind.{MemoryAccessKind}
use Rattle.memory_access.specs.declared.MemoryAccessKind.TheVariants.{Read, Write}
use Rattle.memory_access.specs.Syndrome.{isv, access_of}
use Rattle.bits.specs.Bits.{low_bits, with_bits}
use Rattle.memory_access.specs.Transfer.{extend_read_result, store_value}
use Rattle.stage2_range.specs.declared.MemoryAccessRegion.{MemoryAccessRegion}
use Rattle.stage2_range.specs.declared.MemoryAccessHandlerMatch.{MemoryAccessHandlerMatch}
use Rattle.stage2_range.specs.declared.MemoryHandler.{MemoryHandler}
use Rattle.stage2_range.specs.declared.MemoryHandler.TheVariants.{Absent, FilteredMmio, Fault}
use Rattle.stage2_range.specs.declared.MemoryReadAccess.{MemoryReadAccess}
use Rattle.stage2_range.specs.declared.MemoryReadResult.{MemoryReadResult}
use Rattle.stage2_range.specs.declared.MemoryReadResult.TheVariants as read
use Rattle.stage2_range.specs.declared.MemoryWriteAccess.{MemoryWriteAccess}
use Rattle.stage2_range.specs.declared.MemoryWriteResult.{MemoryWriteResult}
use Rattle.stage2_range.specs.declared.MemoryWriteResult.TheVariants as write
use Rattle.stage2_range.specs.Handlers.{same_handler}
use Rattle.stage2_range.specs.Registry.{find_region}
use Rattle.exceptions.specs.declared.Core.{Core}
use Rattle.core_answers.specs.declared.CoreError.TheVariants.{NoGuestVector}
use Rattle.core_answers.specs.declared.TrapAnswer.TheVariants.{AccessHandled, AbortInjected}
use Rattle.core_answers.specs.declared.TrapStep.{TrapStep}
use Rattle.core_answers.specs.Answers.{answered, refused_trap}
use Rattle.exceptions.specs.Registers.{advance_pc, read_gpr, read_value, with_return, write_gpr}
use Rattle.qemu.specs.FilteredMmio.{read_filtered_mmio, write_filtered_mmio}
use Rattle.data_abort.specs.declared.HandledAccess.{HandledAccess}
use Rattle.data_abort.specs.declared.HandledAccess.TheVariants.{Loaded, Stored}
use Rattle.data_abort.specs.declared.Injection.{Injection}
use Rattle.data_abort.specs.declared.TrapRegisters.{TrapRegisters}

-- "ISS bits 24:0" of ESR
abbrev pub iss : ℕ → ℕ
iss esr = low_bits 25 esr

-- The cases of a data abort go by what "decode, `find`, the half for the direction" give, and by what the filtered MMIO page answers.

-- "decode": the access that the syndrome describes, where ISV is set
abbrev pub access_by : TrapRegisters → MemoryAccess
access_by trap = access_of (iss trap.esr) trap.fipa trap.far

-- "No ISV"
abbrev pub no_isv : TrapRegisters → Bool
no_isv trap = not (isv (iss trap.esr))

-- where in the region found the address is
abbrev pub offset_in : Option MemoryAccessHandlerMatch → ℕ
offset_in None = 0
offset_in (Some found) = found.offset

-- "the half for the direction" (a half is a handler here)
abbrev pub handler_for : MemoryAccessKind → MemoryAccessHandlerMatch → MemoryHandler
handler_for Read found = found.region.handler.read
handler_for Write found = found.region.handler.write

-- the region found has "an absent half" for the direction
abbrev pub absent_handler : MemoryAccessKind → Option MemoryAccessHandlerMatch → Bool
absent_handler kind None = false
absent_handler kind (Some found) = same_handler Absent (handler_for kind found)

-- what the page is asked: a load, or "a store of Rt's low bits at the access width"
abbrev pub page_read : MemoryAccess → ℕ → MemoryReadAccess
page_read access offset = record { ipa = access.ipa; offset = offset; width = access.width }

abbrev pub page_write : MemoryAccess → ℕ → ℕ → MemoryWriteAccess
page_write access offset rt = record { ipa = access.ipa; offset = offset; width = access.width; value = store_value access rt }

abbrev pub is_read_fault : MemoryReadResult → Bool
is_read_fault (read.Value word) = false
is_read_fault read.Fault = true

abbrev pub is_write_fault : MemoryWriteResult → Bool
is_write_fault write.Handled = false
is_write_fault write.Fault = true

-- "a device fault": the page has no word for the load, or does not take the store
abbrev pub device_fault : MemoryAccessKind → MemoryAccess → ℕ → ℕ → ℕ → Bool
device_fault Read access offset rt counter = is_read_fault (read_filtered_mmio (page_read access offset) counter).result
device_fault Write access offset rt counter = is_write_fault (write_filtered_mmio (page_write access offset rt))

-- an access faults through a handler: never through an absent one, with the page's device fault, and always through half 2, which
-- "means fault"
abbrev pub faults_through : MemoryHandler → Bool → Bool
faults_through Absent device = false
faults_through FilteredMmio device = device
faults_through Fault device = true

-- "no region", or a fault through the half for the direction, where Rt holds `rt`
abbrev pub not_handled : MemoryAccessKind → Option MemoryAccessHandlerMatch → MemoryAccess → ℕ → ℕ → Bool
not_handled kind None access rt counter = true
not_handled kind (Some found) access rt counter = faults_through (handler_for kind found) (device_fault kind access found.offset rt counter)

-- "No ISV, no region", half 2 for the direction "or a device fault injects"
unfoldable pub injection_due : List MemoryAccessRegion → Core → ℕ → TrapRegisters → Bool
injection_due regions core counter trap =
    let access = access_by trap in
    let rt = read_value (read_gpr core access.register_index) in
    no_isv trap || not_handled access.kind (find_region regions access.ipa) access rt counter

-- the word that a load found
abbrev pub word_read : MemoryReadResult → ℕ
word_read (read.Value word) = word
word_read read.Fault = 0

-- a handled access: what Rt takes of a load, and the counter then. "a load through an absent half gives 0 and a store is dropped"
abbrev pub done : MemoryAccessKind → Bool → MemoryAccess → ℕ → ℕ → HandledAccess
done Read absent access offset counter =
    let got = read_filtered_mmio (page_read access offset) counter in
    cond absent (Loaded access.register_index 0 counter)
    (Loaded access.register_index (extend_read_result access (word_read got.result)) got.counter)
done Write absent access offset counter = Stored

-- what comes of an access through a handler
unfoldable pub through : MemoryAccessKind → MemoryHandler → MemoryAccess → ℕ → ℕ → ℕ → Option HandledAccess
through kind handler access offset rt counter =
    cond (faults_through handler (device_fault kind access offset rt counter)) None
    (Some (done kind (same_handler Absent handler) access offset counter))

-- the same by the region found for it
unfoldable pub emulate_access : Option MemoryAccessHandlerMatch → MemoryAccess → ℕ → ℕ → Option HandledAccess
emulate_access found access rt counter =
    let kind = access.kind in
    cond (not_handled kind found access rt counter) None
    (Some (done kind (absent_handler kind found) access (offset_in found) counter))

-- the same by the regions that are held and what the hardware says
unfoldable pub try_memory_access : List MemoryAccessRegion → Core → ℕ → TrapRegisters → Option HandledAccess
try_memory_access regions core counter trap =
    let access = access_by trap in
    let found = find_region regions access.ipa in
    cond (injection_due regions core counter trap) None
    (Some (done access.kind (absent_handler access.kind found) access (offset_in found) counter))

-- a syndrome with another exception class, bits 31:26, and its other bits
abbrev pub with_ec : ℕ → ℕ → ℕ
with_ec esr ec = with_bits esr 26 6 ec

-- "ELR_EL1 and SPSR_EL1 take the saved ELR and SPSR, FAR_EL1 the FAR, ESR_EL1 the whole ESR with EC 0x25; ELR becomes VBAR + 0x200
-- modulo 2^64 and SPSR 0x3C5"
abbrev pub injection_of : ℕ → ℕ → TrapRegisters → Injection
injection_of elr spsr trap = record {
  elr = (trap.vbar + 0x200) % 2 ^ 64;
  spsr = 0x3C5;
  el1 = record { elr = elr; spsr = spsr; far = trap.far; esr = with_ec trap.esr 0x25 };
}

-- the core with the abort injected
unfoldable pub injected : Core → TrapRegisters → Core
injected core trap =
    let to = injection_of core.elr core.spsr trap in
    with_return core to.elr to.spsr to.el1

-- 13: "an injection is due and VBAR is 0"
unfoldable pub inject_data_abort : Core → ℕ → TrapRegisters → TrapStep
inject_data_abort core counter trap =
    cond (trap.vbar == 0) (refused_trap NoGuestVector core counter) (answered (Ok AbortInjected) (injected core trap) counter)

-- "A handled access writes Rt (loads) and ELR grows by 4 modulo 2^64"; else the abort is injected
abbrev pub step_by : Option HandledAccess → Core → ℕ → TrapRegisters → TrapStep
step_by (Some (Loaded register value after)) core counter trap =
    answered (Ok (AccessHandled Read)) (advance_pc (write_gpr core register value).core) after
step_by (Some Stored) core counter trap = answered (Ok (AccessHandled Write)) (advance_pc core) counter
step_by None core counter trap = inject_data_abort core counter trap

-- the data abort of one core, by the regions that are held
unfoldable pub handle_data_abort : List MemoryAccessRegion → Core → ℕ → TrapRegisters → TrapStep
handle_data_abort regions core counter trap = step_by (try_memory_access regions core counter trap) core counter trap
