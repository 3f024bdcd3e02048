-- When a data abort loads the counter word, on any regions. Assumes nothing.
use Rattle.std.specs.Prelude.{◌≡◌, true, false, List, Some}
use Rattle.memory_access.specs.Syndrome.{isv, sas, wnr, fault_ipa}
use Rattle.stage2_range.specs.declared.MemoryAccessRegion.{MemoryAccessRegion}
use Rattle.stage2_range.specs.declared.MemoryAccessHandlerMatch.{MemoryAccessHandlerMatch}
use Rattle.stage2_range.specs.declared.MemoryHandler.TheVariants.{FilteredMmio}
use Rattle.stage2_range.specs.Registry.{find_region}
use Rattle.data_abort.specs.declared.TrapRegisters.{TrapRegisters}
use Rattle.data_abort.specs.DataAbort.{iss}

-- "ISV set, WnR clear and SAS 3", and the region found has the IPA 16 above its base and reads the filtered MMIO page
pub record CounterLoad (regions : List MemoryAccessRegion) (trap : TrapRegisters) : Type 0 where
  pub isv_set : isv (iss trap.esr) ≡ true
  pub wnr_clear : wnr (iss trap.esr) ≡ false
  pub sas_3 : sas (iss trap.esr) ≡ 3
  pub found : MemoryAccessHandlerMatch
  pub is_found : find_region regions (fault_ipa trap.fipa trap.far) ≡ Some found
  pub offset_16 : found.offset ≡ 16
  pub reads_page : found.region.handler.read ≡ FilteredMmio
