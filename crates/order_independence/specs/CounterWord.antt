-- When a core loads the counter word (document 01, "Two runs side by side"). Assumes nothing.
use Rattle.std.specs.Prelude.{ℕ, ◌+◌, ◌≡◌, true, false}
use mathlib.Core.List.{List, Memᴰ}
use Rattle.memory_access.specs.Syndrome.{isv, sas, wnr, fault_ipa}
use Rattle.stage2_range.specs.declared.MemoryAccessRegion.{MemoryAccessRegion}
use Rattle.stage2_range.specs.declared.MemoryHandler.TheVariants.{FilteredMmio}
use Rattle.stage2.specs.declared.Policy.{Policy}
use Rattle.stage2.specs.Policy.{regions_held}
use Rattle.exceptions.specs.declared.Core.{Core}
use Rattle.data_abort.specs.declared.TrapRegisters.{TrapRegisters}
use Rattle.data_abort.specs.DataAbort.{iss}
use Rattle.core_answers.specs.Answers.{trap_number}
use Rattle.hypervisor.specs.Trap.{ec}
use Rattle.hypervisor.specs.Cores.{trap_on}

-- "A core loads the counter word by an accepted trap with EC 0x24, ISV set, WnR clear and SAS 3 whose IPA is 16 above the base of a region
-- then held, to which an accepted handle call gave read half 1"
pub record LoadsCounterWord (policy : Policy) (cores : List Core) (counter i : ℕ) (trap : TrapRegisters) : Type 0 where
  pub accepted : trap_number (trap_on policy cores counter i trap).result.answer ≡ 0
  pub class : ec trap.esr ≡ 0x24
  pub isv_set : isv (iss trap.esr) ≡ true
  pub wnr_clear : wnr (iss trap.esr) ≡ false
  pub sas_3 : sas (iss trap.esr) ≡ 3
  pub region : MemoryAccessRegion
  pub is_held : Memᴰ region (regions_held policy)
  pub ipa_16_above : (fault_ipa trap.fipa trap.far).0 ≡ region.base_ipa + 16
  pub reads_page : region.handler.read ≡ FilteredMmio
