-- The states that the rows of the bench table start from. Assumes nothing.
use Rattle.std.specs.Prelude.{ℕ, Bool, List, negsuc, replicate}
use Rattle.memory_access.specs.declared.MemoryAccess.{MemoryAccess}
use Rattle.memory_access.specs.declared.MemoryAccessKind.TheVariants.{Read}
use Rattle.memory_access.specs.declared.MemoryAccessWidth.{MemoryAccessWidth}
use Rattle.stage2.specs.declared.Policy.{Policy}
use Rattle.stage2.specs.Policy.{fresh_policy, handle_range}
use Rattle.exceptions.specs.declared.Core.{Core}
use Rattle.data_abort.specs.declared.TrapRegisters.{TrapRegisters}
use Rattle.forwarded_call.specs.declared.HvcReply.{HvcReply}
use Rattle.hypervisor.specs.declared.CoresStep.{CoresStep}
use Rattle.hypervisor.specs.declared.Trapped.{Trapped}
use Rattle.hypervisor.specs.Cores.{fresh_cores, save_on, trap_on, reply_on}

-- a load into x7, by its width, SSE and SF
abbrev pub load : MemoryAccessWidth → Bool → Bool → MemoryAccess
load width sse sf = record {
  ipa = record { 0 = 0 };
  width = width;
  kind = Read;
  register_index = 7;
  sign_extend = sse;
  register_width_64 = sf;
}

-- the policy with the page at 0x0F000000 handled, loads and stores
unfoldable pub one_region : Policy
one_region = (handle_range fresh_policy 0x0F000000 0x1000 1 1).policy

-- eight cores, core 0 saved with one value in all its registers, ELR 0x1000 and SPSR 5
unfoldable pub saved_cores : ℕ → List Core
saved_cores value = (save_on fresh_cores 0 (replicate 31 value) 0x1000 5).cores

-- what the hardware says of a trap, its FIPA 0xF000
abbrev pub access_at : ℕ → ℕ → ℕ → TrapRegisters
access_at esr far vbar = record { esr = esr; fipa = record { 0 = 0xF000 }; far = far; vbar = vbar }

-- the same, its FAR 0
abbrev pub trap_at : ℕ → ℕ → TrapRegisters
trap_at esr vbar = access_at esr 0 vbar

-- the trap of core 0 saved so, with no region and the counter 0
unfoldable pub trapped : ℕ → TrapRegisters → Trapped
trapped value trap = trap_on fresh_policy (saved_cores value) 0 0 trap

-- the same with these handlers for the page at 0x0F000000, 7 in all registers, and the counter 9
unfoldable pub trapped_through : ℕ → ℕ → TrapRegisters → Trapped
trapped_through read write trap = trap_on (handle_range fresh_policy 0x0F000000 0x1000 read write).policy (saved_cores 7) 9 0 trap

-- a reply of this kind, its values all 7 and its error -3
abbrev pub reply_of : ℕ → HvcReply
reply_of kind = record { kind = kind; values = replicate 18 7; error = negsuc 2 }

-- a call trapped so, with this x0, and such a reply to it
unfoldable pub replied : ℕ → ℕ → ℕ → CoresStep
replied esr x0 kind = reply_on (trapped x0 (trap_at esr 0)).cores 0 (reply_of kind)
