-- A core whose numbers fit words has them fit after each of these changes. Assumes nothing.
use Rattle.std.proofs.Common.{◌≡◌, ℕ, eqb, ltb, List, [], ◌∷◌, length, set, ◌∙◌, arith, length-set}
use Rattle.bits.specs.Bits.{FitsWord}
use Rattle.lists.proofs.Laws.{cond_all}
use Rattle.lists.proofs.Every.{Every, every_set}
use Rattle.exceptions.specs.declared.Core.{Core}
use Rattle.exceptions.specs.declared.FaultRegisters.{FaultRegisters}
use Rattle.exceptions.specs.declared.GprWritten.{GprWritten}
use Rattle.exceptions.specs.Registers.{next_instruction, advance_pc, with_registers, with_return, write_gpr}

-- a core has 31 registers, and its numbers fit words
pub record InWords (c : Core) : Type 0 where
  pub registers : length c.x ≡ 31
  pub x_fits : Every FitsWord c.x
  pub rest_fits : Every FitsWord (c.elr ∷ c.spsr ∷ c.el1.elr ∷ c.el1.spsr ∷ c.el1.far ∷ c.el1.esr ∷ [])

pub next_fits : (elr : ℕ) → FitsWord (next_instruction elr)
next_fits elr = omega arith

module _ (c : Core) (h : InWords c) where
  pub in_advanced : InWords (advance_pc c)
  unfolding advance_pc
  in_advanced = record { registers = h.registers; x_fits = h.x_fits; rest_fits = (next_fits c.elr, h.rest_fits.1) }

  pub in_registers : (x : List ℕ) → length x ≡ 31 → Every FitsWord x → InWords (with_registers c x)
  unfolding with_registers
  in_registers x long fits = record { registers = long; x_fits = fits; rest_fits = h.rest_fits }

  pub in_return : (elr spsr : ℕ) (el1 : FaultRegisters)
      → Every FitsWord (elr ∷ spsr ∷ el1.elr ∷ el1.spsr ∷ el1.far ∷ el1.esr ∷ []) → InWords (with_return c elr spsr el1)
  in_return elr spsr el1 fits = record { registers = h.registers; x_fits = h.x_fits; rest_fits = fits }

  pub in_written : (index value : ℕ) → FitsWord value → InWords (write_gpr c index value).core
  unfolding write_gpr
  in_written index value f =
      let In : GprWritten → Type 0 = λ w. InWords w.core in
      cond_all In (ltb index 31) _ _
      (in_registers (set c.x index value) (length-set c.x index value ∙ h.registers) (every_set FitsWord c.x index value h.x_fits f))
      (cond_all In (eqb index 31) _ _ h h)
