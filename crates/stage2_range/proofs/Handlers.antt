-- Laws on the handlers and their numbers. Assumes nothing.
use Prim.Native.Nat.{ℕ, zero, suc, ◌<◌, ◌≤◌}
use mathlib.Core.Path.{◌≡◌, refl, sym, ap, ◌∙◌}
use mathlib.Core.Bool.{true, cond}
use native.Mathlib.Omega.{arith}
use borrow.Author.Tests.{le-ltb, eqb-true}
use lib.ListN.{length}
use Rattle.stage2_range.specs.declared.MemoryHandler.{MemoryHandler}
use Rattle.stage2_range.specs.declared.MemoryHandler.TheVariants.{Absent, FilteredMmio, Fault}
use Rattle.stage2_range.specs.Handlers.{handlers, handler_of, is_handler, handler_number, same_handler}

-- the number of a handler names it
pub handler_code : (h : MemoryHandler) → (handler_number h < length handlers) × (handler_of (handler_number h) ≡ h)
handler_code Absent = (omega arith, refl)
handler_code FilteredMmio = (omega arith, refl)
handler_code Fault = (omega arith, refl)

-- a number names the handler that has it, and where it names none the fault, whose number is 2
pub named_number : (n : ℕ) → handler_number (handler_of n) ≡ cond (is_handler n) n 2
named_number zero = refl
named_number (suc zero) = refl
named_number (suc (suc zero)) = refl
named_number (suc (suc (suc n))) = rw (le-ltb (suc (suc (suc n))) (length handlers) (omega arith))

-- the fault's number and every larger one name the fault
pub above_fault : (n : ℕ) → 2 ≤ n → handler_of n ≡ Fault
above_fault zero h = absurd (omega arith)
above_fault (suc zero) h = absurd (omega arith)
above_fault (suc (suc zero)) h = refl
above_fault (suc (suc (suc n))) h = refl

-- handlers that are found to be the same are equal
pub same_handler_lem : (h k : MemoryHandler) → same_handler h k ≡ true → h ≡ k
same_handler_lem h k e = sym (handler_code h).1 ∙ ap handler_of (eqb-true (handler_number h) (handler_number k) e) ∙ (handler_code k).1
