-- Laws on a core's registers. Assumes nothing.
use Rattle.std.proofs.Common.{◌≡◌, ℕ, ◌<◌, ◌≤◌, Bool, true, false, eqb, ltb, length, refl, arith, length-set, get_or-set_other, get_or-set_same, ltb-false, le-ltb, lt-ltb, eq-eqb, ne_eqb}
use Rattle.lists.proofs.Laws.{cond_all}
use Rattle.exceptions.specs.declared.Core.{Core}
use Rattle.exceptions.specs.declared.GprWritten.{GprWritten}
use Rattle.exceptions.specs.Registers.{with_registers, read_gpr, read_number, read_value, write_gpr, write_number}
use Rattle.std.specs.Prelude.{Some}

-- Both calls are refused, with 17, exactly where the index is above 31; a refusal has no value and leaves the core as it was.
module _ (core : Core) (index value : ℕ) where
  pub above_refused : 31 < index
      → (read_number (read_gpr core index) ≡ 17) × (read_value (read_gpr core index) ≡ 0) × (write_number (write_gpr core index value).answer ≡ 17) × ((write_gpr core index value).core ≡ core)
  unfolding read_gpr write_gpr
  above_refused h =
      let below : ltb index 31 ≡ false = le-ltb index 31 (omega arith) in
      let other : eqb index 31 ≡ false = ne_eqb index 31 (λ e. omega arith) in
      (rw (below, other), rw (below, other), rw (below, other), rw (below, other))

  pub within_accepted : index ≤ 31 → (read_number (read_gpr core index) ≡ 0) × (write_number (write_gpr core index value).answer ≡ 0)
  unfolding read_gpr write_gpr
  within_accepted h = go (ltb index 31) refl
    where
      go : (b : Bool) → ltb index 31 ≡ b → (read_number (read_gpr core index) ≡ 0) × (write_number (write_gpr core index value).answer ≡ 0)
      go true e = (rw e, rw e)
      go false e =
          let same : eqb index 31 ≡ true = eq-eqb index 31 (omega (arith, ltb-false index 31 e)) in
          (rw (e, same), rw (e, same))

-- What was written is read, and no other register changed.
module _ (core : Core) (index value : ℕ) (within : index < 31) where
  pub read-written : index < length core.x → read_gpr (write_gpr core index value).core index ≡ Some value
  unfolding read_gpr write_gpr with_registers
  read-written h = rw (lt-ltb index 31 within, get_or-set_same core.x index value 0 h)

  pub read_other : (other : ℕ) → (other ≡ index → ⊥) → read_gpr (write_gpr core index value).core other ≡ read_gpr core other
  unfolding read_gpr write_gpr with_registers
  read_other other h = rw (lt-ltb index 31 within, get_or-set_other core.x index other value 0 h)

-- a write that is refused leaves the core
pub write_refused : (core : Core) (index value : ℕ) → (write_number (write_gpr core index value).answer ≡ 0 → ⊥)
    → (write_gpr core index value).core ≡ core
unfolding write_gpr
write_refused core index value =
    let Kept : GprWritten → Type 0 = λ w. (write_number w.answer ≡ 0 → ⊥) → w.core ≡ core in
    cond_all Kept (ltb index 31) _ _ (λ h. absurd (h refl)) (cond_all Kept (eqb index 31) _ _ (λ h. refl) (λ h. refl))

-- a write leaves what the core waits for
pub write_wait : (core : Core) (index value : ℕ) → (write_gpr core index value).core.wait ≡ core.wait
unfolding write_gpr with_registers
write_wait core index value =
    let Same : GprWritten → Type 0 = λ w. w.core.wait ≡ core.wait in
    cond_all Same (ltb index 31) _ _ refl (cond_all Same (eqb index 31) _ _ refl refl)

-- and how many registers there are
pub write_length : (core : Core) (index value : ℕ) → length (write_gpr core index value).core.x ≡ length core.x
unfolding write_gpr with_registers
write_length core index value =
    let Same : GprWritten → Type 0 = λ w. length w.core.x ≡ length core.x in
    cond_all Same (ltb index 31) _ _ (length-set core.x index value) (cond_all Same (eqb index 31) _ _ refl refl)
