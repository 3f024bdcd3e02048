-- Laws of a trap on lent bytes: above 7 there is no core, one of the eight is stepped by itself, and a step that leaves the counter needs no
-- store of it. Assumes nothing.
use Prim.Native.Nat.{ℕ, ◌<◌, ◌≤◌}
use mathlib.Core.Path.{◌≡◌, refl, sym, ◌∙◌}
use mathlib.Core.List.{List}
use mathlib.Core.Bool.{Bool, true, false, cond}
use native.Mathlib.Omega.{arith}
use borrow.Author.Tests.{lt-ltb, le-ltb, eqb-true}
use Rattle.data_abort.specs.declared.TrapRegisters.{TrapRegisters}
use Rattle.stage2.specs.Policy.{regions_held}
use Rattle.core_answers.specs.declared.CoreError.TheVariants.{NoSuchCore}
use Rattle.core_answers.specs.Answers.{without_values, result_words}
use Rattle.hypervisor.specs.Trap.{handle_sync_lower}
use Rattle.hypervisor.specs.Cores.{trap_on}
use Rattle.lent_words.specs.Words.{bytes_of, Bytes}
use Rattle.lent_policy.specs.Layout.{policy_at}
use Rattle.lent_cores.specs.Layout.{held_core, counter_at, with_core, with_counter}
use Rattle.lent_cores.proofs.Records.{core-set}
use Rattle.lent_cores.proofs.States.{core_registers, counter_kept}
use Rattle.lent_trap.specs.LentTrap.{trap_call, trapped_one}
use lib.Dec.{eqb}
use lib.ListN.{length}
use Rattle.exceptions.specs.declared.Core.{Core}
use Rattle.std.specs.Prelude.{Err}

module _ (policy cores : List ℕ) (i : ℕ) (trap : TrapRegisters) where
  pub trap_none : 7 < i
      → trap_call policy cores i trap ≡ record { number = 10; state = cores; result = bytes_of (result_words (without_values (Err NoSuchCore))) }
  unfolding trap_call trap_on
  trap_none h = rw (lt-ltb 7 i h)

  pub trap_one : i ≤ 7
      → trap_call policy cores i trap ≡ trapped_one cores i (handle_sync_lower (regions_held (policy_at policy)) (held_core cores i) (counter_at cores) trap)
  unfolding trap_call trap_on
  trap_one h =
      let step = handle_sync_lower (regions_held (policy_at policy)) (held_core cores i) (counter_at cores) trap in
      rw (le-ltb 7 i h, core-set cores i step.core (omega arith))

-- A core of which a step keeps the registers' number is stored beside the counter.
module _ (cores : List ℕ) (i : ℕ) (c : Core) (bytes : Bytes cores) (h : i < 8) (same : length c.x ≡ length (held_core cores i).x) where
  -- the counter as it was
  pub left_alone : with_core cores i c ≡ with_counter (with_core cores i c) (counter_at cores)
  left_alone = sym (counter_kept cores i c bytes h (same ∙ core_registers cores i h))

  -- and one that may have grown
  pub grown : (after : ℕ) → cond (eqb after (counter_at cores)) (with_core cores i c) (with_counter (with_core cores i c) after) ≡ with_counter (with_core cores i c) after
  grown after = go (eqb after (counter_at cores)) refl
    where
      go : (t : Bool) → eqb after (counter_at cores) ≡ t → cond t (with_core cores i c) (with_counter (with_core cores i c) after) ≡ with_counter (with_core cores i c) after
      go true e = rw (eqb-true after (counter_at cores) e) left_alone
      go false e = refl
