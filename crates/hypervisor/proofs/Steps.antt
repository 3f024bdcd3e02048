-- A step on one of the eight cores is that core's step, and no other core changes. Assumes nothing.
use Prim.Native.Nat.{ℕ, ◌≤◌}
use mathlib.Core.Path.{◌≡◌, refl, ◌∙◌, ap}
use mathlib.Core.Bool.{Bool, true, false, cond}
use mathlib.Core.List.{List}
use native.Mathlib.Omega.{arith}
use borrow.Author.Tests.{le-ltb}
use lib.Dec.{ltb}
use lib.ListN.{length, set, length-set}
use lib.Seq.{get_or-set_same, get_or-set_other}
use Rattle.lists.proofs.Laws.{cond_same, cond_map}
use Rattle.stage2.specs.declared.Policy.{Policy}
use Rattle.stage2.specs.Policy.{regions_held}
use Rattle.data_abort.specs.declared.TrapRegisters.{TrapRegisters}
use Rattle.exceptions.specs.declared.Core.{Core}
use Rattle.exceptions.specs.Registers.{core_of, fresh_core}
use Rattle.core_answers.specs.declared.CoreStep.{CoreStep}
use Rattle.hypervisor.specs.declared.CoresStep.{CoresStep}
use Rattle.core_answers.specs.declared.CoreError.TheVariants.{NoSuchCore}
use Rattle.core_answers.specs.declared.TrapStep.{TrapStep}
use Rattle.core_answers.specs.Answers.{without_values}
use Rattle.hypervisor.specs.declared.Trapped.{Trapped}
use Rattle.hypervisor.specs.Trap.{handle_sync_lower}
use Rattle.hypervisor.specs.Cores.{on_core, trapped_by, trap_on}
use Rattle.std.specs.Prelude.{Err}

-- the cores with one of the eight replaced: a number above 7 names none
abbrev replaced : List Core → ℕ → Core → List Core
replaced cores i core = cond (ltb 7 i) cores (set cores i core)

module _ (cores : List Core) (i : ℕ) (core : Core) where
  replaced_own : i ≤ 7 → length cores ≡ 8 → core_of (replaced cores i core) i ≡ core
  replaced_own h full = rw (le-ltb 7 i h) (get_or-set_same cores i core fresh_core (omega arith))

  replaced_other : (j : ℕ) → (j ≡ i → ⊥) → core_of (replaced cores i core) j ≡ core_of cores j
  replaced_other j h =
      cond_map (λ (l : List Core). core_of l j) (ltb 7 i) cores (set cores i core)
      ∙ rw (get_or-set_other cores i j core fresh_core h) (cond_same (ltb 7 i) (core_of cores j))

  replaced_places : length (replaced cores i core) ≡ length cores
  replaced_places =
      cond_map (λ (l : List Core). length l) (ltb 7 i) cores (set cores i core)
      ∙ rw (length-set cores i core) (cond_same (ltb 7 i) (length cores))

-- A trap: what it gives of its own core is the step of that core, by the regions that are held and the counter, and depends on nothing
-- else; no other core changes.
module _ (policy : Policy) (cores : List Core) (counter i : ℕ) (trap : TrapRegisters) where
  abbrev after : Trapped
  after = trap_on policy cores counter i trap

  trap_cores : after.cores ≡ replaced cores i (handle_sync_lower (regions_held policy) (core_of cores i) counter trap).core
  unfolding trap_on
  trap_cores = cond_map (λ (t : Trapped). t.cores) (ltb 7 i) _ _

  pub trap_step : i ≤ 7 → length cores ≡ 8
      → ◌≡◌ {A = TrapStep}
      (record { result = after.result; core = core_of after.cores i; counter = after.counter })
      (handle_sync_lower (regions_held policy) (core_of cores i) counter trap)
  unfolding trap_on
  trap_step h full = rw (le-ltb 7 i h, get_or-set_same cores i _ fresh_core (omega arith))

  pub trap_others : (j : ℕ) → (j ≡ i → ⊥) → core_of after.cores j ≡ core_of cores j
  trap_others j h = rw trap_cores (replaced_other cores i _ j h)

  pub trap_places : length after.cores ≡ length cores
  trap_places = rw trap_cores (replaced_places cores i _)

  -- the policy is handed back as it was
  pub trap_policy : after.policy ≡ policy
  unfolding trap_on
  trap_policy = cond_map (λ (t : Trapped). t.policy) (ltb 7 i) _ _ ∙ cond_same (ltb 7 i) policy

-- Of policies that hold the same regions a trap makes the same, but for the policy, which it hands back.
pub trap_by_regions : (p q : Policy) (cores : List Core) (counter i : ℕ) (trap : TrapRegisters) → regions_held p ≡ regions_held q →
    let t = trap_on q cores counter i trap in
    trap_on p cores counter i trap ≡ record { result = t.result; policy = p; cores = t.cores; counter = t.counter }
unfolding trap_on
trap_by_regions p q cores counter i trap e = go (ltb 7 i)
  where
    by : Bool → Policy → Trapped
    by above policy =
        cond above (record { result = without_values (Err NoSuchCore); policy = policy; cores = cores; counter = counter })
        (trapped_by (handle_sync_lower (regions_held policy) (core_of cores i) counter trap) policy cores i)

    go : (above : Bool) → by above p ≡ record { result = (by above q).result; policy = p; cores = (by above q).cores; counter = (by above q).counter }
    go true = refl
    go false = ap (λ regions. trapped_by (handle_sync_lower regions (core_of cores i) counter trap) p cores i) e

-- A save or a reply: the same.
module _ (cores : List Core) (i : ℕ) (step : Core → CoreStep) where
  core_cores : (on_core cores i step).cores ≡ replaced cores i (step (core_of cores i)).core
  unfolding on_core
  core_cores = cond_map (λ (s : CoresStep). s.cores) (ltb 7 i) _ _

  pub core_step : i ≤ 7 → length cores ≡ 8
      → ◌≡◌ {A = CoreStep}
      (record { answer = (on_core cores i step).answer; core = core_of (on_core cores i step).cores i })
      (step (core_of cores i))
  unfolding on_core
  core_step h full = rw (le-ltb 7 i h, get_or-set_same cores i _ fresh_core (omega arith))

  pub core_others : (j : ℕ) → (j ≡ i → ⊥) → core_of (on_core cores i step).cores j ≡ core_of cores j
  core_others j h = rw core_cores (replaced_other cores i _ j h)

  pub core_places : length (on_core cores i step).cores ≡ length cores
  core_places = rw core_cores (replaced_places cores i _)
