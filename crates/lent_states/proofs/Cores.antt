-- Calls on lent cores: the cores and the counter that the bytes then hold are those that the library's call hands back. Assumes nothing.
use Prim.Native.Nat.{ℕ, ◌≤◌}
use mathlib.Core.Path.{◌≡◌, refl, sym, subst, ◌∙◌}
use mathlib.Core.Bool.{Bool, true, false, cond}
use mathlib.Core.List.{List}
use native.Mathlib.Omega.{arith}
use borrow.Author.Tests.{ltb-false, eqb-true, eqb-false, le-ltb}
use lib.Dec.{eqb, ltb}
use lib.ListN.{set}
use Rattle.lent_words.specs.Words.{FitsWord, Lent}
use Rattle.stage2.specs.declared.Policy.{Policy}
use Rattle.stage2.specs.Policy.{regions_held}
use Rattle.exceptions.specs.declared.Core.{Core}
use Rattle.exceptions.specs.Registers.{write_gpr, write_number, core_of, fresh_core}
use Rattle.data_abort.specs.declared.TrapRegisters.{TrapRegisters}
use Rattle.core_answers.specs.declared.CoreError.TheVariants.{NoSuchCore}
use Rattle.core_answers.specs.declared.CoreStep.{CoreStep}
use Rattle.hypervisor.specs.declared.CoresStep.{CoresStep}
use Rattle.hypervisor.specs.declared.Trapped.{Trapped}
use Rattle.core_answers.specs.Answers.{core_number, trap_number, without_values}
use Rattle.hypervisor.specs.Trap.{handle_sync_lower}
use Rattle.hypervisor.specs.Cores.{no_such_core, placed, on_core, trapped_by, trap_on}
use Rattle.lent_cores.specs.Layout.{cores_at, with_core, counter_at, with_counter, cores_size}
use Rattle.lent_cores.proofs.Records.{core_of_lem, core-set, core_in_words, core_counter, core_lent, counter_back}
use Rattle.lent_cores.proofs.States.{cores_back, counter_cores}
use Rattle.lent_words.specs.Words.{unless_refused}
use Rattle.lent_core.specs.Calls.{stepped_core, write_call}
use Rattle.exceptions.proofs.InWords.{InWords, in_written}
use Rattle.hypervisor.proofs.InWords.{in_trapped}
use Rattle.std.specs.Prelude.{Err, Ok}

-- bytes hold these cores and this counter
abbrev pub Holds : List ℕ → List Core → ℕ → Type 0
Holds b cores counter = (cores_at b ≡ cores) × (counter_at b ≡ counter)

module _ (b : List ℕ) (i : ℕ) (lent : Lent cores_size b) where
  -- a core that bytes hold, in words
  one : i ≤ 7 → InWords (core_of (cores_at b) i)
  one h = subst InWords (sym (core_of_lem b i fresh_core (omega arith))) (core_in_words b lent.bytes i)

  -- a core that is stored
  stored : (c : Core) → i ≤ 7 → InWords c → Holds (with_core b i c) (set (cores_at b) i c) (counter_at b)
  stored c h w = (cores_back b i c lent (omega arith) w, core_counter b i c (omega arith) w.registers)

  -- a core and the counter that are stored
  stored_both : (c : Core) (n : ℕ) → i ≤ 7 → InWords c → FitsWord n → Holds (with_counter (with_core b i c) n) (set (cores_at b) i c) n
  stored_both c n h w f =
      let d = with_core b i c in
      (counter_cores d n ∙ (stored c h w).0, counter_back d n (core_lent b i c lent).long f)

  -- what is stored where a call is accepted, and kept where it is refused
  by_number : (number : ℕ) (next : List ℕ) (cores : List Core) (counter : ℕ) → (number ≡ 0 → Holds next cores counter)
      → ((number ≡ 0 → ⊥) → Holds b cores counter) → Holds (unless_refused number b next) cores counter
  by_number number next cores counter accepted refused = go (eqb number 0) refl
    where
      go : (t : Bool) → eqb number 0 ≡ t → Holds (cond t next b) cores counter
      go true e = accepted (eqb-true number 0 e)
      go false e = refused (eqb-false number 0 e)

  -- `ritm_save` and `ritm_reply`: a step of one of the eight
  pub stepped : (step : Core → CoreStep) → ((c : Core) → InWords c → InWords (step c).core)
      → ((core_number (on_core (cores_at b) i step).answer ≡ 0 → ⊥) → (on_core (cores_at b) i step).cores ≡ cores_at b)
      → Holds (stepped_core b i (on_core (cores_at b) i step)).state (on_core (cores_at b) i step).cores (counter_at b)
  unfolding stepped_core on_core
  stepped step good kept =
      let s = on_core (cores_at b) i step in
      by_number (core_number s.answer) (with_core b i (core_of s.cores i)) s.cores (counter_at b) (go (ltb 7 i) refl) (λ h. (sym (kept h), refl))
    where
      done : Core
      done = (step (core_of (cores_at b) i)).core

      s_of : Bool → CoresStep
      s_of t = cond t (no_such_core (cores_at b)) (placed (cores_at b) i (step (core_of (cores_at b) i)))

      go : (t : Bool) → ltb 7 i ≡ t → core_number (s_of t).answer ≡ 0 → Holds (with_core b i (core_of (s_of t).cores i)) (s_of t).cores (counter_at b)
      go true e h = absurd (omega (arith, h))
      go false e h =
          let within = ltb-false 7 i e in
          rw (core-set b i done (omega (arith, within)))
          (stored done (omega arith) (good (core_of (cores_at b) i) (one (omega arith))))

  -- `ritm_write_gpr`
  pub written_held : (index value : ℕ) → i ≤ 7 → FitsWord value →
      let w = write_gpr (core_of (cores_at b) i) index value in
      ((write_number w.answer ≡ 0 → ⊥) → set (cores_at b) i w.core ≡ cores_at b)
      → Holds (write_call b i index value).state (set (cores_at b) i w.core) (counter_at b)
  unfolding write_call
  written_held index value h f kept =
      let w = write_gpr (core_of (cores_at b) i) index value in
      rw (le-ltb 7 i h)
      (by_number (write_number w.answer) (with_core b i w.core) (set (cores_at b) i w.core) (counter_at b)
      (λ z. stored w.core h (in_written (core_of (cores_at b) i) (one h) index value f))
      (λ z. (sym (kept z), refl)))

  -- `ritm_trap`
  pub trap_held : (policy : Policy) (trap : TrapRegisters) → FitsWord trap.esr → FitsWord trap.far → FitsWord (counter_at b) →
      let t = trap_on policy (cores_at b) (counter_at b) i trap in
      ((trap_number t.result.answer ≡ 0 → ⊥) → (t.cores ≡ cores_at b) × (t.counter ≡ counter_at b))
      → Holds (unless_refused (trap_number t.result.answer) b (with_counter (with_core b i (core_of t.cores i)) t.counter)) t.cores t.counter
  unfolding trap_on
  trap_held policy trap e f n kept =
      let t = trap_on policy (cores_at b) (counter_at b) i trap in
      by_number (trap_number t.result.answer) (with_counter (with_core b i (core_of t.cores i)) t.counter) t.cores t.counter (go (ltb 7 i) refl)
      (λ h. (sym (kept h).0, sym (kept h).1))
    where
      core : Core
      core = core_of (cores_at b) i

      t_of : Bool → Trapped
      t_of u =
          cond u
          (record { result = without_values (Err NoSuchCore); policy = policy; cores = cores_at b; counter = counter_at b })
          (trapped_by (handle_sync_lower (regions_held policy) core (counter_at b) trap) policy (cores_at b) i)

      go : (u : Bool) → ltb 7 i ≡ u → trap_number (t_of u).result.answer ≡ 0
          → Holds (with_counter (with_core b i (core_of (t_of u).cores i)) (t_of u).counter) (t_of u).cores (t_of u).counter
      go true q h = absurd (omega (arith, h))
      go false q h =
          let within = ltb-false 7 i q in
          let good = in_trapped (regions_held policy) core (counter_at b) trap (one (omega arith)) n e f in
          let done = handle_sync_lower (regions_held policy) core (counter_at b) trap in
          rw (core-set b i done.core (omega (arith, within)))
          (stored_both done.core done.counter (omega arith) good.0 good.1)
