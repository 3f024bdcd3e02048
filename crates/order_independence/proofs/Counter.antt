-- The counter grows exactly where a core loads its word, in document 01's words. Assumes nothing.
use Prim.Native.Nat.{ℕ, ◌+◌, ◌%◌, ◌^◌}
use mathlib.Core.Path.{◌≡◌, refl, ap}
use mathlib.Core.Bool.{true}
use borrow.Author.Tests.{eqb-true}
use Rattle.hypervisor.specs.declared.Trapped.{Trapped}
use Rattle.order_independence.proofs.CounterWord.{word-loaded, counter_left}
use Rattle.order_independence.specs.Calls.{State, CoreCall, save, trap, reply, gpr_write, insert, get, remove, core_called}
use Rattle.order_independence.specs.Steps.{is_own, LoadsBy}
use Rattle.order_independence.specs.OrderIndependence.{Sound}

-- by 1 modulo 2^64 where one does
pub counter_grows : (key : ℕ → ℕ) (s : State) (i : ℕ) (c : CoreCall) → Sound key s → LoadsBy s i c
    → (core_called s c).state.counter ≡ (s.counter + 1) % 2 ^ 64
counter_grows key s i (save core x elr spsr) sound l = absurd l
counter_grows key s i (trap core registers) sound l =
    ap (λ (t : Trapped). t.counter) (word-loaded s.policy s.cores s.counter core registers sound.well_formed l.1)
counter_grows key s i (reply core result) sound l = absurd l
counter_grows key s i (gpr_write form core index value) sound l = absurd l
counter_grows key s i (insert k value) sound l = absurd l
counter_grows key s i (get k) sound l = absurd l
counter_grows key s i (remove k) sound l = absurd l

-- and it stays where none does
pub counter_kept : (s : State) (c : CoreCall) → ((i : ℕ) → LoadsBy s i c → ⊥) → (core_called s c).state.counter ≡ s.counter
counter_kept s (save core x elr spsr) none = refl
counter_kept s (trap core registers) none = counter_left s.policy s.cores s.counter core registers (λ l. none core (refl, l))
counter_kept s (reply core result) none = refl
counter_kept s (gpr_write form core index value) none = refl
counter_kept s (insert k value) none = refl
counter_kept s (get k) none = refl
counter_kept s (remove k) none = refl

-- a core's own step that loads it is a load by that core
pub own_load : (key : ℕ → ℕ) (s : State) (i j : ℕ) (c : CoreCall) → is_own key i c ≡ true → LoadsBy s j c → LoadsBy s i c
own_load key s i j (save core x elr spsr) o l = l
own_load key s i j (trap core registers) o l = (eqb-true core i o, l.1)
own_load key s i j (reply core result) o l = l
own_load key s i j (gpr_write form core index value) o l = l
own_load key s i j (insert k value) o l = l
own_load key s i j (get k) o l = l
own_load key s i j (remove k) o l = l
