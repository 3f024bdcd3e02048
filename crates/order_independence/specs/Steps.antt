-- Whose step a core step is, and when it loads the counter word (document 01, "Two runs side by side"). The key of core `i` is `key i`.
-- Assumes nothing.
use Rattle.std.specs.Prelude.{ℕ, ◌<◌, ◌≡◌, Bool, false, ◌⊎◌, eqb, ltb}
use mathlib.Core.List.{List, [], ◌∷◌, Memᴰ}
use Rattle.order_independence.specs.CounterWord.{LoadsCounterWord}
use Rattle.order_independence.specs.Calls.{State, CoreCall, save, trap, reply, gpr_write, insert, get, remove, core_called}

-- a core's own steps: those on its number, and "steps of the core whose key they name"
abbrev pub is_own : (ℕ → ℕ) → ℕ → CoreCall → Bool
is_own key i (save core x elr spsr) = eqb core i
is_own key i (trap core registers) = eqb core i
is_own key i (reply core result) = eqb core i
is_own key i (gpr_write form core index value) = eqb core i
is_own key i (insert k value) = eqb k (key i)
is_own key i (get k) = eqb k (key i)
is_own key i (remove k) = eqb k (key i)

-- "those on a number above 7": save, trap and reply
abbrev pub is_above : CoreCall → Bool
is_above (save core x elr spsr) = ltb 7 core
is_above (trap core registers) = ltb 7 core
is_above (reply core result) = ltb 7 core
is_above (gpr_write form core index value) = false
is_above (insert k value) = false
is_above (get k) = false
is_above (remove k) = false

-- the key of one of the eight cores
abbrev pub IsKey : (ℕ → ℕ) → ℕ → Type 0
IsKey key k = (i : ℕ) × (i < 8) × (k ≡ key i)

-- "`write_gpr` .. on a record of the eight"; "no step names any other key"
abbrev pub Named : (ℕ → ℕ) → CoreCall → Type 0
Named key (save core x elr spsr) = Unit {0}
Named key (trap core registers) = Unit {0}
Named key (reply core result) = Unit {0}
Named key (gpr_write form core index value) = core < 8
Named key (insert k value) = IsKey key k
Named key (get k) = IsKey key k
Named key (remove k) = IsKey key k

-- the same of every step of a list
abbrev pub AllNamed : (ℕ → ℕ) → List CoreCall → Type 0
AllNamed key steps = (c : CoreCall) → Memᴰ c steps → Named key c

-- core `i` loads the counter word by a step
abbrev pub LoadsBy : State → ℕ → CoreCall → Type 0
LoadsBy s i (trap core registers) = (core ≡ i) × LoadsCounterWord s.policy s.cores s.counter core registers
LoadsBy s i (save core x elr spsr) = ⊥
LoadsBy s i (reply core result) = ⊥
LoadsBy s i (gpr_write form core index value) = ⊥
LoadsBy s i (insert k value) = ⊥
LoadsBy s i (get k) = ⊥
LoadsBy s i (remove k) = ⊥

-- core `i` loads the counter word in a run
abbrev pub Loads : State → ℕ → List CoreCall → Type 0
Loads s i [] = ⊥
Loads s i (c ∷ cs) = LoadsBy s i c ⊎ Loads (core_called s c).state i cs
