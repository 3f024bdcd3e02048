-- The calls of the C interface that are document 01's builder calls and core steps, imports and releases, on the bytes that a host lends, beside
-- the calls that they are. Assumes nothing.
use Rattle.std.specs.Prelude.{ℕ, ◌≤◌, ℤ, List, [], ◌∷◌}
use Rattle.lent_words.specs.Words.{word_at, words_at, FitsWord, Bytes, Lent}
use Rattle.stage2.specs.Builds.{allow, handle}
use Rattle.memory_import.specs.Changes.{builder, import_devicetree}
use Rattle.data_abort.specs.declared.TrapRegisters.{TrapRegisters}
use Rattle.hvc_response.specs.Response.{signed_word}
use Rattle.lent_policy.specs.Layout.{policy_at, policy_size}
use Rattle.lent_cores.specs.Layout.{cores_at, counter_at, elr_word, spsr_word, cores_size}
use Rattle.lent_map.specs.Layout.{map_at, map_size}
use Rattle.ritm.specs.Interface.{Left, allow_call, handle_call, import_call, release_call, save_call, trap_call, reply_call, write_call, insert_call, get_call, remove_call}
use Rattle.order_independence.specs.Calls.{State, HostCall, change, core_call, release_of, save, trap, reply, gpr_write, by_value, insert, get, remove}
use Rattle.lent_reply.specs.LentReply.{reply_in}

-- the bytes that a host lends
pub record Buffers : Type 0 where
  pub policy : List ℕ
  pub cores : List ℕ
  pub map : List ℕ

-- the state that they hold
abbrev pub state_in : Buffers → State
state_in b = record { policy = policy_at b.policy; cores = cores_at b.cores; counter = counter_at b.cores; map = map_at b.map }

-- a call of an exported function: numbers, and what it reads of further bytes
pub data Entry : Type 0 where
  ritm_allow_range : (base size attributes : ℕ) → Entry
  ritm_handle_range : (base size read write : ℕ) → Entry
  ritm_import_memory : (blob : List ℕ) (attributes : ℕ) → Entry
  ritm_release_range : (base size : ℕ) → Entry
  ritm_save : (core : ℕ) (registers : List ℕ) → Entry
  ritm_trap : (core : ℕ) (registers : TrapRegisters) → Entry
  ritm_reply : (core kind : ℕ) (values : List ℕ) (error : ℤ) → Entry
  ritm_write_gpr : (core index value : ℕ) → Entry
  ritm_insert : (key entry context : ℕ) → Entry
  ritm_get : (key : ℕ) → Entry
  ritm_remove : (key : ℕ) → Entry

-- what it leaves, by the definition that its contract cites
abbrev pub left : Buffers → Entry → Left
left b (ritm_allow_range base size attributes) = allow_call b.policy base size attributes
left b (ritm_handle_range base size read write) = handle_call b.policy base size read write
left b (ritm_import_memory blob attributes) = import_call b.policy blob attributes
left b (ritm_release_range base size) = release_call b.policy base size
left b (ritm_save core registers) = save_call b.cores core registers
left b (ritm_trap core registers) = trap_call b.policy b.cores core registers
left b (ritm_reply core kind values error) = reply_call b.cores core kind values error
left b (ritm_write_gpr core index value) = write_call b.cores core index value
left b (ritm_insert key entry context) = insert_call b.map key entry context
left b (ritm_get key) = get_call b.map key
left b (ritm_remove key) = remove_call b.map key

-- a buffer replaced
abbrev pub with_policy_bytes : Buffers → List ℕ → Buffers
with_policy_bytes b bytes = record { policy = bytes; cores = b.cores; map = b.map }

abbrev pub with_core_bytes : Buffers → List ℕ → Buffers
with_core_bytes b bytes = record { policy = b.policy; cores = bytes; map = b.map }

abbrev pub with_map_bytes : Buffers → List ℕ → Buffers
with_map_bytes b bytes = record { policy = b.policy; cores = b.cores; map = bytes }

-- the bytes after it: a call is lent one state to change
abbrev pub after_call : Buffers → Entry → Buffers
after_call b (ritm_allow_range base size attributes) = with_policy_bytes b (left b (ritm_allow_range base size attributes)).state
after_call b (ritm_handle_range base size read write) = with_policy_bytes b (left b (ritm_handle_range base size read write)).state
after_call b (ritm_import_memory blob attributes) = with_policy_bytes b (left b (ritm_import_memory blob attributes)).state
after_call b (ritm_release_range base size) = with_policy_bytes b (left b (ritm_release_range base size)).state
after_call b (ritm_save core registers) = with_core_bytes b (left b (ritm_save core registers)).state
after_call b (ritm_trap core registers) = with_core_bytes b (left b (ritm_trap core registers)).state
after_call b (ritm_reply core kind values error) = with_core_bytes b (left b (ritm_reply core kind values error)).state
after_call b (ritm_write_gpr core index value) = with_core_bytes b (left b (ritm_write_gpr core index value)).state
after_call b (ritm_insert key entry context) = with_map_bytes b (left b (ritm_insert key entry context)).state
after_call b (ritm_get key) = with_map_bytes b (left b (ritm_get key)).state
after_call b (ritm_remove key) = with_map_bytes b (left b (ritm_remove key)).state

-- the bytes after a list of calls
abbrev pub after_all : Buffers → List Entry → Buffers
after_all b [] = b
after_all b (e ∷ es) = after_all (after_call b e) es

-- the host's call that it is, on states: `order_independence` has its meaning
abbrev pub host_call : Entry → HostCall
host_call (ritm_allow_range base size attributes) = change (builder (allow base size attributes))
host_call (ritm_handle_range base size read write) = change (builder (handle base size read write))
host_call (ritm_import_memory blob attributes) = change (import_devicetree blob attributes)
host_call (ritm_release_range base size) = release_of base size
host_call (ritm_save core registers) = core_call (save core (words_at registers 0 31) (word_at registers elr_word) (word_at registers spsr_word))
host_call (ritm_trap core registers) = core_call (trap core registers)
host_call (ritm_reply core kind values error) = core_call (reply core (reply_in kind values error))
host_call (ritm_write_gpr core index value) = core_call (gpr_write by_value core index value)
host_call (ritm_insert key entry context) = core_call (insert key (record { entry_point = entry; context_id = context }))
host_call (ritm_get key) = core_call (get key)
host_call (ritm_remove key) = core_call (remove key)

-- what C's types say of the arguments: numbers fit 64 bits, bytes are bytes; and `write_gpr` is "on a record of the eight"
abbrev pub Typed : Entry → Type 0
Typed (ritm_allow_range base size attributes) = FitsWord base × FitsWord size × FitsWord attributes
Typed (ritm_handle_range base size read write) = FitsWord base × FitsWord size
Typed (ritm_import_memory blob attributes) = Bytes blob × FitsWord attributes
Typed (ritm_release_range base size) = Unit {0}
Typed (ritm_save core registers) = Bytes registers
Typed (ritm_trap core registers) = FitsWord registers.esr × FitsWord registers.far
Typed (ritm_reply core kind values error) = Bytes values × FitsWord (signed_word error)
Typed (ritm_write_gpr core index value) = (core ≤ 7) × FitsWord value
Typed (ritm_insert key entry context) = FitsWord key × FitsWord entry × FitsWord context
Typed (ritm_get key) = Unit {0}
Typed (ritm_remove key) = Unit {0}

-- and of the buffers: their lengths
pub record Sized (b : Buffers) : Type 0 where
  pub policy : Lent policy_size b.policy
  pub cores : Lent cores_size b.cores
  pub map : Lent map_size b.map

-- the arguments of every call
abbrev pub AllTyped : List Entry → Type 0
AllTyped [] = Unit {0}
AllTyped (e ∷ es) = Typed e × AllTyped es
