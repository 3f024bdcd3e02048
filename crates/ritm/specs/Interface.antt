-- What each call of the C interface returns, and what the bytes that it is lent then hold, by the definitions that the library's own contracts
-- cite. Any bytes are a state. Assumes nothing.
use Rattle.std.specs.Prelude.{ℕ, List, [], ◌∷◌, get_or}
use Rattle.memory_access.specs.Syndrome.{decode_access, number_of, values_of}
use Rattle.memory_access.specs.Transfer.{extended_value}
use Rattle.stage2_range.specs.Ranges.{align_down, align_up, aligned_number, aligned_value}
use Rattle.data_abort.specs.declared.TrapRegisters.{TrapRegisters}
use Rattle.lent_words.specs.Words.{bytes_of}
pub use Rattle.lent_words.specs.Words.{Left, Leaves, unless_refused}
unfoldable pub use Rattle.lent_core.specs.Calls.{save_call, read_call, write_call}
unfoldable pub use Rattle.lent_trap.specs.LentTrap.{trap_call}
use Rattle.lent_reply.specs.LentReply.{values_size}
unfoldable pub use Rattle.lent_reply.specs.LentReply.{reply_call}
unfoldable pub use Rattle.lent_map.specs.Calls.{insert_call, get_call, remove_call}
unfoldable pub use Rattle.lent_policy.specs.Calls.{allow_call, handle_call, find_call}
unfoldable pub use Rattle.lent_import.specs.Calls.{import_call}
unfoldable pub use Rattle.lent_release.specs.Calls.{release_call}
use Rattle.lent_policy.specs.Layout.{policy_size}
use Rattle.lent_cores.specs.Layout.{cores_size, registers_size, trap_result_size}
use Rattle.lent_map.specs.Layout.{map_size}

-- the four numbers of `ritm_trap`
abbrev pub trap_registers : ℕ → ℕ → ℕ → ℕ → TrapRegisters
trap_registers esr fipa far vbar = record { esr = esr; fipa = record { 0 = fipa }; far = far; vbar = vbar }

-- `ritm_decode`: IPA, bits, WnR, Rt, SSE, SF
unfoldable pub decode_call : ℕ → ℕ → ℕ → Left
decode_call iss fipa far =
    let decoded = decode_access iss (record { 0 = fipa }) far in
    record { number = number_of decoded; state = []; result = bytes_of (values_of decoded) }

-- `ritm_extend_read_result`, by the syndrome alone
unfoldable pub extend_call : ℕ → ℕ → Left
extend_call iss value =
    let decoded = decode_access iss (record { 0 = 0 }) 0 in
    record { number = number_of decoded; state = []; result = bytes_of (extended_value decoded value ∷ []) }

-- `ritm_align_down_to_page`
unfoldable pub align_down_call : ℕ → Left
align_down_call address = record { number = 0; state = []; result = bytes_of (align_down address ∷ []) }

-- `ritm_align_up_to_page`
unfoldable pub align_up_call : ℕ → Left
align_up_call address =
    let aligned = align_up address in
    record { number = aligned_number aligned; state = []; result = bytes_of (aligned_value aligned ∷ []) }

-- the lengths of the lent buffers, in bytes: policy, cores, map, registers, values; and the results of a trap, of find, an entry, an access, a word
abbrev pub buffer_sizes : List ℕ
buffer_sizes = policy_size ∷ cores_size ∷ map_size ∷ registers_size ∷ values_size ∷ trap_result_size ∷ 24 ∷ 24 ∷ 48 ∷ 8 ∷ []

-- `ritm_buffer_size`: the length of a buffer by its number, and 0 where there is none
unfoldable pub buffer_size : ℕ → ℕ
buffer_size buffer = get_or buffer_sizes buffer 0
