-- Calls of the C interface are the host's calls on the states that the lent bytes hold, one by one and over whole lists. Assumes nothing.
use Prim.Native.Nat.{ℕ, zero, suc, ◌+◌, ◌<◌}
use mathlib.Core.Path.{◌≡◌, refl, sym, ap, ◌∙◌}
use mathlib.Core.List.{List, [], ◌∷◌, map}
use native.Mathlib.Omega.{arith}
use borrow.Author.Tests.{le-ltb}
use lib.ListN.{get_or, replicate, length-replicate}
use Rattle.lists.proofs.Laws.{cond_all}
use Rattle.lent_words.specs.Words.{word_at, words_at, bytes_of, FitsWord, Bytes, Lent}
use Rattle.lent_words.proofs.Words.{length-each}
use Rattle.lent_words.proofs.RoundTrip.{Every, word_fits}
use Rattle.lent_words.proofs.Every.{every_each}
use Rattle.stage2_range.specs.Ranges.{result_number}
use Rattle.stage2.specs.declared.Policy.{Policy}
use Rattle.stage2.specs.Policy.{handle_range, range_held, release_range}
use Rattle.exceptions.specs.declared.Core.{Core}
use Rattle.exceptions.specs.Registers.{write_gpr, write_number, core_of}
use Rattle.data_abort.specs.declared.TrapRegisters.{TrapRegisters}
use Rattle.forwarded_call.specs.ForwardedCall.{reply_core}
use Rattle.hypervisor.specs.declared.CoresStep.{CoresStep}
use Rattle.core_answers.specs.Answers.{core_number, trap_number}
use Rattle.hypervisor.specs.Cores.{fresh_cores, save_core, save_on, reply_on, trap_on}
use Rattle.hypervisor.proofs.Steps.{trap_policy}
use Rattle.simple_map.specs.declared.SimpleMap.{SimpleMap}
use Rattle.simple_map.specs.Map.{insert_item, insert_number, remove_item}
use Rattle.lent_policy.specs.Layout.{policy_at, with_regions, policy_size}
use Rattle.lent_policy.proofs.States.{fresh_policy_lem, allowed_lent, regions_lent}
use Rattle.lent_cores.specs.Layout.{cores_at, counter_at, with_core, with_counter, counter_word, cores_size, elr_word, spsr_word}
use Rattle.lent_cores.proofs.Records.{core_lent, counter_lent}
use Rattle.lent_cores.proofs.States.{fresh_cores_lem, fresh_counter}
use Rattle.lent_map.specs.Layout.{map_at, with_places, map_size}
use Rattle.lent_map.proofs.States.{fresh_map, places_lent}
use Rattle.ritm.specs.Interface.{allow_call, handle_call, import_call, release_call, save_call, trap_call, reply_call, write_call, insert_call, get_call, remove_call}
use Rattle.order_independence.specs.Calls.{State, fresh_state, answer_number, answer_values, call, call_all}
use Rattle.order_independence.proofs.Calls.{refusal_keeps}
use Rattle.lent_states.specs.LentStates.{Buffers, state_in, Entry, ritm_allow_range, ritm_handle_range, ritm_import_memory, ritm_release_range, ritm_save, ritm_trap, ritm_reply, ritm_write_gpr, ritm_insert, ritm_get, ritm_remove, left, with_policy_bytes, with_core_bytes, with_map_bytes, after_call, after_all, host_call, Typed, AllTyped, Sized}
use Rattle.lent_import.proofs.Held.{left_lent, allow_held, allow_lent}
use Rattle.lent_import.proofs.Laws.{import_held, import_lent}
use Rattle.lent_states.proofs.Policies.{handle_held, release_held}
use Rattle.lent_states.proofs.Maps.{insert_held, remove_held}
use Rattle.hypervisor.proofs.InWords.{in_saved}
use Rattle.forwarded_call.proofs.Laws.{in_replied}
use Rattle.lent_states.proofs.Cores.{Holds, stepped, written_held, trap_held}
use Rattle.lent_reply.specs.LentReply.{reply_in}
use Rattle.hvc_response.specs.Response.{reply_length}
use Rattle.lent_core.specs.Calls.{on_eight, stepped_core}

-- the words of bytes fit
words_fit : (b : List ℕ) (n : ℕ) → Bytes b → Every FitsWord (words_at b 0 n)
words_fit b n h = every_each FitsWord (λ j. word_at b (0 + j)) (λ j. word_fits b (0 + j) h) 0 n

-- so does the counter
counter_fits : (b : List ℕ) → Bytes b → FitsWord (counter_at b)
unfolding counter_at
counter_fits b h = word_fits b counter_word h

module _ (b : Buffers) (sized : Sized b) where
  -- the state where one buffer holds something else
  policy_held : (bytes : List ℕ) (policy : Policy) → policy_at bytes ≡ policy
      → state_in (with_policy_bytes b bytes) ≡ record { policy = policy; cores = cores_at b.cores; counter = counter_at b.cores; map = map_at b.map }
  policy_held bytes policy e = λ i. record { policy = e i; cores = cores_at b.cores; counter = counter_at b.cores; map = map_at b.map }

  cores_held : (bytes : List ℕ) (cores : List Core) (counter : ℕ) → Holds bytes cores counter
      → state_in (with_core_bytes b bytes) ≡ record { policy = policy_at b.policy; cores = cores; counter = counter; map = map_at b.map }
  cores_held bytes cores counter e = λ i. record { policy = policy_at b.policy; cores = e.0 i; counter = e.1 i; map = map_at b.map }

  map-held : (bytes : List ℕ) (m : SimpleMap) → map_at bytes ≡ m
      → state_in (with_map_bytes b bytes) ≡ record { policy = policy_at b.policy; cores = cores_at b.cores; counter = counter_at b.cores; map = m }
  map-held bytes m e = λ i. record { policy = policy_at b.policy; cores = cores_at b.cores; counter = counter_at b.cores; map = e i }

  -- a refused call of the host leaves the state as it was
  kept : (e : Entry) → (answer_number (call (state_in b) (host_call e)).answer ≡ 0 → ⊥) → (call (state_in b) (host_call e)).state ≡ state_in b
  kept e h = refusal_keeps (state_in b) (host_call e) h

  -- A call leaves in the bytes the state that the host's call hands back, of the state that they held.
  pub held_state : (e : Entry) → Typed e → state_in (after_call b e) ≡ (call (state_in b) (host_call e)).state
  unfolding save_call save_on reply_call reply_on trap_call get_call
  held_state (ritm_allow_range base size attributes) t =
      policy_held _ _ (allow_held b.policy base size attributes sized.policy t.0 t.1 t.2)
  held_state (ritm_handle_range base size read write) t =
      policy_held _ _ (handle_held b.policy base size read write sized.policy t.0 t.1)
  held_state (ritm_import_memory blob attributes) t =
      policy_held _ _ (import_held b.policy blob attributes sized.policy t.0 t.1)
  held_state (ritm_release_range base size) t = policy_held _ _ (release_held b.policy base size sized.policy)
  held_state (ritm_save core registers) t =
      let x = words_at registers 0 31 in
      let elr = word_at registers elr_word in
      let spsr = word_at registers spsr_word in
      cores_held _ _ _
      (stepped b.cores core sized.cores (λ c. save_core c x elr spsr)
      (λ c h. in_saved c h x elr spsr (length-each (λ j. word_at registers (0 + j)) 0 31) (words_fit registers 31 t) (word_fits registers elr_word t) (word_fits registers spsr_word t))
      (λ h. ap (λ (s : State). s.cores) (kept (ritm_save core registers) h)))
  held_state (ritm_trap core registers) t =
      let p = policy_at b.policy in
      let c = b.cores in
      let done = trap_on p (cores_at c) (counter_at c) core registers in
      cores_held _ _ _
      (trap_held c core sized.cores p registers t.0 t.1 (counter_fits c sized.cores.bytes)
      (λ h. let s = kept (ritm_trap core registers) h in (ap (λ (s : State). s.cores) s, ap (λ (s : State). s.counter) s)))
      ∙ ap (λ (q : Policy). record { policy = q; cores = done.cores; counter = done.counter; map = map_at b.map }) (sym (trap_policy p (cores_at c) (counter_at c) core registers))
  held_state (ritm_reply core kind values error) t =
      cores_held _ _ _
      (stepped b.cores core sized.cores (λ c. reply_core c (reply_in kind values error))
      (λ c h. in_replied c h (reply_in kind values error) (words_fit values reply_length t.0) t.1)
      (λ h. ap (λ (s : State). s.cores) (kept (ritm_reply core kind values error) h)))
  held_state (ritm_write_gpr core index value) t =
      cores_held _ _ _
      (written_held b.cores core sized.cores index value t.0 t.1 (λ h. ap (λ (s : State). s.cores) (kept (ritm_write_gpr core index value) h)))
  held_state (ritm_insert key entry context) t =
      map-held _ _ (insert_held b.map key sized.map entry context t.0 t.1 t.2)
  held_state (ritm_get key) t = refl
  held_state (ritm_remove key) t = map-held _ _ (remove_held b.map key sized.map)

-- The number that a call returns is that of the host's call.
pub same_number : (b : Buffers) (e : Entry) → Typed e → (left b e).number ≡ answer_number (call (state_in b) (host_call e)).answer
unfolding allow_call handle_call import_call release_call save_call reply_call stepped_core trap_call write_call insert_call get_call remove_call
same_number b (ritm_allow_range base size attributes) t = refl
same_number b (ritm_handle_range base size read write) t = refl
same_number b (ritm_import_memory blob attributes) t = refl
same_number b (ritm_release_range base size) t = refl
same_number b (ritm_save core registers) t = refl
same_number b (ritm_trap core registers) t = refl
same_number b (ritm_reply core kind values error) t = refl
same_number b (ritm_write_gpr core index value) t = rw (le-ltb 7 core t.0)
same_number b (ritm_insert key entry context) t = refl
same_number b (ritm_get key) t = refl
same_number b (ritm_remove key) t = refl

-- Its result holds the result fields of the host's answer.
pub same-result : (b : Buffers) (e : Entry) → (left b e).result ≡ bytes_of (answer_values (call (state_in b) (host_call e)).answer)
unfolding allow_call handle_call import_call release_call save_call reply_call stepped_core trap_call write_call insert_call get_call remove_call
same-result b (ritm_allow_range base size attributes) = refl
same-result b (ritm_handle_range base size read write) = refl
same-result b (ritm_import_memory blob attributes) = refl
same-result b (ritm_release_range base size) = refl
same-result b (ritm_save core registers) = refl
same-result b (ritm_trap core registers) = refl
same-result b (ritm_reply core kind values error) = refl
same-result b (ritm_write_gpr core index value) = refl
same-result b (ritm_insert key entry context) = refl
same-result b (ritm_get key) = refl
same-result b (ritm_remove key) = refl

-- Bytes that a call leaves are lent bytes.
stepped_lent : (b : List ℕ) (i : ℕ) (step : CoresStep) → Lent cores_size b → Lent cores_size (stepped_core b i step).state
unfolding stepped_core
stepped_lent b i step h =
    let core = core_of step.cores i in
    left_lent (core_number step.answer) b (with_core b i core) h (core_lent b i core h)

written_lent : (b : List ℕ) (i index value : ℕ) → Lent cores_size b → Lent cores_size (write_call b i index value).state
unfolding write_call
written_lent b i index value h =
    let w = write_gpr (core_of (cores_at b) i) index value in
    left_lent (on_eight i (write_number w.answer)) b (with_core b i w.core) h (core_lent b i w.core h)

trapped_lent : (p b : List ℕ) (i : ℕ) (trap : TrapRegisters) → Lent cores_size b → Lent cores_size (trap_call p b i trap).state
unfolding trap_call
trapped_lent p b i trap h =
    let t = trap_on (policy_at p) (cores_at b) (counter_at b) i trap in
    let core = core_of t.cores i in
    left_lent (trap_number t.result.answer) b (with_counter (with_core b i core) t.counter) h (counter_lent (with_core b i core) t.counter (core_lent b i core h))

handle_lent : (b : List ℕ) (base size read write : ℕ) → Lent policy_size b → Lent policy_size (handle_call b base size read write).state
unfolding handle_call
handle_lent b base size read write h =
    let built = handle_range (policy_at b) base size read write in
    let regions = built.policy.regions in
    let n = built.policy.region_count in
    left_lent (result_number built.answer) b (with_regions b regions n) h (regions_lent b regions n h)

release_lent : (b : List ℕ) (base size : ℕ) → Lent policy_size b → Lent policy_size (release_call b base size).state
unfolding release_call
release_lent b base size h =
    let built = release_range (policy_at b) base size in
    let next = built.policy in
    left_lent (result_number built.answer) b _ h
    (cond_all (Lent policy_size) (range_held (policy_at b) base size) _ _
    (allowed_lent b next.allowed next.allowed_count h) (regions_lent b next.regions next.region_count h))

insert_lent : (b : List ℕ) (key entry context : ℕ) → Lent map_size b → Lent map_size (insert_call b key entry context).state
unfolding insert_call
insert_lent b key entry context h =
    let inserted = insert_item (map_at b) key (record { entry_point = entry; context_id = context }) in
    left_lent (insert_number inserted.answer) b (with_places b inserted.map.items) h (places_lent b inserted.map.items h)

remove_lent : (b : List ℕ) (key : ℕ) → Lent map_size b → Lent map_size (remove_call b key).state
unfolding remove_call
remove_lent b key h = places_lent b (remove_item (map_at b) key).map.items h

-- the buffers after a call are as they must be for the next
pub still_sized : (b : Buffers) → Sized b → (e : Entry) → Sized (after_call b e)
unfolding save_call reply_call get_call
still_sized b s (ritm_allow_range base size attributes) =
    record { policy = allow_lent b.policy base size attributes s.policy; cores = s.cores; map = s.map }
still_sized b s (ritm_handle_range base size read write) =
    record { policy = handle_lent b.policy base size read write s.policy; cores = s.cores; map = s.map }
still_sized b s (ritm_import_memory blob attributes) =
    record { policy = import_lent b.policy blob attributes s.policy; cores = s.cores; map = s.map }
still_sized b s (ritm_release_range base size) =
    record { policy = release_lent b.policy base size s.policy; cores = s.cores; map = s.map }
still_sized b s (ritm_save core registers) = record { policy = s.policy; cores = stepped_lent b.cores core _ s.cores; map = s.map }
still_sized b s (ritm_trap core registers) =
    record { policy = s.policy; cores = trapped_lent b.policy b.cores core registers s.cores; map = s.map }
still_sized b s (ritm_reply core kind values error) = record { policy = s.policy; cores = stepped_lent b.cores core _ s.cores; map = s.map }
still_sized b s (ritm_write_gpr core index value) =
    record { policy = s.policy; cores = written_lent b.cores core index value s.cores; map = s.map }
still_sized b s (ritm_insert key entry context) =
    record { policy = s.policy; cores = s.cores; map = insert_lent b.map key entry context s.map }
still_sized b s (ritm_get key) = s
still_sized b s (ritm_remove key) = record { policy = s.policy; cores = s.cores; map = remove_lent b.map key s.map }

-- A list of calls leaves in the bytes the state that the host's calls hand back, one after the other.
pub held_states : (b : Buffers) → Sized b → (es : List Entry) → AllTyped es → state_in (after_all b es) ≡ call_all (state_in b) (map host_call es)
held_states b s [] t = refl
held_states b s (e ∷ es) t =
    held_states (after_call b e) (still_sized b s e) es t.1 ∙ ap (λ (state : State). call_all state (map host_call es)) (held_state b s e t.0)

-- zero bytes
abbrev zeros : Buffers
zeros = record { policy = replicate policy_size 0; cores = replicate cores_size 0; map = replicate map_size 0 }

zeros_lent : (n : ℕ) → Lent n (replicate n 0)
zeros_lent n = record { long = length-replicate n 0; bytes = go n }
  where
    go : (n i : ℕ) → get_or (replicate n 0) i 0 < 256
    go zero i = omega arith
    go (suc n) zero = omega arith
    go (suc n) (suc i) = go n i

-- From zero bytes, the bytes hold what the calls make of the fresh state.
pub from_fresh : (es : List Entry) → AllTyped es → state_in (after_all zeros es) ≡ call_all fresh_state (map host_call es)
unfolding fresh_state fresh_cores
from_fresh es t =
    held_states zeros (record { policy = zeros_lent policy_size; cores = zeros_lent cores_size; map = zeros_lent map_size }) es t
    ∙ ap (λ (s : State). call_all s (map host_call es)) (λ i. record { policy = fresh_policy_lem i; cores = fresh_cores_lem i; counter = fresh_counter i; map = fresh_map i })
