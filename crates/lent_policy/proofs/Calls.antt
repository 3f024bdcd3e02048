-- What the builder's calls leave, by what they answer. Assumes nothing.
use Prim.Native.Nat.{ℕ, ◌+◌, ◌<◌}
use mathlib.Core.Path.{◌≡◌, sym, ◌∙◌}
use mathlib.Core.List.{List, []}
use native.Mathlib.Omega.{arith}
use borrow.Author.Tests.{ne_eqb}
use lib.ListN.{set}
use Rattle.stage2_range.specs.declared.Stage2ConfigError.{Stage2ConfigError}
use Rattle.stage2_range.specs.Ranges.{error_number, range_of}
use Rattle.stage2_range.specs.Registry.{region_of, insert_region}
use Rattle.stage2.specs.Policy.{allow_answer, add_allowed, allow_range, handle_answer, add_region, handle_range}
use Rattle.stage2_range.proofs.Ranges.{error_not_zero}
use Rattle.stage2.proofs.Laws.{allow_answer_lem, allow_accepted, handle_answer_lem, handle_accepted}
use Rattle.lent_words.specs.Words.{word_at, each, Left}
use Rattle.lent_policy.specs.Layout.{allowed_count_at, region_count_at, range_at, region_at, policy_at, with_allowed, with_regions}
use Rattle.lent_policy.specs.Calls.{allow_call, handle_call}
use Rattle.lent_policy.proofs.States.{allowed_count, region_count}
use Rattle.std.specs.Prelude.{Err, Ok, Result, ⊤}

-- a refusal leaves the bytes as they were
abbrev pub refused : List ℕ → Stage2ConfigError → Left
refused b e = record { number = error_number e; state = b; result = [] }

-- an accepted call leaves these
abbrev pub done : List ℕ → Left
done b = record { number = 0; state = b; result = [] }

-- The answer of `allow_range`.
module _ (b : List ℕ) (base size attributes : ℕ) {answer : Result ⊤ Stage2ConfigError} (told : answer ≡ allow_answer (policy_at b) base size) where
  pub allow_refused : (e : Stage2ConfigError) → answer ≡ Err e → allow_call b base size attributes ≡ refused b e
  unfolding allow_call allow_range
  allow_refused e h = rw (← told, h, ne_eqb (error_number e) 0 (error_not_zero e))

  pub allow_done : answer ≡ Ok tt →
      let count = word_at b allowed_count_at in
      allow_call b base size attributes ≡ done (with_allowed b (set (each (range_at b) 0 32) count (range_of base size attributes)) (count + 1))
  unfolding allow_call allow_range add_allowed policy_at
  allow_done h = rw (← told, h)

  -- there was room
  pub allow_room : answer ≡ Ok tt → word_at b allowed_count_at < 32
  allow_room h =
      let p = policy_at b in
      omega (arith, (allow_accepted p base size attributes (allow_answer_lem p base size attributes ∙ sym told ∙ h)).room, allowed_count b)

-- The answer of `handle_range`.
module _ (b : List ℕ) (base size read write : ℕ) {answer : Result ⊤ Stage2ConfigError} (told : answer ≡ handle_answer (policy_at b) base size read write) where
  pub handle_refused : (e : Stage2ConfigError) → answer ≡ Err e → handle_call b base size read write ≡ refused b e
  unfolding handle_call handle_range
  handle_refused e h = rw (← told, h, ne_eqb (error_number e) 0 (error_not_zero e))

  pub handle_done : answer ≡ Ok tt →
      let count = word_at b region_count_at in
      handle_call b base size read write ≡ done (with_regions b (insert_region (each (region_at b) 0 16) count (region_of base size read write)) (count + 1))
  unfolding handle_call handle_range add_region policy_at
  handle_done h = rw (← told, h)

  -- there was room
  pub handle_room : answer ≡ Ok tt → word_at b region_count_at < 16
  handle_room h =
      let p = policy_at b in
      omega (arith, (handle_accepted p base size read write (handle_answer_lem p base size read write ∙ sym told ∙ h)).room, region_count b)
