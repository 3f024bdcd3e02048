-- `allow_range` on lent bytes: the policy that the bytes then hold is the one that the library's call hands back, and they are lent bytes.
-- Assumes nothing.
use Prim.Native.Nat.{ℕ, ◌+◌}
use mathlib.Core.Path.{◌≡◌, refl, ap, ◌∙◌}
use mathlib.Core.List.{List}
use native.Mathlib.Omega.{arith}
use borrow.Author.Tests.{ne_eqb}
use lib.Dec.{eqb}
use lib.ListN.{set, length-set}
use Rattle.lists.proofs.Laws.{cond_all}
use Rattle.lent_words.specs.Words.{FitsWord, Lent, unless_refused}
use Rattle.lent_words.proofs.Words.{length-each}
use Rattle.lent_words.proofs.Every.{every_each, every_set}
use Rattle.stage2_range.specs.Ranges.{range_of, error_number, result_number}
use Rattle.stage2_range.proofs.Ranges.{error_not_zero}
use Rattle.stage2.specs.declared.Policy.{Policy}
use Rattle.stage2.specs.Policy.{built_by, allow_answer, allow_range}
use Rattle.stage2.specs.Policy as policy
use Rattle.stage2.proofs.Laws.{allow_accepted}
use Rattle.lent_policy.specs.Layout.{policy_size, range_at, policy_at, with_allowed}
use Rattle.lent_policy.specs.Calls.{allow_call}
use Rattle.lent_policy.proofs.Records.{RangeFits, asked_range_fits, range_fits}
use Rattle.lent_policy.proofs.States.{allowed_back, allowed_lent}
use Rattle.std.specs.Prelude.{Err, Ok, Result, ⊤}
use Rattle.stage2_range.specs.declared.Stage2ConfigError.{Stage2ConfigError}

-- the policy that the bytes hold
pub allow_held : (b : List ℕ) (base size attributes : ℕ) → Lent policy_size b → FitsWord base → FitsWord size → FitsWord attributes
    → policy_at (allow_call b base size attributes).state ≡ (allow_range (policy_at b) base size attributes).policy
unfolding allow_call allow_range policy_at policy.add_allowed
allow_held b base size attributes lent f g h = go (allow_answer p base size) refl
  where
    p : Policy
    p = policy_at b

    next : Policy
    next = policy.add_allowed p (range_of base size attributes)

    go : (answer : Result ⊤ Stage2ConfigError) → allow_answer p base size ≡ answer
        → policy_at (unless_refused (result_number (built_by answer p next).answer) b (with_allowed b (built_by answer p next).policy.allowed (built_by answer p next).policy.allowed_count))
        ≡ (built_by answer p next).policy
    go (Err e) q = rw (ne_eqb (error_number e) 0 (error_not_zero e))
    go (Ok _) q =
        let can = allow_accepted p base size attributes (ap (λ a. (built_by a p next).answer) q) in
        let ranges = p.allowed in
        allowed_back b (set ranges p.allowed_count (range_of base size attributes)) (p.allowed_count + 1) lent.long
        (length-set ranges p.allowed_count (range_of base size attributes) ∙ length-each (range_at b) 0 32)
        (every_set RangeFits ranges p.allowed_count (range_of base size attributes) (every_each RangeFits (range_at b) (range_fits b lent.bytes) 0 32) (asked_range_fits base size attributes f g h))
        (omega (arith, can.room))

-- bytes that a call leaves are lent bytes
pub left_lent : {n : ℕ} (number : ℕ) (b next : List ℕ) → Lent n b → Lent n next → Lent n (unless_refused number b next)
left_lent {n} number b next h k = cond_all (Lent n) (eqb number 0) next b k h

pub allow_lent : (b : List ℕ) (base size attributes : ℕ) → Lent policy_size b → Lent policy_size (allow_call b base size attributes).state
unfolding allow_call
allow_lent b base size attributes h =
    let built = allow_range (policy_at b) base size attributes in
    let ranges = built.policy.allowed in
    let n = built.policy.allowed_count in
    left_lent (result_number built.answer) b (with_allowed b ranges n) h (allowed_lent b ranges n h)
