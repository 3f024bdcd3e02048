-- The calls of pairs on lent bytes, one by one, and what an import makes of them. Assumes nothing.
use Prim.Native.Nat.{ℕ}
use mathlib.Core.Path.{◌≡◌, refl, sym, ◌∙◌, ap}
use mathlib.Core.List.{List, [], ◌∷◌}
use lib.ListN.{length}
use Rattle.fdt_tokens.specs.Devicetree.{Pair}
use Rattle.fdt.specs.declared.Cursor.{Cursor}
use Rattle.fdt_nodes.specs.declared.DevicetreeError.{DevicetreeError}
use Rattle.fdt_nodes.specs.declared.DevicetreeError.TheVariants.{Invalid}
use Rattle.fdt_nodes.specs.declared.DevicetreeError.TheVariants as devicetree
use Rattle.std.specs.Prelude.{Result, Ok, Err}
use Rattle.fdt.specs.Blob.{memory_of, pairs_left, blob_answer}
use Rattle.stage2_range.specs.declared.Stage2ConfigError.{Stage2ConfigError}
use Rattle.stage2_range.specs.declared.Stage2ConfigError.TheVariants.{InvalidDevicetree, UnsupportedCellCounts}
use Rattle.stage2_range.specs.Ranges.{after, error_number, result_number}
use Rattle.stage2_range.proofs.Ranges.{not_after, error_not_zero, zero_accepted}
use Rattle.lists.proofs.Every.{Every}
use Rattle.stage2.specs.declared.Policy.{Policy}
use Rattle.stage2.specs.declared.Built.{Built}
use Rattle.stage2.specs.Policy.{built_by, allow_range}
use Rattle.stage2.specs.Builds.{BuilderCall, build_all}
use Rattle.memory_import.specs.Import.{allow_calls, pairs_in, reading, import_calls, answer_of_all, import_answer, import_memory}
use Rattle.memory_import.proofs.Laws.{import_invalid, import_unsupported, import_pairs}
use Rattle.lent_words.specs.Words.{FitsWord, Bytes, Lent, Left, unless_refused}
use Rattle.lent_words.proofs.Words.{length-each}
use Rattle.lent_words.proofs.Left.{when_accepted, when_refused}
use Rattle.lent_policy.specs.Layout.{policy_size, range_at, policy_at, with_allowed_of}
use Rattle.lent_policy.specs.Calls.{allow_call}
use Rattle.lent_policy.proofs.InPlace.{allowed_again, allowed_rewritten}
use Rattle.lent_import.specs.Calls.{calls_number, calls_bytes, calls_leave, import_call}
use Rattle.lent_import.proofs.Held.{left_lent, allow_held, allow_lent}
use Rattle.lent_import.proofs.Fits.{PairFits, pairs_fit}
use Rattle.lent_policy.proofs.States.{allowed_lent}
use Rattle.std.specs.Prelude.{Err, Ok, Result, ⊤}

-- from the bytes `b` on the calls left come to what all calls come to from the bytes `first`
pub record Allowing (first : List ℕ) (all : List BuilderCall) (b : List ℕ) (calls : List BuilderCall) : Type 0 where
  pub lent : Lent policy_size b
  pub answer : answer_of_all (policy_at b) calls ≡ answer_of_all (policy_at first) all
  pub policy : build_all (policy_at b) calls ≡ build_all (policy_at first) all
  pub bytes : b ≡ with_allowed_of first (policy_at b)

pub allow_start : (b : List ℕ) (calls : List BuilderCall) → Lent policy_size b → Allowing b calls b calls
unfolding policy_at
allow_start b calls lent = record { lent = lent; answer = refl; policy = refl; bytes = sym (allowed_rewritten b lent) }

-- 32 places are read, whatever the bytes are
places : (b : List ℕ) → length (policy_at b).allowed ≡ 32
unfolding policy_at
places b = length-each (range_at b) 0 32

-- a number that is that of a refusal is the answer's
number-after : (s rest : Result ⊤ Stage2ConfigError) → (result_number s ≡ 0 → ⊥) → result_number s ≡ result_number (after s rest)
number-after (Ok _) rest h = absurd (h refl)
number-after (Err e) rest h = refl

-- what `allow_range` leaves where it accepts
left_allowed : (b : List ℕ) (base size attributes : ℕ) → (allow_call b base size attributes).number ≡ 0
    → (allow_call b base size attributes).state ≡ with_allowed_of b (allow_range (policy_at b) base size attributes).policy
unfolding allow_call
left_allowed b base size attributes h =
    let p = allow_range (policy_at b) base size attributes in
    when_accepted (result_number p.answer) b (with_allowed_of b p.policy) h

call-number : (b : List ℕ) (base size attributes : ℕ)
    → (allow_call b base size attributes).number ≡ result_number (allow_range (policy_at b) base size attributes).answer
unfolding allow_call
call-number b base size attributes = refl

-- No pair is left.
pub none_left : (attributes : ℕ) (l : List Pair) → l ≡ [] → {first b : List ℕ} {all : List BuilderCall} → Allowing first all b (allow_calls attributes l)
    → (0 ≡ calls_number first all) × (b ≡ calls_bytes first all)
none_left attributes l n {first = first} {b = b} inv = (
  ap result_number (ap (λ m. answer_of_all (policy_at b) (allow_calls attributes m)) (sym n) ∙ inv.answer),
  inv.bytes ∙ ap (with_allowed_of first) (ap (λ m. build_all (policy_at b) (allow_calls attributes m)) (sym n) ∙ inv.policy),
)

-- The next pair `x`, and those after it.
module _ (attributes : ℕ) (l : List Pair) (x : Pair) (later : List Pair) (e : l ≡ x ∷ later)
    {first b : List ℕ} {all : List BuilderCall} (inv : Allowing first all b (allow_calls attributes l)) where
  abbrev left : Left
  left = allow_call b x.base x.size attributes

  abbrev next : Built
  next = allow_range (policy_at b) x.base x.size attributes

  pub one_refused : (left.number ≡ 0 → ⊥) → left.number ≡ calls_number first all
  one_refused n =
      let c = call-number b x.base x.size attributes in
      c ∙ (number-after next.answer (answer_of_all next.policy (allow_calls attributes later)) (λ z. n (c ∙ z))
      ∙ ap result_number (ap (λ m. answer_of_all (policy_at b) (allow_calls attributes m)) (sym e) ∙ inv.answer))

  pub one_allowed : FitsWord x.base → FitsWord x.size → FitsWord attributes → left.number ≡ 0
      → Allowing first all left.state (allow_calls attributes later)
  one_allowed fb fs fa n =
      let held = allow_held b x.base x.size attributes inv.lent fb fs fa in
      let accepted = zero_accepted next.answer (sym (call-number b x.base x.size attributes) ∙ n) in
      record {
        lent = allow_lent b x.base x.size attributes inv.lent;
        answer = ap (λ p. answer_of_all p (allow_calls attributes later)) held
            ∙ (ap (λ s. after s (answer_of_all next.policy (allow_calls attributes later))) (sym accepted)
            ∙ (ap (λ k. answer_of_all (policy_at b) (allow_calls attributes k)) (sym e) ∙ inv.answer));
        policy = ap (λ p. build_all p (allow_calls attributes later)) held
            ∙ (ap (λ k. build_all (policy_at b) (allow_calls attributes k)) (sym e) ∙ inv.policy);
        bytes = left_allowed b x.base x.size attributes n
            ∙ (ap (λ p. with_allowed_of b p) (sym held)
            ∙ (ap (λ c. with_allowed_of c (policy_at left.state)) inv.bytes
            ∙ allowed_again first (policy_at b).allowed (policy_at b).allowed_count (policy_at left.state).allowed (policy_at left.state).allowed_count (places b) (places left.state)));
      }

-- calls that are refused leave the bytes
pub all_refused : (b : List ℕ) (calls : List BuilderCall) (n : ℕ) → n ≡ calls_number b calls → (n ≡ 0 → ⊥) → b ≡ (calls_leave b calls).state
all_refused b calls n e h = sym (when_refused (calls_number b calls) b (calls_bytes b calls) (λ z. h (e ∙ z)))

-- and that are accepted change them
pub all_allowed : (b c : List ℕ) (calls : List BuilderCall) (n : ℕ) → n ≡ calls_number b calls → n ≡ 0 → c ≡ calls_bytes b calls → c ≡ (calls_leave b calls).state
all_allowed b c calls n e z k = k ∙ sym (when_accepted (calls_number b calls) b (calls_bytes b calls) (sym e ∙ z))

-- An import, by what was read.
module _ (b blob : List ℕ) (attributes : ℕ) {m : Result Cursor DevicetreeError} (told : m ≡ memory_of blob) where
  -- what an import leaves, by what it answers
  abbrev leaves : Built → Left
  leaves built =
      record { number = result_number built.answer; state = unless_refused (result_number built.answer) b (with_allowed_of b built.policy); result = [] }

  by_built : (built : Built) → built ≡ import_memory (policy_at b) blob attributes → leaves built ≡ import_call b blob attributes
  unfolding import_call
  by_built built e = ap leaves e

  refused-leaves : (e : Stage2ConfigError) → leaves (record { answer = Err e; policy = policy_at b }) ≡ record { number = error_number e; state = b; result = [] }
  refused-leaves e = ap (λ s. record { number = error_number e; state = s; result = [] }) (when_refused (error_number e) b (with_allowed_of b (policy_at b)) (error_not_zero e))

  pub invalid_leaves : m ≡ Err Invalid → record { number = 21; state = b; result = [] } ≡ import_call b blob attributes
  invalid_leaves e = sym (refused-leaves InvalidDevicetree) ∙ by_built _ (import_invalid blob attributes told (policy_at b) e)

  pub unsupported_leaves : m ≡ Err devicetree.UnsupportedCellCounts → record { number = 22; state = b; result = [] } ≡ import_call b blob attributes
  unsupported_leaves e = sym (refused-leaves UnsupportedCellCounts) ∙ by_built _ (import_unsupported blob attributes told (policy_at b) e)

  pub pairs_leave : (c : Cursor) → m ≡ Ok c → calls_leave b (allow_calls attributes (pairs_left blob c)) ≡ import_call b blob attributes
  pairs_leave c e = go (answer_of_all (policy_at b) calls) ∙ by_built _ (import_pairs blob attributes told (policy_at b) c e)
    where
      calls : List BuilderCall
      calls = allow_calls attributes (pairs_left blob c)

      all : Result ⊤ Stage2ConfigError → Left
      all s = record { number = result_number s; state = unless_refused (result_number s) b (calls_bytes b calls); result = [] }

      go : (s : Result ⊤ Stage2ConfigError) → all s ≡ leaves (built_by s (policy_at b) (build_all (policy_at b) calls))
      go (Ok _) = refl
      go (Err x) =
          let none = error_not_zero x in
          ap (λ s. record { number = error_number x; state = s; result = [] })
          (when_refused (error_number x) b (calls_bytes b calls) none ∙ sym (when_refused (error_number x) b (with_allowed_of b (policy_at b)) none))

-- the policy that the bytes hold after all of some calls is the one that the calls hand back
all_held : {first : List ℕ} {all : List BuilderCall} (attributes : ℕ) (ps : List Pair) (b : List ℕ) → FitsWord attributes → Every PairFits ps
    → Allowing first all b (allow_calls attributes ps) → answer_of_all (policy_at b) (allow_calls attributes ps) ≡ Ok tt
    → policy_at (calls_bytes first all) ≡ build_all (policy_at first) all
all_held {first = first} attributes [] b fa fits inv h =
    ap (λ p. policy_at (with_allowed_of first p)) (sym inv.policy) ∙ (ap policy_at (sym inv.bytes) ∙ inv.policy)
all_held attributes (x ∷ xs) b fa fits inv h =
    let built = allow_range (policy_at b) x.base x.size attributes in
    let a = not_after built.answer (answer_of_all built.policy (allow_calls attributes xs)) h in
    let next = one_allowed attributes (x ∷ xs) x xs refl inv fits.0.0 fits.0.1 fa
    (call-number b x.base x.size attributes ∙ ap result_number a.0) in
    let held = allow_held b x.base x.size attributes inv.lent fits.0.0 fits.0.1 fa in
    all_held attributes xs (allow_call b x.base x.size attributes).state fa fits.1 next
    (ap (λ p. answer_of_all p (allow_calls attributes xs)) held ∙ a.1)

-- `ritm_import_memory`
pub import_held : (b blob : List ℕ) (attributes : ℕ) → Lent policy_size b → Bytes blob → FitsWord attributes
    → policy_at (import_call b blob attributes).state ≡ (import_memory (policy_at b) blob attributes).policy
unfolding import_call import_memory import_answer import_calls
import_held b blob attributes lent bytes f = go (import_answer p blob attributes) refl
  where
    p : Policy
    p = policy_at b

    calls : List BuilderCall
    calls = import_calls blob attributes

    go : (answer : Result ⊤ Stage2ConfigError) → import_answer p blob attributes ≡ answer →
        let built = built_by answer p (build_all p calls) in
        policy_at (unless_refused (result_number built.answer) b (with_allowed_of b built.policy)) ≡ built.policy
    go (Err e) q = ap policy_at (when_refused (error_number e) b (with_allowed_of b p) (error_not_zero e))
    go (Ok _) q =
        all_held attributes (pairs_in (blob_answer blob)) b f (pairs_fit blob bytes) (allow_start b calls lent)
        (not_after (reading blob) (answer_of_all p calls) q).1

pub import_lent : (b blob : List ℕ) (attributes : ℕ) → Lent policy_size b → Lent policy_size (import_call b blob attributes).state
unfolding import_call
import_lent b blob attributes h =
    let built = import_memory (policy_at b) blob attributes in
    left_lent (result_number built.answer) b (with_allowed_of b built.policy) h
    (allowed_lent b built.policy.allowed built.policy.allowed_count h)
