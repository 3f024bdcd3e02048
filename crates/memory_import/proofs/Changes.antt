-- Laws on lists of builder calls, and on the calls that change a policy. Assumes nothing.
use Prim.Native.Nat.{ℕ}
use mathlib.Core.Path.{◌≡◌, refl, sym, ◌∙◌, ap, subst}
use mathlib.Core.List.{List, [], ◌∷◌, ◌++◌}
use Rattle.fdt_tokens.specs.Devicetree.{Said, invalid, unsupported, pairs}
use Rattle.fdt.specs.Blob.{blob_answer}
use Rattle.stage2_range.specs.declared.Stage2ConfigError.{Stage2ConfigError}
use Rattle.stage2_range.specs.Ranges.{after, result_number}
use Rattle.stage2_range.proofs.Ranges.{not_after, not-accepted}
use Rattle.stage2.specs.declared.Policy.{Policy}
use Rattle.stage2.specs.Policy.{fresh_policy, built_by}
use Rattle.stage2.specs.Builds.{BuilderCall, build, build_all, SameHeld, WellFormed}
use Rattle.stage2.proofs.Laws.{built_answer, built_refused, build-refused}
use Rattle.stage2.proofs.Held.{build_answer_same, build-same-held}
use Rattle.stage2.proofs.Release.{release_refused, release_keeps, release_answer-held, release_same-held}
use Rattle.stage2.proofs.WellFormed.{build_keeps, build_all_keeps, fresh_well_formed}
use Rattle.memory_import.specs.Import.{allow_calls, reading_of, pairs_in, reading, import_calls, answer_of_all, import_answer, import_memory, import_by}
use Rattle.memory_import.proofs.Laws.{refused}
use Rattle.memory_import.specs.Changes.{AllBuilt, PolicyCall, builder, import_devicetree, change, change_all, PolicyChange, add, release, change_by, change_by_all, taken_apart, read_first}
use Rattle.std.specs.Prelude.{Err, Ok, Result, ⊤}

-- one list of builder calls after another
pub build-append : (a b : List BuilderCall) (p : Policy) → build_all p (a ++ b) ≡ build_all (build_all p a) b
build-append [] b p = refl
build-append (c ∷ cs) b p = build-append cs b (build p c).policy

-- "A refusal returns its number .., and all state is as before"
pub change-refused : (p : Policy) (c : PolicyCall) → (result_number (change p c).answer ≡ 0 → ⊥) → (change p c).policy ≡ p
unfolding import_memory
change-refused p (builder c) h = build-refused p c h
change-refused p (import_devicetree blob attributes) h =
    built_refused (import_answer p blob attributes) p (build_all p (import_calls blob attributes)) h

pub change_by-refused : (p : Policy) (c : PolicyChange) → (result_number (change_by p c).answer ≡ 0 → ⊥) → (change_by p c).policy ≡ p
change_by-refused p (add c) h = change-refused p c h
change_by-refused p (release base size) h = release_refused p base size h

-- each call keeps a policy well formed
pub change_keeps : (p : Policy) (c : PolicyCall) → WellFormed p → WellFormed (change p c).policy
unfolding import_memory
change_keeps p (builder c) w = build_keeps p c w
change_keeps p (import_devicetree blob attributes) w = go (import_answer p blob attributes)
  where
    go : (s : Result ⊤ Stage2ConfigError) → WellFormed (built_by s p (build_all p (import_calls blob attributes))).policy
    go (Ok _) = build_all_keeps p (import_calls blob attributes) w
    go (Err e) = w

-- so does a list of them
pub change_all_keeps : (p : Policy) (calls : List PolicyCall) → WellFormed p → WellFormed (change_all p calls)
change_all_keeps p [] w = w
change_all_keeps p (c ∷ cs) w = change_all_keeps (change p c).policy cs (change_keeps p c w)

-- the same with releases among them
pub change_by_keeps : (p : Policy) (c : PolicyChange) → WellFormed p → WellFormed (change_by p c).policy
change_by_keeps p (add c) w = change_keeps p c w
change_by_keeps p (release base size) w = release_keeps p base size w

change_by_all_keeps : (p : Policy) (calls : List PolicyChange) → WellFormed p → WellFormed (change_by_all p calls)
change_by_all_keeps p [] w = w
change_by_all_keeps p (c ∷ cs) w = change_by_all_keeps (change_by p c).policy cs (change_by_keeps p c w)

-- and from fresh every policy is well formed
pub changed_well_formed : (calls : List PolicyCall) → WellFormed (change_all fresh_policy calls)
changed_well_formed calls = change_all_keeps fresh_policy calls fresh_well_formed

pub changed_by_well_formed : (calls : List PolicyChange) → WellFormed (change_by_all fresh_policy calls)
changed_by_well_formed calls = change_by_all_keeps fresh_policy calls fresh_well_formed

-- where two lists of calls are all accepted one after the other, each is
pub all_parts : (a b : List BuilderCall) (p : Policy) → AllBuilt p (a ++ b) → AllBuilt p a × AllBuilt (build_all p a) b
all_parts [] b p h = (tt, h)
all_parts (c ∷ cs) b p h =
    let r = all_parts cs b (build p c).policy h.1 in
    ((h.0, r.0), r.1)

-- no call of a list is refused exactly where all are accepted
none_refused : (calls : List BuilderCall) (p : Policy) → answer_of_all p calls ≡ Ok tt → AllBuilt p calls
none_refused [] p h = tt
none_refused (c ∷ cs) p h =
    let k = not_after (build p c).answer (answer_of_all (build p c).policy cs) h in
    (k.0, none_refused cs (build p c).policy k.1)

all_accepted : (calls : List BuilderCall) (p : Policy) → AllBuilt p calls → answer_of_all p calls ≡ Ok tt
all_accepted [] p h = refl
all_accepted (c ∷ cs) p h = rw h.0 (all_accepted cs (build p c).policy h.1)

-- a slice that the reader refuses stands for no call
refused_none : (blob : List ℕ) (attributes : ℕ) (e : Stage2ConfigError) → reading blob ≡ Err e → import_calls blob attributes ≡ []
unfolding reading import_calls
refused_none blob attributes e h = go (blob_answer blob) h
  where
    go : (a : Said) → reading_of a ≡ Err e → allow_calls attributes (pairs_in a) ≡ []
    go invalid k = refl
    go unsupported k = refl
    go (pairs ps) k = absurd (not-accepted e (sym k))

-- A call that is accepted is its builder calls, made one by one, and each of them is accepted.
pub accepted_apart : (p : Policy) (c : PolicyCall) → (change p c).answer ≡ Ok tt
    → AllBuilt p (taken_apart c) × ((change p c).policy ≡ build_all p (taken_apart c))
unfolding import_memory import_answer
accepted_apart p (builder c) h = ((h, tt), refl)
accepted_apart p (import_devicetree blob attributes) h =
    let calls = import_calls blob attributes in
    let e : import_answer p blob attributes ≡ (Ok tt) = sym (built_answer (import_answer p blob attributes) p (build_all p calls)) ∙ h in
    (none_refused calls p (not_after (reading blob) (answer_of_all p calls) e).1, ap (λ s. (built_by s p (build_all p calls)).policy) e)

-- A call whose builder calls are all accepted answers what is said of it before the policy is asked, and is those calls.
pub apart_accepted : (p : Policy) (c : PolicyCall) → AllBuilt p (taken_apart c)
    → ((change p c).answer ≡ read_first c) × ((change p c).policy ≡ build_all p (taken_apart c))
unfolding import_memory import_answer
apart_accepted p (builder c) h = (h.0, refl)
apart_accepted p (import_devicetree blob attributes) h = go (reading blob) refl
  where
    calls : List BuilderCall
    calls = import_calls blob attributes

    go : (r : Result ⊤ Stage2ConfigError) → reading blob ≡ r
        → ((built_by (after r (answer_of_all p calls)) p (build_all p calls)).answer ≡ r)
        × ((built_by (after r (answer_of_all p calls)) p (build_all p calls)).policy ≡ build_all p calls)
    go (Ok _) e = rw (all_accepted calls p h) (refl, refl)
    go (Err x) e = (refl, rw (refused_none blob attributes x e))

-- an import goes by what its slice says
pub import_said : (p : Policy) (blob : List ℕ) (attributes : ℕ) → import_memory p blob attributes ≡ import_by (blob_answer blob) p attributes
unfolding import_memory import_answer reading import_calls
import_said p blob attributes = refl

-- An import, in sentences: refused by the reader, that refusal and the policy given;
pub import_unread : (p : Policy) (blob : List ℕ) (attributes : ℕ) (e : Stage2ConfigError) → reading blob ≡ Err e
    → import_memory p blob attributes ≡ refused p e
unfolding import_memory import_answer
import_unread p blob attributes e h = rw h

-- else, where the calls of all pairs are accepted one by one, accepted with their policy;
pub import_all : (p : Policy) (blob : List ℕ) (attributes : ℕ) → reading blob ≡ Ok tt → AllBuilt p (import_calls blob attributes)
    → import_memory p blob attributes ≡ record { answer = Ok tt; policy = build_all p (import_calls blob attributes) }
unfolding import_memory import_answer
import_all p blob attributes h a = rw (h, all_accepted (import_calls blob attributes) p a)

-- and where one is refused after others that are accepted, its refusal and the policy given.
first-refused : (before : List BuilderCall) (c : BuilderCall) (later : List BuilderCall) (p : Policy) (e : Stage2ConfigError) → AllBuilt p before
    → (build (build_all p before) c).answer ≡ Err e → answer_of_all p (before ++ (c ∷ later)) ≡ Err e
first-refused [] c later p e a h = rw h
first-refused (b ∷ bs) c later p e a h = rw a.0 (first-refused bs c later (build p b).policy e a.1 h)

pub import_first : (p : Policy) (blob : List ℕ) (attributes : ℕ) (before : List BuilderCall) (c : BuilderCall) (later : List BuilderCall)
    (e : Stage2ConfigError) → reading blob ≡ Ok tt → import_calls blob attributes ≡ before ++ (c ∷ later) → AllBuilt p before
    → (build (build_all p before) c).answer ≡ Err e → import_memory p blob attributes ≡ refused p e
unfolding import_memory import_answer
import_first p blob attributes before c later e h calls a refusal = rw (h, calls, first-refused before c later p e a refusal)

-- Policies that hold the same answer every list of builder calls the same, and hold the same after it, ..
builds_same : (cs : List BuilderCall) (p q : Policy) → SameHeld p q → WellFormed p → WellFormed q
    → (answer_of_all p cs ≡ answer_of_all q cs) × SameHeld (build_all p cs) (build_all q cs)
builds_same [] p q same w w' = (refl, same)
builds_same (c ∷ cs) p q same w w' =
    let r =
    builds_same cs (build p c).policy (build q c).policy (build-same-held p q same c w w') (build_keeps p c w) (build_keeps q c w') in
    ((λ j. after (build_answer_same p q same c j) (r.0 j)), r.1)

-- .. every call that adds, ..
module _ (p q : Policy) (same : SameHeld p q) (w : WellFormed p) (w' : WellFormed q) where
  change-same : (c : PolicyCall) → ((change p c).answer ≡ (change q c).answer) × SameHeld (change p c).policy (change q c).policy
  unfolding import_memory import_answer
  change-same (builder c) = (build_answer_same p q same c, build-same-held p q same c w w')
  change-same (import_devicetree blob attributes) =
      let e : import_answer p blob attributes ≡ import_answer q blob attributes = ap (after (reading blob)) made.0 in (
        built_answer (import_answer p blob attributes) p _ ∙ e ∙ sym (built_answer (import_answer q blob attributes) q _),
        subst (λ a. SameHeld (import_memory p blob attributes).policy (built_by a q (build_all q all)).policy) e (go (import_answer p blob attributes)),
      )
    where
      all : List BuilderCall
      all = import_calls blob attributes

      made : (answer_of_all p all ≡ answer_of_all q all) × SameHeld (build_all p all) (build_all q all)
      made = builds_same all p q same w w'

      go : (a : Result ⊤ Stage2ConfigError) → SameHeld (built_by a p (build_all p all)).policy (built_by a q (build_all q all)).policy
      go (Ok _) = made.1
      go (Err e) = same

  -- .. and every call that changes a policy
  pub change_by-same : (c : PolicyChange) → ((change_by p c).answer ≡ (change_by q c).answer) × SameHeld (change_by p c).policy (change_by q c).policy
  change_by-same (add c) = change-same c
  change_by-same (release base size) = (release_answer-held p q same base size, release_same-held p q same base size w w')
