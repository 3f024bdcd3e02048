-- What a release on a policy in lent bytes returns and leaves, by the definitions that the builder's own contract cites. Assumes nothing.
use Rattle.std.specs.Prelude.{ℕ, ◌+◌, ◌*◌, Bool, ◌&&◌, cond, List, [], eqb, Option, position}
use Rattle.stage2_range.specs.Ranges.{answer_of, result_number}
use Rattle.stage2.specs.declared.Built.{Built}
use Rattle.stage2.specs.Policy.{built_by, range_held, not_held_cases, without_range, release_range}
use Rattle.lent_words.specs.Words.{word_at, each, Left, unless_refused}
use Rattle.lent_policy.specs.Layout.{size_word, policy_at, with_allowed_of, with_regions_of}

-- the record whose words begin at a place is stored with this base and size
abbrev pub is_stored : List ℕ → ℕ → ℕ → ℕ → Bool
is_stored policy at base size = eqb (word_at policy at) base && eqb (word_at policy (at + size_word)) size

-- of `n` records, whose words begin at `first` and of which each has `record_words`, the place of the first that is stored with these
abbrev pub stored_place : List ℕ → ℕ → ℕ → ℕ → ℕ → ℕ → Option ℕ
stored_place policy first record_words n base size = position (λ at. is_stored policy at base size) (each (λ k. first + record_words * k) 0 n)

-- a policy in lent bytes, by what a release makes of it: the list that loses a record is written, and no byte of the other one
abbrev pub release_leaves : List ℕ → ℕ → ℕ → Built → Left
release_leaves policy base size built =
    let number = result_number built.answer in
    let written = cond (range_held (policy_at policy) base size) (with_allowed_of policy built.policy) (with_regions_of policy built.policy) in
    record { number = number; state = unless_refused number policy written; result = [] }

-- `release_range`
unfoldable pub release_call : List ℕ → ℕ → ℕ → Left
release_call policy base size = release_leaves policy base size (release_range (policy_at policy) base size)

-- the same past refusals 1 to 4. The contract of a private function cites it; a reader of the public one need not.
unfoldable pub valid_release_call : List ℕ → ℕ → ℕ → Left
valid_release_call policy base size =
    let p = policy_at policy in
    release_leaves policy base size (built_by (answer_of (not_held_cases p base size)) p (without_range p base size))
