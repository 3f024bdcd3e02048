-- The calls that records name on the policy: 1 to 3 and 15, and its state, 11 to 13. Assumes nothing.
use Rattle.std.specs.Prelude.{ℕ, cond, eqb, fold, None, Option, Some}
use mathlib.Core.List.{List, [], ◌∷◌}
use Rattle.records.specs.declared.Record.{Record}
use Rattle.records.specs.declared.Call.{Call}
use Rattle.records.specs.declared.Taken.{Taken}
use Rattle.records.specs.Records.{expected, place_compared}
use Rattle.stage2_range.specs.Ranges.{range_of, range_words, result_number}
use Rattle.stage2_range.specs.Registry.{region_of, region_words, find_region}
use Rattle.stage2.specs.declared.Policy.{Policy}
use Rattle.stage2.specs.declared.Built.{Built}
use Rattle.stage2.specs.Policy.{fresh_policy, regions_held, allow_range, handle_range}
use Rattle.stage2_range.specs.declared.MemoryAccessHandlerMatch.{MemoryAccessHandlerMatch}

-- what a builder's call comes to: its number
abbrev pub built_taken : Record → Built → Taken Policy
built_taken r built = record { compared = expected r (result_number built.answer); state = built.policy }

-- a search's answer: found, base, offset
abbrev pub search_words : Option MemoryAccessHandlerMatch → List ℕ
search_words None = 0 ∷ 0 ∷ 0 ∷ []
search_words (Some m) = 1 ∷ m.region.base_ipa ∷ m.offset ∷ []

-- the records that leave the policy as it is: 3 and 15 a search, over the regions held and over all lent; 11 and 12 a place's state; 13 how
-- many are held
unfoldable pub policy_read : Policy → Record → ℕ → ℕ → Record
policy_read policy r code a =
    cond (eqb code 3) (fold expected r (search_words (find_region (regions_held policy) (record { 0 = a }))))
    (cond (eqb code 0x11) (place_compared 32 policy.allowed (range_of 0 0 0) range_words r a)
    (cond (eqb code 0x12) (place_compared 16 policy.regions (region_of 0 0 0 0) region_words r a)
    (cond (eqb code 0x13) (fold expected r (policy.allowed_count ∷ policy.region_count ∷ []))
    (cond (eqb code 0x15) (fold expected r (search_words (find_region policy.regions (record { 0 = a }))))
    r))))

-- 0 is a fresh policy, 1 allows, 2 handles; a record of something else passes
unfoldable pub policy_taken : Policy → Record → Call → Taken Policy
policy_taken policy r call =
    cond (eqb call.code 0) (record { compared = r; state = fresh_policy })
    (cond (eqb call.code 1) (built_taken r (allow_range policy call.a call.b call.c))
    (cond (eqb call.code 2) (built_taken r (handle_range policy call.a call.b call.c call.d))
    (record { compared = policy_read policy r call.code call.a; state = policy })))
