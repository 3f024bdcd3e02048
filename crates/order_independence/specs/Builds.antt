-- The calls of a list that change the policy and are accepted, and policies that are the same (document 01, "Two runs side by side").
-- Assumes nothing.
use Rattle.std.specs.Prelude.{◌≡◌, Bool, cond, List, [], ◌∷◌, ◌++◌, eqb}
use Rattle.lists.specs.Sorting.{sort_by}
use Rattle.stage2_range.specs.Ranges.{result_number}
use Rattle.stage2.specs.declared.Policy.{Policy}
use Rattle.stage2.specs.Policy.{allowed_held, regions_held}
use Rattle.stage2.specs.Builds.{BuilderCall}
use Rattle.memory_import.specs.Changes.{PolicyCall, change, taken_apart, read_first}

-- a call is accepted
abbrev pub accepts : Policy → PolicyCall → Bool
accepts p c = eqb (result_number (change p c).answer) 0

-- the builder calls of a list that are accepted, in order: "An accepted import behaves as its calls made singly ..; a refused one counts
-- as no accepted call"
abbrev pub accepted : Policy → List PolicyCall → List BuilderCall
accepted p [] = []
accepted p (c ∷ cs) = cond (accepts p c) (taken_apart c ++ accepted (change p c).policy cs) (accepted (change p c).policy cs)

-- every call of a list is accepted, but for an import of a slice that the reader refuses, which stands for no call
abbrev pub AllAccepted : Policy → List PolicyCall → Type 0
AllAccepted p [] = Unit {0}
AllAccepted p (c ∷ cs) = ((change p c).answer ≡ read_first c) × AllAccepted (change p c).policy cs

-- "Equal are: the regions, field by field in place; the allowed ranges, field by field once sorted by base"
pub record SamePolicy (p q : Policy) : Type 0 where
  pub regions : regions_held p ≡ regions_held q
  pub allowed : sort_by (λ r. r.base_ipa) (allowed_held p) ≡ sort_by (λ r. r.base_ipa) (allowed_held q)
