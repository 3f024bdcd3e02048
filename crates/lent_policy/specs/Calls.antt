-- What the calls on a policy in lent bytes return and leave, by the definitions that the builder's own contracts cite. Assumes nothing.
use Rattle.std.specs.Prelude.{ℕ, List, []}
use Rattle.lists.specs.Lists.{first_index}
use Rattle.stage2_range.specs.Ranges.{result_number}
use Rattle.stage2_range.specs.Registry.{has_address, find_region, found_values}
use Rattle.stage2.specs.Policy.{regions_held, allow_range, handle_range}
use Rattle.lent_words.specs.Words.{bytes_of, Left, unless_refused}
use Rattle.lent_policy.specs.Layout.{policy_at, with_allowed_of, with_regions_of}

-- `allow_range`: the allowed ranges are written, and no byte of the regions
unfoldable pub allow_call : List ℕ → ℕ → ℕ → ℕ → Left
allow_call policy base size attributes =
    let built = allow_range (policy_at policy) base size attributes in
    let number = result_number built.answer in
    record {
      number = number;
      state = unless_refused number policy (with_allowed_of policy built.policy);
      result = [];
    }

-- `handle_range`: the regions are written, and no byte of the allowed ranges
unfoldable pub handle_call : List ℕ → ℕ → ℕ → ℕ → ℕ → Left
handle_call policy base size read write =
    let built = handle_range (policy_at policy) base size read write in
    let number = result_number built.answer in
    record {
      number = number;
      state = unless_refused number policy (with_regions_of policy built.policy);
      result = [];
    }

-- `find`: the place and the offset are written, and no byte of the policy
unfoldable pub find_call : List ℕ → ℕ → Left
find_call policy ipa =
    let regions = regions_held (policy_at policy) in
    record {
      number = 0;
      state = policy;
      result = bytes_of (found_values (first_index (has_address ipa) regions) (find_region regions (record { 0 = ipa })));
    }
