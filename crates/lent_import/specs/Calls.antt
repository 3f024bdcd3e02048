-- What an import into a policy in lent bytes returns and leaves, by the definition that the library's contract cites. Assumes nothing.
use Rattle.std.specs.Prelude.{ℕ, List, []}
use Rattle.stage2_range.specs.Ranges.{result_number}
use Rattle.stage2.specs.Builds.{BuilderCall, build_all}
use Rattle.memory_import.specs.Import.{answer_of_all, import_memory}
use Rattle.lent_words.specs.Words.{Left, unless_refused}
use Rattle.lent_policy.specs.Layout.{policy_at, with_allowed_of}

-- the number of the first of some calls that is refused, 0 where none is
abbrev pub calls_number : List ℕ → List BuilderCall → ℕ
calls_number policy calls = result_number (answer_of_all (policy_at policy) calls)

-- the bytes with the allowed ranges that all of them leave
abbrev pub calls_bytes : List ℕ → List BuilderCall → List ℕ
calls_bytes policy calls = with_allowed_of policy (build_all (policy_at policy) calls)

-- all of them, or none
abbrev pub calls_leave : List ℕ → List BuilderCall → Left
calls_leave policy calls =
    let number = calls_number policy calls in
    record { number = number; state = unless_refused number policy (calls_bytes policy calls); result = [] }

-- `import_memory`: the allowed ranges are written, and no byte of the regions; refused, no byte at all
unfoldable pub import_call : List ℕ → List ℕ → ℕ → Left
import_call policy blob attributes =
    let built = import_memory (policy_at policy) blob attributes in
    let number = result_number built.answer in
    record {
      number = number;
      state = unless_refused number policy (with_allowed_of policy built.policy);
      result = [];
    }
