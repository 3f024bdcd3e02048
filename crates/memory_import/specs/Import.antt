-- Memory read from a devicetree (document 02, "Ask 1"): the builder calls that a blob stands for, and what an import answers and leaves.
-- Assumes nothing.
use Rattle.std.specs.Prelude.{ℕ, List, [], ◌∷◌, map, Err, Ok, Result, ⊤}
use Rattle.fdt_tokens.specs.Devicetree.{Pair, Said, invalid, unsupported, pairs}
use Rattle.fdt.specs.Blob.{blob_answer}
use Rattle.stage2_range.specs.declared.Stage2ConfigError.TheVariants.{InvalidDevicetree, UnsupportedCellCounts}
use Rattle.stage2_range.specs.Ranges.{after}
use Rattle.stage2.specs.declared.Policy.{Policy}
use Rattle.stage2.specs.declared.Built.{Built}
use Rattle.stage2.specs.Policy.{built_by}
use Rattle.stage2.specs.Builds.{BuilderCall, allow, build, build_all}
use Rattle.stage2_range.specs.declared.Stage2ConfigError.{Stage2ConfigError}

-- "allow every reg pair in blob order with one given attribute word"
abbrev pub allow_calls : ℕ → List Pair → List BuilderCall
allow_calls attributes ps = map (λ x. allow x.base x.size attributes) ps

-- 21 and 22, "both before any allow check"
abbrev pub reading_of : Said → Result ⊤ Stage2ConfigError
reading_of invalid = Err InvalidDevicetree
reading_of unsupported = Err UnsupportedCellCounts
reading_of (pairs ps) = Ok tt

-- the pairs of a blob; none where it is refused
abbrev pub pairs_in : Said → List Pair
pairs_in invalid = []
pairs_in unsupported = []
pairs_in (pairs ps) = ps

-- what the reader says of a slice
unfoldable pub reading : List ℕ → Result ⊤ Stage2ConfigError
reading blob = reading_of (blob_answer blob)

-- an import taken apart: the calls that it stands for; none where the reader refuses the slice
unfoldable pub import_calls : List ℕ → ℕ → List BuilderCall
import_calls blob attributes = allow_calls attributes (pairs_in (blob_answer blob))

-- "A pair that allow refuses ends the import with allow's number": the answer of the first call that is refused, each made on the policy
-- that the last one left
abbrev pub answer_of_all : Policy → List BuilderCall → Result ⊤ Stage2ConfigError
answer_of_all p [] = Ok tt
answer_of_all p (c ∷ cs) = after (build p c).answer (answer_of_all (build p c).policy cs)

-- what an import answers: 21, 22, then allow's numbers
unfoldable pub import_answer : Policy → List ℕ → ℕ → Result ⊤ Stage2ConfigError
import_answer p blob attributes = after (reading blob) (answer_of_all p (import_calls blob attributes))

-- an import: "An accepted import behaves as its calls made singly"; refused, "the policy is as before the import"
unfoldable pub import_memory : Policy → List ℕ → ℕ → Built
import_memory p blob attributes = built_by (import_answer p blob attributes) p (build_all p (import_calls blob attributes))

-- the same by what is said of memory, by a slice or by a tree: 21, 22, or the calls of these pairs, all of them or none
abbrev pub import_by : Said → Policy → ℕ → Built
import_by said p attributes =
    let calls = allow_calls attributes (pairs_in said) in
    built_by (after (reading_of said) (answer_of_all p calls)) p (build_all p calls)
