-- The calls that change a policy, and lists of them. Assumes nothing.
use Rattle.std.specs.Prelude.{ℕ, ◌≡◌, List, [], ◌∷◌, ◌++◌, Ok, Result, ⊤}
use Rattle.stage2.specs.declared.Policy.{Policy}
use Rattle.stage2.specs.declared.Built.{Built}
use Rattle.stage2.specs.Policy.{release_range}
use Rattle.stage2.specs.Builds.{BuilderCall, build}
use Rattle.memory_import.specs.Import.{reading, import_calls, import_memory}
use Rattle.stage2_range.specs.declared.Stage2ConfigError.{Stage2ConfigError}

-- the calls that add to a policy: document 01's are the builder calls, document 02's Ask 1 adds an import
pub data PolicyCall : Type 0 where
  builder : (call : BuilderCall) → PolicyCall
  import_devicetree : (blob : List ℕ) (attributes : ℕ) → PolicyCall

-- what such a call answers, and the policy then
abbrev pub change : Policy → PolicyCall → Built
change p (builder c) = build p c
change p (import_devicetree blob attributes) = import_memory p blob attributes

-- the policy after a list of them, refused ones included
abbrev pub change_all : Policy → List PolicyCall → Policy
change_all p [] = p
change_all p (c ∷ cs) = change_all (change p c).policy cs

-- the calls that change a policy: those, and the release of document 02's Ask 5, which is none of the calls that may be reordered freely
pub data PolicyChange : Type 0 where
  add : (call : PolicyCall) → PolicyChange
  release : (base size : ℕ) → PolicyChange

-- what such a call answers, and the policy then
abbrev pub change_by : Policy → PolicyChange → Built
change_by p (add c) = change p c
change_by p (release base size) = release_range p base size

-- the policy after a list of them, refused ones included
abbrev pub change_by_all : Policy → List PolicyChange → Policy
change_by_all p [] = p
change_by_all p (c ∷ cs) = change_by_all (change_by p c).policy cs

-- a call taken apart: the builder calls that it stands for
abbrev pub taken_apart : PolicyCall → List BuilderCall
taken_apart (builder c) = c ∷ []
taken_apart (import_devicetree blob attributes) = import_calls blob attributes

-- the same of a list of calls, in order
abbrev pub all_apart : List PolicyCall → List BuilderCall
all_apart [] = []
all_apart (c ∷ cs) = taken_apart c ++ all_apart cs

-- what is said of a call before the policy is asked: an import of a slice that the reader refuses is refused
abbrev pub read_first : PolicyCall → Result ⊤ Stage2ConfigError
read_first (builder c) = Ok tt
read_first (import_devicetree blob attributes) = reading blob

-- every builder call of a list is accepted, each made on the policy that the last one left
abbrev pub AllBuilt : Policy → List BuilderCall → Type 0
AllBuilt p [] = Unit {0}
AllBuilt p (c ∷ cs) = ((build p c).answer ≡ Ok tt) × AllBuilt (build p c).policy cs
