-- Laws on imports: what the reader's answer makes of one, and its calls one by one. Assumes nothing.
use Prim.Native.Nat.{ℕ}
use mathlib.Core.Path.{◌≡◌, sym, ap}
use mathlib.Core.List.{List, [], ◌∷◌}
use Rattle.fdt_tokens.specs.Devicetree.{Pair}
use Rattle.fdt.specs.declared.Cursor.{Cursor}
use Rattle.fdt_nodes.specs.declared.DevicetreeError.{DevicetreeError}
use Rattle.fdt_nodes.specs.declared.DevicetreeError.TheVariants.{Invalid}
use Rattle.fdt_nodes.specs.declared.DevicetreeError.TheVariants as devicetree
use Rattle.std.specs.Prelude.{Result, Ok, Err}
use Rattle.fdt.specs.Blob.{memory_of, pairs_left, memory_answer, blob_answer}
use Rattle.stage2_range.specs.declared.Stage2ConfigError.{Stage2ConfigError}
use Rattle.stage2_range.specs.declared.Stage2ConfigError.TheVariants.{InvalidDevicetree, UnsupportedCellCounts}
use Rattle.stage2_range.specs.Ranges.{after}
use Rattle.stage2.specs.declared.Policy.{Policy}
use Rattle.stage2.specs.declared.Built.{Built}
use Rattle.stage2.specs.Policy.{built_by, allow_range}
use Rattle.stage2.specs.Builds.{BuilderCall, build_all}
use Rattle.memory_import.specs.Import.{allow_calls, reading_of, pairs_in, reading, import_calls, answer_of_all, import_answer, import_memory}
use Rattle.std.specs.Prelude.{Err, Ok}

-- a refusal leaves the policy as it was
abbrev pub refused : Policy → Stage2ConfigError → Built
refused p e = record { answer = Err e; policy = p }

-- calls made from `p` on, where one that is refused leaves `old`
abbrev pub all_or_none : Policy → Policy → List BuilderCall → Built
all_or_none old p calls = built_by (answer_of_all p calls) old (build_all p calls)

-- what the reader says of a slice, and the calls that it stands for, by its memory
module _ (blob : List ℕ) (attributes : ℕ) {m : Result Cursor DevicetreeError} (told : m ≡ memory_of blob) where
  reading_by : reading blob ≡ reading_of (memory_answer blob m)
  unfolding reading blob_answer
  reading_by = ap (λ x. reading_of (memory_answer blob x)) (sym told)

  calls_by : import_calls blob attributes ≡ allow_calls attributes (pairs_in (memory_answer blob m))
  unfolding import_calls blob_answer
  calls_by = ap (λ x. allow_calls attributes (pairs_in (memory_answer blob x))) (sym told)

  -- by what was read: 21, 22, or the calls of all pairs
  import_by_lem : (p : Policy) → import_memory p blob attributes
      ≡ built_by (after (reading_of (memory_answer blob m)) (answer_of_all p (allow_calls attributes (pairs_in (memory_answer blob m))))) p
      (build_all p (allow_calls attributes (pairs_in (memory_answer blob m))))
  unfolding import_memory import_answer
  import_by_lem p = rw (reading_by, calls_by)

  pub import_invalid : (p : Policy) → m ≡ Err Invalid → refused p InvalidDevicetree ≡ import_memory p blob attributes
  unfolding memory_answer
  import_invalid p e = sym (rw e at (import_by_lem p))

  pub import_unsupported : (p : Policy) → m ≡ Err devicetree.UnsupportedCellCounts → refused p UnsupportedCellCounts ≡ import_memory p blob attributes
  unfolding memory_answer
  import_unsupported p e = sym (rw e at (import_by_lem p))

  pub import_pairs : (p : Policy) (c : Cursor) → m ≡ Ok c
      → all_or_none p p (allow_calls attributes (pairs_left blob c)) ≡ import_memory p blob attributes
  unfolding memory_answer
  import_pairs p c e = sym (rw e at (import_by_lem p))

-- The calls of pairs, one by one: no pair is left, or the pair `x` and those after it.
pub pairs_none : (old p : Policy) (attributes : ℕ) (l : List Pair) → l ≡ [] → record { answer = Ok tt; policy = p } ≡ all_or_none old p (allow_calls attributes l)
pairs_none old p attributes l e = rw e

module _ (old p : Policy) (attributes : ℕ) (l : List Pair) (x : Pair) (later : List Pair) (e : l ≡ x ∷ later) where
  abbrev first : Built
  first = allow_range p x.base x.size attributes

  pub pair_refused : (error : Stage2ConfigError) → first.answer ≡ Err error → refused old error ≡ all_or_none old p (allow_calls attributes l)
  pair_refused error k = rw (e, k)

  pub pair_allowed : first.answer ≡ Ok tt
      → all_or_none old first.policy (allow_calls attributes later) ≡ all_or_none old p (allow_calls attributes l)
  pair_allowed k = rw (e, k)
