-- The calls without state that records name: b to e. Assumes nothing.
use Rattle.std.specs.Prelude.{ℕ, ◌^◌, cond, eqb, ltb, fold, Option}
use mathlib.Core.List.{List, [], ◌∷◌}
use Rattle.records.specs.declared.Record.{Record}
use Rattle.records.specs.declared.Call.{Call}
use Rattle.records.specs.Records.{expected, no_record}
use Rattle.memory_access.specs.Syndrome.{decode_access, number_of, values_of}
use Rattle.memory_access.specs.Transfer.{extended_value}
use Rattle.stage2_range.specs.Ranges.{align_down, align_up, aligned_number, aligned_value}

-- an answer to an ISS; a line with one that is wider than 32 bits is no record
abbrev pub iss_compared : (ℕ → List ℕ) → Record → ℕ → Record
iss_compared words r iss = cond (ltb iss (2 ^ 32)) (fold expected r (words iss)) (no_record r)

-- decode: number and values
abbrev pub decoded_words : ℕ → ℕ → ℕ → List ℕ
decoded_words fipa far iss = let decoded = decode_access iss (record { 0 = fipa }) far in number_of decoded ∷ values_of decoded

-- extend a load's result: number and value
abbrev pub extended_words : ℕ → ℕ → List ℕ
extended_words value iss = let decoded = decode_access iss (record { 0 = 0 }) 0 in number_of decoded ∷ extended_value decoded value ∷ []

-- align up: number and value
abbrev pub aligned_words : Option ℕ → List ℕ
aligned_words aligned = aligned_number aligned ∷ aligned_value aligned ∷ []

-- b decodes, c extends, d aligns down, e up; a record of something else passes
unfoldable pub value_compared : Record → Call → Record
value_compared r call =
    cond (eqb call.code 0xB) (iss_compared (decoded_words call.b call.c) r call.a)
    (cond (eqb call.code 0xC) (iss_compared (extended_words call.b) r call.a)
    (cond (eqb call.code 0xD) (expected r (align_down call.a))
    (cond (eqb call.code 0xE) (fold expected r (aligned_words (align_up call.a)))
    r)))
