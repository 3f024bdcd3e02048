-- Records, and the comparison of their answers. Assumes nothing.
use Rattle.std.specs.Prelude.{ℕ, ◌+◌, Bool, false, cond, eqb, ltb, get_or, fold, List, [], ◌∷◌, Option, Some, None}
use Rattle.records.specs.declared.Line.{Line}
use Rattle.records.specs.declared.Difference.{Difference}
use Rattle.records.specs.declared.Record.{Record}
use Rattle.records.specs.declared.Call.{Call}
use Rattle.records.specs.declared.Outcome.{Outcome}
use Rattle.records.specs.declared.Outcome.TheVariants.{Agrees, Differs, NoRecord}

-- where the answer begins in the record of each code, from 0 on: after the code and its arguments (the table of formats in
-- crates/oracle_answers); no record has any other code
unfoldable pub answer_place : ℕ → Option ℕ
answer_place code =
    cond (ltb code 23)
    (Some
    (get_or
    (2 ∷ 4 ∷ 5 ∷ 2 ∷ 35 ∷ 6 ∷ 22 ∷ 4 ∷ 4 ∷ 2 ∷ 2 ∷ 4 ∷ 3 ∷ 2 ∷ 2 ∷ 2 ∷ 1 ∷ 2 ∷ 2 ∷ 1 ∷ 3 ∷ 2 ∷ 4 ∷ [])
    code
    0))
    None

-- one more than the place of the last number, where there is a place for it
abbrev pub count_to : Option ℕ → Option ℕ
count_to None = None
count_to (Some place) = cond (ltb place 39) (Some (place + 1)) None

-- how many numbers a whole line has, one more than the place of the last, unless it ends without a digit or is no list of numbers
unfoldable pub field_count : Line → Option ℕ
field_count line = cond line.begun (count_to line.place) None

-- the record of a line: its answer begins after the code and the arguments, and no difference is known
unfoldable pub record_of : Line → Record
record_of line = record {
  fields = line.fields;
  count = field_count line;
  next = answer_place (get_or line.fields 0 0);
  difference = None;
}

-- a record's call: its code, and the five fields after it
abbrev pub call_of : Record → Call
call_of r = record {
  code = get_or r.fields 0 0;
  a = get_or r.fields 1 0;
  b = get_or r.fields 2 0;
  c = get_or r.fields 3 0;
  d = get_or r.fields 4 0;
  e = get_or r.fields 5 0;
}

-- an answer that never ends where a line does
abbrev pub no_record : Record → Record
no_record r = record { fields = r.fields; count = r.count; next = None; difference = r.difference }

-- the first difference after one more word: the earlier one, if there is one
unfoldable pub first_difference : Option Difference → ℕ → ℕ → ℕ → Option Difference
first_difference (Some before) place found recorded = Some before
first_difference None place found recorded =
    cond (eqb found recorded) None (Some (record { field = place + 1; found = found; recorded = recorded }))

-- the next word of the answer is compared with the field at this place
abbrev pub expected_at : Record → ℕ → Option ℕ → Record
expected_at r word None = no_record r
expected_at r word (Some place) =
    cond (ltb place 39)
    (record {
      fields = r.fields;
      count = r.count;
      next = Some (place + 1);
      difference = first_difference r.difference place word (get_or r.fields place 0);
    })
    (no_record r)

-- the next word of the answer is compared with the next field
unfoldable pub expected : Record → ℕ → Record
expected r word = expected_at r word r.next

-- an answer that is the words of one of some elements, by its place; a line that names a place that there is not is no record
abbrev pub place_compared : {A : Type 0} → ℕ → List A → A → (A → List ℕ) → Record → ℕ → Record
place_compared places elements none words r at =
    cond (ltb at places) (fold expected r (words (get_or elements at none))) (no_record r)

-- what an answer comes to that ends where its line does: it agrees if no word differed
abbrev pub verdict : Option Difference → Outcome
verdict None = Agrees
verdict (Some difference) = Differs difference

-- an answer ends where its line does
abbrev pub ends : Option ℕ → Option ℕ → Bool
ends (Some next) (Some count) = eqb next count
ends (Some next) None = false
ends None count = false

-- a record is one whose answer ends where its line does; it agrees if no word differed
unfoldable pub outcome_of : Record → Outcome
outcome_of r = cond (ends r.next r.count) (verdict r.difference) NoRecord
