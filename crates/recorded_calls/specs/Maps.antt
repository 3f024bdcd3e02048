-- The calls that records name on the suspend map: 8 to a. Assumes nothing.
use Rattle.std.specs.Prelude.{cond, eqb, fold}
use Rattle.records.specs.declared.Record.{Record}
use Rattle.records.specs.declared.Call.{Call}
use Rattle.records.specs.declared.Taken.{Taken}
use Rattle.records.specs.Records.{expected}
use Rattle.simple_map.specs.declared.Inserted.{Inserted}
use Rattle.simple_map.specs.declared.Removed.{Removed}
use Rattle.simple_map.specs.declared.SimpleMap.{SimpleMap}
use Rattle.simple_map.specs.Map.{empty_map, get_item, insert_item, remove_item, insert_number, lookup_values}

-- what an insertion comes to: its number
abbrev pub inserted_taken : Record → Inserted → Taken SimpleMap
inserted_taken r step = record { compared = expected r (insert_number step.answer); state = step.map }

-- what a removal comes to: found, entry point, context id
abbrev pub removed_taken : Record → Removed → Taken SimpleMap
removed_taken r step = record { compared = fold expected r (lookup_values step.removed); state = step.map }

-- 0 is a fresh map, 8 inserts, 9 looks up, a removes; a record of something else passes
unfoldable pub map_taken : SimpleMap → Record → Call → Taken SimpleMap
map_taken map r call =
    cond (eqb call.code 0) (record { compared = r; state = empty_map })
    (cond (eqb call.code 8)
    (inserted_taken r (insert_item map call.a (record { entry_point = call.b; context_id = call.c })))
    (cond (eqb call.code 9) (record { compared = fold expected r (lookup_values (get_item map call.a)); state = map })
    (cond (eqb call.code 0xA) (removed_taken r (remove_item map call.a))
    (record { compared = r; state = map }))))
