-- By which place comes first, the key's or a free one: the laws say what each comes to.
use Prim.Native.Nat.{◌<◌}
use native.Mathlib.Omega.{arith}
use Rattle.simple_map.specs.Map.{is_free, taken}
use Rattle.lent_map.proofs.InPlace.{index_within, place_stored, inserted_there, inserted_before, both_stored}
use Rattle.lent_map.proofs.insert_entry.Goals as goal

pub put_place-requires : goal.put_place-requires
put_place-requires c =
    omega (arith, index_within _ is_free _ c.find_free-free.ensures)

pub returns-then-old-free : goal.returns-then-old-free
returns-then-old-free c =
    let a = c.args in
    let held = c.find_key-old.ensures in
    let free = c.find_free-free.ensures in
    let e = inserted_there _ _ _ held a.value _ free c.if-old-free.true in
    let s = place_stored a.map.now c.find_key-old.result (taken a.key a.value) c.are_bytes.ensures (omega (arith, c.if-old-free.true, index_within _ is_free _ free)) in
    (rw e, rw (e, s) c.put_place.ensures)

pub returns : goal.returns
returns c =
    let a = c.args in
    let held = c.find_key-old.ensures in
    let free = c.find_free-free.ensures in
    let l = c.if-old-free.false in
    let m : c.find_free-free.result < 8 = omega arith in
    let h = c.are_bytes.ensures in
    let e = inserted_before _ _ _ held a.value _ free l m in
    let s = both_stored _ _ _ held a.value _ free l m h in
    (rw e, rw (e, s, c.free_place.ensures, c.put_place-2.ensures))
