use Prim.Native.Nat.{◌+◌, ◌*◌}
use native.Mathlib.Omega.{arith}
use Rattle.lists.proofs.Laws.{index_start, index_here, index_later, index_done}
use Rattle.lent_words.proofs.Words.{length-each}
use Rattle.lent_policy.proofs.Search.{found_there, found_none}
use Rattle.lent_release.proofs.Laws.{record_told}
use Rattle.lent_release.proofs.stored_place.Goals as goal

pub loop-place-init : goal.loop-place-init
loop-place-init g c =
    let a = c.args in
    index_start _ _ _ (omega (arith, length-each (λ k. g.row.FIRST + g.row.WORDS * k) 0 a.held))

pub returns-then-is_stored : goal.returns-then-is_stored
returns-then-is_stored g c =
    let a = c.args in
    let l = c.loop-place in
    found_there _ _ (length-each (λ k. g.row.FIRST + g.row.WORDS * k) 0 a.held)
    (index_here l.invariant (omega arith) (omega (arith, length-each (λ k. g.row.FIRST + g.row.WORDS * k) 0 a.held)) 0
    (record_told a.policy.now _ _ g.row.FIRST g.row.WORDS a.held l.place (omega arith) c.is_stored.ensures c.if-is_stored.true)) (omega arith)

pub loop-place-preserved : goal.loop-place-preserved
loop-place-preserved g c =
    let a = c.args in
    let l = c.loop-place in
    index_later l.invariant (omega arith) (omega (arith, length-each (λ k. g.row.FIRST + g.row.WORDS * k) 0 a.held)) 0
    (record_told a.policy.now _ _ g.row.FIRST g.row.WORDS a.held l.place (omega arith) c.is_stored.ensures c.if-is_stored.false)

pub returns : goal.returns
returns g c =
    let a = c.args in
    let l = c.loop-place in
    found_none _ _ (length-each (λ k. g.row.FIRST + g.row.WORDS * k) 0 a.held) (index_done l.invariant (omega arith)) (omega arith)
