-- The loop's invariant: the place is `place` places further than the first that is stored with base and size among those not yet passed.
use Prim.Native.Nat.{◌+◌, ◌*◌}
use Rattle.lists.specs.Lists.{first_index}
use Rattle.lists.proofs.Laws.{IndexLeft}
use Rattle.lent_words.specs.Words.{each}
use Rattle.lent_release.specs.Calls.{is_stored}
use Rattle.lent_release.proofs.stored_place.Given as goal

abbrev pub invariant-loop-place : goal.invariant-loop-place
invariant-loop-place g l =
    IndexLeft (λ at. is_stored l.policy at l.base_ipa l.size) (each (λ k. g.row.FIRST + g.row.WORDS * k) 0 l.held) l.held l.place
    (first_index (λ at. is_stored l.policy at l.base_ipa l.size) (each (λ k. g.row.FIRST + g.row.WORDS * k) 0 l.held))
