use native.Mathlib.Omega.{arith}
use mathlib.Core.Path.{sym, ◌∙◌, ap}
use Rattle.lists.proofs.Laws.{index_start, index_here, index_later}
use Rattle.simple_map.specs.Map.{free_place}
use Rattle.lent_map.specs.Layout.{fits_sought}
use Rattle.lent_map.proofs.InPlace.{eight, place_of}
use Rattle.lent_map.proofs.position.Goals as goal

pub loop-place-init : goal.loop-place-init
loop-place-init c = index_start _ _ _ (omega (arith, eight c.args.map.now))

pub returns-then-place_fits : goal.returns-then-place_fits
returns-then-place_fits c =
    let a = c.args in
    let at = place_of a.map.now c.loop-place.place free_place (omega arith) in
    index_here c.loop-place.invariant (omega arith) (omega (arith, eight a.map.now)) free_place (ap (fits_sought a.sought) at ∙ sym c.place_fits.ensures ∙ c.if-place_fits.true)

pub loop-place-preserved : goal.loop-place-preserved
loop-place-preserved c =
    let a = c.args in
    let at = place_of a.map.now c.loop-place.place free_place (omega arith) in
    index_later c.loop-place.invariant (omega arith) (omega (arith, eight a.map.now)) free_place (ap (fits_sought a.sought) at ∙ sym c.place_fits.ensures ∙ c.if-place_fits.false)
