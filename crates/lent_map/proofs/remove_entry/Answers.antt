use mathlib.Core.Path.{sym, ◌∙◌}
use Rattle.simple_map.specs.Map.{remove_item}
use Rattle.lent_map.proofs.InPlace.{entry_at, removed_stored}
use Rattle.lent_map.proofs.remove_entry.Goals as goal

pub returns : goal.returns
unfolding remove_item
returns c =
    let at = c.find_key-held.ensures in (
      c.value_at-removed.ensures ∙ sym (entry_at _ _ _ at),
      c.free_place.ensures ∙ sym (removed_stored _ _ _ at c.are_bytes.ensures),
    )
