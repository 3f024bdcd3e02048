-- The definitions of this crate, opened together, for proofs by computation. Assumes nothing.
use Rattle.simple_map.specs.Map.{is_free, holds_key, value_of, empty_map, without, get_item, remove_item, has_room, insert_item}

unfoldable pub opened : Unit {0}
unfolding is_free holds_key value_of empty_map without get_item remove_item has_room insert_item
opened = tt
