-- The definitions of this crate and of those below it, opened together, for proofs by computation. Assumes nothing.
use Rattle.bits.proofs.Opened as bits
use Rattle.memory_access.specs.Syndrome.{fault_ipa, decode_access}
use Rattle.memory_access.specs.Transfer.{sign_extension, loaded, at_register_width, extend_read_result, store_value}

unfoldable pub opened : Unit {0}
unfolding bits.opened fault_ipa decode_access sign_extension loaded at_register_width extend_read_result store_value
opened = tt
