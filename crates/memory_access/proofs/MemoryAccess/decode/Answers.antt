-- Each field is the syndrome's, by the contract of the function that decodes it; ISV clear gives no access.
use mathlib.Core.Path.{◌≡◌, sym, ◌∙◌}
use mathlib.Core.Bool.{true}
use Rattle.memory_access.specs.Syndrome.{isv, decode_access}
use Rattle.memory_access.proofs.MemoryAccess.decode.Goals as goal
use Rattle.memory_access.proofs.MemoryAccess.decode.Goals.{Else-not-decode_valid_instruction_syndrome}

pub returns-then-not-decode_valid_instruction_syndrome : goal.returns-then-not-decode_valid_instruction_syndrome
unfolding decode_access
returns-then-not-decode_valid_instruction_syndrome c =
    rw (
      ← c.decode_valid_instruction_syndrome.ensures,
      c.if-not-decode_valid_instruction_syndrome.true,
    )

-- past the test the syndrome is valid
valid : (c : Else-not-decode_valid_instruction_syndrome) → isv c.args.iss ≡ true
valid c =
    let v = c.decode_valid_instruction_syndrome in
    sym v.ensures ∙ c.if-not-decode_valid_instruction_syndrome.false

pub returns : goal.returns
unfolding decode_access
returns c =
    simp (
      valid c.before.before.before.before.before.before,
      c.decode_fault_ipa.ensures,
      c.decode_memory_access_width.ensures,
      c.decode_memory_access_kind.ensures,
      c.decode_memory_access_register_index.ensures,
      c.decode_memory_access_sign_extend.ensures,
      c.decode_memory_access_register_width_64.ensures,
    )
