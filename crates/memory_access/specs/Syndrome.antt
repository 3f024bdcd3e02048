-- The instruction syndrome of a data abort, and the access that it describes (document 01, "Access"). Field names and places are those of
-- Arm DDI 0601, ESR_EL2, "ISS encoding for an exception from a Data Abort". Assumes nothing.
use Rattle.std.specs.Prelude.{Bool, true, false, cond, List, [], ◌∷◌, ℕ, ◌+◌, ◌*◌, ◌%◌, ◌^◌, get_or, replicate, None, Option, Some}
use Rattle.lists.specs.Refusals.{missing_number}
use Rattle.bits.specs.Bits.{bits_at, bit_at}
use Rattle.memory_access.specs.declared.Fipa.{Fipa}
use Rattle.memory_access.specs.declared.Ipa.{Ipa}
use Rattle.memory_access.specs.declared.MemoryAccessWidth.{MemoryAccessWidth}
use Rattle.memory_access.specs.declared.MemoryAccessWidth.TheVariants.{U8, U16, U32, U64}
use Rattle.memory_access.specs.declared.MemoryAccessKind.{MemoryAccessKind}
use Rattle.memory_access.specs.declared.MemoryAccessKind.TheVariants.{Read, Write}
use Rattle.memory_access.specs.declared.MemoryAccess.{MemoryAccess}

-- "ISV is bit 24": the syndrome is valid
abbrev pub isv : ℕ → Bool
isv iss = bit_at iss 24

-- "SAS is bits 23:22": the access size
abbrev pub sas : ℕ → ℕ
sas iss = bits_at iss 22 2

-- "SSE bit 21": the loaded value is sign-extended
abbrev pub sse : ℕ → Bool
sse iss = bit_at iss 21

-- "SRT bits 20:16": the register transferred
abbrev pub srt : ℕ → ℕ
srt iss = bits_at iss 16 5

-- "SF bit 15": the register is 64 bits wide
abbrev pub sf : ℕ → Bool
sf iss = bit_at iss 15

-- "WnR bit 6": a write, not a read
abbrev pub wnr : ℕ → Bool
wnr iss = bit_at iss 6

-- "SAS 0 to 3 means 8, 16, 32, 64 bits"
abbrev pub width_of : ℕ → MemoryAccessWidth
width_of sas = get_or (U8 ∷ U16 ∷ U32 ∷ U64 ∷ []) sas U64

-- an access width in bits
abbrev pub bits_of : MemoryAccessWidth → ℕ
bits_of U8 = 8
bits_of U16 = 16
bits_of U32 = 32
bits_of U64 = 64

-- "WnR set is a store"
abbrev pub kind_of : Bool → MemoryAccessKind
kind_of true = Write
kind_of false = Read

-- "IPA = (FIPA mod 2^52) × 4,096 + FAR mod 4,096": a page number and a faulting address make a byte address
unfoldable pub fault_ipa : Fipa → ℕ → Ipa
fault_ipa fipa far = record { 0 = fipa.0 % 2 ^ 52 * 4096 + far % 4096 }

-- the access that a valid syndrome describes, field by field. The register is named, not read.
abbrev pub access_of : ℕ → Fipa → ℕ → MemoryAccess
access_of iss fipa far = record {
  ipa = fault_ipa fipa far;
  width = width_of (sas iss);
  kind = kind_of (wnr iss);
  register_index = srt iss;
  sign_extend = sse iss;
  register_width_64 = sf iss;
}

-- "ISV clear refuses"
unfoldable pub decode_access : ℕ → Fipa → ℕ → Option MemoryAccess
decode_access iss fipa far = cond (isv iss) (Some (access_of iss fipa far)) None

-- the number of an answer in document 01's table
abbrev pub number_of : Option MemoryAccess → ℕ
number_of decoded = missing_number 19 decoded

-- a direction as a number: WnR
abbrev pub kind_number : MemoryAccessKind → ℕ
kind_number Read = 0
kind_number Write = 1

-- a test as a number
abbrev pub flag_number : Bool → ℕ
flag_number b = cond b 1 0

-- the result fields of an answer: IPA, bits, WnR, Rt, SSE, SF; zeros in a refusal
abbrev pub values_of : Option MemoryAccess → List ℕ
values_of (Some a) =
    a.ipa.0
    ∷ bits_of a.width
    ∷ kind_number a.kind
    ∷ a.register_index
    ∷ flag_number a.sign_extend
    ∷ flag_number a.register_width_64
    ∷ []
values_of None = replicate 6 0
