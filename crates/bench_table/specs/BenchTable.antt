-- The bench table of document 01: its P rows, each once, in its order, as document 02's requests leave them, and the rows that these add.
-- Each comment is a row: what is given, and what is found. The states are built from fresh by the calls that a row names. Assumes nothing.
use Rattle.std.specs.Prelude.{ℕ, zero, suc, ◌+◌, ◌-◌, ◌^◌, Bool, true, false, ◌&&◌, List, [], ◌∷◌, ◌++◌, eqb, take, get_or}
use Rattle.lists.specs.Lists.{first_index}
use Rattle.memory_access.specs.declared.MemoryAccessWidth.TheVariants.{U8, U64}
use Rattle.memory_access.specs.Syndrome.{decode_access, number_of, values_of}
use Rattle.memory_access.specs.Transfer.{extend_read_result}
use Rattle.stage2_range.specs.Ranges.{result_number}
use Rattle.stage2_range.specs.Registry.{has_address, find_region, found_values}
use Rattle.stage2.specs.Policy.{fresh_policy, regions_held}
use Rattle.stage2.specs.Builds.{BuilderCall, allow, handle, build, build_all}
use Rattle.exceptions.specs.declared.Core.{Core}
use Rattle.exceptions.specs.Registers.{core_of}
use Rattle.core_answers.specs.Answers.{core_number, trap_number, trap_kind}
use Rattle.bench_table.specs.States.{load, one_region, access_at, trap_at, trapped, trapped_through, replied}

-- a row: the numbers that the definitions give, and those of the document
pub record Row : Type 0 where
  pub found : List ℕ
  pub expected : List ℕ

abbrev pub row : List ℕ → List ℕ → Row
row found expected = record { found = found; expected = expected }

-- two lists are the same, number by number
abbrev pub same : List ℕ → List ℕ → Bool
same [] [] = true
same [] (y ∷ ys) = false
same (x ∷ xs) [] = false
same (x ∷ xs) (y ∷ ys) = eqb x y && same xs ys

-- every row's numbers are found as expected
abbrev pub holds : List Row → Bool
holds [] = true
holds (r ∷ rs) = same r.found r.expected && holds rs

-- what a builder call answers after others on the fresh policy; 0 where it is accepted
abbrev pub answer_after : List BuilderCall → BuilderCall → ℕ
answer_after calls call = result_number (build (build_all fresh_policy calls) call).answer

-- a builder call for a single page
abbrev pub allow_page : ℕ → BuilderCall
allow_page base = allow base 4096 0

abbrev pub handle_page : ℕ → BuilderCall
handle_page base = handle base 4096 1 1

-- such a call for each of the first `n` pages from an address on
abbrev pub for_pages : (ℕ → BuilderCall) → ℕ → ℕ → List BuilderCall
for_pages call base zero = []
for_pages call base (suc n) = call base ∷ for_pages call (base + 4096) n

-- one allowed range, and 16 regions
abbrev pub full_of_regions : List BuilderCall
full_of_regions = allow_page 0 ∷ for_pages handle_page 0x10000 16

-- what `find` answers with the region at 0x0F000000: whether it is found, its place and the offset in it
abbrev pub find : ℕ → List ℕ
find address =
    let regions = regions_held one_region in
    found_values (first_index (has_address address) regions) (find_region regions (record { 0 = address }))

-- what decode answers: its number, and then IPA, bits, WnR, Rt, SSE, SF
abbrev pub decode : ℕ → ℕ → ℕ → List ℕ
decode iss fipa far = let answer = decode_access iss (record { 0 = fipa }) far in number_of answer ∷ values_of answer

-- ESR_EL2 of a call: EC 0x16, and EC 0x17
abbrev pub hvc : ℕ
hvc = 0x58000000

abbrev pub smc : ℕ
smc = 0x5C000000

-- core 0, which was saved with ELR 0x1000 and SPSR 5 and then trapped
abbrev pub core0 : List Core → Core
core0 cores = core_of cores 0

-- after a trap with no region: which answer it is (3: abort injected), ESR_EL1, ELR, SPSR_EL1
abbrev pub abort : ℕ → ℕ → List ℕ
abort esr vbar =
    let step = trapped 0 (trap_at esr vbar) in
    let core = core0 step.cores in
    trap_kind step.result.answer ∷ core.el1.esr ∷ core.elr ∷ core.el1.spsr ∷ []

-- after an access to the page at 0x0F000000 with these handlers, every register 7 and the counter 9: the answer's number, which answer it
-- is (1: load handled, 2: store handled), x5, ELR, the counter
abbrev pub through : ℕ → ℕ → ℕ → ℕ → ℕ → List ℕ
through read write esr far vbar =
    let step = trapped_through read write (access_at esr far vbar) in
    let core = core0 step.cores in
    trap_number step.result.answer ∷ trap_kind step.result.answer ∷ get_or core.x 5 0 ∷ core.elr ∷ step.counter ∷ []

-- ESR_EL2 of a load into x5, of 64 bits and of 32, and of a store of 64 bits from x5
abbrev pub load64 : ℕ
load64 = 0x93C58000

abbrev pub load32 : ℕ
load32 = 0x93850000

abbrev pub store64 : ℕ
store64 = 0x93C58040

-- which answer the trap of a call is: 4 to the firmware, 5 to the platform. All registers hold the same value as x0.
abbrev pub call : ℕ → ℕ → ℕ
call esr x0 = trap_kind (trapped x0 (trap_at esr 0)).result.answer

-- what is handed out by an HVC: which answer it is, the first two values, the hint; and then x0 of the core, which stays as it was
abbrev pub hand_out : ℕ → List ℕ
hand_out x0 =
    let step = trapped x0 (trap_at hvc 0) in
    trap_kind step.result.answer ∷ (take 2 step.result.values ++ (step.result.sve_hint ∷ take 1 (core0 step.cores).x))

-- after the reply to that call, of this kind and with the value 7: the number of the reply's answer, ELR, x0 to x4
abbrev pub reply : ℕ → ℕ → ℕ → List ℕ
reply esr x0 kind =
    let step = replied esr x0 kind in
    let core = core0 step.cores in
    core_number step.answer ∷ core.elr ∷ take 5 core.x

abbrev pub bench_table : List Row
bench_table =
    -- "base 1, size 0": "1"
    row (answer_after [] (allow 1 0 0) ∷ []) (1 ∷ [])
    -- "size 4,096 at 2^64 - 8,192; at 2^64 - 4,096": "accepted; 4"
    ∷ row (answer_after [] (allow_page (2 ^ 64 - 8192)) ∷ answer_after [] (allow_page (2 ^ 64 - 4096)) ∷ []) (0 ∷ 4 ∷ [])
    -- "32 allowed, allow an overlapping one": "5"
    ∷ row (answer_after (for_pages allow_page 0 32) (allow_page 0) ∷ []) (5 ∷ [])
    -- "16 regions, handle over an allowed range; over a region only": "6; 8"
    ∷ row (answer_after full_of_regions (handle_page 0) ∷ answer_after full_of_regions (handle_page 0x10000) ∷ []) (6 ∷ 8 ∷ [])
    -- "0x1000 size 0x1000 allowed, then the same at 0x2000; at 0x1000": "accepted; 6"
    ∷ row
    (answer_after (allow_page 0x1000 ∷ []) (allow_page 0x2000) ∷ answer_after (allow_page 0x1000 ∷ []) (allow_page 0x1000) ∷ [])
    (0 ∷ 6 ∷ [])
    -- "region 0x0F000000 size 4,096: find 0x0F000FFF; 0x0F001000": "offset 4,095; none"
    ∷ row (find 0x0F000FFF ++ find 0x0F001000) (1 ∷ 0 ∷ 4095 ∷ 0 ∷ 0 ∷ 0 ∷ [])
    -- "ISS 0x01C58000; 0x00C58000": "64-bit load into x5, SF set, SSE clear; 19"
    ∷ row (decode 0x01C58000 0 0 ++ decode 0x00C58000 0 0) (0 ∷ 0 ∷ 64 ∷ 0 ∷ 5 ∷ 0 ∷ 1 ∷ 19 ∷ 0 ∷ 0 ∷ 0 ∷ 0 ∷ 0 ∷ 0 ∷ [])
    -- "FIPA 0xF000, FAR 0x0ABCD010": "IPA 0x0F000010"
    ∷ row (decode 0x01C58000 0xF000 0x0ABCD010) (0 ∷ 0x0F000010 ∷ 64 ∷ 0 ∷ 5 ∷ 0 ∷ 1 ∷ [])
    -- "byte 0x80, SSE set, SF set; SF clear": "0xFFFFFFFFFFFFFF80; 0xFFFFFF80"
    ∷ row
    (extend_read_result (load U8 true true) 0x80 ∷ extend_read_result (load U8 true false) 0x80 ∷ [])
    (0xFFFFFFFFFFFFFF80 ∷ 0xFFFFFF80 ∷ [])
    -- "64 bits, SF clear, 0x100000002": "2"
    ∷ row (extend_read_result (load U64 false false) 0x100000002 ∷ []) (2 ∷ [])
    -- "ESR 0x93C58000, saved SPSR 5, no region, VBAR 0x80000": "ESR_EL1 0x97C58000, ELR 0x80200"
    ∷ row (abort 0x93C58000 0x80000) (3 ∷ 0x97C58000 ∷ 0x80200 ∷ 5 ∷ [])
    -- "SMC, x0 0xC4000003, reply kind 1 value 7": "x0 7, x1 to x3 0, x4 kept, ELR + 4"
    ∷ row (call smc 0xC4000003 ∷ reply smc 0xC4000003 1) (4 ∷ 0 ∷ 0x1004 ∷ 7 ∷ 0 ∷ 0 ∷ 0 ∷ 0xC4000003 ∷ [])
    -- "HVC, x0 0x184000000", by document 02: to the firmware, first value 0x84000000, hint 0
    ∷ row (hand_out 0x184000000) (4 ∷ 0x84000000 ∷ 0x184000000 ∷ 0 ∷ 0x184000000 ∷ [])
    -- added by document 02: to the firmware with the hint, of either register width
    ∷ row (hand_out 0x84010000 ++ hand_out 0xC401001F) (4 ∷ 0x84000000 ∷ 0x84010000 ∷ 1 ∷ 0x84010000 ∷ 4 ∷ 0xC400001F ∷ 0xC401001F ∷ 1 ∷ 0xC401001F ∷ [])
    -- past the last of the firmware's identifiers, without the hint and with it: to the platform
    ∷ row (hand_out 0x84000020 ++ hand_out 0x84010020) (5 ∷ 0x84000020 ∷ 0x84000020 ∷ 0 ∷ 0x84000020 ∷ 5 ∷ 0x84000020 ∷ 0x84010020 ∷ 1 ∷ 0x84010020 ∷ [])
    -- a yielding call keeps bit 16
    ∷ row (hand_out 0x04010000) (5 ∷ 0x04010000 ∷ 0x04010000 ∷ 0 ∷ 0x04010000 ∷ [])
    -- an upper half and the hint, to the platform
    ∷ row (hand_out 0x1FF010000) (5 ∷ 0xFF000000 ∷ 0x1FF010000 ∷ 1 ∷ 0x1FF010000 ∷ [])
    -- a core that called with 0x184000000 waits for the firmware, whose reply of kind 2 is refused: 15
    ∷ row (take 1 (reply hvc 0x184000000 2)) (15 ∷ [])
    -- a load through an absent half, into x5, which held 7: 0; of 32 bits, at an offset of 3
    ∷ row (through 0 1 load64 0 0x80000 ++ through 0 1 load32 3 0x80000) (0 ∷ 1 ∷ 0 ∷ 0x1004 ∷ 9 ∷ 0 ∷ 1 ∷ 0 ∷ 0x1004 ∷ 9 ∷ [])
    -- a load of the word at 16 through it, and through the filtered page: the counter stays, and grows
    ∷ row (through 0 1 load64 16 0x80000 ++ through 1 0 load64 16 0x80000) (0 ∷ 1 ∷ 0 ∷ 0x1004 ∷ 9 ∷ 0 ∷ 1 ∷ 9 ∷ 0x1004 ∷ 10 ∷ [])
    -- a store through an absent half, VBAR 0: accepted
    ∷ row (through 2 0 store64 0 0) (0 ∷ 2 ∷ 7 ∷ 0x1004 ∷ 9 ∷ [])
    -- a load through half 2, with a vector and with VBAR 0: the abort; 13
    ∷ row (through 2 0 load64 0 0x80000 ++ through 2 0 load64 0 0) (0 ∷ 3 ∷ 7 ∷ 0x80200 ∷ 9 ∷ 13 ∷ 0 ∷ 7 ∷ 0x1000 ∷ 9 ∷ [])
    -- handle with half 2; with half 3: accepted; 20
    ∷ row (answer_after [] (handle 0 4096 2 2) ∷ answer_after [] (handle 0 4096 3 0) ∷ answer_after [] (handle 0 4096 0 3) ∷ []) (0 ∷ 20 ∷ 20 ∷ [])
    ∷ []
