-- The handlers of a region's loads and stores (document 01: a half), and their numbers. Assumes nothing.
use Rattle.std.specs.Prelude.{ℕ, Bool, List, [], ◌∷◌, eqb, ltb, length, get_or}
use Rattle.stage2_range.specs.declared.MemoryHandler.{MemoryHandler}
use Rattle.stage2_range.specs.declared.MemoryHandler.TheVariants.{Absent, FilteredMmio, Fault}

-- by their numbers: "0 absent, 1 the filtered page", and "Half 2 means fault"
abbrev pub handlers : List MemoryHandler
handlers = Absent ∷ FilteredMmio ∷ Fault ∷ []

-- the handler that a number names, and the fault where it names none: bytes handed in with an unknown code are not served
abbrev pub handler_of : ℕ → MemoryHandler
handler_of number = get_or handlers number Fault

-- a number names a handler: "20 now covers halves above 2"
abbrev pub is_handler : ℕ → Bool
is_handler number = ltb number (length handlers)

-- the number that names a handler
abbrev pub handler_number : MemoryHandler → ℕ
handler_number Absent = 0
handler_number FilteredMmio = 1
handler_number Fault = 2

-- two handlers are the same
abbrev pub same_handler : MemoryHandler → MemoryHandler → Bool
same_handler h k = eqb (handler_number h) (handler_number k)
