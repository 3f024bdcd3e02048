-- A line of hexadecimal numbers, read byte by byte. Assumes nothing.
use Rattle.std.specs.Prelude.{ℕ, ◌+◌, ◌*◌, ◌-◌, ◌^◌, true, false, cond, eqb, ltb, get_or, set, replicate, Option, Some, None}
use Rattle.records.specs.declared.Line.{Line}

-- the value of a digit, `0` to `9` or `a` to `f` in ASCII; no other byte has one
unfoldable pub digit_of : ℕ → Option ℕ
digit_of byte =
    cond (ltb byte 48) None
    (cond (ltb byte 58) (Some (byte - 48))
    (cond (ltb byte 97) None
    (cond (ltb byte 103) (Some (byte - 87))
    None)))

-- before the first byte: no number
abbrev pub empty_line : Line
empty_line = record { fields = replicate 39 0; place = Some 0; begun = false }

-- no list of numbers: there is no place for a number, and no byte makes one
abbrev pub malformed : Line → Line
malformed line = record { fields = line.fields; place = None; begun = false }

-- a space begins the next number, and stands after a digit
unfoldable pub with_space : Line → ℕ → Line
with_space line place = cond line.begun (record { fields = line.fields; place = Some (place + 1); begun = false }) (malformed line)

-- a number with a digit after it, where that is a number of 64 bits
abbrev pub one_digit_longer : ℕ → Option ℕ → Option ℕ
one_digit_longer value None = None
one_digit_longer value (Some digit) = let longer = value * 16 + digit in cond (ltb longer (2 ^ 64)) (Some longer) None

-- this number in place of the one that is read at a place; without one the line is no list of numbers
abbrev pub with_number : Line → ℕ → Option ℕ → Line
with_number line place None = malformed line
with_number line place (Some value) = record { fields = set line.fields place value; place = Some place; begun = true }

-- a digit makes the number that is read at a place one digit longer
unfoldable pub with_digit : Line → ℕ → Option ℕ → Line
with_digit line place digit = with_number line place (one_digit_longer (get_or line.fields place 0) digit)

-- a byte, where a number is read at this place: a space, or else a digit
abbrev pub with_byte_at : Line → ℕ → Option ℕ → Line
with_byte_at line byte None = line
with_byte_at line byte (Some place) =
    cond (ltb place 39) (cond (eqb byte 32) (with_space line place) (with_digit line place (digit_of byte))) line

-- a byte: a space, or else a digit
unfoldable pub with_byte : Line → ℕ → Line
with_byte line byte = with_byte_at line byte line.place
