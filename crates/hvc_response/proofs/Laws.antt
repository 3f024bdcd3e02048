-- Laws on replies. Assumes nothing.
use Prim.Native.Nat.{ℕ, zero, suc, ◌+◌, ◌-◌, ◌^◌, ◌≤◌, ◌<◌}
use mathlib.Core.Path.{◌≡◌, refl, ap, ◌∙◌}
use mathlib.Core.List.{List, ◌++◌}
use native.Mathlib.Numerals.{add-one}
use lib.ListN.{length, take, drop, set, get_or, length-append, length-drop}
use lib.Seq.{length-take-le, take_all, drop-cons, take-suc, append_snoc, set_at}
use Rattle.exceptions.specs.declared.Core.{Core}
use Rattle.exceptions.specs.Registers.{with_registers}
use Rattle.exceptions.proofs.InWords.{InWords, in_registers}
use mathlib.Core.Bool.{true, false, cond, true≢false}
use native.Mathlib.Omega.{arith}
use borrow.Author.Tests.{lt-ltb, le-ltb, ltb-true}
use lib.Dec.{ltb}
use lib.IntN.{ℤ, pos, negsuc, ◌-ℤ◌, nat_abs}
use lib.Signed.{mag, lt_z}
use mir.Syntax.{w32, w64}
use mir.Val.{SFits, to_z, of_z}
use mir.ValLaws.{to_z_pos, to_z-of_z}
use Rattle.core_answers.specs.declared.CoreError.TheVariants.{UnknownReplyKind}
use Rattle.hvc_response.specs.Response.{signed_word, with_first, result_of_kind, result_kind_number, reply_length, response}
use Rattle.hvc_response.specs.declared.HvcResult.{HvcResult}
use Rattle.hvc_response.specs.declared.HvcResult.TheVariants.{Unhandled, Value, Success, SuccessLarge, Error}
use Rattle.bits.specs.Bits.{FitsWord}
use Rattle.lists.proofs.Every.{Every, every_append, every_take, every_drop, take_short}
use Rattle.std.specs.Prelude.{Err, Ok, Result}
use Rattle.core_answers.specs.declared.CoreError.{CoreError}

-- -1 less a negative number is one less than its amount
less_one : (n : ℕ) → negsuc 0 -ℤ negsuc n ≡ pos n
less_one n =
    let e : suc n - 1 ≡ n = omega arith in
    rw (le-ltb (suc n) 1 (omega arith)) (ap pos e)

-- a negative 32-bit number, by the one's complement of its word
pub record Negative (z : ℤ) : Type 0 where
  pub fits : SFits w32 (negsuc 0 -ℤ z)
  pub amount : to_z w32 (of_z w32 (negsuc 0 -ℤ z)) ≡ pos (mag z)
  pub word : 2 ^ 64 - 1 - mag z ≡ signed_word z

pub negative : (z : ℤ) → SFits w32 z → lt_z z (pos 0) ≡ true → Negative z
unfolding signed_word
negative (pos n) f t = absurd (omega (arith, ltb-true n 0 t))
negative (negsuc n) f t = record {
  fits = rw (less_one n) (record { sfits = f.sfits });
  amount = rw (less_one n) (to_z_pos w32 n f.sfits);
  word = omega arith;
}

-- the word of a negative 32-bit number is the complement of -1 less it
pub complement : (z : ℤ) → SFits w32 z → lt_z (to_z w32 (of_z w32 z)) (pos 0) ≡ true
    → 18446744073709551615 - nat_abs (to_z w32 (of_z w32 (negsuc 0 -ℤ to_z w32 (of_z w32 z)))) ≡ signed_word z
complement z f t =
    let back = to_z-of_z w32 z f in
    let n = negative z f (rw back at t) in
    rw (back, n.amount) n.word

-- a 32-bit number that is not negative is its own word
pub natural : (z : ℤ) → SFits w32 z → lt_z z (pos 0) ≡ false → (z ≡ pos (signed_word z)) × (signed_word z < 2 ^ 64)
unfolding signed_word
natural (pos n) f t = (refl, omega arith)
natural (negsuc n) f t = absurd (true≢false t)

-- so that the library's cast gives the word of an error
pub error_word : (z : ℤ) → SFits w32 z → of_z w64 z ≡ signed_word z
error_word (pos n) f = ap (of_z w64) (natural (pos n) f (le-ltb n 0 (omega arith))).0
error_word (negsuc n) f = omega (arith, (negative (negsuc n) f refl).word)

-- the library's cast gives the word of a 32-bit number
pub cast_word : (z : ℤ) → of_z w64 z ≡ signed_word z
unfolding signed_word
cast_word (pos n) = refl
cast_word (negsuc n) = refl

-- the first registers are written one by one
next_register : (x values : List ℕ) (i : ℕ) → i < length x → i < length values
    → set (take i values ++ drop i x) i (get_or values i 0) ≡ take (i + 1) values ++ drop (i + 1) x
next_register x values i h k =
    let n : length (take i values) ≡ i = length-take-le i values (omega arith) in
    rw (
      add-one,
      drop-cons x i 0,
      take-suc values i 0,
      append_snoc,
    ) (set_at (take i values) (get_or x i 0) (drop (suc i) x) (get_or values i 0) i n)

-- A loop writes the first registers of `core`: those before place `i` are written in `next`.
pub record Written (core : Core) (values : List ℕ) (i : ℕ) (next : Core) : Type 0 where
  pub within : i ≤ length values
  pub so_far : next ≡ with_first core (take i values)

module _ (core next : Core) (values : List ℕ) (i : ℕ) (inv : Written core values i next) where
  pub write_next : i < length core.x → i < length values
      → Written core values (i + 1) (with_registers next (set next.x i (get_or values i 0)))
  unfolding with_first with_registers
  write_next h k =
      let n : length (take i values) ≡ i = length-take-le i values (omega arith) in
      let m : length (take (i + 1) values) ≡ i + 1 = length-take-le (i + 1) values (omega arith) in
      record {
        within = omega arith;
        so_far = rw (inv.so_far, n, m, next_register core.x values i h k);
      }

-- so that a copy over the first registers writes them one after another
copied : (core : Core) (values : List ℕ) (i : ℕ) → length values ≤ length core.x → i ≤ length values
    → Written core values i (with_registers core (take i values ++ drop i core.x))
unfolding with_first with_registers
copied core values zero h k = record { within = omega arith; so_far = refl }
copied core values (suc i) h k =
    rw (← add-one i, ← next_register core.x values i (omega arith) (omega arith))
    (write_next core _ values i (copied core values i h (omega arith)) (omega arith) (omega arith))

-- a copy of all values
pub copy_written : (core : Core) (values : List ℕ) → length values ≤ length core.x
    → with_registers core (values ++ drop (length values) core.x) ≡ with_first core values
copy_written core values h =
    let n = length values in
    rw (take_all n values (omega arith)) at ((copied core values n h (omega arith)).so_far)

-- the same for a copy of as many as there are
pub ruleset copies = (copy_written, take_all)

-- a kind that is none of 0 to 4
pub unknown_kind : (kind value : ℕ) (error : ℤ) → (kind ≡ 0 → ⊥) → (kind ≡ 1 → ⊥) → (kind ≡ 2 → ⊥) → (kind ≡ 3 → ⊥) → (kind ≡ 4 → ⊥)
    → Err UnknownReplyKind ≡ result_of_kind kind value error
unfolding result_of_kind
unknown_kind zero value error a b c d e = absurd (a refl)
unknown_kind (suc zero) value error a b c d e = absurd (b refl)
unknown_kind (suc (suc zero)) value error a b c d e = absurd (c refl)
unknown_kind (suc (suc (suc zero))) value error a b c d e = absurd (d refl)
unknown_kind (suc (suc (suc (suc zero)))) value error a b c d e = absurd (e refl)
unknown_kind (suc (suc (suc (suc (suc n))))) value error a b c d e = refl

-- 15 exactly where the kind is above 4
pub kind_number_lem : (kind value : ℕ) (error : ℤ) → result_kind_number (result_of_kind kind value error) ≡ cond (ltb 4 kind) 15 0
unfolding result_of_kind
kind_number_lem zero value error = refl
kind_number_lem (suc zero) value error = refl
kind_number_lem (suc (suc zero)) value error = refl
kind_number_lem (suc (suc (suc zero))) value error = refl
kind_number_lem (suc (suc (suc (suc zero)))) value error = refl
kind_number_lem (suc (suc (suc (suc (suc n))))) value error = rw (lt-ltb 4 (suc (suc (suc (suc (suc n))))) (omega arith))

-- the numbers that a result holds fit words
abbrev pub ResultFits : HvcResult → Type 0
ResultFits Unhandled = Unit {0}
ResultFits (Value value) = FitsWord value
ResultFits Success = Unit {0}
ResultFits SuccessLarge = Unit {0}
ResultFits (Error error) = FitsWord (signed_word error)

abbrev pub KindFits : Result HvcResult CoreError → Type 0
KindFits (Ok result) = ResultFits result
KindFits (Err error) = Unit {0}

pub kind_fits : (kind value : ℕ) (error : ℤ) → FitsWord value → FitsWord (signed_word error) → KindFits (result_of_kind kind value error)
unfolding result_of_kind
kind_fits zero value error f g = tt
kind_fits (suc zero) value error f g = f
kind_fits (suc (suc zero)) value error f g = tt
kind_fits (suc (suc (suc zero))) value error f g = tt
kind_fits (suc (suc (suc (suc zero)))) value error f g = g
kind_fits (suc (suc (suc (suc (suc n))))) value error f g = tt

-- what a reply writes fits words, and there are registers for it
response-fits : (result : HvcResult) (values : List ℕ) → ResultFits result → Every FitsWord values
    → (length (response result values) ≤ 31) × Every FitsWord (response result values)
unfolding response signed_word
response-fits Unhandled values f h = (omega arith, (omega arith, tt))
response-fits (Value value) values f h = (omega arith, (f, (omega arith, (omega arith, (omega arith, tt)))))
response-fits Success values f h = (omega (arith, take_short 4 values), every_take FitsWord 4 values h)
response-fits SuccessLarge values f h = (omega (arith, take_short reply_length values), every_take FitsWord reply_length values h)
response-fits (Error error) values f h = (omega arith, (f, tt))

-- a core that takes a result
pub in_response : (c : Core) → InWords c → (result : HvcResult) (values : List ℕ) → ResultFits result → Every FitsWord values
    → InWords (with_first c (response result values))
unfolding with_first
in_response c h result values f fits =
    let written = response result values in
    let w = response-fits result values f fits in
    in_registers c h (written ++ drop (length written) c.x)
    (length-append written (drop (length written) c.x) ∙ omega (arith, length-drop (length written) c.x, h.registers, w.0))
    (every_append FitsWord written (drop (length written) c.x) w.1 (every_drop FitsWord (length written) c.x h.x_fits))
