-- Laws of a call's function identifier and its hint. Assumes nothing.
use Prim.Native.Nat.{ℕ, zero, suc, ◌+◌, ◌*◌, ◌%◌, ◌^◌, ◌<◌}
use mathlib.Core.Path.{◌≡◌, refl}
use mathlib.Core.Bool.{Bool, true, false, cond, ◌&&◌}
use native.Mathlib.Omega.{arith}
use lib.Dec.{eqb, lit<, lit≤}
use lib.ListN.{get_or}
use lib.Seq.{set-get_or}
use Rattle.lists.proofs.Laws.{cond_all, cond_same}
use Rattle.bits.specs.Bits.{bits_at, bit_at, low_bits, with_bits}
use Rattle.bits.proofs.Laws.{field_fits, low_fits, low_field, bits_kept, replaced-field, replaced-fits}
use Rattle.exceptions.specs.declared.Core.{Core}
use Rattle.exceptions.specs.declared.Conduit.{Conduit}
use Rattle.forwarded_call.specs.ForwardedCall.{w0, is_fast_call, function_id_of, sve_hint_of, guest_call, forward_call}
use Rattle.forwarded_call.specs.Agreement.{Agreed, forward_by_x0}

-- what holds of W0, and of W0 with bit 16 cleared, holds of an identifier
id_all : (P : ℕ → Type 0) (x0 : ℕ) → P (with_bits (w0 x0) 16 1 0) → P (w0 x0) → P (function_id_of x0)
unfolding function_id_of
id_all P x0 fast yielding = cond_all P (is_fast_call x0) _ _ fast yielding

-- an identifier has 32 bits
pub id_fits : (x0 : ℕ) → function_id_of x0 < 2 ^ 32
id_fits x0 = id_all (λ n. n < 2 ^ 32) x0 (replaced-fits (w0 x0) 16 1 0 (lit< tt) 15 (low_fits 32 x0)) (low_fits 32 x0)

-- identifier, hint and recipient depend on x0 modulo 2^32 alone
pub low_half_alone : (x0 y0 : ℕ) → x0 % 2 ^ 32 ≡ y0 % 2 ^ 32 → guest_call x0 ≡ guest_call y0
unfolding guest_call function_id_of sve_hint_of low_bits
low_half_alone x0 y0 e = rw e

-- the hint is 1 exactly where bits 31 and 16 are both set, and else 0
pub hint_set : (x0 : ℕ) → sve_hint_of x0 ≡ cond (bit_at x0 31 && bit_at x0 16) 1 0
unfolding sve_hint_of bit_at
hint_set x0 = rw (low_field 32 x0 31 1 (lit≤ tt), low_field 32 x0 16 1 (lit≤ tt)) (both (eqb (bits_at x0 31 1) 1) (bits_at x0 16 1) (field_fits x0 16 1))
  where
    both : (fast : Bool) (bit : ℕ) → bit < 2 → cond fast bit 0 ≡ cond (fast && eqb bit 1) 1 0
    both true zero h = refl
    both true (suc zero) h = refl
    both true (suc (suc bit)) h = absurd (omega arith)
    both false bit h = refl

-- nothing of W0 is lost: the identifier and the hint tell it
pub w0_told : (x0 : ℕ) → function_id_of x0 + sve_hint_of x0 * 2 ^ 16 ≡ w0 x0
unfolding function_id_of sve_hint_of with_bits
w0_told x0 = go (is_fast_call x0)
  where
    go : (fast : Bool) → cond fast (with_bits (w0 x0) 16 1 0) (w0 x0) + cond fast (bits_at (w0 x0) 16 1) 0 * 2 ^ 16 ≡ w0 x0
    go true = omega (arith, bits_kept (w0 x0) 16 1)
    go false = omega arith

-- a number of 32 bits is its own W0
own_w0 : (x0 : ℕ) → x0 < 2 ^ 32 → w0 x0 ≡ x0
unfolding low_bits
own_w0 x0 h = omega (arith, h)

-- and its own identifier, where its bit 16 is clear, with no hint
pub own_id : (x0 : ℕ) → Agreed x0 → function_id_of x0 ≡ x0
own_id x0 (fits, clear) =
    let kept : with_bits x0 16 1 0 ≡ x0 = rw (← clear) (bits_kept x0 16 1) in
    id_all (λ n. n ≡ x0) x0 (rw (own_w0 x0 fits) kept) (own_w0 x0 fits)

no_hint : (x0 : ℕ) → Agreed x0 → sve_hint_of x0 ≡ 0
unfolding sve_hint_of
no_hint x0 (fits, clear) = rw (own_w0 x0 fits, clear) (cond_same (bit_at x0 31) 0)

-- an identifier's identifier is itself
pub id_again : (x0 : ℕ) → function_id_of (function_id_of x0) ≡ function_id_of x0
unfolding function_id_of
id_again x0 = go (is_fast_call x0) refl
  where
    cleared : ℕ
    cleared = with_bits (w0 x0) 16 1 0

    go : (fast : Bool) → is_fast_call x0 ≡ fast → function_id_of (cond fast cleared (w0 x0)) ≡ cond fast cleared (w0 x0)
    go true e = own_id cleared (replaced-fits (w0 x0) 16 1 0 (lit< tt) 15 (low_fits 32 x0), replaced-field (w0 x0) 16 1 0 (lit< tt))
    go false e = rw (own_w0 (w0 x0) (low_fits 32 x0), e)

-- where the upper half and bit 16 of x0 are zero, a call is handed out as document 01 had it, and has no hint
pub agreed : (core : Core) (conduit : Conduit) → Agreed (get_or core.x 0 0) → forward_call core conduit ≡ forward_by_x0 core conduit
unfolding forward_call guest_call forward_by_x0
agreed core conduit h = rw (own_id (get_or core.x 0 0) h, no_hint (get_or core.x 0 0) h, set-get_or core.x 0 0)
