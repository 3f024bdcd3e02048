-- Shifts and masks are the arithmetic of a number's bits, at any place and any width. Each law is the library's on a mask of ones, of which
-- a number is split above and below. Assumes nothing.
use mathlib.Core.Path.{◌≡◌, ap, ap₂, sym, ◌∙◌}
use mathlib.Core.Bool.{not}
use Prim.Native.Nat.{ℕ, zero, suc, ◌+◌, ◌*◌, ◌/◌, ◌%◌, ◌^◌, ◌-◌, ◌<◌, ◌≤◌}
use native.Mathlib.Nat.{add-zero, zero-mul, one-mul, mod-lt, mul_assoc, add-mul, mul-le-mul_right}
use native.Mathlib.Omega.{arith}
use borrow.Author.Tests.{ne_eqb}
use lib.Bits.{bit_and, bit_or, and_mask, and_high, and_block, or_block, or_zero_r, or_shifted_r}
use lib.Dec.{eqb, lit<}
use lib.Pow.{high_ones, ones_split, pow_pos, pow-add, split, high, shl_lt, shr_lt, shr_mod, mod-mod-pow, mod-pow-add}
use lib.Pow as pow
use Rattle.bits.specs.Bits.{bits_at, bit_at, low_bits, with_bits}

-- `(x >> k) & (2^n - 1)`
pub field : (x k n : ℕ) → bit_and (x / 2 ^ k) (2 ^ n - 1) ≡ bits_at x k n
unfolding bits_at
field x k n = and_mask (x / 2 ^ k) n

-- a field of `n` bits is below 2 ^ n
pub field_fits : (x k n : ℕ) → bits_at x k n < 2 ^ n
unfolding bits_at
field_fits x k n = mod-lt (x / 2 ^ k) (pow_pos n)

-- `x & (2^n - 1)`
pub low : (x n : ℕ) → bit_and x (2 ^ n - 1) ≡ low_bits n x
unfolding low_bits
low x n = and_mask x n

pub low_fits : (n x : ℕ) → low_bits n x < 2 ^ n
unfolding low_bits
low_fits n x = mod-lt x (pow_pos n)

-- a field of the low `w` bits that lies within them
pub low_field : (w x k n : ℕ) → n + k ≤ w → bits_at (low_bits w x) k n ≡ bits_at x k n
unfolding bits_at low_bits
low_field w x k n h =
    let whole : w ≡ w - (n + k) + n + k = omega (arith, h) in
    ap (λ (v : ℕ). x % 2 ^ v / 2 ^ k % 2 ^ n) whole
    ∙ ap (λ (y : ℕ). y % 2 ^ n) (pow.field x (w - (n + k) + n) k)
    ∙ mod-mod-pow (x / 2 ^ k) (w - (n + k)) n

pub low_bit : (w x k : ℕ) → 1 + k ≤ w → bit_at (low_bits w x) k ≡ bit_at x k
unfolding bit_at
low_bit w x k h = ap (λ (b : ℕ). eqb b 1) (low_field w x k 1 h)

flag : (b m : ℕ) → b < 2 → 0 < m → not (eqb (b * m) 0) ≡ eqb b 1
flag zero m h p = ap (λ (n : ℕ). not (eqb n 0)) (zero-mul m)
flag (suc zero) m h p =
    ap (λ (n : ℕ). not (eqb n 0)) (one-mul m) ∙ ap not (ne_eqb m 0 (λ e. omega arith))
flag (suc (suc b)) m h p = absurd (omega arith)

one_bit : (x k : ℕ) → bit_and x (2 ^ k) ≡ (x / 2 ^ k % 2) * 2 ^ k
one_bit x k = ap (bit_and x) (sym (high_ones 1 k ∙ one-mul (2 ^ k))) ∙ and_high x 1 k

-- `(x & (1 << k)) != 0`
pub bit_test : (x k : ℕ) → not (eqb (bit_and x (2 ^ k)) 0) ≡ bit_at x k
unfolding bit_at bits_at
bit_test x k =
    ap (λ (n : ℕ). not (eqb n 0)) (one_bit x k)
    ∙ flag (x / 2 ^ k % 2) (2 ^ k) (mod-lt (x / 2 ^ k) (lit< tt)) (pow_pos k)

-- The `n` bits from bit `k` on of a word, `j` more standing above them.
module _ (j n k : ℕ) where
  abbrev mask : ℕ
  mask = 2 ^ (j + (n + k)) - 1 - (2 ^ n - 1) * 2 ^ k

  mask_parts : mask ≡ (2 ^ j - 1) * 2 ^ (n + k) + (2 ^ k - 1)
  mask_parts = omega (arith, ones_split j (n + k), ones_split n k)

  below : {lo : ℕ} → lo < 2 ^ k → lo < 2 ^ (n + k)
  below h = omega (arith, ones_split n k, pow_pos k, pow_pos (n + k))

  -- `x & !((2^n - 1) << k)`
  pub bits_cleared : (x : ℕ) → x < 2 ^ (j + (n + k)) → bit_and x mask ≡ with_bits x k n 0
  unfolding with_bits
  bits_cleared x h =
      ap₂ bit_and (sym (split x (n + k))) mask_parts
      ∙ and_block (n + k) (x / 2 ^ (n + k)) (2 ^ j - 1) (x % 2 ^ (n + k)) (2 ^ k - 1) (mod-lt x (pow_pos (n + k))) (below (omega (arith, pow_pos k)))
      ∙ ap₂ (λ (a b : ℕ). a * 2 ^ (n + k) + b) (and_mask (x / 2 ^ (n + k)) j ∙ shr_mod j (n + k) h) (and_mask (x % 2 ^ (n + k)) k ∙ mod-mod-pow x n k)
      ∙ omega (arith, zero-mul (2 ^ k))

  -- `(x & !((2^n - 1) << k)) | (v << k)`
  pub bits_replaced : (x v : ℕ) → x < 2 ^ (j + (n + k)) → v < 2 ^ n → bit_or (bit_and x mask) (v * 2 ^ k) ≡ with_bits x k n v
  unfolding with_bits
  bits_replaced x v h f =
      let hi = x / 2 ^ (n + k) in
      let lo = x % 2 ^ k in
      let none : hi * 2 ^ (n + k) + 0 * 2 ^ k + lo ≡ hi * 2 ^ (n + k) + lo = omega (arith, zero-mul (2 ^ k)) in
      let alone : v * 2 ^ k ≡ 0 * 2 ^ (n + k) + v * 2 ^ k = omega (arith, zero-mul (2 ^ (n + k))) in
      ap₂ bit_or (bits_cleared x h ∙ none) alone
      ∙ or_block (n + k) hi 0 lo (v * 2 ^ k) (below (mod-lt x (pow_pos k))) (shl_lt n k f)
      ∙ ap₂ (λ (a b : ℕ). a * 2 ^ (n + k) + b) (or_zero_r hi) (or_shifted_r v k lo (mod-lt x (pow_pos k)))
      ∙ omega arith

-- `x & !(2^k - 1)` in a word of `w` bits: its low `k` bits are cleared
pub low_cleared : (w k x : ℕ) → k ≤ w → x < 2 ^ w → bit_and x (2 ^ w - 2 ^ k) ≡ x - x % 2 ^ k
unfolding with_bits
low_cleared w k x h f =
    let whole : w ≡ w - k + (k + 0) = omega (arith, h) in
    let ones : 2 ^ w - 2 ^ k ≡ mask (w - k) k 0 = omega (arith, ap (λ (v : ℕ). 2 ^ v) whole, pow_pos k) in
    ap (bit_and x) ones
    ∙ bits_cleared (w - k) k 0 x (rw (sym whole) f)
    ∙ omega (arith, split x k, ap (λ (v : ℕ). x / 2 ^ v * 2 ^ v) (add-zero k))

-- to put in the bits that are there changes nothing
pub bits_kept : (x k n : ℕ) → with_bits x k n (bits_at x k n) ≡ x
unfolding with_bits bits_at
bits_kept x k n = omega (arith, split x (n + k), mod-pow-add x n k)

-- What `x` with `v` as its `n` bits from bit `k` on has there, below them and above them.
module _ (x k n v : ℕ) (f : v < 2 ^ n) where
  abbrev hi : ℕ
  hi = x / 2 ^ (n + k)

  abbrev lo : ℕ
  lo = x % 2 ^ k

  lo-fits : lo < 2 ^ k
  lo-fits = mod-lt x (pow_pos k)

  part-fits : v * 2 ^ k + lo < 2 ^ (n + k)
  part-fits = omega (arith, mul-le-mul_right {m = v} {n = 2 ^ n - 1} (2 ^ k) (omega (arith, pow_pos n)), ones_split n k, lo-fits, pow_pos k, pow_pos (n + k))

  by_high : with_bits x k n v ≡ hi * 2 ^ (n + k) + (v * 2 ^ k + lo)
  unfolding with_bits
  by_high = omega arith

  by_low : with_bits x k n v ≡ (hi * 2 ^ n + v) * 2 ^ k + lo
  unfolding with_bits
  by_low = omega (arith, add-mul (hi * 2 ^ n) v (2 ^ k), mul_assoc hi (2 ^ n) (2 ^ k), ap (λ (p : ℕ). hi * p) (pow-add 2 n k))

  pub replaced-field : bits_at (with_bits x k n v) k n ≡ v
  unfolding bits_at
  replaced-field = rw (by_low, high (hi * 2 ^ n + v) k lo-fits) (pow.low hi n f)

  pub replaced_below : low_bits k (with_bits x k n v) ≡ low_bits k x
  unfolding low_bits
  replaced_below = rw by_low (pow.low (hi * 2 ^ n + v) k lo-fits)

  pub replaced_above : with_bits x k n v / 2 ^ (n + k) ≡ x / 2 ^ (n + k)
  replaced_above = rw by_high (high hi (n + k) part-fits)

  -- a word stays one
  pub replaced-fits : (j : ℕ) → x < 2 ^ (j + (n + k)) → with_bits x k n v < 2 ^ (j + (n + k))
  replaced-fits j h =
      let top : hi < 2 ^ j = shr_lt j (n + k) h in
      rw by_high
      (omega (arith, part-fits, mul-le-mul_right {m = hi} {n = 2 ^ j - 1} (2 ^ (n + k)) (omega (arith, top, pow_pos j)), ones_split j (n + k), pow_pos (n + k), pow_pos (j + (n + k))))
