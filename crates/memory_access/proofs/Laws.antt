-- The fields of a syndrome, and sign extension as two's complement, at any width. Assumes nothing.
use mathlib.Core.Path.{◌≡◌, refl, ap, ap₂, sym, ◌∙◌}
use mathlib.Core.Bool.{Bool, true, false, cond}
use mathlib.Core.List.{[], ◌∷◌}
use Prim.Native.Nat.{ℕ, zero, suc, ◌+◌, ◌*◌, ◌/◌, ◌%◌, ◌^◌, ◌-◌, ◌<◌, ◌≤◌}
use native.Mathlib.Nat.{zero-mul, one-mul, zero-div, zero-mod, mod-lt, mod-eq_of_lt, pow-suc}
use native.Mathlib.Omega.{arith}
use borrow.Author.Tests.{le-leb, lt-leb, leb-true, leb-false}
use lib.Bits.{bit_and, bit_or, and_mask, or_shifted}
use lib.Dec.{eqb, leb, lit<, lit≤}
use lib.IntN.{pos, negsuc}
use lib.ListN.{replicate}
use lib.Pow.{pow_pos, pow_mono, mod-pow-add}
use Rattle.lists.proofs.Laws.{cond_map, cond_all}
use Rattle.bits.specs.Bits.{bits_at, bit_at, low_bits, FitsWord}
use Rattle.bits.proofs.Laws.{low_fits}
use Rattle.memory_access.specs.Syndrome.{isv, sas, sse, srt, sf, wnr, width_of, bits_of, kind_of, fault_ipa, decode_access, number_of, kind_number, flag_number, values_of}
use Rattle.memory_access.specs.Transfer.{sign_extension, twos_complement, loaded, at_register_width, extend_read_result}
use Rattle.memory_access.specs.declared.Fipa.{Fipa}
use Rattle.memory_access.specs.declared.MemoryAccessWidth.{MemoryAccessWidth}
use Rattle.memory_access.specs.declared.MemoryAccessWidth.TheVariants.{U8, U16, U32, U64}
use Rattle.memory_access.specs.declared.MemoryAccess.{MemoryAccess}

-- an access size that is none of 0, 1 and 2
pub widest : (n : ℕ) → (n ≡ 0 → ⊥) → (n ≡ 1 → ⊥) → (n ≡ 2 → ⊥) → U64 ≡ width_of n
widest zero a b c = absurd (a refl)
widest (suc zero) a b c = absurd (b refl)
widest (suc (suc zero)) a b c = absurd (c refl)
widest (suc (suc (suc zero))) a b c = refl
widest (suc (suc (suc (suc n)))) a b c = refl

-- `(f << 12) | (a & 0xFFF)`: the shift drops the bits of `f` from 52 on
pub page-and_offset : (f a : ℕ) → bit_or (f * 2 ^ 12 % 2 ^ 64) (bit_and a (2 ^ 12 - 1)) ≡ f % 2 ^ 52 * 4096 + a % 4096
page-and_offset f a =
    let e : f * 2 ^ 12 % 2 ^ 64 ≡ f % 2 ^ 52 * 2 ^ 12 = omega arith in
    ap₂ bit_or e (and_mask a 12) ∙ or_shifted (f % 2 ^ 52) 12 (a % 2 ^ 12) (mod-lt a (lit< tt))

-- a width is a number of bits from 1 to 64
pub bits_range : (t : MemoryAccessWidth) → (1 ≤ bits_of t) × (bits_of t ≤ 64)
bits_range U8 = (lit≤ tt, lit≤ tt)
bits_range U16 = (lit≤ tt, lit≤ tt)
bits_range U32 = (lit≤ tt, lit≤ tt)
bits_range U64 = (lit≤ tt, lit≤ tt)

twice : (w : ℕ) → 1 ≤ w → 2 ^ w ≡ 2 ^ (w - 1) * 2
twice zero h = absurd (omega arith)
twice (suc k) h =
    let e : suc k - 1 ≡ k = omega arith in
    rw e (pow-suc 2 k)

top : (b half r : ℕ) → b < 2 → r < half → eqb b 1 ≡ leb half (b * half + r)
top zero half r l h = sym (lt-leb half (0 * half + r) (omega (arith, zero-mul half)))
top (suc zero) half r l h = sym (le-leb half (1 * half + r) (omega (arith, one-mul half)))
top (suc (suc b)) half r l h = absurd (omega arith)

-- bit w - 1 is set in the upper half of the numbers of `w` bits
top_bit : (w v : ℕ) → 1 ≤ w → bit_at v (w - 1) ≡ leb (2 ^ (w - 1)) (low_bits w v)
unfolding bit_at bits_at low_bits
top_bit w v l =
    let e : 1 + (w - 1) ≡ w = omega arith in
    let parts : v % 2 ^ w ≡ (v / 2 ^ (w - 1) % 2) * 2 ^ (w - 1) + v % 2 ^ (w - 1) = ap (λ (n : ℕ). v % 2 ^ n) (sym e) ∙ mod-pow-add v 1 (w - 1) in
    top (v / 2 ^ (w - 1) % 2) (2 ^ (w - 1)) (v % 2 ^ (w - 1)) (mod-lt (v / 2 ^ (w - 1)) (lit< tt)) (mod-lt v (pow_pos (w - 1)))
    ∙ ap (leb (2 ^ (w - 1))) (sym parts)

-- the two's complement of a number of `w` bits
pub complement : (w n : ℕ) → 1 ≤ w → n < 2 ^ w → twos_complement w n ≡ cond (leb (2 ^ (w - 1)) n) (negsuc (2 ^ w - suc n)) (pos n)
unfolding twos_complement low_bits
complement w n l h = rw (top_bit w n l, mod-eq_of_lt h)

-- Sign extension of the low `w` bits of `v`, by their mask.
module _ (w v : ℕ) (range : (1 ≤ w) × (w ≤ 64)) where
  fits : low_bits w v < 2 ^ w
  fits = low_fits w v

  pub sign_clear : low_bits w v ≤ (2 ^ w - 1) / 2 → low_bits w v ≡ sign_extension w v
  unfolding sign_extension
  sign_clear h = rw (top_bit w v range.0, lt-leb (2 ^ (w - 1)) (low_bits w v) (omega (arith, twice w range.0, pow_pos (w - 1))))

  pub sign_fits : low_bits w v + (2 ^ 64 - 1 - (2 ^ w - 1)) < 2 ^ 64
  sign_fits = omega (arith, pow_mono {i = w} {j = 64} range.1, fits)

  pub sign_set : (2 ^ w - 1) / 2 < low_bits w v → low_bits w v + (2 ^ 64 - 1 - (2 ^ w - 1)) ≡ sign_extension w v
  unfolding sign_extension
  sign_set h =
      rw (top_bit w v range.0, le-leb (2 ^ (w - 1)) (low_bits w v) (omega (arith, twice w range.0, pow_pos (w - 1))))
      (omega (arith, sign_fits, pow_pos w, pow_mono {i = w} {j = 64} range.1))

  -- the extended bits are the same two's complement number
  pub sign_kept : twos_complement 64 (sign_extension w v) ≡ twos_complement w (low_bits w v)
  sign_kept = rw (complement w (low_bits w v) range.0 fits) (go (leb (2 ^ (w - 1)) (low_bits w v)) refl)
    where
      small : 2 ^ (w - 1) ≤ 2 ^ 63
      small = pow_mono {i = w - 1} {j = 63} (omega arith)

      word : ℕ
      word = low_bits w v + (2 ^ 64 - 1 - (2 ^ w - 1))

      go : (b : Bool) → leb (2 ^ (w - 1)) (low_bits w v) ≡ b
          → twos_complement 64 (sign_extension w v) ≡ cond b (negsuc (2 ^ w - suc (low_bits w v))) (pos (low_bits w v))
      go true e =
          let h : 2 ^ (w - 1) ≤ low_bits w v = leb-true (2 ^ (w - 1)) (low_bits w v) e in
          let d = twice w range.0 in
          let p = pow_pos (w - 1) in
          let m : 2 ^ 64 - suc word ≡ 2 ^ w - suc (low_bits w v) = omega (arith, fits, small) in
          rw (← sign_set (omega arith), complement 64 word (lit≤ tt) sign_fits, le-leb (2 ^ 63) word (omega (arith, fits, small)), m)
      go false e =
          let h : low_bits w v < 2 ^ (w - 1) = leb-false (2 ^ (w - 1)) (low_bits w v) e in
          let d = twice w range.0 in
          let f : low_bits w v < 2 ^ 64 = omega (arith, small) in
          rw (← sign_clear (omega arith), complement 64 (low_bits w v) (lit≤ tt) f, lt-leb (2 ^ 63) (low_bits w v) (omega (arith, small)))

same_either_way : (t : Bool) (n : ℕ) → n < 2 ^ 64 → cond t ((n + (2 ^ 64 - 2 ^ 64)) % 2 ^ 64) n ≡ n
same_either_way true n h = omega arith
same_either_way false n h = refl

-- 64 bits have nothing to extend: "a width below 64"
pub sign_of_word : (v : ℕ) → sign_extension 64 v ≡ low_bits 64 v
unfolding sign_extension low_bits
sign_of_word v = same_either_way (bit_at v 63) (v % 2 ^ 64) (mod-lt v (lit< tt))

-- "SAS 0 to 3 means 8, 16, 32, 64 bits": the size doubles
pub size_doubles : (n : ℕ) → n < 4 → bits_of (width_of n) ≡ 8 * 2 ^ n
size_doubles zero h = refl
size_doubles (suc zero) h = refl
size_doubles (suc (suc zero)) h = refl
size_doubles (suc (suc (suc zero))) h = refl
size_doubles (suc (suc (suc (suc n)))) h = absurd (omega arith)

-- "ISV clear refuses", with 19, and nothing else does
pub decode-number : (iss : ℕ) (fipa : Fipa) (far : ℕ) → number_of (decode_access iss fipa far) ≡ cond (isv iss) 0 19
unfolding decode_access
decode-number iss fipa far = cond_map number_of (isv iss) _ _

-- the result fields are those of the syndrome, and zeros in a refusal
pub decode_values : (iss : ℕ) (fipa : Fipa) (far : ℕ)
    → values_of (decode_access iss fipa far)
    ≡ cond (isv iss)
    ((fault_ipa fipa far).0 ∷ bits_of (width_of (sas iss)) ∷ kind_number (kind_of (wnr iss)) ∷ srt iss ∷ flag_number (sse iss) ∷ flag_number (sf iss) ∷ [])
    (replicate 6 0)
unfolding decode_access
decode_values iss fipa far = cond_map values_of (isv iss) _ _

-- what a load puts into its register fits a word
pub extended_fits : (a : MemoryAccess) (v : ℕ) → FitsWord (extend_read_result a v)
unfolding extend_read_result at_register_width loaded sign_extension
extended_fits a v =
    let w = bits_of a.width in
    let low : (n x : ℕ) → n ≤ 64 → FitsWord (low_bits n x) = λ n x h. omega (arith, low_fits n x, pow_mono {i = n} {j = 64} h) in
    let narrow = low w v (bits_range a.width).1 in
    let extended : ℕ = (low_bits w v + (2 ^ 64 - 2 ^ w)) % 2 ^ 64 in
    let whole = cond_all FitsWord a.sign_extend _ _ (cond_all FitsWord (bit_at v (w - 1)) extended (low_bits w v) (omega arith) narrow) narrow in
    cond_all FitsWord a.register_width_64 _ _ whole (low 32 _ (lit≤ tt))

-- of the value 0 it is 0, whatever the access
pub extended_zero : (a : MemoryAccess) → extend_read_result a 0 ≡ 0
unfolding extend_read_result at_register_width loaded sign_extension low_bits bit_at bits_at
extended_zero a =
    let w = bits_of a.width in
    let none : (n : ℕ) → 0 % 2 ^ n ≡ 0 = λ n. zero-mod (2 ^ n) in
    let clear : 0 / 2 ^ (w - 1) ≡ 0 = zero-div (2 ^ (w - 1)) in
    let whole : loaded w a.sign_extend 0 ≡ 0 = rw clear (cond_all (λ v. v ≡ 0) a.sign_extend _ _ (none w) (none w)) in
    rw whole (cond_all (λ v. v ≡ 0) a.register_width_64 _ _ refl (none 32))
