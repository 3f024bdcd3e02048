-- The result of a trap in the bytes that a host lends. Assumes nothing.
use Prim.Native.Nat.{ℕ, suc, ◌+◌}
use mathlib.Core.Path.{◌≡◌, refl, sym, ap, ◌∙◌}
use mathlib.Core.List.{List, [], ◌∷◌}
use native.Mathlib.Omega.{arith}
use lib.ListN.{length, length-append}
use Rattle.core_answers.specs.declared.TrapResult.{TrapResult}
use Rattle.core_answers.specs.Answers.{forwarded_length, trap_kind, result_words}
use Rattle.lent_words.specs.Words.{with_word, with_words, store_each, bytes_of}
use Rattle.lent_words.proofs.Words.{written-whole, store_append}
use Rattle.lent_cores.specs.Layout.{trap_result_size}

-- words stored from a place on, one after the other
words_from : (b : List ℕ) (i k : ℕ) (ws : List ℕ) → store_each (λ l j w. with_word l (i + j) w) b k ws ≡ store_each with_word b (i + k) ws
words_from b i k [] = refl
words_from b i k (w ∷ ws) =
    let e : i + suc k ≡ suc (i + k) = omega arith in
    words_from (with_word b (i + k) w) i (suc k) ws ∙ rw e

-- the stores of its kind, of each value and of its hint write it whole
pub result-written : (r : TrapResult) (b : List ℕ) → length b ≡ trap_result_size → length r.values ≡ forwarded_length
    → with_word (with_words (with_word b 0 (trap_kind r.answer)) 1 r.values) (1 + forwarded_length) r.sve_hint
    ≡ bytes_of (result_words r)
result-written r b long values =
    let hint = r.sve_hint ∷ [] in
    let kind = with_word b 0 (trap_kind r.answer) in
    ap (λ (l : List ℕ). with_word l (1 + forwarded_length) r.sve_hint) (words_from kind 1 0 r.values)
    ∙ ap (λ (k : ℕ). with_word (store_each with_word kind 1 r.values) (1 + k) r.sve_hint) (sym values)
    ∙ sym (store_append with_word kind 1 r.values hint)
    ∙ written-whole (result_words r) [] b 0 refl (omega (arith, long, values, length-append r.values hint))
