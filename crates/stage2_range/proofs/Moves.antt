-- The library's `copy_within` beside `insert_at` and `remove_at`. Assumes nothing.
use Prim.Native.Nat.{ℕ, zero, suc, ◌+◌, ◌-◌, ◌≤◌, ◌<◌}
use mathlib.Core.Path.{◌≡◌, sym, ◌∙◌, ap}
use mathlib.Core.List.{List, [], ◌∷◌, ◌++◌}
use native.Mathlib.Omega.{arith}
use lib.ListN.{length, take, drop, set, get_or, length-set}
use Rattle.std.proofs.Common.{append_assoc, length-append, length-drop}
use Rattle.std.proofs.lemmas.List.{take-append-drop, drop-take, set-append_left, take_more_set, length-take-le}
use Rattle.std.proofs.lemmas.List.Edits.{paste_none, take-paste, drop-paste}
use native.Mathlib.Numerals.{add-one}
use lib.Seq.{take_all, paste, drop-cons, drop-set-lt}
use Rattle.std.proofs.Math.Seq.{take-set-lt}
use Rattle.std.specs.List.{copy_within}
use Rattle.lists.specs.Lists.{insert_at, remove_at}
use Rattle.lists.proofs.Removal.{remove_step, remove_last}

-- to copy one place more is to store the next element one place sooner, and to copy the others
copy_step : {A : Type 0} (l : List A) (n at : ℕ) (d : A) → at + 1 < n → n ≤ length l
    → copy_within l (at + 1) n at ≡ copy_within (set l at (get_or l (at + 1) d)) (at + 1 + 1) n (at + 1)
copy_step l n at d h k =
    let x = get_or l (at + 1) d in
    let more : n - (at + 1) ≡ suc (n - (at + 1 + 1)) = omega arith in
    let past : at + suc (n - (at + 1 + 1)) ≡ at + 1 + (n - (at + 1 + 1)) = omega arith in
    rw (
      more,
      past,
      drop-cons l (at + 1) d (omega arith),
      take_more_set l at x (omega arith),
      drop-set-lt (at + 1 + 1) l at x (omega arith),
      drop-set-lt (at + 1 + (n - (at + 1 + 1))) l at x (omega arith),
      append_assoc (take at l) (x ∷ []),
      add-one (at + 1),
    )

-- so that the copies are a removal, by how many there are
moves_all : {A : Type 0} (l : List A) (copies n at : ℕ) → n ≡ at + 1 + copies → n ≤ length l
    → copy_within l (at + 1) n at ≡ remove_at l n at
moves_all [] copies n at e k = absurd (omega arith)
moves_all (d ∷ l) zero n at e k =
    let m = d ∷ l in
    let none : n - (at + 1) ≡ 0 = omega arith in
    let last : n - 1 ≡ at = omega arith in
    ap (paste m at (drop (at + 1) m)) none
    ∙ sym (paste_none m at (drop (at + 1) m))
    ∙ sym (remove_last m n (omega arith) k)
    ∙ ap (remove_at m n) last
moves_all (d ∷ l) (suc copies) n at e k =
    let m = d ∷ l in
    copy_step m n at d (omega arith) k
    ∙ moves_all (set m at (get_or m (at + 1) d)) copies n (at + 1) (omega arith) (omega (arith, length-set m at (get_or m (at + 1) d)))
    ∙ sym (remove_step m n at d (omega arith) k)

module _ {A : Type 0} (l : List A) where
  -- the elements from `i` up to `j` stand from `to` on
  moved : (i j to : ℕ) → i ≤ j → j ≤ length l → to ≤ length l
      → copy_within l i j to ≡ (take to l ++ drop i (take j l)) ++ drop (to + (j - i)) l
  moved i j to h k m =
      let p = copy_within l i j to in
      let n : j - i ≤ length (drop i l) = omega (arith, length-drop i l) in
      let part : drop i (take (i + (j - i)) l) ≡ take (j - i) (drop i l) = drop-take i (j - i) l in
      let e : i + (j - i) ≡ j = omega arith in
      sym (take-append-drop (to + (j - i)) p)
      ∙ rw (take-paste l to (drop i l) (j - i) m n, drop-paste l to (drop i l) (j - i) m n, sym part, e)

  pub insert_moves : (n at : ℕ) (x : A) → at ≤ n → n < length l → set (copy_within l at n (at + 1)) at x ≡ insert_at l n at x
  unfolding insert_at
  insert_moves n at x h k =
      let first : List A = take (at + 1) l in
      let rest : List A = drop at (take n l) in
      let past : List A = drop (at + 1 + (n - at)) l in
      let t : length first ≡ at + 1 = length-take-le (at + 1) l (omega arith) in
      let e : at + 1 + (n - at) ≡ n + 1 = omega arith in
      let s : set first at x ≡ take at l ++ (x ∷ []) = sym (take-set-lt (at + 1) l at x (omega arith)) ∙ take_more_set l at x (omega arith) in
      ap (λ z. set z at x) (moved at n (at + 1) h (omega arith) (omega arith))
      ∙ set-append_left (first ++ rest) past at x (omega (arith, t, length-append first rest))
      ∙ ap (λ z. z ++ past) (set-append_left first rest at x (omega (arith, t)))
      ∙ rw (s, e, append_assoc (take at l ++ (x ∷ [])), append_assoc (take at l))

  pub remove_moves : (n at : ℕ) → at < n → n ≤ length l → copy_within l (at + 1) n at ≡ remove_at l n at
  remove_moves n at h k = moves_all l (n - (at + 1)) n at (omega arith) k

  -- a list that is no longer than so many is its first so many
  pub taken_all : (n : ℕ) → length l ≤ n → l ≡ take n l
  taken_all n h = sym (take_all n l h)
