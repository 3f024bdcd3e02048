-- The library's `position` beside the searches of `Lists`: the place of the first element that fits, where there is one. Assumes nothing.
use Prim.Native.Nat.{ℕ, suc, ◌+◌, ◌<◌, ◌≤◌}
use mathlib.Core.Path.{◌≡◌, refl, sym, ◌∙◌}
use mathlib.Core.Bool.{Bool, true, false, cond}
use mathlib.Core.List.{List, [], ◌∷◌}
use native.Mathlib.Omega.{arith}
use lib.ListN.{length, get_or, set}
use borrow.Author.Tests.{lt-ltb}
use Rattle.std.specs.Prelude.{Some, None, not, position}
use Rattle.std.specs.List.{position_or_len}
use Rattle.std.proofs.lemmas.Grind.{common_steps}
use Rattle.std.proofs.lemmas.List.{set_past}
use Rattle.lists.specs.Lists.{first_of, first_index, replace_first}
use Rattle.lists.proofs.Laws.{first-at, first_missing, replace_at}

module _ {A : Type 0} (fits : A → Bool) where
  -- the place of the first that fits, or the length, is the library's
  index_is : (l : List A) → position_or_len fits l ≡ first_index fits l
  index_is [] = refl
  index_is (x ∷ xs) = go (fits x) (index_is xs)
    where
      go : (b : Bool) → position_or_len fits xs ≡ first_index fits xs → cond (not b) (1 + position_or_len fits xs) 0 ≡ cond b 0 (suc (first_index fits xs))
      go true e = refl
      go false e = omega (arith, e)

  -- where `position` finds one, its place is within, and the first that fits
  pub found_at : (l : List A) (i : ℕ) → position fits l ≡ Some i → (i < length l) × (first_index fits l ≡ i)
  found_at l i e =
      let at : position_or_len fits l ≡ i = grind (arith, common_steps) in
      let inside : i < length l = grind (arith, common_steps) in
      (inside, sym (index_is l) ∙ at)

  -- where it finds none, there is no such place
  pub found_nowhere : (l : List A) → position fits l ≡ None → length l ≤ first_index fits l
  found_nowhere l e =
      let past : length l ≤ position_or_len fits l = grind (arith, common_steps) in
      omega (arith, past, index_is l)

  -- what is found at that place
  pub first_found : {B : Type 0} (hit : A → B) (none : B) (l : List A) (i : ℕ) (d : A) → position fits l ≡ Some i
      → first_of fits hit none l ≡ hit (get_or l i d)
  first_found hit none l i d e =
      let f = found_at l i e in
      first-at fits hit none l d ∙ rw (f.1, lt-ltb i (length l) f.0)

  -- and where there is none
  pub none_found : {B : Type 0} (hit : A → B) (none : B) (l : List A) → position fits l ≡ None → first_of fits hit none l ≡ none
  none_found hit none l e = first_missing fits hit none l (found_nowhere l e)

  -- what stands in place of the first that fits
  pub replaced_found : (y : A) (l : List A) (i : ℕ) → position fits l ≡ Some i → replace_first fits y l ≡ set l i y
  replaced_found y l i e = replace_at fits y l ∙ rw ((found_at l i e).1)

  -- and where there is none
  pub none_replaced : (y : A) (l : List A) → position fits l ≡ None → replace_first fits y l ≡ l
  none_replaced y l e = replace_at fits y l ∙ set_past l (first_index fits l) y (found_nowhere l e)
