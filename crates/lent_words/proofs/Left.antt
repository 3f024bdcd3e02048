-- What a call leaves where it is refused, and where it is accepted. Assumes nothing.
use Prim.Native.Nat.{ℕ}
use mathlib.Core.Path.{◌≡◌}
use mathlib.Core.List.{List}
use borrow.Author.Tests.{ne_eqb}
use Rattle.lent_words.specs.Words.{unless_refused}

module _ (number : ℕ) (before after : List ℕ) where
  pub when_refused : (number ≡ 0 → ⊥) → unless_refused number before after ≡ before
  when_refused h = rw (ne_eqb number 0 h)

  pub when_accepted : number ≡ 0 → unless_refused number before after ≡ after
  when_accepted h = rw h
