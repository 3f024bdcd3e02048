-- What holds at every place holds of every element that stands at places. Assumes nothing.
use Prim.Native.Nat.{ℕ, zero, suc}
use Rattle.lists.proofs.Every.{Every}
pub use Rattle.lists.proofs.Every.{every_append, every_take, every_drop, every_set, every_replace, every_insert}
use Rattle.lent_words.specs.Words.{each}

module _ {A : Type 0} (P : A → Type 0) where
  pub every_each : (f : ℕ → A) → ((i : ℕ) → P (f i)) → (k n : ℕ) → Every P (each f k n)
  every_each f h k zero = tt
  every_each f h k (suc n) = (h k, every_each f h (suc k) n)
