-- Laws of the calls on a core of lent bytes: above 7 there is none, one of the eight is stepped by itself, and a refused write changes
-- nothing. Assumes nothing.
use Prim.Native.Nat.{ℕ, ◌<◌, ◌≤◌}
use mathlib.Core.Path.{◌≡◌, refl, sym, ap, ◌∙◌}
use mathlib.Core.Bool.{Bool, true, false}
use mathlib.Core.List.{List, []}
use lib.Dec.{eqb, ltb}
use native.Mathlib.Omega.{arith}
use borrow.Author.Tests.{lt-ltb, le-ltb, ltb-true, ltb-false}
use Rattle.lists.proofs.Laws.{cond_same}
use Rattle.exceptions.specs.declared.Core.{Core}
use Rattle.exceptions.specs.Registers.{write_gpr, write_number}
use Rattle.exceptions.proofs.Laws.{within_accepted}
use Rattle.core_answers.specs.declared.CoreStep.{CoreStep}
use Rattle.core_answers.specs.Answers.{core_number}
use Rattle.hypervisor.specs.Cores.{on_core, save_core, save_on}
use Rattle.lent_words.specs.Words.{word_at, words_at, Bytes, Left, unless_refused}
use Rattle.lent_words.proofs.Left.{when_accepted}
use Rattle.lent_cores.specs.Layout.{elr_word, spsr_word, cores_at, held_core, with_core}
use Rattle.lent_cores.proofs.Records.{core-set}
use Rattle.lent_core.specs.Calls.{stepped_core, save_call, write_call}
use Rattle.lent_core.proofs.InPlace.{gpr_kept}

-- what a step of one of the eight leaves
abbrev pub stepped_one : List ℕ → ℕ → CoreStep → Left
stepped_one cores i step =
    let number = core_number step.answer in
    record { number = number; state = unless_refused number cores (with_core cores i step.core); result = [] }

module _ (cores : List ℕ) (i : ℕ) (step : Core → CoreStep) where
  pub step_none : 7 < i → stepped_core cores i (on_core (cores_at cores) i step) ≡ record { number = 10; state = cores; result = [] }
  unfolding stepped_core on_core
  step_none h = rw (lt-ltb 7 i h)

  pub step_one : i ≤ 7 → stepped_core cores i (on_core (cores_at cores) i step) ≡ stepped_one cores i (step (held_core cores i))
  unfolding stepped_core on_core
  step_one h = rw (le-ltb 7 i h, core-set cores i (step (held_core cores i)).core (omega arith))

-- A save: of a core above 7, and of one of the eight by what the code reads.
module _ (cores registers : List ℕ) (i : ℕ) where
  pub save_none : 7 < i → save_call cores i registers ≡ record { number = 10; state = cores; result = [] }
  unfolding save_call save_on
  save_none h = step_none cores i _ h

  pub save_one : (x : List ℕ) (elr spsr : ℕ) (core : Core) (step : CoreStep) → i ≤ 7 → x ≡ words_at registers 0 31
      → elr ≡ word_at registers elr_word → spsr ≡ word_at registers spsr_word → core ≡ held_core cores i → step ≡ save_core core x elr spsr
      → save_call cores i registers ≡ stepped_one cores i step
  unfolding save_call save_on
  save_one x elr spsr core step h ex el es c s = step_one cores i _ h ∙ rw (s, c, ex, el, es)

-- What a write to one core leaves: a refusal stores the core as it stands, which changes nothing.
pub write_one : (cores : List ℕ) (i index value : ℕ) → Bytes cores → i ≤ 7 →
    let w = write_gpr (held_core cores i) index value in
    write_call cores i index value ≡ record { number = write_number w.answer; state = with_core cores i w.core; result = [] }
unfolding write_call
write_one cores i index value bytes h =
    rw (le-ltb 7 i h) (ap (λ (s : List ℕ). record { number = number; state = s; result = [] }) (go (ltb index 31) refl))
  where
    number : ℕ
    number = write_number (write_gpr (held_core cores i) index value).answer

    after : List ℕ
    after = with_core cores i (write_gpr (held_core cores i) index value).core

    go : (t : Bool) → ltb index 31 ≡ t → unless_refused number cores after ≡ after
    go true e =
        when_accepted number cores after (within_accepted (held_core cores i) index value (omega (arith, ltb-true index 31 e))).1
    go false e =
        let same : cores ≡ after = rw (le-ltb 7 i h) at (gpr_kept cores i index value bytes (ltb-false index 31 e)) in
        ap (unless_refused number cores) (sym same) ∙ cond_same (eqb number 0) cores ∙ same
