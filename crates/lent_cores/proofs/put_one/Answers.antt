-- Stores of x0 to x30, ELR, SPSR, the EL1 registers and the code are those of the core's words, one after the other.
use borrow.Author.Rules.{rules}
use mathlib.Core.Path.{◌≡◌}
use lib.ListN.{length}
use Rattle.lists.proofs.Laws.{length_mapped}
use Rattle.lent_words.proofs.Words.{words_after}
use mathlib.Core.Path.{sym}
use Prim.Native.Nat.{◌*◌, ◌+◌}
use mathlib.Core.List.{[], ◌∷◌, ◌++◌}
use Rattle.lent_words.specs.Words.{word_at, kept_code}
use Rattle.lent_cores.specs.Layout.{with_core, fault_words, wait_number, core_length, wait_word, wait_codes}
use Rattle.lent_cores.proofs.put_one.Goals as goal

pub returns : goal.returns
unfolding with_core
returns c =
    let a = c.args in
    let long : length a.value.x ≡ 31 = search (length_mapped, rules) in
    let code = kept_code (length wait_codes) (word_at a.cores.now (core_length * a.core + wait_word)) (wait_number a.value.wait) in
    rw (
      c.put_word-3.ensures,
      c.put_el1.ensures,
      c.put_word-2.ensures,
      c.put_word.ensures,
      c.put_words.ensures,
      c.kept_code-code.ensures,
      c.wait_number.ensures,
      c.get_word.ensures,
    )
    (sym (words_after a.cores.now (core_length * a.core) a.value.x (a.value.elr ∷ a.value.spsr ∷ (fault_words a.value.el1 ++ (code ∷ []))) 31 long))
