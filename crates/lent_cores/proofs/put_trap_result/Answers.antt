use native.Mathlib.Omega.{arith}
use borrow.Author.Rules.{rules}
use mathlib.Core.Path.{◌≡◌}
use lib.ListN.{length}
use Rattle.lists.proofs.Laws.{length_mapped}
use Rattle.core_answers.specs.Answers.{forwarded_length}
use Rattle.lent_cores.proofs.Results.{result-written}
use Rattle.lent_cores.proofs.put_trap_result.Goals as goal

pub returns : goal.returns
returns c =
    let long : length c.args.trap.values ≡ forwarded_length = search (length_mapped, rules) in
    rw (c.put_word-2.ensures, c.put_words.ensures, c.put_word.ensures, c.trap_kind.ensures) (result-written c.args.trap _ (omega arith) long)
