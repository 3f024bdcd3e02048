-- What a trap leaves in the bytes that a host lends, by the definitions that the library's own contracts cite. Any bytes are a state.
-- Assumes nothing.
use Rattle.std.specs.Prelude.{ℕ, List}
use Rattle.data_abort.specs.declared.TrapRegisters.{TrapRegisters}
use Rattle.exceptions.specs.Registers.{core_of}
use Rattle.core_answers.specs.declared.TrapStep.{TrapStep}
use Rattle.core_answers.specs.Answers.{trap_number, result_words}
use Rattle.hypervisor.specs.Cores.{trap_on}
use Rattle.lent_words.specs.Words.{bytes_of, Left, unless_refused}
use Rattle.lent_policy.specs.Layout.{policy_at}
use Rattle.lent_cores.specs.Layout.{cores_at, with_core, counter_at, with_counter}

-- what one core's step leaves: the core's words and the counter are written; the result is the kind of the answer, its values and its hint
abbrev pub trapped_one : List ℕ → ℕ → TrapStep → Left
trapped_one cores i step =
    let number = trap_number step.result.answer in
    record {
      number = number;
      state = unless_refused number cores (with_counter (with_core cores i step.core) step.counter);
      result = bytes_of (result_words step.result);
    }

-- `trap`
unfoldable pub trap_call : List ℕ → List ℕ → ℕ → TrapRegisters → Left
trap_call policy cores i trap =
    let trapped = trap_on (policy_at policy) (cores_at cores) (counter_at cores) i trap in
    trapped_one cores i (record { result = trapped.result; core = core_of trapped.cores i; counter = trapped.counter })
