-- What a reply leaves in the bytes that a host lends, by the definitions that the library's own contracts cite. Any bytes are a state.
-- Assumes nothing.
use Rattle.std.specs.Prelude.{ℕ, ◌*◌, List, ℤ}
use Rattle.hvc_response.specs.Response.{reply_length}
use Rattle.forwarded_call.specs.declared.HvcReply.{HvcReply}
use Rattle.hypervisor.specs.Cores.{reply_on}
use Rattle.lent_words.specs.Words.{words_at, Left}
use Rattle.lent_cores.specs.Layout.{cores_at}
use Rattle.lent_core.specs.Calls.{stepped_core}

-- the length of the buffer of a reply's values, in bytes
abbrev pub values_size : ℕ
values_size = 8 * reply_length

-- a reply by its kind, the bytes of its values and its error
abbrev pub reply_in : ℕ → List ℕ → ℤ → HvcReply
reply_in kind values error = record { kind = kind; values = words_at values 0 reply_length; error = error }

-- `reply`
unfoldable pub reply_call : List ℕ → ℕ → ℕ → List ℕ → ℤ → Left
reply_call cores i kind values error = stepped_core cores i (reply_on (cores_at cores) i (reply_in kind values error))
