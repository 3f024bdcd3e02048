-- Laws of a reply on lent bytes: the stores of its registers, of ELR and of the wait are the core's. Assumes nothing.
use Prim.Native.Nat.{ℕ, suc, ◌+◌, ◌*◌, ◌<◌, ◌≤◌}
use mathlib.Core.Path.{◌≡◌, refl}
use mathlib.Core.List.{List, [], ◌∷◌, ◌++◌}
use native.Mathlib.Omega.{arith}
use lib.ListN.{length}
use lib.IntN.{ℤ}
use Rattle.lent_words.specs.Words.{word_at, with_word, words_at, with_words, kept_code, Bytes}
use Rattle.exceptions.specs.declared.Core.{Core}
use Rattle.exceptions.specs.declared.Conduit.{Conduit}
use Rattle.exceptions.specs.Registers.{with_registers, core_of}
use Rattle.hvc_response.specs.declared.HvcResult.{HvcResult}
use Rattle.hvc_response.specs.declared.HvcResult.TheVariants.{Unhandled, Value, Success, SuccessLarge, Error}
use Rattle.hvc_response.specs.Response.{response, with_first, reply_length}
use Rattle.forwarded_call.specs.ForwardedCall.{resumed, resumed_elr, decide_reply, replied_by, reply_core}
use Rattle.lent_cores.specs.Layout.{core_at, cores_at, with_core, core_length, wait_word, wait_codes, elr_word, held_core}
use Rattle.lent_core.proofs.InPlace.{core-put}
use Rattle.lent_core.proofs.Calls.{stepped_one, step_none, step_one}
use Rattle.lent_reply.specs.LentReply.{reply_call}
use Rattle.hypervisor.specs.Cores.{reply_on}

-- words with their places, from one on
abbrev placed : ℕ → List ℕ → List (ℕ × ℕ)
placed k [] = []
placed k (v ∷ vs) = (k, v) ∷ placed (suc k) vs

-- A reply's stores in one of the eight cores.
module _ (b : List ℕ) (i : ℕ) (values : List ℕ) (bytes : Bytes b) (h : i < 8) (conduit : Conduit) where
  -- the word of a wait that has ended
  abbrev code : ℕ
  code = kept_code (length wait_codes) (word_at b (core_length * i + wait_word)) 0

  -- the words that differ in the core, and the core then
  abbrev differing : List ℕ → Core → List (ℕ × ℕ)
  differing vs c = placed 0 vs ++ ((elr_word, resumed_elr conduit c.elr) ∷ (wait_word, code) ∷ [])

  abbrev after : List ℕ → Core → Core
  after vs c = resumed conduit (with_first c vs)

  abbrev written : HvcResult → List ℕ
  written result = response result (words_at values 0 reply_length)

  -- the bytes that the stores leave
  abbrev left : HvcResult → List ℕ
  left result =
      with_word (with_word (with_words b (core_length * i) (written result)) (core_length * i + elr_word) (resumed_elr conduit (core_of (cores_at b) i).elr)) (core_length * i + wait_word) code

  -- the length of what a result writes is known, so that the words are compared one by one
  pub reply_put : (result : HvcResult) → left result ≡ with_core b i (after (written result) (core_of (cores_at b) i))
  unfolding response with_first with_registers core_at resumed
  reply_put Unhandled = core-put b i (differing (written Unhandled)) (after (written Unhandled)) bytes (omega arith) refl h
  reply_put (Value v) = core-put b i (differing (written (Value v))) (after (written (Value v))) bytes (omega arith) refl h
  reply_put Success = core-put b i (differing (written Success)) (after (written Success)) bytes (omega arith) refl h
  reply_put SuccessLarge = core-put b i (differing (written SuccessLarge)) (after (written SuccessLarge)) bytes (omega arith) refl h
  reply_put (Error e) = core-put b i (differing (written (Error e))) (after (written (Error e))) bytes (omega arith) refl h

-- A reply to a core above 7, and to one of the eight.
module _ (cores : List ℕ) (i kind : ℕ) (values : List ℕ) (error : ℤ) where
  pub reply_none : 7 < i → reply_call cores i kind values error ≡ record { number = 10; state = cores; result = [] }
  unfolding reply_call reply_on
  reply_none h = step_none cores i _ h

  pub reply_one : i ≤ 7
      → reply_call cores i kind values error
      ≡ stepped_one cores i (replied_by (decide_reply (held_core cores i).wait kind (word_at values 0) error) (held_core cores i) (words_at values 0 reply_length))
  unfolding reply_call reply_on reply_core
  reply_one h = step_one cores i _ h
