-- The structure block's words, one by one. Assumes nothing.
use Rattle.std.specs.Prelude.{ℕ, ◌+◌, ◌-◌, Bool, true, false, cond, Option, None, Some, List, [], ◌∷◌, ltb, eqb}
use Rattle.fdt_tokens.specs.Devicetree.{joined}
use Rattle.fdt_tokens.specs.declared.Lexer.{Lexer}
use Rattle.fdt_tokens.specs.declared.Lexer.TheVariants.{Token, Name, Length, Offset, Value, Done, Broken}
use Rattle.fdt_tokens.specs.declared.Event.{Event}
use Rattle.fdt_tokens.specs.declared.Event.TheVariants.{Begin, EndNode, Prop, End}
use Rattle.fdt_tokens.specs.declared.Lexed.{Lexed}

-- in a name only zero bytes follow a zero byte, and the first of them ends the name
unfoldable pub name_word : ℕ → ℕ → ℕ → ℕ → Lexer
name_word a b c d =
    cond (eqb d 0)
    (cond (eqb c 0)
    (cond (eqb b 0) Token (cond (eqb a 0) Broken Token))
    (cond (eqb a 0) Broken (cond (eqb b 0) Broken Token)))
    (cond (eqb a 0) Broken (cond (eqb b 0) Broken (cond (eqb c 0) Broken Name)))

-- the bytes past a value's end are zero
unfoldable pub value_word : ℕ → ℕ → ℕ → ℕ → Lexer
value_word left b c d =
    cond (ltb 4 left) (Value (left - 4))
    (cond (eqb left 4) Token
    (cond (eqb d 0)
    (cond (eqb left 3) Token
    (cond (eqb c 0)
    (cond (eqb left 2) Token
    (cond (eqb b 0) Token Broken))
    Broken))
    Broken))

-- FDT_BEGIN_NODE 1, FDT_END_NODE 2, FDT_PROP 3, FDT_NOP 4, FDT_END 9
unfoldable pub token_word : ℕ → Lexed
token_word w =
    cond (eqb w 1) (record { lexer = Name; event = Some Begin })
    (cond (eqb w 2) (record { lexer = Token; event = Some EndNode })
    (cond (eqb w 3) (record { lexer = Length; event = None })
    (cond (eqb w 4) (record { lexer = Token; event = None })
    (cond (eqb w 9) (record { lexer = Done; event = Some End })
    (record { lexer = Broken; event = None })))))

-- what four bytes are, by what they are part of
unfoldable pub lex_word : Lexer → ℕ → ℕ → ℕ → ℕ → Lexed
lex_word Token a b c d = token_word (joined a b c d)
lex_word Name a b c d = record { lexer = name_word a b c d; event = None }
lex_word Length a b c d = record { lexer = Offset (joined a b c d); event = None }
lex_word (Offset n) a b c d = record { lexer = cond (eqb n 0) Token (Value n); event = Some (Prop n (joined a b c d)) }
lex_word (Value n) a b c d = record { lexer = value_word n b c d; event = None }
lex_word Done a b c d = record { lexer = Broken; event = None }
lex_word Broken a b c d = record { lexer = Broken; event = None }

-- FDT_END was read, and nothing after it
unfoldable pub is_done : Lexer → Bool
is_done Token = false
is_done Name = false
is_done Length = false
is_done (Offset n) = false
is_done (Value n) = false
is_done Done = true
is_done Broken = false

-- a token met, and the place after the word that completes it: a property's is that of its value
pub record Placed : Type 0 where
  pub event : Event
  pub place : ℕ

-- the tokens met in some bytes, and the state after them
pub record Reading : Type 0 where
  pub tokens : List Placed
  pub lexer : Lexer

-- a word that completes no token adds none
unfoldable pub put : Option Event → ℕ → Reading → Reading
put None i r = r
put (Some e) i r = record { tokens = record { event = e; place = i } ∷ r.tokens; lexer = r.lexer }

-- the bytes left, of which the first stands at `i`; a last one to three bytes are no token
unfoldable pub read : Lexer → ℕ → List ℕ → Reading
read x i (a ∷ b ∷ c ∷ d ∷ l) = put (lex_word x a b c d).event (i + 4) (read (lex_word x a b c d).lexer (i + 4) l)
read x i [] = record { tokens = []; lexer = x }
read x i (a ∷ []) = record { tokens = []; lexer = Broken }
read x i (a ∷ b ∷ []) = record { tokens = []; lexer = Broken }
read x i (a ∷ b ∷ c ∷ []) = record { tokens = []; lexer = Broken }
