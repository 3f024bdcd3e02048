-- The pairs of a blob of bytes fit 64 bits. Assumes nothing.
use Prim.Native.Nat.{ℕ, zero, suc, ◌+◌, ◌-◌, ◌*◌, ◌/◌, ◌%◌, ◌^◌, ◌<◌}
use mathlib.Core.Bool.{cond}
use mathlib.Core.List.{List, [], ◌∷◌, ◌++◌}
use native.Mathlib.Omega.{arith}
use lib.Dec.{eqb, leb}
use lib.ListN.{length, take, drop, get_or}
use Rattle.lists.proofs.Laws.{cond_all}
use Rattle.lists.proofs.Every.{Every, every_append}
use Rattle.fdt_tokens.specs.Devicetree.{Pair, joined}
use Rattle.fdt_tokens.specs.Bytes.{be32_at}
use Rattle.fdt_tokens.specs.Lex.{Placed, read}
use Rattle.fdt_nodes.specs.Nodes.{width, pair_bytes, advance}
use Rattle.fdt_nodes.specs.Scan.{at_pair}
use Rattle.fdt_nodes.specs.declared.Nodes.{Nodes}
use Rattle.fdt.specs.declared.Walk.{Walk}
use Rattle.fdt.specs.declared.Cursor.{Cursor}
use Rattle.fdt_nodes.specs.declared.DevicetreeError.{DevicetreeError}
use Rattle.fdt_nodes.specs.declared.DevicetreeError.TheVariants.{Invalid, UnsupportedCellCounts}
use Rattle.std.specs.Prelude.{Some, Result, Ok, Err}
use Rattle.fdt.specs.Passes.{cells_at, pairs_at, reg_pairs, pairs_met, pairs_from, left_in}
use Rattle.fdt.specs.Blob.{part, inside_of, pairs_left, memory_of, memory_answer, blob_answer}
use Rattle.memory_import.specs.Import.{pairs_in}
use Rattle.lent_words.specs.Words.{FitsWord, Bytes}

-- both numbers of a pair fit
abbrev pub PairFits : Pair → Type 0
PairFits x = FitsWord x.base × FitsWord x.size

-- a big-endian word of bytes has 32 bits
word_small : (s : List ℕ) (at : ℕ) → Bytes s → be32_at s at < 2 ^ 32
unfolding be32_at
word_small s at h =
    cond_all (λ n. n < 2 ^ 32) (leb (at + 4) (length s)) (joined (get_or s at 0) (get_or s (at + 1) 0) (get_or s (at + 2) 0) (get_or s (at + 3) 0)) 0
    (omega (arith, h at, h (at + 1), h (at + 2), h (at + 3))) (omega arith)

cells_fit : (s : List ℕ) (at n : ℕ) → Bytes s → FitsWord (cells_at s at n)
unfolding cells_at
cells_fit s at n h =
    let a = word_small s at h in
    let b = word_small s (at + 4) h in
    cond_all FitsWord (eqb n 1) (be32_at s at) (be32_at s at * 4294967296 + be32_at s (at + 4)) (omega arith) (omega arith)

pairs_at_fit : (s : List ℕ) (n at a z : ℕ) → Bytes s → Every PairFits (pairs_at s n at a z)
unfolding pairs_at
pairs_at_fit s zero at a z h = tt
pairs_at_fit s (suc n) at a z h = ((cells_fit s at a h, cells_fit s (at + width a) z h), pairs_at_fit s n ((at + pair_bytes a z) % 2 ^ 32) a z h)

module _ (block strings : List ℕ) (bytes : Bytes block) where
  reg_fits : (n : Nodes) → Every PairFits (reg_pairs block n)
  unfolding reg_pairs
  reg_fits n = pairs_at_fit block _ _ _ _ bytes

  met_fit : (es : List Placed) (n : Nodes) → Every PairFits (pairs_met block strings n es)
  unfolding pairs_met
  met_fit [] n = tt
  met_fit (e ∷ es) n =
      let m = advance block strings e.place n (Some e.event) in
      let rest = met_fit es m in
      cond_all (Every PairFits) (at_pair (Some e.event) m) (reg_pairs block m ++ pairs_met block strings m es) (pairs_met block strings m es)
      (every_append PairFits (reg_pairs block m) (pairs_met block strings m es) (reg_fits m) rest) rest

-- a part of bytes is bytes
take-bytes : (n : ℕ) (l : List ℕ) → Bytes l → Bytes (take n l)
take-bytes zero l h i = omega arith
take-bytes (suc n) [] h i = omega arith
take-bytes (suc n) (x ∷ l) h zero = h 0
take-bytes (suc n) (x ∷ l) h (suc i) = take-bytes n l (λ j. h (suc j)) i

drop-bytes : (n : ℕ) (l : List ℕ) → Bytes l → Bytes (drop n l)
drop-bytes zero l h = h
drop-bytes (suc n) [] h = h
drop-bytes (suc n) (x ∷ l) h = drop-bytes n l (λ j. h (suc j))

-- the pairs left in a walk
walk_fits : (block strings : List ℕ) (w : Walk) → Bytes block → Every PairFits (left_in block strings w)
unfolding left_in pairs_from
walk_fits block strings w h =
    let a = w.scan.nodes.address.value in
    let z = w.scan.nodes.size.value in
    let tokens = (read w.scan.lexer w.at (drop w.at block)).tokens in
    every_append PairFits (pairs_at block (w.left / pair_bytes a z) w.place a z) (pairs_met block strings w.scan.nodes tokens)
    (pairs_at_fit block (w.left / pair_bytes a z) w.place a z h) (met_fit block strings h tokens w.scan.nodes)

-- the pairs left at a cursor
left_fit : (s : List ℕ) (c : Cursor) → Bytes s → Every PairFits (pairs_left s c)
unfolding pairs_left
left_fit s c h =
    let from = c.blocks.block.from in
    let to = c.blocks.block.to in
    let pairs = left_in (part s from to) (part s c.blocks.strings.from c.blocks.strings.to) c.walk in
    let strings = inside_of (length s) c.blocks.strings.from c.blocks.strings.to in
    cond_all (Every PairFits) (inside_of (length s) from to) (cond strings pairs []) []
    (cond_all (Every PairFits) strings pairs [] (walk_fits _ _ c.walk (take-bytes (to - from) (drop from s) (drop-bytes from s h))) tt) tt

-- the pairs of a slice
pub pairs_fit : (s : List ℕ) → Bytes s → Every PairFits (pairs_in (blob_answer s))
unfolding blob_answer memory_answer
pairs_fit s h = go (memory_of s)
  where
    go : (m : Result Cursor DevicetreeError) → Every PairFits (pairs_in (memory_answer s m))
    go (Err Invalid) = tt
    go (Err UnsupportedCellCounts) = tt
    go (Ok c) = left_fit s c h
