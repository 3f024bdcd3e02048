-- The reader and the definition. Assumes nothing.
use Prim.Native.Nat.{ℕ, ◌+◌, ◌-◌, ◌/◌, ◌%◌, ◌≤◌}
use mathlib.Core.Path.{◌≡◌, refl, sym, ◌∙◌, ap, subst}
use mathlib.Core.Bool.{Bool, true, false, cond, true≢false}
use mathlib.Core.List.{List, [], ◌++◌, append-nil}
use native.Mathlib.Omega.{arith}
use lib.Dec.{eqb, ltb}
use lib.ListN.{length, take, drop, length-append, length-take, take-append-drop}
use lib.Seq.{length-take-le, take-append_seam, take_all}
use borrow.Author.Tests.{eq-eqb, eqb-true, le-ltb, ltb-false, ltb-true}
use Rattle.fdt_tokens.specs.Devicetree as dt
use Rattle.fdt_tokens.specs.Devicetree.{Tree, Tokens, tokens_of, field, span, BlobOf, says}
use Rattle.fdt_tokens.specs.Bytes.{be32_at}
use Rattle.fdt_tokens.proofs.Laws.{impossible}
use Rattle.fdt_nodes.specs.Scan.{started}
use Rattle.fdt.specs.Passes.{judged_block, pairs_from, pairs_at, left_in}
use Rattle.fdt.specs.Blob.{part, block_of, strings_of, blocks_at, cursor_at, list_ends, header_ok, memory_by, blocks_memory, blob_memory, memory_of, inside_of, pairs_left, memory_answer, blob_answer}
use Rattle.fdt.specs.declared.Cursor.{Cursor}
use Rattle.fdt_nodes.specs.declared.DevicetreeError.{DevicetreeError}
use Rattle.fdt_nodes.specs.declared.DevicetreeError.TheVariants.{Invalid, UnsupportedCellCounts}
use Rattle.std.specs.Prelude.{Result, Ok, Err}
use Rattle.fdt_nodes.proofs.Laws.{whole}
use Rattle.fdt_tokens.specs.declared.Lexer.TheVariants.{Token}
use Rattle.fdt.specs.declared.Blocks.{Blocks}
use Rattle.fdt_tree.specs.Blobs.{Blob, Says}
use Rattle.fdt_tree.proofs.Answer.{Verdict, answered, block_answered}
use Rattle.fdt_tree.proofs.Shape.{Formed, block_formed}
use Rattle.fdt_tree.proofs.Header.{span_is, word-field, field_is, ends_listed, listed_ends}

-- what the reader tests of a slice before it reads the structure block
record Tested (s : List ℕ) : Type 0 where
  long : 40 ≤ length s
  least : 40 ≤ be32_at s 4
  most : be32_at s 4 ≤ 65536
  whole : be32_at s 4 ≤ length s
  magic : be32_at s 0 ≡ 0xD00DFEED
  version : 17 ≤ be32_at s 20
  compatible : be32_at s 24 ≤ 17
  aligned_list : be32_at s 16 % 8 ≡ 0
  aligned_struct : be32_at s 8 % 4 ≡ 0
  list : list_ends s (be32_at s 16) ((be32_at s 4 - be32_at s 16) / 16) ≡ true
  struct_inside : be32_at s 8 + be32_at s 36 ≤ be32_at s 4
  strings_inside : be32_at s 12 + be32_at s 32 ≤ be32_at s 4

abbrev blocks_of : List ℕ → Blocks
blocks_of s = blocks_at (be32_at s 8) (be32_at s 8 + be32_at s 36) (be32_at s 12) (be32_at s 12 + be32_at s 32)

-- where the tests pass the blocks decide
tested_memory : (s : List ℕ) → Tested s → memory_of s ≡ blocks_memory s (blocks_of s)
unfolding memory_of blob_memory header_ok
tested_memory s x =
    rw (
      le-ltb (length s) 40 x.long,
      le-ltb (be32_at s 4) 40 x.least,
      le-ltb 65536 (be32_at s 4) x.most,
      le-ltb (length s) (be32_at s 4) x.whole,
      eq-eqb (be32_at s 0) 0xD00DFEED x.magic,
      le-ltb (be32_at s 20) 17 x.version,
      le-ltb 17 (be32_at s 24) x.compatible,
      eq-eqb (be32_at s 16 % 8) 0 x.aligned_list,
      eq-eqb (be32_at s 8 % 4) 0 x.aligned_struct,
      x.list,
      le-ltb (be32_at s 4) (be32_at s 8 + be32_at s 36) x.struct_inside,
      le-ltb (be32_at s 4) (be32_at s 12 + be32_at s 32) x.strings_inside,
    )

-- a slice that is not invalid passed each test
past : (t : Bool) (m : Result Cursor DevicetreeError) → (cond t (Err Invalid) m ≡ Err Invalid → ⊥) → (t ≡ false) × (m ≡ Err Invalid → ⊥)
past true m h = absurd (h refl)
past false m h = (refl, h)

past_header : (t : Bool) (m : Result Cursor DevicetreeError) → (cond t m (Err Invalid) ≡ Err Invalid → ⊥) → (t ≡ true) × (m ≡ Err Invalid → ⊥)
past_header true m h = (refl, h)
past_header false m h = absurd (h refl)

header_tested : (s : List ℕ) (n : ℕ) → header_ok s n ≡ true
    → (be32_at s 0 ≡ 0xD00DFEED) × ((17 ≤ be32_at s 20) × ((be32_at s 24 ≤ 17) × ((be32_at s 16 % 8 ≡ 0) × ((be32_at s 8 % 4 ≡ 0) × (list_ends s (be32_at s 16) ((n - be32_at s 16) / 16) ≡ true)))))
unfolding header_ok
header_tested s n h = go (eqb (be32_at s 0) 0xD00DFEED) (ltb (be32_at s 20) 17) (ltb 17 (be32_at s 24)) (eqb (be32_at s 16 % 8) 0) (eqb (be32_at s 8 % 4) 0) refl refl refl refl refl h where
  go : (t u v x y : Bool) → eqb (be32_at s 0) 0xD00DFEED ≡ t → ltb (be32_at s 20) 17 ≡ u → ltb 17 (be32_at s 24) ≡ v → eqb (be32_at s 16 % 8) 0 ≡ x → eqb (be32_at s 8 % 4) 0 ≡ y
      → cond t (cond u false (cond v false (cond x (cond y (list_ends s (be32_at s 16) ((n - be32_at s 16) / 16)) false) false))) false ≡ true
      → (be32_at s 0 ≡ 0xD00DFEED) × ((17 ≤ be32_at s 20) × ((be32_at s 24 ≤ 17) × ((be32_at s 16 % 8 ≡ 0) × ((be32_at s 8 % 4 ≡ 0) × (list_ends s (be32_at s 16) ((n - be32_at s 16) / 16) ≡ true)))))
  go true false false true true a b c d e h = (eqb-true _ _ a, (ltb-false _ _ b, (ltb-false _ _ c, (eqb-true _ _ d, (eqb-true _ _ e, h)))))
  go false u v x y a b c d e h = impossible h
  go true true v x y a b c d e h = impossible h
  go true false true x y a b c d e h = impossible h
  go true false false false y a b c d e h = impossible h
  go true false false true false a b c d e h = impossible h

-- unless the slice is invalid the tests passed
valid_tested : (s : List ℕ) → (memory_of s ≡ Err Invalid → ⊥) → Tested s
unfolding memory_of blob_memory
valid_tested s h =
    let m₄ = blob_memory s (be32_at s 4) in
    let m₃ = cond (ltb (length s) (be32_at s 4)) (Err Invalid) m₄ in
    let m₂ = cond (ltb 65536 (be32_at s 4)) (Err Invalid) m₃ in
    let m₁ = cond (ltb (be32_at s 4) 40) (Err Invalid) m₂ in
    let a = past (ltb (length s) 40) m₁ h in
    let b = past (ltb (be32_at s 4) 40) m₂ a.1 in
    let c = past (ltb 65536 (be32_at s 4)) m₃ b.1 in
    let d = past (ltb (length s) (be32_at s 4)) m₄ c.1 in
    let k₂ = blocks_memory s (blocks_of s) in
    let k₁ = cond (ltb (be32_at s 4) (be32_at s 12 + be32_at s 32)) (Err Invalid) k₂ in
    let k = cond (ltb (be32_at s 4) (be32_at s 8 + be32_at s 36)) (Err Invalid) k₁ in
    let e = past_header (header_ok s (be32_at s 4)) k d.1 in
    let f = past (ltb (be32_at s 4) (be32_at s 8 + be32_at s 36)) k₁ e.1 in
    let g = past (ltb (be32_at s 4) (be32_at s 12 + be32_at s 32)) k₂ f.1 in
    let x = header_tested s (be32_at s 4) e.0 in
    record {
      long = ltb-false _ _ a.0;
      least = ltb-false _ _ b.0;
      most = ltb-false _ _ c.0;
      whole = ltb-false _ _ d.0;
      magic = x.0;
      version = x.1.0;
      compatible = x.1.1.0;
      aligned_list = x.1.1.1.0;
      aligned_struct = x.1.1.1.1.0;
      list = x.1.1.1.1.1;
      struct_inside = ltb-false _ _ f.0;
      strings_inside = ltb-false _ _ g.0;
    }

-- a block's cursor has all its pairs
first_pairs : (s : List ℕ) (b : Blocks) → inside_of (length s) b.block.from b.block.to ≡ true → inside_of (length s) b.strings.from b.strings.to ≡ true
    → pairs_left s (cursor_at b)
    ≡ pairs_from (part s b.block.from b.block.to) (part s b.strings.from b.strings.to) 0 Token started.nodes (part s b.block.from b.block.to)
unfolding pairs_left left_in pairs_at started
first_pairs s b h k = rw (h, k, (whole 2 1 0).none (omega (arith, (whole 2 1 0).big)))

inside : (n from to : ℕ) → to ≤ 65536 → to ≤ n → from ≤ to → inside_of n from to ≡ true
unfolding inside_of
inside n from to a b c = rw (le-ltb 65536 to a, le-ltb n to b, le-ltb to from c)

-- the answer of the blocks is that of the structure block, read to its end
blocks_answered : (s : List ℕ) (b : Blocks) → inside_of (length s) b.block.from b.block.to ≡ true → inside_of (length s) b.strings.from b.strings.to ≡ true
    → memory_answer s (blocks_memory s b)
    ≡ answered (judged_block (block_of s b) (strings_of s b)) (pairs_from (block_of s b) (strings_of s b) 0 Token started.nodes (block_of s b))
unfolding blocks_memory memory_by memory_answer
blocks_answered s b h k = go (judged_block (block_of s b) (strings_of s b)) where
  go : (v : Verdict) → memory_answer s (memory_by v b) ≡ answered v (pairs_from (block_of s b) (strings_of s b) 0 Token started.nodes (block_of s b))
  go (Ok u) = ap (λ ps. dt.pairs ps) (first_pairs s b h k)
  go (Err Invalid) = refl
  go (Err UnsupportedCellCounts) = refl

-- the header of a blob passes the tests
blob_tested : (s : List ℕ) (t : Tree) → BlobOf s t → Tested s
blob_tested s t x =
    let b = x.blob in let r = x.rest in let l = x.least in
    let f₄ = field_is s b r 4 x.front (omega arith) ∙ x.totalsize in
    let f₈ = field_is s b r 8 x.front (omega arith) in let f₁₂ = field_is s b r 12 x.front (omega arith) in
    let f₁₆ = field_is s b r 16 x.front (omega arith) in let f₂₀ = field_is s b r 20 x.front (omega arith) in
    let f₂₄ = field_is s b r 24 x.front (omega arith) in let f₃₂ = field_is s b r 32 x.front (omega arith) in
    let f₃₆ = field_is s b r 36 x.front (omega arith) in
    let n : length s ≡ length b + length r = ap length x.front ∙ length-append b r in
    let c = x.compatible in let v = x.version in let m = x.most in let i = x.struct_inside in let j = x.strings_inside in
    record {
      long = omega arith;
      least = omega arith;
      most = omega arith;
      whole = omega arith;
      magic = field_is s b r 0 x.front (omega arith) ∙ x.magic;
      version = omega arith;
      compatible = omega arith;
      aligned_list = ap (λ k. k % 8) f₁₆ ∙ x.aligned_list;
      aligned_struct = ap (λ k. k % 4) f₈ ∙ x.aligned_struct;
      list = ap (λ k. list_ends s k ((be32_at s 4 - k) / 16)) f₁₆
          ∙ (ap (λ k. list_ends s (field b 16) ((k - field b 16) / 16)) f₄ ∙ ends_listed s b r (field b 16) x.front x.list_ends);
      struct_inside = omega arith;
      strings_inside = omega arith;
    }

-- a block of the blob is the part of the slice that the reader takes
part_is : (s b r : List ℕ) (at n : ℕ) {at' n' : ℕ} → s ≡ b ++ r → at ≡ at' → n ≡ n' → at' + n' ≤ length b → part s at (at + n) ≡ span b at' n'
part_is s b r at n {at' = at'} {n' = n'} e p q h =
    let k : at + n - at ≡ n' = omega arith in
    ap (λ x. take x (drop at s)) k ∙ (ap (λ x. take n' (drop x s)) p ∙ span_is s b r at' n' e h)

-- the two parts lie inside
tested_struct : (s : List ℕ) → Tested s → inside_of (length s) (be32_at s 8) (be32_at s 8 + be32_at s 36) ≡ true
tested_struct s x =
    let a = x.most in let b = x.struct_inside in let c = x.whole in
    inside (length s) (be32_at s 8) (be32_at s 8 + be32_at s 36) (omega arith) (omega arith) (omega arith)

tested_strings : (s : List ℕ) → Tested s → inside_of (length s) (be32_at s 12) (be32_at s 12 + be32_at s 32) ≡ true
tested_strings s x =
    let a = x.most in let b = x.strings_inside in let c = x.whole in
    inside (length s) (be32_at s 12) (be32_at s 12 + be32_at s 32) (omega arith) (omega arith) (omega arith)

-- the blocks as the reader takes them
abbrev struct_block : List ℕ → List ℕ
struct_block s = block_of s (blocks_of s)

abbrev strings_block : List ℕ → List ℕ
strings_block s = strings_of s (blocks_of s)

tested_answer : (s : List ℕ) → Tested s → blob_answer s ≡ answered (judged_block (struct_block s) (strings_block s)) (pairs_from (struct_block s) (strings_block s) 0 Token started.nodes (struct_block s))
unfolding blob_answer
tested_answer s x = ap (λ m. memory_answer s m) (tested_memory s x) ∙ blocks_answered s (blocks_of s) (tested_struct s x) (tested_strings s x)

short_part : (s : List ℕ) (n at : ℕ) → n ≤ 65536 → length (take n (drop at s)) ≤ 65536
short_part s n at h = omega (arith, length-take n (drop at s))

-- Of a slice that is a blob of a tree the reader answers what the tree says, all its pairs in order.
pub blob_answered : (s : List ℕ) (t : Tree) → BlobOf s t → blob_answer s ≡ says t
blob_answered s t x =
    let y = blob_tested s t x in let b = x.blob in let r = x.rest in let l = x.least in let m = x.most in let i = x.struct_inside in
    let p = part_is s b r (be32_at s 8) (be32_at s 36) x.front (field_is s b r 8 x.front (omega arith)) (field_is s b r 36 x.front (omega arith)) x.struct_inside in
    let q = part_is s b r (be32_at s 12) (be32_at s 32) x.front (field_is s b r 12 x.front (omega arith)) (field_is s b r 32 x.front (omega arith)) x.strings_inside in
    tested_answer s y
    ∙ (ap (λ B. answered (judged_block B (strings_block s)) (pairs_from B (strings_block s) 0 Token started.nodes B)) p
    ∙ (ap (λ S. answered (judged_block (span b (field b 8) (field b 36)) S) (pairs_from (span b (field b 8) (field b 36)) S 0 Token started.nodes (span b (field b 8) (field b 36)))) q
    ∙ block_answered (span b (field b 8) (field b 36)) (span b (field b 12) (field b 32)) (short_part b (field b 36) (field b 8) (omega arith)) t x.struct))

-- blocks that are invalid make the slice so
blocks_invalid : (s : List ℕ) (b : Blocks) → judged_block (block_of s b) (strings_of s b) ≡ Err Invalid → blocks_memory s b ≡ Err Invalid
unfolding blocks_memory memory_by
blocks_invalid s b e = ap (λ v. memory_by v b) e

-- a slice that passes the tests is a header and two blocks
tested_blob : (s : List ℕ) → Tested s → Formed (strings_block s) (struct_block s) → Blob s
tested_blob s x f =
    let n = be32_at s 4 in let w = x.whole in
    let b = take n s in let r = drop n s in
    let e : s ≡ b ++ r = sym (take-append-drop n s) in
    let l : length b ≡ n = length-take-le n s w in
    let k = x.least in let a = x.struct_inside in let c = x.strings_inside in let m = x.most in let v = x.version in let u = x.compatible in
    let f₄ = field_is s b r 4 e (omega arith) in let f₁₆ = field_is s b r 16 e (omega arith) in let f₈ = field_is s b r 8 e (omega arith) in
    let f₃₆ = field_is s b r 36 e (omega arith) in let f₁₂ = field_is s b r 12 e (omega arith) in let f₃₂ = field_is s b r 32 e (omega arith) in
    let f₂₀ = field_is s b r 20 e (omega arith) in let f₂₄ = field_is s b r 24 e (omega arith) in
    let p = part_is s b r (be32_at s 8) (be32_at s 36) e f₈ f₃₆ (omega arith) in
    let q = part_is s b r (be32_at s 12) (be32_at s 32) e f₁₂ f₃₂ (omega arith) in
    record {
      tree = f.tree;
      is = record {
        blob = b;
        rest = r;
        front = e;
        least = omega arith;
        most = omega arith;
        magic = sym (field_is s b r 0 e (omega arith)) ∙ x.magic;
        totalsize = sym f₄ ∙ sym l;
        version = omega arith;
        compatible = omega arith;
        aligned_list = sym (ap (λ y. y % 8) f₁₆) ∙ x.aligned_list;
        list_ends = listed_ends s b r (field b 16) e
            (ap (λ y. list_ends s (field b 16) ((y - field b 16) / 16)) l ∙ (sym (ap (λ y. list_ends s y ((be32_at s 4 - y) / 16)) f₁₆) ∙ x.list));
        aligned_struct = sym (ap (λ y. y % 4) f₈) ∙ x.aligned_struct;
        struct_inside = omega arith;
        strings_inside = omega arith;
        struct = subst (λ B. Tokens (span b (field b 12) (field b 32)) B (tokens_of (dt.node f.tree.properties f.tree.children dt.none))) p
            (subst (λ S. Tokens S (struct_block s) (tokens_of (dt.node f.tree.properties f.tree.children dt.none))) q f.reads);
      };
    }

-- Unless the reader answers 21 there is a tree that the slice is a blob of.
pub valid_blob : (s : List ℕ) → (blob_answer s ≡ dt.invalid → ⊥) → Blob s
unfolding blob_answer memory_answer
valid_blob s h =
    let valid : memory_of s ≡ Err Invalid → ⊥ = λ e. h (ap (λ m. memory_answer s m) e) in
    let x = valid_tested s valid in let a = x.most in let b = x.struct_inside in
    tested_blob s x (block_formed (struct_block s) (strings_block s) (short_part s (be32_at s 8 + be32_at s 36 - be32_at s 8) (be32_at s 8) (omega arith))
    (λ e. valid (tested_memory s x ∙ blocks_invalid s (blocks_of s) e)))

abbrev pub is_invalid : dt.Said → Bool
is_invalid dt.invalid = true
is_invalid dt.unsupported = false
is_invalid (dt.pairs ps) = false

-- an answer is invalid, or it is not
data IsInvalid (a : dt.Said) : Type 0 where
  yes : a ≡ dt.invalid → IsInvalid a
  no : (a ≡ dt.invalid → ⊥) → IsInvalid a

judge : (a : dt.Said) → IsInvalid a
judge dt.invalid = yes refl
judge dt.unsupported = no (λ e. true≢false (sym (ap is_invalid e)))
judge (dt.pairs ps) = no (λ e. true≢false (sym (ap is_invalid e)))

-- The answer is 21 exactly where every tree that the slice is a blob of says 21; there may be none.
pub invalid_if : (s : List ℕ) → ((t : Tree) → BlobOf s t → says t ≡ dt.invalid) → blob_answer s ≡ dt.invalid
invalid_if s h = go (judge (blob_answer s)) where
  go : IsInvalid (blob_answer s) → blob_answer s ≡ dt.invalid
  go (yes e) = e
  go (no n) = let b = valid_blob s n in blob_answered s b.tree b.is ∙ h b.tree b.is

pub invalid_only : (s : List ℕ) → blob_answer s ≡ dt.invalid → (t : Tree) → BlobOf s t → says t ≡ dt.invalid
invalid_only s e t x = sym (blob_answered s t x) ∙ e

-- Any other answer, 22 or 0 with its pairs, is given exactly where some tree that the slice is a blob of says so.
pub answer_said : (s : List ℕ) (a : dt.Said) → blob_answer s ≡ a → (a ≡ dt.invalid → ⊥) → Says s a
answer_said s a e h =
    let b = valid_blob s (λ n. h (sym e ∙ n)) in
    record { tree = b.tree; is = b.is; says_so = sym (blob_answered s b.tree b.is) ∙ e }

pub said_answer : (s : List ℕ) (a : dt.Said) → Says s a → blob_answer s ≡ a
said_answer s a x = blob_answered s x.tree x.is ∙ x.says_so

-- a blob stays one whatever follows it
blob_moves : (b r r' : List ℕ) (t : Tree) → 40 ≤ length b → field b 4 ≡ length b → BlobOf (b ++ r) t → BlobOf (b ++ r') t
blob_moves b r r' t h e x =
    let l = x.least in
    let n : length x.blob ≡ length b
    = sym x.totalsize ∙ (sym (field_is (b ++ r) x.blob x.rest 4 x.front (omega arith)) ∙ (field_is (b ++ r) b r 4 refl (omega arith) ∙ e)) in
    let c : b ≡ x.blob
    = sym (take-append_seam b r) ∙ (ap (λ k. take k (b ++ r)) (sym n) ∙ (ap (λ m. take (length x.blob) m) x.front ∙ take-append_seam x.blob x.rest)) in
    record {
      blob = x.blob;
      rest = r';
      front = ap (λ m. m ++ r') c;
      least = x.least;
      most = x.most;
      magic = x.magic;
      totalsize = x.totalsize;
      version = x.version;
      compatible = x.compatible;
      aligned_list = x.aligned_list;
      list_ends = x.list_ends;
      aligned_struct = x.aligned_struct;
      struct_inside = x.struct_inside;
      strings_inside = x.strings_inside;
      struct = x.struct;
    }

-- what follows the first totalsize bytes changes nothing
prefix_alone : (b r r' : List ℕ) → 40 ≤ length b → field b 4 ≡ length b → blob_answer (b ++ r) ≡ blob_answer (b ++ r')
prefix_alone b r r' h e = go (judge (blob_answer (b ++ r))) (judge (blob_answer (b ++ r'))) where
  same-tree : (t : Tree) → BlobOf (b ++ r) t → BlobOf (b ++ r') t → blob_answer (b ++ r) ≡ blob_answer (b ++ r')
  same-tree t x y = blob_answered (b ++ r) t x ∙ sym (blob_answered (b ++ r') t y)

  go : IsInvalid (blob_answer (b ++ r)) → IsInvalid (blob_answer (b ++ r')) → blob_answer (b ++ r) ≡ blob_answer (b ++ r')
  go (no n) k = let x = valid_blob (b ++ r) n in same-tree x.tree x.is (blob_moves b r r' x.tree h e x.is)
  go (yes p) (no n) = let x = valid_blob (b ++ r') n in same-tree x.tree (blob_moves b r' r x.tree h e x.is) x.is
  go (yes p) (yes q) = p ∙ sym q

-- a slice that has no blob at its front is invalid
not_blob : (s : List ℕ) → ((t : Tree) → BlobOf s t → ⊥) → blob_answer s ≡ dt.invalid
not_blob s h = invalid_if s (λ t x. absurd (h t x))

-- a blob's totalsize is a field of the slice
front_size : (s : List ℕ) (t : Tree) (x : BlobOf s t) → field s 4 ≡ length x.blob
front_size s t x =
    let l = x.least in
    let n : length s ≡ length x.blob + length x.rest = ap length x.front ∙ length-append x.blob x.rest in
    sym (word-field s 4 (omega arith)) ∙ (field_is s x.blob x.rest 4 x.front (omega arith) ∙ x.totalsize)

-- The answer depends on the first totalsize bytes alone.
pub first-bytes : (s : List ℕ) → blob_answer s ≡ blob_answer (take (field s 4) s)
first-bytes s = go (ltb (length s) (field s 4)) (ltb (field s 4) 40) refl refl
  where
    n : ℕ
    n = field s 4

    go : (t u : Bool) → ltb (length s) n ≡ t → ltb n 40 ≡ u → blob_answer s ≡ blob_answer (take n s)
    go true u e f = ap blob_answer (sym (take_all n s (let h = ltb-true (length s) n e in omega arith)))
    go false true e f =
        let h = ltb-true n 40 f in
        not_blob s (λ t x. let l = x.least in omega (arith, front_size s t x))
        ∙ sym (not_blob (take n s) (λ t x. let l = x.least in omega (arith, ap length x.front, length-append x.blob x.rest, length-take n s)))
    go false false e f =
        let b = take n s in
        let r = drop n s in
        let k = ltb-false n 40 f in
        let j = ltb-false (length s) n e in
        let whole : s ≡ b ++ r = sym (take-append-drop n s) in
        let long : length b ≡ n = length-take-le n s j in
        let size = sym (field_is s b r 4 whole (omega arith)) ∙ (word-field s 4 (omega arith) ∙ sym long) in
        ap blob_answer whole ∙ (prefix_alone b r [] (omega arith) size ∙ ap blob_answer (append-nil b))
