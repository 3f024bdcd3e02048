-- A structure block that the reader accepts is the tokens of one root node. Assumes nothing.
use Prim.Native.Nat.{ℕ, zero, suc, ◌+◌, ◌-◌, ◌%◌, ◌^◌, ◌≤◌, ◌<◌}
use mathlib.Core.Path.{◌≡◌, refl, sym, ◌∙◌, ap, subst}
use mathlib.Core.Bool.{Bool, true, false, cond}
use mathlib.Core.List.{List, [], ◌∷◌, ◌++◌}
use native.Mathlib.Omega.{arith}
use lib.Dec.{eqb}
use lib.ListN.{length, drop, length-append}
use borrow.Author.Tests.{eqb-true, eqb-false, eq-eqb, ne_eqb}
use Rattle.fdt_tokens.specs.Devicetree as dt
use Rattle.fdt_tokens.specs.Devicetree.{Tree, Tokens, padded, tokens_of, joined, has_zero}
use Rattle.fdt_tokens.specs.Lex.{Placed, is_done, read}
use Rattle.fdt_tokens.specs.declared.Event.{Event}
use Rattle.fdt_tokens.specs.declared.Event.TheVariants.{Begin, EndNode, Prop, End}
use Rattle.fdt_tokens.specs.declared.Lexer.{Lexer}
use Rattle.fdt_tokens.specs.declared.Lexer.TheVariants.{Token, Name, Length, Offset, Value, Done, Broken}
use Rattle.fdt_tokens.proofs.Laws.{impossible}
use Rattle.fdt_tokens.proofs.Lexing.{events, read_whole}
use Rattle.fdt_tokens.proofs.Sound.{Closes, Closed, sound}
use Rattle.fdt_tokens.proofs.Grammar.{fits, whole, accepted-whole}
use Rattle.fdt_nodes.specs.Nodes.{absent, at_depth, with_child, bad_nodes, is_memory, ragged_reg, begin_node, child_end, end_node, root_property, child_property, property, ended, advance}
use Rattle.fdt_nodes.specs.Scan.{started, judged}
use Rattle.fdt.specs.Passes.{folded, judged_block}
use Rattle.fdt_nodes.specs.declared.Nodes.{Nodes}
use Rattle.fdt_nodes.specs.declared.DevicetreeError.TheVariants.{Invalid}
use Rattle.std.specs.Prelude.{Option, None, Some, Err}

-- the place in the tree is kept, and what is ok was ok
pub record Kept (n m : Nodes) : Type 0 where
  pub depth : m.depth ≡ n.depth
  pub props : m.props ≡ n.props
  pub rooted : m.rooted ≡ n.rooted
  pub ok : m.ok ≡ true → n.ok ≡ true

kept : (n : Nodes) → Kept n n
kept n = record { depth = refl; props = refl; rooted = refl; ok = λ h. h }

bad_kept : (n : Nodes) → Kept n (bad_nodes n)
unfolding bad_nodes
bad_kept n = record { depth = refl; props = refl; rooted = refl; ok = λ h. impossible h }

child_kept : (n : Nodes) → Kept n (child_end n)
unfolding child_end
child_kept n = go (eqb n.depth 1) (is_memory n.kind) (ragged_reg n.reg.length n.address.value n.size.value) where
  go : (t u v : Bool) → Kept n (cond t (cond u (cond v (bad_nodes n) n) n) n)
  go true true true = bad_kept n
  go true true false = kept n
  go true false v = kept n
  go false u v = kept n

-- a property that is ok was allowed, and its name ends
pub record Allowed (S : List ℕ) (o : ℕ) (n m : Nodes) : Type 0 where
  pub allowed : m.ok ≡ true → n.props ≡ true
  pub ends : m.ok ≡ true → has_zero (drop o S) ≡ true
  pub same : Kept n m

property_allowed : (B S : List ℕ) (i : ℕ) (n : Nodes) (w o : ℕ) → Allowed S o n (property B S i n w o)
unfolding property bad_nodes root_property child_property
property_allowed B S i n w o = go n.props (has_zero (drop o S)) (eqb n.depth 1) (eqb n.depth 2) refl refl where
  go : (t u v x : Bool) → n.props ≡ t → has_zero (drop o S) ≡ u
      → Allowed S o n (cond t (cond u (cond v (root_property B S i n w o) (cond x (child_property B S i n w o) n)) (bad_nodes n)) (bad_nodes n))
  go true true true x e f = record { allowed = λ h. e; ends = λ h. f; same = record { depth = refl; props = refl; rooted = refl; ok = λ h. h } }
  go true true false true e f = record { allowed = λ h. e; ends = λ h. f; same = record { depth = refl; props = refl; rooted = refl; ok = λ h. h } }
  go true true false false e f = record { allowed = λ h. e; ends = λ h. f; same = kept n }
  go true false v x e f = record { allowed = λ h. e; ends = λ h. impossible h; same = bad_kept n }
  go false u v x e f = record { allowed = λ h. impossible h; ends = λ h. impossible h; same = bad_kept n }

begin_ok : (n : Nodes) → (begin_node n).ok ≡ true → n.ok ≡ true
unfolding begin_node bad_nodes
begin_ok n h = go (eqb n.depth 0) n.rooted (eqb n.depth 1) h where
  go : (t u v : Bool) → (cond t (cond u (bad_nodes n) (at_depth n 1 true true)) (cond v (with_child (at_depth n 2 true n.rooted) absent absent) (at_depth n ((n.depth + 1) % 2 ^ 64) true n.rooted))).ok ≡ true → n.ok ≡ true
  go true true v h = impossible h
  go true false v h = h
  go false u true h = h
  go false u false h = h

-- inside the root a node is begun
pub record Begun (n m : Nodes) : Type 0 where
  pub inside : 0 < n.depth
  pub depth : m.depth ≡ (n.depth + 1) % 2 ^ 64
  pub props : m.props ≡ true
  pub rooted : m.rooted ≡ true

begin_shape : (n : Nodes) → n.rooted ≡ true → (begin_node n).ok ≡ true → Begun n (begin_node n)
unfolding begin_node bad_nodes
begin_shape n r h = go (eqb n.depth 0) (eqb n.depth 1) refl refl h where
  made : Bool → Bool → Nodes
  made t u =
      cond t (cond n.rooted (bad_nodes n) (at_depth n 1 true true))
      (cond u (with_child (at_depth n 2 true n.rooted) absent absent) (at_depth n ((n.depth + 1) % 2 ^ 64) true n.rooted))

  go : (t u : Bool) → eqb n.depth 0 ≡ t → eqb n.depth 1 ≡ u → (made t u).ok ≡ true → Begun n (made t u)
  go true true e f h = impossible (rw r at h)
  go true false e f h = impossible (rw r at h)
  go false true e f h = let k = eqb-true n.depth 1 f in record { inside = omega arith; depth = omega arith; props = refl; rooted = r }
  go false false e f h = let k = eqb-false n.depth 0 e in record { inside = omega arith; depth = refl; props = refl; rooted = r }

end_kept : (n : Nodes) → 0 < n.depth → Kept (at_depth n (n.depth - 1) false n.rooted) (end_node n)
unfolding end_node
end_kept n h = rw (ne_eqb n.depth 0 (λ e. omega arith)) (child_kept (at_depth n (n.depth - 1) false n.rooted))

end_inside : (n : Nodes) → (end_node n).ok ≡ true → 0 < n.depth
unfolding end_node bad_nodes
end_inside n h = go (eqb n.depth 0) refl h where
  go : (t : Bool) → eqb n.depth 0 ≡ t → (cond t (bad_nodes n) (child_end (at_depth n (n.depth - 1) false n.rooted))).ok ≡ true → 0 < n.depth
  go true e h = impossible h
  go false e h = let k = eqb-false n.depth 0 e in omega arith

-- FDT_END that is ok
pub record Ends (n : Nodes) : Type 0 where
  pub ok : n.ok ≡ true
  pub depth : n.depth ≡ 0
  pub rooted : n.rooted ≡ true

ended_ok : (n : Nodes) → (ended n).ok ≡ true → Ends n
unfolding ended bad_nodes
ended_ok n h = go (eqb n.depth 0) n.rooted refl refl h where
  go : (t u : Bool) → eqb n.depth 0 ≡ t → n.rooted ≡ u → (cond t (cond u n (bad_nodes n)) (bad_nodes n)).ok ≡ true → Ends n
  go true true e f h = record { ok = h; depth = eqb-true n.depth 0 e; rooted = f }
  go true false e f h = impossible h
  go false u e f h = impossible h

begin_root : (n : Nodes) → n.depth ≡ 0 → n.rooted ≡ false → begin_node n ≡ at_depth n 1 true true
unfolding begin_node
begin_root n e r = rw (eq-eqb n.depth 0 e, r)

fits_nil : (d : ℕ) (p : Bool) → d ≡ 0 → fits d p [] ≡ true
fits_nil zero p e = refl
fits_nil (suc d) p e = absurd (omega arith)

fits_begin : (d : ℕ) (p : Bool) (ts : List dt.Token) → 0 < d → fits d p (dt.begin ∷ ts) ≡ fits (suc d) true ts
fits_begin zero p ts h = absurd (omega arith)
fits_begin (suc d) p ts h = refl

fits-end : (d e : ℕ) (p : Bool) (ts : List dt.Token) → d ≡ suc e → fits d p (dt.end ∷ ts) ≡ fits e false ts
fits-end d e p ts h = ap (λ m. fits m p (dt.end ∷ ts)) h

fits_prop : (d : ℕ) (p : Bool) (q : dt.Property) (ts : List dt.Token) → 0 < d → p ≡ true → fits d p (dt.prop q ∷ ts) ≡ fits d p ts
fits_prop zero p q ts h e = absurd (omega arith)
fits_prop (suc d) true q ts h e = refl
fits_prop (suc d) false q ts h e = impossible e

module _ (B S : List ℕ) where
  -- what is ok was ok
  advance_ok : (i : ℕ) (n : Nodes) (e : Option Event) → (advance B S i n e).ok ≡ true → n.ok ≡ true
  unfolding advance
  advance_ok i n None h = h
  advance_ok i n (Some Begin) h = begin_ok n h
  advance_ok i n (Some EndNode) h = (end_kept n (end_inside n h)).ok h
  advance_ok i n (Some (Prop w o)) h = (property_allowed B S i n w o).same.ok h
  advance_ok i n (Some End) h = (ended_ok n h).ok

  folded_ok : (es : List Placed) (n : Nodes) → (folded B S n es).ok ≡ true → n.ok ≡ true
  unfolding folded
  folded_ok [] n h = h
  folded_ok (e ∷ es) n h = advance_ok e.place n (Some e.event) (folded_ok es (advance B S e.place n (Some e.event)) h)

  -- where all is ok every name ends
  closes : (i : ℕ) (n : Nodes) (e : Event) → (advance B S i n (Some e)).ok ≡ true → Closes S e
  unfolding advance
  closes i n Begin h = tt
  closes i n EndNode h = tt
  closes i n (Prop w o) h = (property_allowed B S i n w o).ends h
  closes i n End h = tt

  closed : (es : List Placed) (n : Nodes) → (folded B S n es).ok ≡ true → Closed S es
  unfolding folded
  closed [] n h = tt
  closed (e ∷ es) n h = (closes e.place n e.event (folded_ok es (advance B S e.place n (Some e.event)) h), closed es (advance B S e.place n (Some e.event)) h)

  shape : {l : List ℕ} {ts : List dt.Token} (t : Tokens S l ts) (i : ℕ) (n : Nodes) (d : ℕ) (p : Bool)
      → n.depth ≡ d → n.props ≡ p → n.rooted ≡ true → (p ≡ true → 0 < d) → d + length l < 2 ^ 64
      → (folded B S n (events t i)).ok ≡ true → fits d p ts ≡ true
  unfolding advance folded
  shape (dt.last e) i n d p hd hp hr hi b h = fits_nil d p (sym hd ∙ (ended_ok n h).depth)
  shape (dt.nop e t) i n d p hd hp hr hi b h = shape t (i + 4) n d p hd hp hr hi (omega arith) h
  shape (dt.begins name {l = l} {ts = us} e f t) i n d p hd hp hr hi b h =
      let k = begin_shape n hr (folded_ok (events t (i + 4 + length (padded (name ++ (0 ∷ []))))) (begin_node n) h) in
      let bl : suc d + length l < 2 ^ 64 = omega (arith, length-append (padded (name ++ (0 ∷ []))) l) in
      fits_begin d p us (omega (arith, k.inside))
      ∙ shape t _ (begin_node n) (suc d) true (k.depth ∙ omega arith) k.props k.rooted (λ x. omega arith) bl h
  shape (dt.ends {ts = us} e t) i n d p hd hp hr hi b h =
      let k = end_inside n (folded_ok (events t (i + 4)) (end_node n) h) in
      let q = end_kept n k in
      fits-end d (d - 1) p us (omega arith)
      ∙ shape t (i + 4) (end_node n) (d - 1) false (q.depth ∙ ap (λ m. m - 1) hd) q.props (q.rooted ∙ hr) (λ x. impossible x) (omega arith) h
  shape (dt.has {i = i₁} {j = i₂} {k = i₃} {m = i₄} q {l = l} {ts = us} e e' nm t) i n d p hd hp hr hi b h =
      let m = property B S (i + 4 + 4 + 4) n (length q.value) (joined i₁ i₂ i₃ i₄) in
      let x = property_allowed B S (i + 4 + 4 + 4) n (length q.value) (joined i₁ i₂ i₃ i₄) in
      let a = x.allowed (folded_ok (events t (i + 4 + 4 + 4 + length (padded q.value))) m h) in
      let k = x.same in
      fits_prop d p q us (hi (sym hp ∙ a)) (sym hp ∙ a)
      ∙ shape t _ m d p (k.depth ∙ hd) (k.props ∙ hp) (k.rooted ∙ hr) hi (omega (arith, length-append (padded q.value) l)) h

  -- before the root
  root_shape : {l : List ℕ} {ts : List dt.Token} (t : Tokens S l ts) (i : ℕ) (n : Nodes)
      → n.depth ≡ 0 → n.props ≡ false → n.rooted ≡ false → length l < 2 ^ 64
      → (folded B S n (events t i)).ok ≡ true → whole ts ≡ true
  unfolding advance folded
  root_shape (dt.last e) i n hd hp hr b h = impossible (sym hr ∙ (ended_ok n h).rooted)
  root_shape (dt.nop e t) i n hd hp hr b h = root_shape t (i + 4) n hd hp hr (omega arith) h
  root_shape (dt.begins name {l = l} e f t) i n hd hp hr b h =
      shape t (i + 4 + length (padded (name ++ (0 ∷ [])))) (at_depth n 1 true true) 1 true refl refl refl (λ x. omega arith)
      (omega (arith, length-append (padded (name ++ (0 ∷ []))) l))
      (subst (λ m. (folded B S m (events t (i + 4 + length (padded (name ++ (0 ∷ [])))))).ok ≡ true) (begin_root n hd hr) h)
  root_shape (dt.ends e t) i n hd hp hr b h =
      let k = end_inside n (folded_ok (events t (i + 4)) (end_node n) h) in absurd (omega arith)
  root_shape (dt.has {i = i₁} {j = i₂} {k = i₃} {m = i₄} q e e' nm t) i n hd hp hr b h =
      let m = property B S (i + 4 + 4 + 4) n (length q.value) (joined i₁ i₂ i₃ i₄) in
      impossible (sym hp ∙ (property_allowed B S (i + 4 + 4 + 4) n (length q.value) (joined i₁ i₂ i₃ i₄)).allowed (folded_ok (events t (i + 4 + 4 + 4 + length (padded q.value))) m h))

-- a block of some tree
pub record Formed (S B : List ℕ) : Type 0 where
  pub tree : Tree
  pub reads : Tokens S B (tokens_of (dt.node tree.properties tree.children dt.none))

-- a block that is read to its end and ok is that of a tree
done_formed : (B S : List ℕ) → length B < 2 ^ 64 → (read Token 0 B).lexer ≡ Done → (folded B S started.nodes (read Token 0 B).tokens).ok ≡ true → Formed S B
unfolding started
done_formed B S b h o =
    let a = sound S B Token 0 h (closed B S (read Token 0 B).tokens started.nodes o) in
    let e = read_whole a.reads 0 in
    let w = root_shape B S a.reads 0 started.nodes refl refl refl b (ap (λ r. (folded B S started.nodes r.tokens).ok) (sym e) ∙ o) in
    let r = accepted-whole a.tokens w in
    record { tree = record { properties = r.root; children = r.kids }; reads = subst (λ ts. Tokens S B ts) r.same a.reads }

-- a block that is not invalid was read to its end and is ok
record Accepted (x : Lexer) (n : Nodes) : Type 0 where
  done : x ≡ Done
  ok : n.ok ≡ true

not-refused : (x : Lexer) (n : Nodes) → (judged x n ≡ Err Invalid → ⊥) → Accepted x n
unfolding judged is_done
not-refused Token n h = absurd (h refl)
not-refused Name n h = absurd (h refl)
not-refused Length n h = absurd (h refl)
not-refused (Offset w) n h = absurd (h refl)
not-refused (Value w) n h = absurd (h refl)
not-refused Broken n h = absurd (h refl)
not-refused Done n h = record { done = refl; ok = go n.ok refl } where
  go : (t : Bool) → n.ok ≡ t → n.ok ≡ true
  go true e = e
  go false e = absurd (h (rw e))

-- unless a block is invalid it is that of a tree
pub block_formed : (B S : List ℕ) → length B ≤ 65536 → (judged_block B S ≡ Err Invalid → ⊥) → Formed S B
unfolding judged_block
block_formed B S b h =
    let a = not-refused (read Token 0 B).lexer (folded B S started.nodes (read Token 0 B).tokens) h in
    done_formed B S (omega arith) a.done a.ok
