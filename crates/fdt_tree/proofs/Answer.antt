-- A structure block that is the tokens of a tree is answered with what the tree says. Assumes nothing.
use Prim.Native.Nat.{ℕ, ◌+◌, ◌-◌, ◌*◌, ◌≤◌, ◌<◌, ◌%◌, ◌^◌}
use mathlib.Core.Path.{◌≡◌, refl, sym, ◌∙◌, ap, subst}
use mathlib.Core.Bool.{Bool, true, false, not, cond, ◌&&◌}
use mathlib.Core.List.{List, [], ◌∷◌, ◌++◌, map, append-nil}
use native.Mathlib.Omega.{arith}
use lib.Dec.{eqb}
use lib.ListN.{length, length-append}
use borrow.Author.Tests.{eq-eqb, ne_eqb, eqb-true}
use Rattle.fdt_tokens.specs.Devicetree as dt
use Rattle.fdt_tokens.specs.Devicetree.{Forest, Tree, Pair, Tokens, tokens_of, property_value, number_from, one_or_two, all_pairs, regs_of, ragged, Said, answer_by, says, padded}
use Rattle.fdt_tokens.specs.Lex.{Placed, is_done}
use Rattle.fdt_tokens.specs.declared.Lexer.TheVariants.{Token, Done}
use Rattle.fdt_tokens.proofs.Lexing.{events, read_whole}
use Rattle.fdt_nodes.specs.Nodes.{advance, at_depth, pair_bytes, ragged_reg, begin_node, end_node, child_end, ended}
use Rattle.fdt_nodes.specs.Scan.{started, judged, at_pair, has_pair}
use Rattle.fdt.specs.Passes.{folded, judged_block, pairs_met, pairs_from}
use Rattle.fdt_nodes.specs.declared.DevicetreeError.{DevicetreeError}
use Rattle.fdt_nodes.specs.declared.DevicetreeError.TheVariants.{Invalid, UnsupportedCellCounts}
use Rattle.std.specs.Prelude.{Result, Ok, Err}
use Rattle.fdt_nodes.specs.declared.Nodes.{Nodes}
use Rattle.fdt_tree.proofs.Steps.{Meets, Steps, to, begin_step, end_step, found, events_meet}
use Rattle.fdt_tree.proofs.Deep.{nodes}
use Rattle.fdt_tree.proofs.Firsts.{Cell, cell_of, cells_of}
use Rattle.fdt_tree.proofs.Children.{RootHas, root_props}
use Rattle.fdt_tree.proofs.Memory.{ragged_regs, bytes_are, Kids, pairs_by, kids}

-- what the first pass comes to
abbrev pub Verdict : Type 0
Verdict = Result (Unit {0}) DevicetreeError

-- a verdict, and the pairs where it is accepted, as an answer
abbrev pub answered : Verdict → List Pair → Said
answered (Ok u) ps = dt.pairs ps
answered (Err Invalid) ps = dt.invalid
answered (Err UnsupportedCellCounts) ps = dt.unsupported

-- a block has room for its nodes
tokens_short : {S l : List ℕ} {ts : List dt.Token} → Tokens S l ts → length ts ≤ length l
tokens_short (dt.last e) = omega arith
tokens_short (dt.nop e t) = let h = tokens_short t in omega arith
tokens_short (dt.begins name {l = l} e f t) = let h = tokens_short t in omega (arith, length-append (padded (name ++ (0 ∷ []))) l)
tokens_short (dt.ends e t) = let h = tokens_short t in omega arith
tokens_short (dt.has p {l = l} e e' nm t) = let h = tokens_short t in omega (arith, length-append (padded p.value) l)

nodes_short : (f : Forest) → nodes f ≤ length (tokens_of f)
unfolding tokens_of
nodes_short dt.none = omega arith
nodes_short (dt.node ps k r) =
    let h = nodes_short k in let g = nodes_short r in
    omega (arith, length-append (map dt.prop ps) (tokens_of k ++ (dt.end ∷ tokens_of r)), length-append (tokens_of k) (dt.end ∷ tokens_of r))

module _ (B S : List ℕ) (short : length B ≤ 65536) where
  -- the state after the whole block
  record After (n : Nodes) (es : List Placed) (va vz : List ℕ) (regs : List (List ℕ)) : Type 0 where
    nodes : Nodes
    folds : folded B S n es ≡ nodes
    address : Cell nodes.address va
    size : Cell nodes.size vz
    ok : nodes.ok ≡ cond (ragged_regs nodes.address.value nodes.size.value regs) false true
    finds : pairs_met B S n es ≡ pairs_by B S short nodes regs

  earlier : {n m : Nodes} {es : List Placed} {ts : List dt.Token} {va vz : List ℕ} {regs : List (List ℕ)}
      → Steps B S n es ts [] m → ((fs : List Placed) → Meets B S ts fs → After m fs va vz regs) → After n es va vz regs
  earlier s f =
      let r = f s.left s.meets in
      record { nodes = r.nodes; folds = s.folds ∙ r.folds; address = r.address; size = r.size; ok = r.ok; finds = s.finds ∙ r.finds }

  begin_root : begin_node started.nodes ≡ at_depth started.nodes 1 true true
  unfolding begin_node started
  begin_root = refl

  -- the root's end, and FDT_END
  end_root : (n : Nodes) → n.depth ≡ 1 → end_node n ≡ at_depth n 0 false n.rooted
  unfolding end_node child_end
  end_root n d = let e : n.depth - 1 ≡ 0 = omega arith in rw (ne_eqb n.depth 0 (λ h. omega arith), e)

  end-found : (n : Nodes) → n.depth ≡ 0 → found B S n ≡ []
  unfolding has_pair
  end-found n d = rw (ne_eqb n.depth 1 (λ h. omega arith))

  end_folds : (n : Nodes) (es : List Placed) → n.depth ≡ 0 → n.rooted ≡ true → Meets B S [] es → folded B S n es ≡ n
  unfolding folded advance ended
  end_folds n es d r a = ap (λ l. folded B S n l) a.met.1 ∙ rw (eq-eqb n.depth 0 d, r)

  end_finds : (n : Nodes) (es : List Placed) → Meets B S [] es → pairs_met B S n es ≡ []
  unfolding pairs_met at_pair
  end_finds n es a = ap (λ l. pairs_met B S n l) a.met.1

  -- from the root's first child on
  children_after : (f : Forest) (n m : Nodes) (es : List Placed) (va vz : List ℕ) → n.depth ≡ 1 → n.rooted ≡ true → n.ok ≡ true → 2 + nodes f < 2 ^ 64
      → RootHas B S n va vz m → Meets B S (tokens_of f ++ (dt.end ∷ [])) es → After m es va vz (regs_of f)
  children_after f n m es va vz d r o b g a =
      let q = kids B S short f m es (dt.end ∷ []) (g.depth ∙ d) b a in
      let k = q.nodes in let h = q.good in let u = q.steps in
      last k h u (to B S (end_step B S k u.left [] u.meets) (ap (λ y. found B S y) (end_root k h.depth) ∙ end-found (at_depth k 0 false k.rooted) refl) (end_root k h.depth)) where
        last : (k : Nodes) → Kids B S short m (regs_of f) k → (u : Steps B S m es (dt.end ∷ []) (pairs_by B S short m (regs_of f)) k)
            → Steps B S k u.left [] [] (at_depth k 0 false k.rooted) → After m es va vz (regs_of f)
        last k h u v =
            record {
              nodes = at_depth k 0 false k.rooted;
              folds = u.folds ∙ (v.folds ∙ end_folds (at_depth k 0 false k.rooted) v.left refl (h.rooted ∙ (g.rooted ∙ r)) v.meets);
              address = subst (λ y. Cell y va) (sym h.address) g.address;
              size = subst (λ y. Cell y vz) (sym h.size) g.size;
              ok = h.ok
                  ∙ (ap (λ y. cond (ragged_regs y.value m.size.value (regs_of f)) false m.ok) (sym h.address)
                  ∙ (ap (λ y. cond (ragged_regs k.address.value y.value (regs_of f)) false m.ok) (sym h.size)
                  ∙ ap (λ y. cond (ragged_regs k.address.value k.size.value (regs_of f)) false y) (g.ok ∙ o)));
              finds = u.finds
                  ∙ (ap (λ l. pairs_by B S short m (regs_of f) ++ l) (v.finds ∙ end_finds (at_depth k 0 false k.rooted) v.left v.meets)
                  ∙ (append-nil (pairs_by B S short m (regs_of f))
                  ∙ (ap (λ y. all_pairs (cells_of B y.value) (cells_of B m.size.value) (regs_of f)) (sym h.address)
                  ∙ ap (λ y. all_pairs (cells_of B k.address.value) (cells_of B y.value) (regs_of f)) (sym h.size))));
            }

  -- the whole tree
  tree-after : (t : Tree) (reads : Tokens S B (tokens_of (dt.node t.properties t.children dt.none)))
      → After started.nodes (events reads 0) (property_value dt.address_cells (0 ∷ 0 ∷ 0 ∷ 2 ∷ []) t.properties)
      (property_value dt.size_cells (0 ∷ 0 ∷ 0 ∷ 1 ∷ []) t.properties) (regs_of t.children)
  unfolding tokens_of started cell_of number_from
  tree-after t reads =
      let b : 2 + nodes t.children < 2 ^ 64
      = omega (arith, nodes_short t.children, tokens_short reads, length-append (map dt.prop t.properties) (tokens_of t.children ++ (dt.end ∷ [])), length-append (tokens_of t.children) (dt.end ∷ [])) in
      let n = at_depth started.nodes 1 true true in
      let va = property_value dt.address_cells (0 ∷ 0 ∷ 0 ∷ 2 ∷ []) t.properties in
      let vz = property_value dt.size_cells (0 ∷ 0 ∷ 0 ∷ 1 ∷ []) t.properties in
      earlier (to B S (begin_step B S started.nodes (events reads 0) (map dt.prop t.properties ++ (tokens_of t.children ++ (dt.end ∷ []))) (events_meet B S reads 0 refl)) refl begin_root) (λ fs a.
      let p = root_props B S t.properties (at_depth started.nodes 1 true true) fs (tokens_of t.children ++ (dt.end ∷ [])) va vz refl refl
      (record { value = 0 ∷ 0 ∷ 0 ∷ 2 ∷ []; holds = record { long = refl; is = refl }; final = refl })
      (record { value = 0 ∷ 0 ∷ 0 ∷ 1 ∷ []; holds = record { long = refl; is = refl }; final = refl }) a in
      earlier p.steps (λ gs c. children_after t.children (at_depth started.nodes 1 true true) p.nodes gs va vz refl refl refl b p.good c))

  -- cell counts that are 1 or 2
  cells_same : (n : ℕ) → one_or_two n ≡ true → cells_of B n ≡ n
  unfolding one_or_two
  cells_same n h = go (eqb n 1) refl h where
    go : (t : Bool) → eqb n 1 ≡ t → cond t true (eqb n 2) ≡ true → cond t 1 2 ≡ n
    go true e h = sym (eqb-true n 1 e)
    go false e h = sym (eqb-true n 2 h)

  ragged-same : (a z : ℕ) (regs : List (List ℕ)) → one_or_two a ≡ true → one_or_two z ≡ true → ragged_regs a z regs ≡ ragged a z regs
  unfolding ragged ragged_reg
  ragged-same a z [] h k = refl
  ragged-same a z (v ∷ vs) h k =
      let p : pair_bytes a z ≡ 4 * (a + z) = bytes_are B S short a z ∙ (ap (λ x. 4 * (x + cells_of B z)) (cells_same a h) ∙ ap (λ x. 4 * (a + x)) (cells_same z k)) in
      rw (h, k, p, ragged-same a z vs h k) (go (eqb (length v % (4 * (a + z))) 0) (ragged a z vs)) where
        go : (t u : Bool) → cond (not t) true u ≡ cond t u true
        go true u = refl
        go false u = refl

  -- other counts: no reg is judged
  ragged-first : (a z : ℕ) (regs : List (List ℕ)) → one_or_two a ≡ false → ragged_regs a z regs ≡ false
  unfolding ragged_reg
  ragged-first a z [] h = refl
  ragged-first a z (v ∷ vs) h = rw h (ragged-first a z vs h)

  ragged-second : (a z : ℕ) (regs : List (List ℕ)) → one_or_two a ≡ true → one_or_two z ≡ false → ragged_regs a z regs ≡ false
  unfolding ragged_reg
  ragged-second a z [] h k = refl
  ragged-second a z (v ∷ vs) h k = rw (h, k) (ragged-second a z vs h k)

  -- the reader's verdict
  abbrev verdict : Bool → Bool → Bool → ℕ → ℕ → Verdict
  verdict ok p q a z = cond ok (cond p (cond q (cond (one_or_two a) (cond (one_or_two z) (Ok tt) (Err UnsupportedCellCounts)) (Err UnsupportedCellCounts)) (Err Invalid)) (Err Invalid)) (Err Invalid)

  -- by the lengths of the values, and their numbers
  answer : (p q : Bool) (x y : ℕ) (regs : List (List ℕ))
      → answered (verdict (cond (ragged_regs (cond p x 0) (cond q y 0) regs) false true) p q (cond p x 0) (cond q y 0))
      (all_pairs (cells_of B (cond p x 0)) (cells_of B (cond q y 0)) regs)
      ≡ cond (p && q) (cond (one_or_two x && one_or_two y) (cond (ragged x y regs) dt.invalid (dt.pairs (all_pairs x y regs))) dt.unsupported) dt.invalid
  answer true true x y regs = counts (one_or_two x) (one_or_two y) refl refl where
    counts : (t u : Bool) → one_or_two x ≡ t → one_or_two y ≡ u
        → answered (cond (cond (ragged_regs x y regs) false true) (cond t (cond u (Ok tt) (Err UnsupportedCellCounts)) (Err UnsupportedCellCounts)) (Err Invalid)) (all_pairs (cells_of B x) (cells_of B y) regs)
        ≡ cond (t && u) (cond (ragged x y regs) dt.invalid (dt.pairs (all_pairs x y regs))) dt.unsupported
    counts true true e f = rw (ragged-same x y regs e f, cells_same x e, cells_same y f) (go (ragged x y regs)) where
      go : (r : Bool) → answered (cond (cond r false true) (Ok tt) (Err Invalid)) (all_pairs x y regs) ≡ cond r dt.invalid (dt.pairs (all_pairs x y regs))
      go true = refl
      go false = refl
    counts true false e f = rw (ragged-second x y regs e f)
    counts false u e f = rw (ragged-first x y regs e)
  answer true false x y regs = go (cond (ragged_regs x 0 regs) false true) (all_pairs (cells_of B x) (cells_of B 0) regs) where
    go : (t : Bool) (ps : List Pair) → answered (cond t (Err Invalid) (Err Invalid)) ps ≡ dt.invalid
    go true ps = refl
    go false ps = refl
  answer false q x y regs = go (cond (ragged_regs 0 (cond q y 0) regs) false true) (all_pairs (cells_of B 0) (cells_of B (cond q y 0)) regs) where
    go : (t : Bool) (ps : List Pair) → answered (cond t (Err Invalid) (Err Invalid)) ps ≡ dt.invalid
    go true ps = refl
    go false ps = refl

  judged-done : (m : Nodes) → judged Done m ≡ verdict m.ok (eqb m.address.length 4) (eqb m.size.length 4) m.address.value m.size.value
  unfolding judged is_done
  judged-done m = refl

  -- what the reader makes of the state after the whole block
  abbrev outcome : List (List ℕ) → ℕ → ℕ → ℕ → ℕ → Said
  outcome regs la lz a z =
      answered (verdict (cond (ragged_regs a z regs) false true) (eqb la 4) (eqb lz 4) a z) (all_pairs (cells_of B a) (cells_of B z) regs)

  outcome_is : (va vz : List ℕ) (regs : List (List ℕ)) → outcome regs (length va) (length vz) (cell_of va) (cell_of vz) ≡ answer_by va vz regs
  unfolding cell_of answer_by
  outcome_is va vz regs = answer (eqb (length va) 4) (eqb (length vz) 4) (number_from 0 va) (number_from 0 vz) regs

  after-outcome : (m : Nodes) (va vz : List ℕ) (regs : List (List ℕ)) → Cell m.address va → Cell m.size vz
      → m.ok ≡ cond (ragged_regs m.address.value m.size.value regs) false true
      → answered (judged Done m) (pairs_by B S short m regs) ≡ answer_by va vz regs
  after-outcome m va vz regs ca cz o =
      ap (λ x. answered x (pairs_by B S short m regs)) (judged-done m)
      ∙ (ap (λ x. answered (verdict x (eqb m.address.length 4) (eqb m.size.length 4) m.address.value m.size.value) (pairs_by B S short m regs)) o
      ∙ (ap (λ x. outcome regs x m.size.length m.address.value m.size.value) ca.long
      ∙ (ap (λ x. outcome regs (length va) x m.address.value m.size.value) cz.long
      ∙ (ap (λ x. outcome regs (length va) (length vz) x m.size.value) ca.is
      ∙ (ap (λ x. outcome regs (length va) (length vz) (cell_of va) x) cz.is ∙ outcome_is va vz regs)))))

  -- a structure block that is the tokens of a tree is answered with what the tree says
  pub block_answered : (t : Tree) → Tokens S B (tokens_of (dt.node t.properties t.children dt.none))
      → answered (judged_block B S) (pairs_from B S 0 Token started.nodes B) ≡ says t
  unfolding judged_block pairs_from started says
  block_answered t reads =
      let x = tree-after t reads in let e = read_whole reads 0 in
      ap (λ r. answered (judged r.lexer (folded B S started.nodes r.tokens)) (pairs_met B S started.nodes r.tokens)) e
      ∙ (ap (λ n. answered (judged Done n) (pairs_met B S started.nodes (events reads 0))) x.folds
      ∙ (ap (λ l. answered (judged Done x.nodes) l) x.finds
      ∙ after-outcome x.nodes _ _ _ x.address x.size x.ok))
