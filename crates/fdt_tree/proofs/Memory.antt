-- The children of the root: the pairs of those that are memory, and whether a reg is no whole number of pairs. Assumes nothing.
use Prim.Native.Nat.{ℕ, suc, ◌+◌, ◌-◌, ◌*◌, ◌/◌, ◌≤◌, ◌<◌, ◌^◌}
use mathlib.Core.Path.{◌≡◌, refl, sym, ◌∙◌, ap, subst}
use mathlib.Core.Bool.{Bool, true, false, cond}
use mathlib.Core.List.{List, [], ◌∷◌, ◌++◌, map}
use native.Mathlib.Omega.{arith}
use lib.Dec.{ltb}
use lib.ListN.{length, length-append, length-drop}
use borrow.Author.Tests.{eq-eqb, ne_eqb, ltb-true, ltb-false}
use Rattle.fdt_tokens.specs.Devicetree as dt
use Rattle.fdt_tokens.specs.Devicetree.{Property, Forest, Pair, tokens_of, same, property_value, memory_type, pairs_of, all_pairs, regs_of}
use Rattle.fdt_tokens.specs.Lex.{Placed}
use Rattle.fdt_nodes.specs.Nodes.{absent, at_depth, with_child, bad_nodes, is_memory, pair_bytes, ragged_reg, begin_node, end_node, child_end}
use Rattle.fdt_nodes.specs.Scan.{has_pair}
use Rattle.fdt_nodes.proofs.Laws.{whole}
use Rattle.fdt.specs.Passes.{reg_pairs, pairs_at}
use Rattle.fdt_nodes.specs.declared.First.{First}
use Rattle.fdt_nodes.specs.declared.Nodes.{Nodes}
use Rattle.fdt_tree.proofs.Steps.{Meets, Reaches, stay, to, and_then, begin_step, end_step, found}
use Rattle.fdt_tree.proofs.Deep.{nodes, node_tokens, deep_forest}
use Rattle.fdt_tree.proofs.Firsts.{Kind, Reg, cells_of, width_is, pair_bytes_lem, pairs_are}
use Rattle.fdt_tree.proofs.Children.{ChildHas, child_props}

-- some reg is no whole number of pairs, where both counts are 1 or 2
abbrev pub ragged_regs : ℕ → ℕ → List (List ℕ) → Bool
ragged_regs a z [] = false
ragged_regs a z (v ∷ vs) = cond (ragged_reg (length v) a z) true (ragged_regs a z vs)

module _ (B S : List ℕ) (short : length B ≤ 65536) where
  -- the pairs of a reg, by the reader's counts
  abbrev reg_of : ℕ → ℕ → List ℕ → List Pair
  reg_of a z v = pairs_of (length v / (4 * (cells_of B a + cells_of B z))) (cells_of B a) (cells_of B z) v

  pub bytes_are : (a z : ℕ) → pair_bytes a z ≡ 4 * (cells_of B a + cells_of B z)
  bytes_are a z = let p = pair_bytes_lem B a z in let x = width_is B a in let y = width_is B z in omega arith

  reg_pairs_lem : (x : Nodes) (v : List ℕ) → Reg B x.reg v → pair_bytes x.address.value x.size.value ≤ length v
      → reg_pairs B x ≡ reg_of x.address.value x.size.value v
  unfolding reg_pairs
  reg_pairs_lem x v r h =
      let a = x.address.value in let z = x.size.value in let n = length v / pair_bytes a z in
      let w = whole a z (length v) in let g = w.big in
      let k : suc ((x.reg.length - pair_bytes a z) / pair_bytes a z) ≡ n
      = ap (λ L. suc ((L - pair_bytes a z) / pair_bytes a z)) r.long ∙ w.one_more h in
      ap (λ m. pairs_at B m x.reg.value a z) k
      ∙ (pairs_are B n a z v r.rest x.reg.value r.stands w.inside
      (omega (arith, length-drop x.reg.value B, ap length r.stands, length-append v r.rest))
      ∙ ap (λ Q. pairs_of (length v / Q) (cells_of B a) (cells_of B z) v) (bytes_are a z))

  few_pairs : (a z : ℕ) (v : List ℕ) → length v < pair_bytes a z → [] ≡ reg_of a z v
  unfolding pairs_of
  few_pairs a z v h =
      ap (λ n. pairs_of n (cells_of B a) (cells_of B z) v) (sym ((whole a z (length v)).none h))
      ∙ ap (λ Q. pairs_of (length v / Q) (cells_of B a) (cells_of B z) v) (bytes_are a z)

  -- what is found at the end of a child
  child_found : (x : Nodes) (vk vr : List ℕ) → x.depth ≡ 1 → Kind x.kind vk → Reg B x.reg vr
      → found B S x ≡ cond (same vk memory_type) (reg_of x.address.value x.size.value vr) []
  unfolding has_pair
  child_found x vk vr d k r = rw (eq-eqb x.depth 1 d, k.is) (go (same vk memory_type) (ltb x.reg.length (pair_bytes x.address.value x.size.value)) refl) where
    go : (t u : Bool) → ltb x.reg.length (pair_bytes x.address.value x.size.value) ≡ u
        → cond (cond t (cond u false true) false) (reg_pairs B x) [] ≡ cond t (reg_of x.address.value x.size.value vr) []
    go false u e = refl
    go true false e =
        reg_pairs_lem x vr r (let h = ltb-false x.reg.length (pair_bytes x.address.value x.size.value) e in let l = r.long in omega arith)
    go true true e =
        few_pairs x.address.value x.size.value vr (let h = ltb-true x.reg.length (pair_bytes x.address.value x.size.value) e in let l = r.long in omega arith)

  -- the reg of a child is judged at its end, and nothing else is changed
  record Judged (x m : Nodes) : Type 0 where
    depth : m.depth ≡ x.depth
    rooted : m.rooted ≡ x.rooted
    address : m.address ≡ x.address
    size : m.size ≡ x.size
    ok : m.ok ≡ cond (is_memory x.kind) (cond (ragged_reg x.reg.length x.address.value x.size.value) false x.ok) x.ok
    finds : found B S m ≡ found B S x

  child_end_lem : (x : Nodes) → x.depth ≡ 1 → Judged x (child_end x)
  unfolding child_end bad_nodes has_pair reg_pairs
  child_end_lem x d = rw (eq-eqb x.depth 1 d) (go (is_memory x.kind) (ragged_reg x.reg.length x.address.value x.size.value) refl refl) where
    go : (t u : Bool) → is_memory x.kind ≡ t → ragged_reg x.reg.length x.address.value x.size.value ≡ u
        → Judged x (cond t (cond u (bad_nodes x) x) x)
    go true true e f = record { depth = refl; rooted = refl; address = refl; size = refl; ok = rw (e, f); finds = refl }
    go true false e f = record { depth = refl; rooted = refl; address = refl; size = refl; ok = rw (e, f); finds = refl }
    go false u e f = record { depth = refl; rooted = refl; address = refl; size = refl; ok = rw e; finds = refl }

  -- a child, by its tree
  abbrev is_kind : List Property → Bool
  is_kind ps = same (property_value dt.device_type [] ps) memory_type

  abbrev reg_in : List Property → List ℕ
  reg_in ps = property_value dt.reg_name [] ps

  record Done (n : Nodes) (ps : List Property) (m : Nodes) : Type 0 where
    depth : m.depth ≡ 1
    rooted : m.rooted ≡ n.rooted
    address : m.address ≡ n.address
    size : m.size ≡ n.size
    ok : m.ok ≡ cond (is_kind ps) (cond (ragged_reg (length (reg_in ps)) n.address.value n.size.value) false n.ok) n.ok

  begin_child : (n : Nodes) → n.depth ≡ 1 → begin_node n ≡ with_child (at_depth n 2 true n.rooted) absent absent
  unfolding begin_node
  begin_child n d = rw (ne_eqb n.depth 0 (λ h. omega arith), eq-eqb n.depth 1 d)

  end_child : (m : Nodes) (q : Bool) → m.depth ≡ 2 → end_node (at_depth m m.depth q m.rooted) ≡ child_end (at_depth m 1 false m.rooted)
  unfolding end_node
  end_child m q d = let e : m.depth - 1 ≡ 1 = omega arith in rw (ne_eqb m.depth 0 (λ h. omega arith), e)

  -- whether all is well after a child
  abbrev ok_after : Bool → ℕ → First → First → Bool → Bool
  ok_after t w a z o = cond t (cond (ragged_reg w a.value z.value) false o) o

  child_done : (n m : Nodes) (ps : List Property) (q : Bool) (es : List Placed) (us : List dt.Token)
      → ChildHas B S (with_child (at_depth n 2 true n.rooted) absent absent) (property_value dt.device_type [] ps) (reg_in ps) m
      → Meets B S (dt.end ∷ us) es
      → Reaches B S (at_depth m m.depth q m.rooted) es us (cond (is_kind ps) (reg_of n.address.value n.size.value (reg_in ps)) []) (λ m. Done n ps m)
  child_done n m ps q es us g a =
      let x = at_depth m 1 false m.rooted in
      let e = end_child m q g.depth in
      let j = child_end_lem x refl in
      record {
        nodes = child_end x;
        good = record {
          depth = j.depth;
          rooted = j.rooted ∙ g.rooted;
          address = j.address ∙ g.address;
          size = j.size ∙ g.size;
          ok = j.ok
              ∙ (ap (λ t. ok_after t m.reg.length m.address m.size m.ok) g.kind.is
              ∙ (ap (λ w. ok_after (is_kind ps) w m.address m.size m.ok) g.reg.long
              ∙ (ap (λ y. ok_after (is_kind ps) (length (reg_in ps)) y m.size m.ok) g.address
              ∙ (ap (λ y. ok_after (is_kind ps) (length (reg_in ps)) n.address y m.ok) g.size
              ∙ ap (λ o. ok_after (is_kind ps) (length (reg_in ps)) n.address n.size o) g.ok))));
        };
        steps = to B S (end_step B S (at_depth m m.depth q m.rooted) es us a)
            (ap (λ y. found B S y) e ∙ (j.finds ∙ (child_found x (property_value dt.device_type [] ps) (reg_in ps) refl g.kind g.reg
            ∙ (ap (λ y. cond (is_kind ps) (reg_of y.value m.size.value (reg_in ps)) []) g.address
            ∙ ap (λ y. cond (is_kind ps) (reg_of n.address.value y.value (reg_in ps)) []) g.size)))) e;
      }

  child : (ps : List Property) (k : Forest) (n : Nodes) (es : List Placed) (us : List dt.Token) → n.depth ≡ 1 → 2 + nodes k < 2 ^ 64
      → Meets B S (dt.begin ∷ (map dt.prop ps ++ (tokens_of k ++ (dt.end ∷ us)))) es
      → Reaches B S n es us (cond (is_kind ps) (reg_of n.address.value n.size.value (reg_in ps)) []) (λ m. Done n ps m)
  unfolding is_memory same
  child ps k n es us d b a =
      and_then B S (to B S (begin_step B S n es (map dt.prop ps ++ (tokens_of k ++ (dt.end ∷ us))) a) refl (begin_child n d)) (λ fs a₁.
      let p = child_props B S ps (with_child (at_depth n 2 true n.rooted) absent absent) fs (tokens_of k ++ (dt.end ∷ us)) (property_value dt.device_type [] ps) (reg_in ps) refl refl
      (record { value = []; holds = record { is = refl }; final = refl })
      (record { value = []; holds = record { long = refl; rest = B; stands = refl }; final = refl }) a₁ in
      and_then B S p.steps (λ gs a₂. below p.nodes gs p.good a₂)) where
        below : (m : Nodes) (gs : List Placed) → ChildHas B S (with_child (at_depth n 2 true n.rooted) absent absent) (property_value dt.device_type [] ps) (reg_in ps) m
            → Meets B S (tokens_of k ++ (dt.end ∷ us)) gs
            → Reaches B S m gs us (cond (is_kind ps) (reg_of n.address.value n.size.value (reg_in ps)) []) (λ m. Done n ps m)
        below m gs g a₂ =
            let q = deep_forest B S k m gs (dt.end ∷ us) (omega (arith, g.depth)) (omega (arith, g.depth)) a₂ in
            and_then B S (to B S q.steps refl q.good.1) (λ hs a₃. child_done n m ps q.good.0 hs us g a₃)

  -- the children of the root
  pub record Kids (n : Nodes) (regs : List (List ℕ)) (m : Nodes) : Type 0 where
    pub depth : m.depth ≡ 1
    pub rooted : m.rooted ≡ n.rooted
    pub address : m.address ≡ n.address
    pub size : m.size ≡ n.size
    pub ok : m.ok ≡ cond (ragged_regs n.address.value n.size.value regs) false n.ok

  abbrev pub pairs_by : Nodes → List (List ℕ) → List Pair
  pairs_by n regs = all_pairs (cells_of B n.address.value) (cells_of B n.size.value) regs

  first_ok : (a z : ℕ) (v : List ℕ) (regs : List (List ℕ)) (t o : Bool)
      → cond (ragged_regs a z regs) false (cond t (cond (ragged_reg (length v) a z) false o) o) ≡ cond (ragged_regs a z (cond t (v ∷ regs) regs)) false o
  first_ok a z v regs true o = go (ragged_reg (length v) a z) (ragged_regs a z regs) where
    go : (u w : Bool) → cond w false (cond u false o) ≡ cond (cond u true w) false o
    go true true = refl
    go true false = refl
    go false w = refl
  first_ok a z v regs false o = refl

  first_pairs : (a z : ℕ) (v : List ℕ) (regs : List (List ℕ)) (t : Bool)
      → cond t (reg_of a z v) [] ++ all_pairs (cells_of B a) (cells_of B z) regs ≡ all_pairs (cells_of B a) (cells_of B z) (cond t (v ∷ regs) regs)
  unfolding all_pairs
  first_pairs a z v regs true = refl
  first_pairs a z v regs false = refl

  -- a child and those after it
  join : (ps : List Property) (n m : Nodes) (es : List Placed) (ts : List dt.Token) (regs : List (List ℕ)) → Done n ps m
      → Reaches B S n es ts (cond (is_kind ps) (reg_of n.address.value n.size.value (reg_in ps)) [] ++ pairs_by m regs) (λ l. Kids m regs l)
      → Reaches B S n es ts (pairs_by n (cond (is_kind ps) (reg_in ps ∷ regs) regs)) (λ l. Kids n (cond (is_kind ps) (reg_in ps ∷ regs) regs) l)
  join ps n m es ts regs g r =
      record {
        nodes = r.nodes;
        good = record {
          depth = r.good.depth;
          rooted = r.good.rooted ∙ g.rooted;
          address = r.good.address ∙ g.address;
          size = r.good.size ∙ g.size;
          ok = r.good.ok
              ∙ (ap (λ y. cond (ragged_regs y.value m.size.value regs) false m.ok) g.address
              ∙ (ap (λ y. cond (ragged_regs n.address.value y.value regs) false m.ok) g.size
              ∙ (ap (λ o. cond (ragged_regs n.address.value n.size.value regs) false o) g.ok
              ∙ first_ok n.address.value n.size.value (reg_in ps) regs (is_kind ps) n.ok)));
        };
        steps = to B S r.steps
            (ap (λ y. cond (is_kind ps) (reg_of n.address.value n.size.value (reg_in ps)) [] ++ all_pairs (cells_of B y.value) (cells_of B m.size.value) regs) g.address
            ∙ (ap (λ y. cond (is_kind ps) (reg_of n.address.value n.size.value (reg_in ps)) [] ++ all_pairs (cells_of B n.address.value) (cells_of B y.value) regs) g.size
            ∙ first_pairs n.address.value n.size.value (reg_in ps) regs (is_kind ps))) refl;
      }

  pub kids : (f : Forest) (n : Nodes) (es : List Placed) (ts : List dt.Token) → n.depth ≡ 1 → 2 + nodes f < 2 ^ 64
      → Meets B S (tokens_of f ++ ts) es → Reaches B S n es ts (pairs_by n (regs_of f)) (λ m. Kids n (regs_of f) m)
  unfolding tokens_of regs_of all_pairs
  kids dt.none n es ts d b a =
      record { nodes = n; good = record { depth = d; rooted = refl; address = refl; size = refl; ok = refl }; steps = stay B S n es ts a }
  kids (dt.node ps k r) n es ts d b a =
      let c = child ps k n es (tokens_of r ++ ts) d (omega arith) (subst (λ l. Meets B S l es) (node_tokens ps k r ts) a) in
      join ps n c.nodes es ts (regs_of r) c.good (and_then B S c.steps (λ fs a₁. kids r c.nodes fs ts c.good.depth (omega arith) a₁))
