-- Laws of the loops, by places of a list. Assumes nothing.
use Rattle.std.proofs.Common.{◌≡◌, ℕ, zero, suc, ◌+◌, ◌-◌, ◌*◌, ◌/◌, ◌<◌, ◌≤◌, Bool, true, false, cond, List, [], ◌∷◌, ◌++◌, length, drop, sym, refl, ap, ◌∙◌, sub-one, arith, length-take-le, length-drop, get_or-take, get_or-drop}
use Rattle.fdt_tokens.specs.Devicetree.{Pair}
use Rattle.std.specs.Prelude.{Option, None, Some, is_some, Err}
use Rattle.fdt_tokens.specs.Bytes.{be32_at}
use Rattle.fdt_tokens.specs.Lex.{is_done, lex_word, Reading, put, read}
use Rattle.fdt_tokens.specs.declared.Lexer.{Lexer}
use Rattle.fdt_tokens.specs.declared.Lexed.{Lexed}
use Rattle.fdt_tokens.specs.declared.Lexer.TheVariants.{Broken}
use Rattle.fdt_tokens.specs.declared.Event.{Event}
use Rattle.fdt_tokens.proofs.Laws.{impossible, drop-end, drop_four}
use Rattle.fdt_tokens.proofs.Lexing.{put_lexer}
use Rattle.fdt_nodes.specs.Nodes.{advance, pair_bytes}
use Rattle.fdt_nodes.specs.Scan.{judged, at_pair}
use Rattle.fdt_nodes.specs.declared.DevicetreeError.TheVariants.{Invalid}
use Rattle.fdt_nodes.proofs.Laws.{whole}
use Rattle.fdt.specs.Passes.{lex_at, folded, pair_of, pairs_at, reg_pairs, pairs_met, pairs_from, left_in, handed}
use Rattle.fdt.specs.Blob.{zero_entry, list_ends, part, block_of, strings_of, inside_of, pairs_left}
use Rattle.fdt_nodes.specs.declared.Nodes.{Nodes}
use Rattle.fdt_nodes.specs.declared.Scan.{Scan}
use Rattle.fdt.specs.declared.Walk.{Walk}
use Rattle.fdt.specs.declared.Next.{Next}
use Rattle.fdt.specs.declared.Found.{Found}
use Rattle.fdt.specs.declared.Cursor.{Cursor}

module _ (B S : List ℕ) where
  -- one token, or none
  put-folded : (e : Option Event) (i : ℕ) (n : Nodes) (r : Reading) → folded B S n (put e i r).tokens ≡ folded B S (advance B S i n e) r.tokens
  unfolding put folded advance
  put-folded None i n r = refl
  put-folded (Some e) i n r = refl

  put_pairs : (e : Option Event) (i : ℕ) (n : Nodes) (r : Reading)
      → pairs_met B S n (put e i r).tokens
      ≡ cond (at_pair e (advance B S i n e)) (reg_pairs B (advance B S i n e) ++ pairs_met B S (advance B S i n e) r.tokens) (pairs_met B S (advance B S i n e) r.tokens)
  unfolding put pairs_met advance at_pair
  put_pairs None i n r = refl
  put_pairs (Some e) i n r = refl

-- four bytes are read; none; one to three are no token
read_four : (x : Lexer) (i a b c d : ℕ) (l : List ℕ)
    → read x i (a ∷ b ∷ c ∷ d ∷ l) ≡ put (lex_word x a b c d).event (i + 4) (read (lex_word x a b c d).lexer (i + 4) l)
unfolding read
read_four x i a b c d l = refl

read_none : (x : Lexer) (i : ℕ) → read x i [] ≡ record { tokens = []; lexer = x }
unfolding read
read_none x i = refl

read_cut : (x : Lexer) (i : ℕ) (l : List ℕ) → 0 < length l → length l < 4 → read x i l ≡ record { tokens = []; lexer = Broken }
unfolding read
read_cut x i [] h k = absurd (omega arith)
read_cut x i (a ∷ []) h k = refl
read_cut x i (a ∷ b ∷ []) h k = refl
read_cut x i (a ∷ b ∷ c ∷ []) h k = refl
read_cut x i (a ∷ b ∷ c ∷ d ∷ l) h k = absurd (omega arith)

-- a word that completes no token changes nothing, and ends no child
no_token : (B S : List ℕ) (i : ℕ) (n : Nodes) (e : Option Event) → is_some e ≡ false → advance B S i n e ≡ n
unfolding advance
no_token B S i n None h = refl
no_token B S i n (Some e) h = impossible (sym h)

no_hit : (e : Option Event) (n : Nodes) → is_some e ≡ false → at_pair e n ≡ false
unfolding at_pair
no_hit None n h = refl
no_hit (Some e) n h = impossible (sym h)

-- the bytes from a place on that has four
read_at : (B : List ℕ) (x : Lexer) (i : ℕ) → i + 4 ≤ length B
    → read x i (drop i B) ≡ put (lex_at x B i).event (i + 4) (read (lex_at x B i).lexer (i + 4) (drop (i + 4) B))
read_at B x i h = ap (λ l. read x i l) (drop_four B i h) ∙ read_four _ _ _ _ _ _ _

-- The first pass: at place `i` the bytes not yet passed make of `y` and `n` the state `x` and the nodes `m`
pub record ScanLeft (B S : List ℕ) (i : ℕ) (y : Lexer) (n : Nodes) (x : Lexer) (m : Nodes) : Type 0 where
  pub within : i ≤ length B
  pub lexer : (read y i (drop i B)).lexer ≡ x
  pub nodes : folded B S n (read y i (drop i B)).tokens ≡ m

module _ {B S : List ℕ} {i : ℕ} {y : Lexer} {n : Nodes} {x : Lexer} {m : Nodes} (inv : ScanLeft B S i y n x m) where
  -- four bytes
  pub scan_step : i + 4 ≤ length B → (j : ℕ) → j ≡ i + 4 → (l : Lexed) → l ≡ lex_at y B i → (k : Nodes) → k ≡ advance B S (i + 4) n l.event
      → ScanLeft B S j l.lexer k x m
  scan_step h j q l e k f = rw (q, f, e) (record {
    within = h;
    lexer = sym (put_lexer _ _ _) ∙ (ap (λ r. r.lexer) (sym (read_at B y i h)) ∙ inv.lexer);
    nodes = sym (put-folded B S _ _ _ _) ∙ (ap (λ r. folded B S n r.tokens) (sym (read_at B y i h)) ∙ inv.nodes);
  })

  -- four bytes that complete no token
  pub scan_skip : i + 4 ≤ length B → (j : ℕ) → j ≡ i + 4 → (l : Lexed) → l ≡ lex_at y B i → (k : Nodes) → k ≡ n → is_some l.event ≡ false → ScanLeft B S j l.lexer k x m
  scan_skip h j q l e k f t = scan_step h j q l e k (f ∙ sym (no_token B S (i + 4) n l.event t))

  scan_lexer : length B ≤ i → y ≡ x
  scan_lexer h = sym (ap (λ r. r.lexer) (ap (λ l. read y i l) (drop-end B i h) ∙ read_none _ _)) ∙ inv.lexer

  scan_nodes : length B ≤ i → n ≡ m
  unfolding folded
  scan_nodes h = sym (ap (λ r. folded B S n r.tokens) (ap (λ l. read y i l) (drop-end B i h) ∙ read_none _ _)) ∙ inv.nodes

  scan_cut : i < length B → length B < i + 4 → Broken ≡ x
  scan_cut h k = sym (ap (λ r. r.lexer) (read_cut y i (drop i B) (rw length-drop (omega arith)) (rw length-drop (omega arith)))) ∙ inv.lexer

  -- what the whole block comes to
  pub scan_refused : i < length B → length B < i + 4 → Err Invalid ≡ judged x m
  unfolding judged is_done
  scan_refused h k = ap (λ t. judged t m) (scan_cut h k)

  pub scan_judged : length B ≤ i → judged y n ≡ judged x m
  scan_judged h = ap (λ t. judged t n) (scan_lexer h) ∙ ap (λ t. judged x t) (scan_nodes h)

-- The second pass: at place `i` the pairs left are `v`
pub record PairsLeft (B S : List ℕ) (i : ℕ) (y : Lexer) (n : Nodes) (v : List Pair) : Type 0 where
  pub left : pairs_from B S i y n (drop i B) ≡ v

pub pairs_none : (B S : List ℕ) (i : ℕ) (y : Lexer) (n : Nodes) → length B < i + 4 → pairs_from B S i y n (drop i B) ≡ []
unfolding pairs_from pairs_met read
pairs_none B S i y n h = go (drop i B) (rw length-drop (omega arith)) where
  go : (l : List ℕ) → length l < 4 → pairs_met B S n (read y i l).tokens ≡ []
  go [] k = refl
  go (a ∷ []) k = refl
  go (a ∷ b ∷ []) k = refl
  go (a ∷ b ∷ c ∷ []) k = refl
  go (a ∷ b ∷ c ∷ d ∷ l) k = absurd (omega arith)

module _ {B S : List ℕ} {i : ℕ} {y : Lexer} {n : Nodes} {v : List Pair} (inv : PairsLeft B S i y n v) (h : i + 4 ≤ length B) where
  -- the pairs of the bytes after four more
  abbrev later : Lexed → Nodes → List Pair
  later l m = pairs_from B S (i + 4) l.lexer m (drop (i + 4) B)

  pairs_four : (l : Lexed) → l ≡ lex_at y B i → (m : Nodes) → m ≡ advance B S (i + 4) n l.event
      → cond (at_pair l.event m) (reg_pairs B m ++ later l m) (later l m) ≡ v
  unfolding pairs_from
  pairs_four l e m f = rw (f, e)
      (sym (put_pairs B S _ _ _ _) ∙ (ap (λ r. pairs_met B S n r.tokens) (sym (read_at B y i h)) ∙ inv.left))

  -- a memory child that has a pair is ended
  pub pairs_hit : (l : Lexed) → l ≡ lex_at y B i → (m : Nodes) → m ≡ advance B S (i + 4) n l.event → at_pair l.event m ≡ true
      → v ≡ reg_pairs B m ++ later l m
  pairs_hit l e m f k = sym (rw k at (pairs_four l e m f))

  pub pairs_miss : (j : ℕ) → j ≡ i + 4 → (l : Lexed) → l ≡ lex_at y B i → (m : Nodes) → m ≡ advance B S (i + 4) n l.event → at_pair l.event m ≡ false
      → PairsLeft B S j l.lexer m v
  pairs_miss j q l e m f k = rw q (record { left = rw k at (pairs_four l e m f) })

  -- four bytes that complete no token
  pub pairs_skip : (j : ℕ) → j ≡ i + 4 → (l : Lexed) → l ≡ lex_at y B i → (m : Nodes) → m ≡ n → is_some l.event ≡ false → PairsLeft B S j l.lexer m v
  pairs_skip j q l e m f k = rw f (pairs_miss j q l e n (sym (no_token B S (i + 4) n l.event k)) (no_hit l.event n k))

-- the bytes of a pair, and the pairs of the block's rest, by the state of a walk
abbrev bytes_in : Scan → ℕ
bytes_in s = pair_bytes s.nodes.address.value s.nodes.size.value

abbrev rest_of : List ℕ → List ℕ → Walk → List Pair
rest_of B S w = pairs_from B S w.at w.scan.lexer w.scan.nodes (drop w.at B)

abbrev pairs_in : List ℕ → Scan → ℕ → ℕ → List Pair
pairs_in B s n place = pairs_at B n place s.nodes.address.value s.nodes.size.value

-- a walk at the end of its reg
walk_none : (B S : List ℕ) (w : Walk) → w.left < bytes_in w.scan → left_in B S w ≡ rest_of B S w
unfolding left_in pairs_at
walk_none B S w h = rw ((whole w.scan.nodes.address.value w.scan.nodes.size.value w.left).none h)

-- what a step hands out of a walk: the next pair and the walk after it
abbrev HandsOut : List ℕ → List ℕ → Walk → Next Walk → Type 0
HandsOut B S w t = left_in B S w ≡ pair_of t.base t.size ∷ left_in B S t.after

-- what is handed out at a place
handed-here : (B S : List ℕ) (w : Walk) (place k : ℕ)
    → pairs_in B w.scan (suc (k / bytes_in w.scan)) place ++ rest_of B S w
    ≡ pair_of (handed B w place k).base (handed B w place k).size ∷ left_in B S (handed B w place k).after
unfolding pairs_at handed left_in
handed-here B S w place k = refl

handed_out : (B S : List ℕ) (w : Walk) (place k : ℕ) (t : Next Walk) → t ≡ handed B w place k
    → pairs_in B w.scan (suc (k / bytes_in w.scan)) place ++ rest_of B S w
    ≡ pair_of t.base t.size ∷ left_in B S t.after
handed_out B S w place k t e =
    handed-here B S w place k ∙ sym (ap (λ u. pair_of u.base u.size ∷ left_in B S u.after) e)

pub out_of_reg : (B S : List ℕ) (w : Walk) (t : Next Walk) (b : ℕ) → b ≡ bytes_in w.scan → b ≤ w.left
    → t ≡ handed B w w.place (w.left - b) → HandsOut B S w t
unfolding left_in
out_of_reg B S w t b eb h e =
    let k = (whole w.scan.nodes.address.value w.scan.nodes.size.value w.left).one_more (omega arith) in
    ap (λ n. pairs_in B w.scan n w.place ++ rest_of B S w) (sym k)
    ∙ handed_out B S w w.place (w.left - bytes_in w.scan) t (e ∙ ap (λ x. handed B w w.place (w.left - x)) eb)

-- what the second pass finds after a walk's reg
abbrev Finds : List ℕ → List ℕ → Walk → Found → Type 0
Finds B S w r =
    rest_of B S w
    ≡ reg_pairs B r.scan.nodes ++ pairs_from B S r.at r.scan.lexer r.scan.nodes (drop r.at B)

pub out_of_none : (B S : List ℕ) (w : Walk) → w.left < bytes_in w.scan → rest_of B S w ≡ [] → left_in B S w ≡ []
out_of_none B S w h f = walk_none B S w h ∙ f

pub out_of_next : (B S : List ℕ) (w : Walk) (r : Found) (t : Next Walk) (k b : ℕ) → w.left < bytes_in w.scan → Finds B S w r
    → b ≡ bytes_in r.scan → k ≡ r.scan.nodes.reg.length - b
    → t ≡ handed B (record { at = r.at; scan = r.scan; place = 0; left = 0 }) r.scan.nodes.reg.value k → HandsOut B S w t
unfolding reg_pairs
out_of_next B S w r t k b h f eb ek et =
    let v : Walk = record { at = r.at; scan = r.scan; place = 0; left = 0 } in
    let e' : k ≡ r.scan.nodes.reg.length - bytes_in r.scan = ek ∙ ap (λ x. r.scan.nodes.reg.length - x) eb in
    walk_none B S w h ∙ (f
    ∙ (ap (λ n. pairs_in B r.scan (suc (n / bytes_in r.scan)) r.scan.nodes.reg.value ++ rest_of B S v) (sym e')
    ∙ handed_out B S v r.scan.nodes.reg.value k t et))

-- what is left at a cursor
module _ (s : List ℕ) (c : Cursor) where
  abbrev InsideBlock : Bool → Type 0
  InsideBlock t = inside_of (length s) c.blocks.block.from c.blocks.block.to ≡ t

  abbrev InsideStrings : Bool → Type 0
  InsideStrings t = inside_of (length s) c.blocks.strings.from c.blocks.strings.to ≡ t

  pub left_outside : InsideBlock false → pairs_left s c ≡ []
  unfolding pairs_left
  left_outside h = rw h

  pub left_outside_strings : InsideBlock true → InsideStrings false → pairs_left s c ≡ []
  unfolding pairs_left
  left_outside_strings h k = rw (h, k)

  pub left_inside_none : InsideBlock true → InsideStrings true
      → left_in (block_of s c.blocks) (strings_of s c.blocks) c.walk ≡ [] → pairs_left s c ≡ []
  unfolding pairs_left
  left_inside_none h k e = rw (h, k) e

  pub left_inside : (t : Next Walk) → InsideBlock true → InsideStrings true
      → HandsOut (block_of s c.blocks) (strings_of s c.blocks) c.walk t
      → pairs_left s c ≡ pair_of t.base t.size ∷ pairs_left s (record { blocks = c.blocks; walk = t.after })
  unfolding pairs_left
  left_inside t h k e = rw (h, k) e

-- a word of the bytes from a place on
pub entry_word : (s : List ℕ) (at k : ℕ) → be32_at (part s at (length s)) k ≡ be32_at s (at + k)
unfolding be32_at
entry_word s at k = grind (arith, get_or-take, get_or-drop, length-take-le, length-drop)

-- A loop looks for the end of the reservation list: of `n` entries from `i` on the answer is `v`
pub record EntriesLeft (s : List ℕ) (i n : ℕ) (v : Bool) : Type 0 where
  pub within : 0 < n → i + 16 * n ≤ length s
  pub left : list_ends s i n ≡ v

entries_first : (s : List ℕ) (i n : ℕ) → 0 < n → list_ends s i n ≡ cond (zero_entry s i) true (list_ends s (i + 16) (n - 1))
unfolding list_ends
entries_first s i zero h = absurd (omega arith)
entries_first s i (suc n) h = rw sub-one

entries_none : (s : List ℕ) (i n : ℕ) → n ≤ 0 → list_ends s i n ≡ false
unfolding list_ends
entries_none s i zero h = refl
entries_none s i (suc n) h = absurd (omega arith)

module _ {s : List ℕ} {i n : ℕ} {v : Bool} (inv : EntriesLeft s i n v) where
  pub entry_here : 0 < n → zero_entry s i ≡ true → true ≡ v
  entry_here h e = rw (entries_first s i n h, e) at inv.left

  pub entry_later : 0 < n → zero_entry s i ≡ false → (j k : ℕ) → j ≡ i + 16 → k ≡ n - 1 → EntriesLeft s j k v
  entry_later h e j k p q = rw (p, q) (let w = inv.within h in record { within = λ _. omega arith; left = rw (entries_first s i n h, e) at inv.left })

  pub entry_done : n ≤ 0 → false ≡ v
  entry_done h = rw (entries_none s i n h) at inv.left

-- a pair handed out leaves fewer: the measure of a loop over `next_pair`
pub left_less : (s : List ℕ) (c d : Cursor) (p : Pair) → pairs_left s c ≡ p ∷ pairs_left s d → length (pairs_left s d) < length (pairs_left s c)
left_less s c d p e = let k : length (pairs_left s c) ≡ suc (length (pairs_left s d)) = ap length e in omega arith
