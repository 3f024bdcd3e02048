-- A flattened devicetree (Devicetree Specification, chapter 5, header version 17): when a slice of bytes is a blob of a tree, and what
-- document 02's Ask 1 takes from a tree. Nothing here speaks of the reader. Assumes nothing.
use Rattle.std.specs.Prelude.{ℕ, zero, suc, ◌+◌, ◌*◌, ◌/◌, ◌%◌, ◌≤◌, ◌≡◌, Bool, true, false, ◌&&◌, cond, List, [], ◌∷◌, ◌++◌, map, eqb, length, take, drop, replicate}

-- four bytes as a number, the highest first
abbrev pub joined : ℕ → ℕ → ℕ → ℕ → ℕ
joined a b c d = a * 16777216 + b * 65536 + c * 256 + d

-- bytes of any length as a number, the highest first, after those that came to `n`
unfoldable pub number_from : ℕ → List ℕ → ℕ
number_from n [] = n
number_from n (b ∷ bs) = number_from (n * 256 + b) bs

-- some byte is zero
unfoldable pub has_zero : List ℕ → Bool
has_zero [] = false
has_zero (x ∷ xs) = cond (eqb x 0) true (has_zero xs)

-- filled up with zero bytes to a whole number of four
unfoldable pub padded : List ℕ → List ℕ
padded [] = []
padded (a ∷ []) = a ∷ 0 ∷ 0 ∷ 0 ∷ []
padded (a ∷ b ∷ []) = a ∷ b ∷ 0 ∷ 0 ∷ []
padded (a ∷ b ∷ c ∷ []) = a ∷ b ∷ c ∷ 0 ∷ []
padded (a ∷ b ∷ c ∷ d ∷ l) = a ∷ b ∷ c ∷ d ∷ padded l

-- the name at an offset of the strings block ends with the first zero byte from there on, which lies inside the block
pub record NameAt (strings : List ℕ) (off : ℕ) (name : List ℕ) : Type 0 where
  pub rest : List ℕ
  pub stands : drop off strings ≡ name ++ (0 ∷ rest)
  pub free : has_zero name ≡ false

-- a property: its name and the bytes of its value
pub record Property : Type 0 where
  pub name : List ℕ
  pub value : List ℕ

-- the tokens, without FDT_NOP and FDT_END
pub data Token : Type 0 where
  begin : Token
  end : Token
  prop : Property → Token

-- The bytes of a structure block and the tokens that they are: FDT_END is 9, the last token, and ends the block; FDT_NOP is 4 and stands
-- wherever a token may; FDT_BEGIN_NODE is 1, then the node's name with its zero byte, filled up; FDT_END_NODE is 2; FDT_PROP is 3, then the value's
-- length, the offset of the name, and the value, filled up.
pub data Tokens (strings : List ℕ) : List ℕ → List Token → Type 0 where
  last : {a b c d : ℕ} → joined a b c d ≡ 9 → Tokens strings (a ∷ b ∷ c ∷ d ∷ []) []
  nop : {a b c d : ℕ} {l : List ℕ} {ts : List Token} → joined a b c d ≡ 4 → Tokens strings l ts → Tokens strings (a ∷ b ∷ c ∷ d ∷ l) ts
  begins : {a b c d : ℕ} (name : List ℕ) {l : List ℕ} {ts : List Token} → joined a b c d ≡ 1 → has_zero name ≡ false → Tokens strings l ts
      → Tokens strings (a ∷ b ∷ c ∷ d ∷ (padded (name ++ (0 ∷ [])) ++ l)) (begin ∷ ts)
  ends : {a b c d : ℕ} {l : List ℕ} {ts : List Token} → joined a b c d ≡ 2 → Tokens strings l ts → Tokens strings (a ∷ b ∷ c ∷ d ∷ l) (end ∷ ts)
  has : {a b c d e f g h i j k m : ℕ} (p : Property) {l : List ℕ} {ts : List Token} → joined a b c d ≡ 3
      → joined e f g h ≡ length p.value → NameAt strings (joined i j k m) p.name → Tokens strings l ts
      → Tokens strings (a ∷ b ∷ c ∷ d ∷ e ∷ f ∷ g ∷ h ∷ i ∷ j ∷ k ∷ m ∷ (padded p.value ++ l)) (prop p ∷ ts)

-- nodes side by side: the first one's properties, its children, and the nodes after it. Their names are not kept: nothing goes by them.
pub data Forest : Type 0 where
  none : Forest
  node : List Property → Forest → Forest → Forest

-- a node is FDT_BEGIN_NODE, its properties, its children, FDT_END_NODE: so properties stand before the first child
unfoldable pub tokens_of : Forest → List Token
tokens_of none = []
tokens_of (node ps children rest) = begin ∷ (map prop ps ++ (tokens_of children ++ (end ∷ tokens_of rest)))

-- a tree is its root
pub record Tree : Type 0 where
  pub properties : List Property
  pub children : Forest

-- the 32-bit field at a place of the header
unfoldable pub field : List ℕ → ℕ → ℕ
field b at = number_from 0 (take 4 (drop at b))

-- so many bytes from a place on
abbrev pub span : List ℕ → ℕ → ℕ → List ℕ
span b at n = take n (drop at b)

-- the list of reservations, entries of 16 bytes from a place on, has its end, an entry of zero bytes, inside
pub record ListEnds (b : List ℕ) (at : ℕ) : Type 0 where
  pub entries : ℕ
  pub within : at + 16 * entries + 16 ≤ length b
  pub zeros : span b (at + 16 * entries) 16 ≡ replicate 16 0

-- A slice is a blob of a tree: `blob` is its first totalsize bytes, and what follows is not read.
pub record BlobOf (s : List ℕ) (t : Tree) : Type 0 where
  pub blob : List ℕ
  pub rest : List ℕ
  pub front : s ≡ blob ++ rest
  -- totalsize holds the header, and is 64 KiB at most
  pub least : 40 ≤ length blob
  pub most : length blob ≤ 65536
  -- the header's fields, by their places: magic 0, totalsize 4, off_dt_struct 8, off_dt_strings 12, off_mem_rsvmap 16, version 20,
  -- last_comp_version 24, size_dt_strings 32, size_dt_struct 36
  pub magic : field blob 0 ≡ 0xD00DFEED
  pub totalsize : field blob 4 ≡ length blob
  pub version : 17 ≤ field blob 20
  pub compatible : field blob 24 ≤ 17
  -- the reservations stand at a multiple of 8, and their list ends inside
  pub aligned_list : field blob 16 % 8 ≡ 0
  pub list_ends : ListEnds blob (field blob 16)
  -- the structure block stands at a multiple of 4; both blocks lie inside
  pub aligned_struct : field blob 8 % 4 ≡ 0
  pub struct_inside : field blob 8 + field blob 36 ≤ length blob
  pub strings_inside : field blob 12 + field blob 32 ≤ length blob
  -- the structure block is the tokens of one root node
  pub struct : Tokens (span blob (field blob 12) (field blob 32)) (span blob (field blob 8) (field blob 36))
      (tokens_of (node t.properties t.children none))

-- two lists of bytes are equal
unfoldable pub same : List ℕ → List ℕ → Bool
same [] [] = true
same [] (y ∷ ys) = false
same (x ∷ xs) [] = false
same (x ∷ xs) (y ∷ ys) = eqb x y && same xs ys

-- "In a node the first property of a name counts"; `otherwise` where it has none
unfoldable pub property_value : List ℕ → List ℕ → List Property → List ℕ
property_value name otherwise [] = otherwise
property_value name otherwise (p ∷ ps) = cond (same p.name name) p.value (property_value name otherwise ps)

-- "#address-cells", "#size-cells", "device_type", "reg"; "memory" with its zero byte
abbrev pub address_cells : List ℕ
address_cells = 35 ∷ 97 ∷ 100 ∷ 100 ∷ 114 ∷ 101 ∷ 115 ∷ 115 ∷ 45 ∷ 99 ∷ 101 ∷ 108 ∷ 108 ∷ 115 ∷ []

abbrev pub size_cells : List ℕ
size_cells = 35 ∷ 115 ∷ 105 ∷ 122 ∷ 101 ∷ 45 ∷ 99 ∷ 101 ∷ 108 ∷ 108 ∷ 115 ∷ []

abbrev pub device_type : List ℕ
device_type = 100 ∷ 101 ∷ 118 ∷ 105 ∷ 99 ∷ 101 ∷ 95 ∷ 116 ∷ 121 ∷ 112 ∷ 101 ∷ []

abbrev pub reg_name : List ℕ
reg_name = 114 ∷ 101 ∷ 103 ∷ []

abbrev pub memory_type : List ℕ
memory_type = 109 ∷ 101 ∷ 109 ∷ 111 ∷ 114 ∷ 121 ∷ 0 ∷ []

-- a base and a size
pub record Pair : Type 0 where
  pub base : ℕ
  pub size : ℕ

-- the first `n` pairs of a reg with `a` address and `z` size cells
unfoldable pub pairs_of : ℕ → ℕ → ℕ → List ℕ → List Pair
pairs_of zero a z v = []
pairs_of (suc n) a z v =
    record { base = number_from 0 (take (4 * a) v); size = number_from 0 (take (4 * z) (drop (4 * a) v)) }
    ∷ pairs_of n a z (drop (4 * (a + z)) v)

-- "each child of the root whose device_type is "memory" and a zero byte": their regs, in blob order. "A memory child without reg adds
-- none": it has an empty one.
unfoldable pub regs_of : Forest → List (List ℕ)
regs_of none = []
regs_of (node ps children rest) =
    cond (same (property_value device_type [] ps) memory_type) (property_value reg_name [] ps ∷ regs_of rest) (regs_of rest)

-- the pairs of some regs
unfoldable pub all_pairs : ℕ → ℕ → List (List ℕ) → List Pair
all_pairs a z [] = []
all_pairs a z (v ∷ vs) = pairs_of (length v / (4 * (a + z))) a z v ++ all_pairs a z vs

-- some "memory child's reg .. is no whole number of pairs"
unfoldable pub ragged : ℕ → ℕ → List (List ℕ) → Bool
ragged a z [] = false
ragged a z (v ∷ vs) = cond (eqb (length v % (4 * (a + z))) 0) (ragged a z vs) true

-- cell counts "1 and 2 are accepted"
unfoldable pub one_or_two : ℕ → Bool
one_or_two n = cond (eqb n 1) true (eqb n 2)

-- what a tree says: it is invalid (21), its cell counts are unsupported (22), or its pairs
pub data Said : Type 0 where
  invalid : Said
  unsupported : Said
  pairs : List Pair → Said

-- by the values of the root's cell counts and the regs of its memory children: 21 for "a root cell count not 4 bytes long", or, "where both
-- counts are 1 or 2", a ragged reg; "then 22 for other cell counts"
unfoldable pub answer_by : List ℕ → List ℕ → List (List ℕ) → Said
answer_by va vz regs =
    cond (eqb (length va) 4 && eqb (length vz) 4)
    (cond (one_or_two (number_from 0 va) && one_or_two (number_from 0 vz))
    (cond (ragged (number_from 0 va) (number_from 0 vz) regs) invalid
    (pairs (all_pairs (number_from 0 va) (number_from 0 vz) regs)))
    unsupported)
    invalid

-- what a tree says of memory: "The root's cell counts default to 2 for addresses and 1 for sizes"
unfoldable pub says : Tree → Said
says t =
    answer_by (property_value address_cells (0 ∷ 0 ∷ 0 ∷ 2 ∷ []) t.properties) (property_value size_cells (0 ∷ 0 ∷ 0 ∷ 1 ∷ []) t.properties)
    (regs_of t.children)
