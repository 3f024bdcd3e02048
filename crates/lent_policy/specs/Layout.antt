-- Where the words of a policy stand in the bytes that a host lends. Any bytes are a policy. Assumes nothing.
use Rattle.std.specs.Prelude.{ℕ, ◌+◌, ◌*◌, ◌&&◌, cond, List, [], ◌∷◌, ltb}
use Rattle.lent_words.specs.Words.{word_at, with_word, each, store_each, with_words}
use Rattle.stage2_range.specs.declared.PageRange.{PageRange}
use Rattle.stage2_range.specs.declared.Stage2Range.{Stage2Range}
use Rattle.stage2_range.specs.declared.MemoryAccessRegion.{MemoryAccessRegion}
use Rattle.stage2_range.specs.declared.MemoryHandler.{MemoryHandler}
use Rattle.stage2_range.specs.Ranges.{range_words}
use Rattle.stage2_range.specs.Handlers.{handler_of, handler_number, same_handler}
use Rattle.stage2.specs.declared.Policy.{Policy}

-- the words of a range and of a region, past the base: size and end, then a range's attributes, or the codes of a region's handlers
abbrev pub size_word : ℕ
size_word = 1

abbrev pub end_word : ℕ
end_word = 2

abbrev pub attributes_word : ℕ
attributes_word = 3

abbrev pub read_word : ℕ
read_word = 3

abbrev pub write_word : ℕ
write_word = 4

-- An allowed range is 4 words: base, size, end, attributes. The 32 stand from word 0 on, and their count after them.
abbrev pub range_start : ℕ → ℕ
range_start k = 4 * k

abbrev pub allowed_count_at : ℕ
allowed_count_at = range_start 32

-- A region is 5 words: base, size, end, and the codes of its read and its write handler, the numbers that name them. The 16 stand after
-- the count of the ranges, and their count after them.
abbrev pub region_start : ℕ → ℕ
region_start k = (allowed_count_at + 1) + 5 * k

abbrev pub region_count_at : ℕ
region_count_at = region_start 16

-- the length of the buffer, in bytes
abbrev pub policy_size : ℕ
policy_size = 8 * (region_count_at + 1)

-- the bytes of the range or the region whose words begin at a place
abbrev pub bytes_at : List ℕ → ℕ → PageRange
bytes_at policy at = record { base_ipa = word_at policy at; end_ipa = word_at policy (at + end_word) }

unfoldable pub range_at : List ℕ → ℕ → Stage2Range
range_at policy k =
    let at = range_start k in
    record {
      base_ipa = word_at policy at;
      size = word_at policy (at + size_word);
      end_ipa = word_at policy (at + end_word);
      attributes = word_at policy (at + attributes_word);
    }

unfoldable pub with_range : List ℕ → ℕ → Stage2Range → List ℕ
with_range policy k r = with_words policy (range_start k) (range_words r)

unfoldable pub region_at : List ℕ → ℕ → MemoryAccessRegion
region_at policy k =
    let at = region_start k in
    record {
      base_ipa = word_at policy at;
      size = word_at policy (at + size_word);
      handler = record { read = handler_of (word_at policy (at + read_word)); write = handler_of (word_at policy (at + write_word)) };
      end_ipa = word_at policy (at + end_word);
    }

-- the word to write for a handler: a word that means it stays
abbrev pub kept_handler : ℕ → MemoryHandler → ℕ
kept_handler word h = cond (same_handler (handler_of word) h) word (handler_number h)

-- the words that a region is stored as
abbrev pub region_stored : List ℕ → ℕ → MemoryAccessRegion → List ℕ
region_stored policy k r =
    let at = region_start k in
    r.base_ipa
    ∷ r.size
    ∷ r.end_ipa
    ∷ kept_handler (word_at policy (at + read_word)) r.handler.read
    ∷ kept_handler (word_at policy (at + write_word)) r.handler.write
    ∷ []

unfoldable pub with_region : List ℕ → ℕ → MemoryAccessRegion → List ℕ
with_region policy k r = with_words policy (region_start k) (region_stored policy k r)

-- the bytes with the region of one place at another too, if both are places of the 16
unfoldable pub with_copy : List ℕ → ℕ → ℕ → List ℕ
with_copy policy from to = cond (ltb from 16 && ltb to 16) (with_region policy to (region_at policy from)) policy

-- the policy that the words hold
unfoldable pub policy_at : List ℕ → Policy
policy_at policy = record {
  allowed = each (range_at policy) 0 32;
  allowed_count = word_at policy allowed_count_at;
  regions = each (region_at policy) 0 16;
  region_count = word_at policy region_count_at;
}

-- the bytes with these allowed ranges, the regions as they were
unfoldable pub with_allowed : List ℕ → List Stage2Range → ℕ → List ℕ
with_allowed policy allowed count = with_word (store_each with_range policy 0 allowed) allowed_count_at count

-- the bytes with these regions, the allowed ranges as they were
unfoldable pub with_regions : List ℕ → List MemoryAccessRegion → ℕ → List ℕ
with_regions policy regions count = with_word (store_each with_region policy 0 regions) region_count_at count

-- the bytes with another policy's allowed ranges, or with its regions
abbrev pub with_allowed_of : List ℕ → Policy → List ℕ
with_allowed_of bytes p = with_allowed bytes p.allowed p.allowed_count

abbrev pub with_regions_of : List ℕ → Policy → List ℕ
with_regions_of bytes p = with_regions bytes p.regions p.region_count
