-- Worked values of release, by computation, on policies that no builder makes, where its rule shows. The program `worked_releases` prints such
-- values of the code. Assumes nothing.
use Prim.Native.Nat.{ℕ, ◌-◌, ◌^◌}
use mathlib.Core.Path.{◌≡◌, refl}
use mathlib.Core.List.{[], ◌∷◌}
use lib.ListN.{replicate, take}
use Rattle.stage2_range.specs.Ranges.{range_of, result_number}
use Rattle.stage2_range.specs.Registry.{region_of}
use Rattle.stage2.specs.declared.Policy.{Policy}
use Rattle.stage2.specs.Policy.{allowed_held, regions_held, release_range}
use Rattle.stage2.proofs.Opened.{opened}

-- one range twice, and a region with its base and size
abbrev twice : Policy
twice = record {
  allowed = range_of 4096 4096 1 ∷ range_of 4096 4096 2 ∷ replicate 30 (range_of 0 0 0);
  allowed_count = 2;
  regions = region_of 4096 4096 1 1 ∷ replicate 15 (region_of 0 0 0 0);
  region_count = 1;
}

-- the policy after a release of that range, and the number of a release
abbrev next : Policy → Policy
next p = (release_range p 4096 4096).policy

abbrev number : Policy → ℕ → ℕ → ℕ
number p base size = result_number (release_range p base size).answer

-- the first of two goes, then the other, then the region, and then nothing is held
pub one_by_one : (allowed_held (next twice) ≡ range_of 4096 4096 2 ∷ [])
    × (regions_held (next twice) ≡ region_of 4096 4096 1 1 ∷ [])
    × (allowed_held (next (next twice)) ≡ [])
    × (regions_held (next (next twice)) ≡ region_of 4096 4096 1 1 ∷ [])
    × (regions_held (next (next (next twice))) ≡ [])
    × (number (next (next (next twice))) 4096 4096 ≡ 23)
unfolding opened
one_by_one = (refl, refl, refl, refl, refl, refl)

-- each number: 1 to 4, whatever is held; then 23, also by base with another size
pub numbers : (number twice 1 0 ≡ 1)
    × (number twice 4096 0 ≡ 2)
    × (number twice 4096 5 ≡ 3)
    × (number twice (2 ^ 64 - 4096) 4096 ≡ 4)
    × (number twice 4096 8192 ≡ 23)
    × (number twice 8192 4096 ≡ 23)
    × (number twice 4096 4096 ≡ 0)
unfolding opened
numbers = (refl, refl, refl, refl, refl, refl, refl)

-- counts of 40 and 20 read as 32 and 16, so they become 31 and 15; the other list and its count stay
abbrev over : Policy
over = record {
  allowed = range_of 4096 4096 1 ∷ replicate 31 (range_of 8192 4096 2);
  allowed_count = 40;
  regions = region_of 12288 4096 0 0 ∷ replicate 15 (region_of 16384 4096 1 1);
  region_count = 20;
}

pub counts : ((release_range over 4096 4096).policy.allowed_count ≡ 31)
    × ((release_range over 4096 4096).policy.region_count ≡ 20)
    × ((release_range over 4096 4096).policy.regions ≡ over.regions)
    × (allowed_held (release_range over 4096 4096).policy ≡ replicate 31 (range_of 8192 4096 2))
    × ((release_range over 12288 4096).policy.region_count ≡ 15)
    × ((release_range over 12288 4096).policy.allowed_count ≡ 40)
    × ((release_range over 12288 4096).policy.allowed ≡ over.allowed)
    × (regions_held (release_range over 12288 4096).policy ≡ replicate 15 (region_of 16384 4096 1 1))
unfolding opened
counts = (refl, refl, refl, refl, refl, refl, refl, refl)

-- no hole is left, and the places past the count keep what they held: of three, the second goes
abbrev three : Policy
three = record {
  allowed = range_of 4096 4096 1 ∷ range_of 8192 4096 2 ∷ range_of 12288 4096 3 ∷ replicate 29 (range_of 0 0 0);
  allowed_count = 3;
  regions = replicate 16 (region_of 0 0 0 0);
  region_count = 0;
}

pub places : take 4 (release_range three 8192 4096).policy.allowed
    ≡ range_of 4096 4096 1 ∷ range_of 12288 4096 3 ∷ range_of 12288 4096 3 ∷ range_of 0 0 0 ∷ []
unfolding opened
places = refl
