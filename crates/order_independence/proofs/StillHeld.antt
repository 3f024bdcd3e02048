-- From fresh, a policy holds what the calls still held make afresh, by induction over the calls: an accepted call that adds is made afresh too,
-- last; the call that a release takes away may be made last of all (`built_order`), and then it is its record that goes. Assumes nothing.
use Prim.Native.Nat.{ℕ}
use mathlib.Core.Path.{◌≡◌, refl, sym, ◌∙◌, ap, subst, subst₂}
use mathlib.Core.Bool.{Bool, true, false, ◌||◌, cond, or-true, true≢false}
use mathlib.Core.List.Memᴰ
use mathlib.Core.List.Permᴰ
use mathlib.Core.List.{List, [], ◌∷◌, ◌++◌, append-nil, append_assoc, Memᴰ, Permᴰ}
use mathlib.Core.Logic.{◌⊎◌, inl, inr}
use borrow.Author.Tests.{eqb-true, eqb-false}
use lib.Dec.{eqb, leb}
use Rattle.lists.specs.Lists.{held, any_of, without_first, insert_before}
use Rattle.lists.proofs.Laws.{FirstFit, first_or_none, both_true, insert_end, inserted_all, none_any, any_none, any_member}
use Rattle.lists.proofs.Sorting.{insertion_all}
use Rattle.lists.proofs.Removal.{any_first, without_parts, without_first_lem, without_inserted}
use Rattle.stage2_range.specs.declared.Stage2Range.{Stage2Range}
use Rattle.stage2_range.specs.declared.MemoryAccessRegion.{MemoryAccessRegion}
use Rattle.stage2_range.specs.Ranges.{ValidRange, page_range, range_of, range_bytes, is_range, result_number}
use Rattle.stage2_range.specs.Registry.{region_of, region_bytes, is_region}
use Rattle.stage2_range.proofs.Ranges.{zero_accepted}
use Rattle.stage2.specs.declared.Policy.{Policy}
use Rattle.stage2.specs.declared.Built.{Built}
use Rattle.stage2.specs.Policy.{fresh_policy, allowed_held, regions_held, range_held, region_held, without_allowed, without_region, release_range}
use Rattle.stage2.specs.Builds.{BuilderCall, allow, handle, build, build_all, Apart, CanRelease, WellFormed}
use Rattle.stage2.proofs.Laws.{allow_accepted, handle_accepted}
use Rattle.stage2.proofs.WellFormed.{fresh_well_formed, build_keeps, build_all_keeps}
use Rattle.stage2.proofs.Held.{allow_holds, handle_holds, same-held, build_answer_same, build-same-held}
use Rattle.stage2.proofs.Release.{release_accepted, can_release, by_list, allowed_without, regions-without, ranges-full, regions-full, release_keeps}
use Rattle.stage2.proofs.Freed.{apart_no_match}
use Rattle.memory_import.specs.Changes.{AllBuilt, PolicyChange, add, release, change_by, change_by_all, taken_apart}
use Rattle.memory_import.proofs.Changes.{build-append, all_parts, accepted_apart, change_by-refused, change_by_keeps, changed_by_well_formed}
use Rattle.order_independence.specs.Builds.{SamePolicy}
use Rattle.order_independence.specs.StillHeld.{accepts_change, asks_for, kept_by, held_from, still_held, BuiltAfresh, FromFresh}
use Rattle.order_independence.proofs.Builds.{built_order}
use Rattle.std.specs.Prelude.{Ok}

-- one accepted list of builder calls after another
all_append : (a b : List BuilderCall) (p : Policy) → AllBuilt p a → AllBuilt (build_all p a) b → AllBuilt p (a ++ b)
all_append [] b p h k = k
all_append (c ∷ cs) b p h k = (h.0, all_append cs b (build p c).policy h.1 k)

-- the ranges that allow calls ask for, in order
abbrev ranges_of : List BuilderCall → List Stage2Range
ranges_of [] = []
ranges_of (allow base size attributes ∷ cs) = range_of base size attributes ∷ ranges_of cs
ranges_of (handle base size read write ∷ cs) = ranges_of cs

ranges-append : (a b : List BuilderCall) → ranges_of (a ++ b) ≡ ranges_of a ++ ranges_of b
ranges-append [] b = refl
ranges-append (allow base size attributes ∷ cs) b = ap (◌∷◌ (range_of base size attributes)) (ranges-append cs b)
ranges-append (handle base size read write ∷ cs) b = ranges-append cs b

-- accepted calls leave the allowed ranges in order of arrival
ranges_held : (calls : List BuilderCall) (p : Policy) → WellFormed p → AllBuilt p calls
    → allowed_held (build_all p calls) ≡ allowed_held p ++ ranges_of calls
ranges_held [] p w h = sym (append-nil (allowed_held p))
ranges_held (allow base size attributes ∷ cs) p w h =
    let r = range_of base size attributes in
    ranges_held cs (build p (allow base size attributes)).policy (build_keeps p (allow base size attributes) w) h.1
    ∙ ap (λ l. l ++ ranges_of cs) ((allow_holds p w base size attributes h.0).0 ∙ insert_end r (allowed_held p))
    ∙ append_assoc (allowed_held p) (r ∷ []) (ranges_of cs)
ranges_held (handle base size read write ∷ cs) p w h =
    ranges_held cs (build p (handle base size read write)).policy (build_keeps p (handle base size read write) w) h.1
    ∙ ap (λ l. l ++ ranges_of cs) (handle_holds p w base size read write h.0).0

-- no record held has this base and size
abbrev NoMatch : Policy → ℕ → ℕ → Type 0
NoMatch p base size =
    ((r : Stage2Range) → Memᴰ r (allowed_held p) → is_range base size r ≡ false)
    × ((r : MemoryAccessRegion) → Memᴰ r (regions_held p) → is_region base size r ≡ false)

-- the fresh policy holds nothing
fresh_none : (base size : ℕ) → NoMatch fresh_policy base size
unfolding fresh_policy held
fresh_none base size = ((λ r m. absurd (Memᴰ.not-nil m)), λ r m. absurd (Memᴰ.not-nil m))

fresh_nothing : (l : List Stage2Range) → allowed_held fresh_policy ++ l ≡ l
unfolding fresh_policy held
fresh_nothing l = refl

fresh_ranges : (calls : List BuilderCall) → AllBuilt fresh_policy calls → allowed_held (build_all fresh_policy calls) ≡ ranges_of calls
fresh_ranges calls h = ranges_held calls fresh_policy fresh_well_formed h ∙ fresh_nothing (ranges_of calls)

-- calls that ask for other ranges make no record with this base and size
other_calls : (calls : List BuilderCall) (p : Policy) (base size : ℕ) → WellFormed p → AllBuilt p calls
    → ((c : BuilderCall) → Memᴰ c calls → asks_for base size c ≡ false) → NoMatch p base size → NoMatch (build_all p calls) base size
other_calls [] p base size w h others none = none
other_calls (c ∷ cs) p base size w h others none =
    other_calls cs (build p c).policy base size (build_keeps p c w) h.1 (λ d m. others d (Memᴰ.tail m))
    (go c h.0 (others c (Memᴰ.head refl)))
  where
    go : (d : BuilderCall) → (build p d).answer ≡ Ok tt → asks_for base size d ≡ false → NoMatch (build p d).policy base size
    go (allow b s a) k e =
        let g = allow_holds p w b s a k in
        rw (g.0, g.1) (inserted_all (λ r. is_range base size r ≡ false) (λ x. false) (range_of b s a) (allowed_held p) e none.0, none.1)
    go (handle b s rd wr) k e =
        let g = handle_holds p w b s rd wr k in
        rw (g.0, g.1) (none.0, inserted_all (λ r. is_region base size r ≡ false) _ (region_of b s rd wr) (regions_held p) e none.1)

-- a list with one of its elements last, and the others in their order
to_end : {A : Type 0} (before : List A) (x : A) (after : List A) → Permᴰ (before ++ (x ∷ after)) ((before ++ after) ++ (x ∷ []))
to_end before x after =
    let rest = before ++ after in
    Permᴰ.trans (Permᴰ.middle x before after)
    (Permᴰ.trans (Permᴰ.symm (Permᴰ.append-nil (x ∷ rest))) (Permᴰ.symm (Permᴰ.middle x rest [])))

-- a test of the last case is met
or-second : (a b : Bool) → a ≡ false → (a || b) ≡ true → b ≡ true
or-second true b e h = absurd (true≢false e)
or-second false b e h = h

-- A release, of a policy that holds what calls make afresh.
module _ (p : Policy) (calls : List BuilderCall) (base size : ℕ) (w : WellFormed p) (afresh : BuiltAfresh p calls) where
  -- where it is accepted, some call asks for the range
  asked : CanRelease p base size → ((c : BuilderCall) → Memᴰ c calls → asks_for base size c ≡ false) → ⊥
  asked can others =
      let none = other_calls calls fresh_policy base size fresh_well_formed afresh.all_accepted others (fresh_none base size) in
      let e : range_held p base size ≡ false = none_any (is_range base size) (allowed_held p) (rw afresh.same_held.allowed none.0) in
      let f : region_held p base size ≡ false = none_any (is_region base size) (regions_held p) (rw afresh.same_held.regions none.1) in
      true≢false (sym (or-second _ _ e can.is_held) ∙ f)

  -- the first that does may be made last of all
  module _ (c : BuilderCall) (f : FirstFit (asks_for base size) calls c) where
    abbrev rest : List BuilderCall
    rest = f.before ++ f.after

    -- the policy without it
    abbrev less : Policy
    less = build_all fresh_policy rest

    last_again : AllBuilt fresh_policy (rest ++ (c ∷ [])) × SamePolicy (build_all fresh_policy calls) (build_all fresh_policy (rest ++ (c ∷ [])))
    last_again =
        built_order fresh_policy calls (rest ++ (c ∷ [])) fresh_well_formed afresh.all_accepted
        (subst (λ l. Permᴰ l (rest ++ (c ∷ []))) (sym f.parts) (to_end f.before c f.after))

    rest-accepted : AllBuilt fresh_policy rest
    rest-accepted = (all_parts rest (c ∷ []) fresh_policy last_again.0).0

    last_accepted : (build less c).answer ≡ Ok tt
    last_accepted = (all_parts rest (c ∷ []) fresh_policy last_again.0).1.0

    less_well_formed : WellFormed less
    less_well_formed = build_all_keeps fresh_policy rest fresh_well_formed

    regions_now : regions_held p ≡ regions_held (build less c).policy
    regions_now = afresh.same_held.regions ∙ last_again.1.regions ∙ ap regions_held (build-append rest (c ∷ []) fresh_policy)

    ranges_now : allowed_held p ≡ ranges_of f.before ++ ranges_of (c ∷ f.after)
    ranges_now =
        afresh.same_held.allowed
        ∙ fresh_ranges calls afresh.all_accepted
        ∙ ap ranges_of f.parts
        ∙ ranges-append f.before (c ∷ f.after)

    ranges-less : allowed_held less ≡ ranges_of f.before ++ ranges_of f.after
    ranges-less = fresh_ranges rest rest-accepted ∙ ranges-append f.before f.after

    -- what is else held has no match: it shares no byte with the range, whose base it would have
    none_else : (b s : ℕ) → b ≡ base → ValidRange b s → Apart less (page_range b s) → NoMatch less base size
    none_else b s e = subst (λ n. ValidRange n s → Apart less (page_range n s) → NoMatch less base size) (sym e) here
      where
        here : ValidRange base s → Apart less (page_range base s) → NoMatch less base size
        here v apart = (
          (λ r m. apart_no_match _ range_bytes base size (allowed_held less) less_well_formed.allowed_disjoint s v r m (apart.from_allowed r m)),
          λ r m. apart_no_match _ region_bytes base size (regions_held less) less_well_formed.regions_disjoint s v r m (apart.from_regions r m),
        )

  -- what is held after the release is what the other calls make
  abbrev Left : List BuilderCall → Policy → Type 0
  Left others q = (allowed_held q ≡ allowed_held (build_all fresh_policy others)) × (regions_held q ≡ regions_held (build_all fresh_policy others))

  released_left : CanRelease p base size → (c : BuilderCall) (f : FirstFit (asks_for base size) calls c)
      → Left (rest c f) (release_range p base size).policy
  unfolding without_allowed without_region
  released_left can (allow b s a) f =
      let c = allow b s a in
      let fits = is_range base size in
      let before = ranges_of f.before in
      let after = ranges_of f.after in
      let r = range_of b s a in
      let k = allow_accepted (less c f) b s a (last_accepted c f) in
      let e : b ≡ base = eqb-true b base (both_true (eqb b base) (eqb s size) f.here).0 in
      let none = (none_else c f b s e k.fits k.apart).0 in
      let none_left : (y : Stage2Range) → Memᴰ y (before ++ after) → fits y ≡ false = rw (ranges-less c f) at none in
      let some : range_held p base size ≡ true =
      any_member fits (allowed_held p) r (rw (ranges_now c f) (Memᴰ.append_right before (Memᴰ.head refl))) f.here in
      let left = without_parts fits before r after (λ y m. none_left y (Memᴰ.append_left after m)) f.here in
      by_list p base size (Left (rest c f)) can
      (λ h. (
        allowed_without p base size (ranges-full p w) (regions-full p w) ∙ ap (without_first fits) (ranges_now c f) ∙ left ∙ sym (ranges-less c f),
        regions_now c f ∙ (allow_holds (less c f) (less_well_formed c f) b s a (last_accepted c f)).1,
      ))
      (λ n h. absurd (true≢false (sym some ∙ n)))
  released_left can (handle b s rd wr) f =
      let c = handle b s rd wr in
      let fits = is_region base size in
      let k = handle_accepted (less c f) b s rd wr (last_accepted c f) in
      let e : b ≡ base = eqb-true b base (both_true (eqb b base) (eqb s size) f.here).0 in
      let none = none_else c f b s e k.fits k.apart in
      let ranges : allowed_held p ≡ allowed_held (less c f) = ranges_now c f ∙ sym (ranges-less c f) in
      let no_range : range_held p base size ≡ false = none_any (is_range base size) (allowed_held p) (rw ranges none.0) in
      let regions = regions_now c f ∙ (handle_holds (less c f) (less_well_formed c f) b s rd wr (last_accepted c f)).1 in
      by_list p base size (Left (rest c f)) can
      (λ h. absurd (true≢false (sym h ∙ no_range)))
      (λ n h. (
        ranges,
        regions-without p base size (ranges-full p w) (regions-full p w)
            ∙ ap (without_first fits) regions
            ∙ without_inserted fits _ (region_of b s rd wr) (regions_held (less c f)) f.here none.1,
      ))

  released_afresh : CanRelease p base size → BuiltAfresh (release_range p base size).policy (without_first (asks_for base size) calls)
  released_afresh can = go (first_or_none (asks_for base size) calls)
    where
      go : ((c : BuilderCall) × FirstFit (asks_for base size) calls c) ⊎ ((c : BuilderCall) → Memᴰ c calls → asks_for base size c ≡ false)
          → BuiltAfresh (release_range p base size).policy (without_first (asks_for base size) calls)
      go (inr others) = absurd (asked can others)
      go (inl (c, f)) =
          let h = released_left can c f in
          rw (without_first_lem (asks_for base size) calls c f)
          (record {
            all_accepted = rest-accepted c f;
            same_held = same-held _ _ (release_keeps p base size w) (less_well_formed c f) h.0 h.1;
          })

  -- and where some call asks for the range, it is accepted
  asked_held : (c : BuilderCall) (f : FirstFit (asks_for base size) calls c) → CanRelease p base size
  asked_held (allow b s a) f =
      let c = allow b s a in
      let k = allow_accepted (less c f) b s a (last_accepted c f) in
      let t = both_true (eqb b base) (eqb s size) f.here in
      let some : range_held p base size ≡ true =
      any_member (is_range base size) (allowed_held p) (range_of b s a)
      (rw (ranges_now c f) (Memᴰ.append_right (ranges_of f.before) (Memᴰ.head refl))) f.here in
      record { fits = subst₂ ValidRange (eqb-true b base t.0) (eqb-true s size t.1) k.fits; is_held = rw some }
  asked_held (handle b s rd wr) f =
      let c = handle b s rd wr in
      let k = handle_accepted (less c f) b s rd wr (last_accepted c f) in
      let t = both_true (eqb b base) (eqb s size) f.here in
      let g = handle_holds (less c f) (less_well_formed c f) b s rd wr (last_accepted c f) in
      let above = λ (x : MemoryAccessRegion). leb b x.base_ipa in
      let inside =
      (insertion_all (λ x. Memᴰ x (insert_before above (region_of b s rd wr) (regions_held (less c f)))) above (region_of b s rd wr)
      (regions_held (less c f)) (λ x m. m)).0 in
      let some : region_held p base size ≡ true =
      any_member (is_region base size) (regions_held p) (region_of b s rd wr) (rw (regions_now c f ∙ g.1) inside) f.here in
      record {
        fits = subst₂ ValidRange (eqb-true b base t.0) (eqb-true s size t.1) k.fits;
        is_held = rw some (or-true (range_held p base size));
      }

  -- a release is accepted exactly where a call still held asks for its range: the calls tell 0 from 23
  by_calls : accepts_change p (release base size) ≡ any_of (asks_for base size) calls
  by_calls = go (accepts_change p (release base size)) (any_of (asks_for base size) calls) refl refl
    where
      go : (a b : Bool) → accepts_change p (release base size) ≡ a → any_of (asks_for base size) calls ≡ b → a ≡ b
      go true true e f = refl
      go false false e f = refl
      go true false e f =
          absurd (asked (release_accepted p base size (zero_accepted (release_range p base size).answer (eqb-true _ 0 e)))
          (any_none (asks_for base size) calls f))
      go false true e f =
          let (c, k) = any_first (asks_for base size) calls f in
          absurd (eqb-false _ 0 e (ap (λ (r : Built). result_number r.answer) (can_release p base size (asked_held c k))))

-- builder calls that are all accepted, made afresh too
added_afresh : (more : List BuilderCall) (p : Policy) (calls : List BuilderCall) → WellFormed p → BuiltAfresh p calls → AllBuilt p more
    → BuiltAfresh (build_all p more) (calls ++ more)
added_afresh [] p calls w afresh all = rw (append-nil calls) afresh
added_afresh (c ∷ cs) p calls w afresh all =
    rw (sym (append_assoc calls (c ∷ []) cs)) (added_afresh cs (build p c).policy (calls ++ (c ∷ [])) (build_keeps p c w) next all.1)
  where
    made : Policy
    made = build_all fresh_policy calls

    next : BuiltAfresh (build p c).policy (calls ++ (c ∷ []))
    next =
        let again = sym (build_answer_same p made afresh.same_held c) ∙ all.0 in
        let same = build-same-held p made afresh.same_held c w (build_all_keeps fresh_policy calls fresh_well_formed) in
        record {
          all_accepted = all_append calls (c ∷ []) fresh_policy afresh.all_accepted (again, tt);
          same_held = rw (build-append calls (c ∷ []) fresh_policy) same;
        }

-- one call more, accepted
kept_afresh : (p : Policy) (calls : List BuilderCall) (c : PolicyChange) → WellFormed p → BuiltAfresh p calls
    → (change_by p c).answer ≡ Ok tt → BuiltAfresh (change_by p c).policy (kept_by calls c)
kept_afresh p calls (add c) w afresh h =
    let a = accepted_apart p c h in
    rw a.1 (added_afresh (taken_apart c) p calls w afresh a.0)
kept_afresh p calls (release base size) w afresh h = released_afresh p calls base size w afresh (release_accepted p base size h)

-- a list of calls
all_afresh : (cs : List PolicyChange) (p : Policy) (calls : List BuilderCall) → WellFormed p → BuiltAfresh p calls
    → BuiltAfresh (change_by_all p cs) (held_from p calls cs)
all_afresh [] p calls w afresh = afresh
all_afresh (c ∷ cs) p calls w afresh =
    all_afresh cs (change_by p c).policy (cond (accepts_change p c) (kept_by calls c) calls) (change_by_keeps p c w) (go (accepts_change p c) refl)
  where
    go : (b : Bool) → accepts_change p c ≡ b → BuiltAfresh (change_by p c).policy (cond b (kept_by calls c) calls)
    go true e = kept_afresh p calls c w afresh (zero_accepted (change_by p c).answer (eqb-true _ 0 e))
    go false e = rw (change_by-refused p c (eqb-false _ 0 e)) afresh

-- "After any sequence from fresh the policy equals one built afresh from the ranges still held, in their order of arrival"
pub from_fresh : FromFresh
from_fresh cs =
    all_afresh cs fresh_policy [] fresh_well_formed
    (record { all_accepted = tt; same_held = record { allowed_counts = refl; region_counts = refl; allowed = refl; regions = refl } })

-- From fresh, a release is accepted exactly where a call still held asks for its range.
pub release_by_calls : (cs : List PolicyChange) (base size : ℕ)
    → accepts_change (change_by_all fresh_policy cs) (release base size) ≡ any_of (asks_for base size) (still_held cs)
release_by_calls cs base size =
    by_calls (change_by_all fresh_policy cs) (still_held cs) base size (changed_by_well_formed cs) (from_fresh cs)
