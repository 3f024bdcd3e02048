-- The calls that a list accepts may be made in any order: a call is accepted exactly where it fits what is held, two calls that fit one after
-- the other fit the other way round, and so, by induction over the permutation, do all. Assumes nothing.
use Prim.Native.Nat.{ℕ, ◌<◌}
use mathlib.Core.Path.{◌≡◌, refl, sym, ◌∙◌, ap, subst, subst₂}
use mathlib.Core.Bool.{Bool, true, false, ◌&&◌, cond}
use mathlib.Core.List.Permᴰ
use mathlib.Core.List.{List, [], ◌∷◌, ◌++◌, Memᴰ, Permᴰ, append-nil}
use native.Mathlib.Omega.{arith}
use borrow.Author.Tests.{eqb-true, eqb-false}
use lib.Dec.{leb}
use lib.ListN.{length}
use Rattle.lists.specs.Sorting.{insert_by, sort_by}
use Rattle.lists.proofs.Laws.{length_insert, insert_end, inserted_all}
use Rattle.lists.proofs.Sorting.{perm_member, insertion_all, insert_comm, sort_append, sort_perm, sort_length}
use Rattle.stage2_range.specs.declared.PageRange.{PageRange}
use Rattle.stage2_range.specs.declared.Stage2Range.{Stage2Range}
use Rattle.stage2_range.specs.declared.MemoryAccessRegion.{MemoryAccessRegion}
use Rattle.stage2_range.specs.Ranges.{ValidRange, page_range, shares_byte, range_of, range_bytes}
use Rattle.stage2_range.specs.Handlers.{is_handler}
use Rattle.stage2_range.specs.Registry.{region_of, region_bytes}
use Rattle.stage2_range.proofs.Ranges.{shares_sym, apart_bases, base_byte, zero_accepted}
use Rattle.stage2.specs.declared.Policy.{Policy}
use Rattle.stage2.specs.declared.Built.{Built}
use Rattle.stage2.specs.Policy.{allowed_held, regions_held}
use Rattle.stage2.specs.Builds.{BuilderCall, allow, handle, build, build_all, Apart, CanAllow, CanHandle, WellFormed}
use Rattle.memory_import.specs.Changes.{AllBuilt, PolicyCall, change, change_all, taken_apart, all_apart}
use Rattle.memory_import.proofs.Changes.{change-refused, change_keeps, all_parts, accepted_apart, apart_accepted, build-append}
use Rattle.order_independence.specs.Builds.{accepts, accepted, AllAccepted, SamePolicy}
use Rattle.stage2.proofs.Laws.{allow_accepted, can_allow, handle_accepted, can_handle}
use Rattle.stage2.proofs.WellFormed.{build_keeps}
use Rattle.stage2.proofs.Held.{allowed_length, regions-length, allow_holds, handle_holds}
use Rattle.std.specs.Prelude.{Ok}

-- what equal policies have in common: the allowed ranges sorted by base, and the regions
pub record View : Type 0 where
  pub allowed : List Stage2Range
  pub regions : List MemoryAccessRegion

-- the keys by which these are sorted
abbrev pub range_base : Stage2Range → ℕ
range_base r = r.base_ipa

abbrev pub region_base : MemoryAccessRegion → ℕ
region_base r = r.base_ipa

-- what a policy holds
abbrev pub view : Policy → View
view p = record { allowed = sort_by range_base (allowed_held p); regions = regions_held p }

-- an accepted call puts its record at its place by base
abbrev pub put : View → BuilderCall → View
put v (allow base size attributes) =
    record { allowed = insert_by range_base (range_of base size attributes) v.allowed; regions = v.regions }
put v (handle base size read write) =
    record { allowed = v.allowed; regions = insert_by region_base (region_of base size read write) v.regions }

-- the range that a call asks for, and its bytes
abbrev pub base_of : BuilderCall → ℕ
base_of (allow base size attributes) = base
base_of (handle base size read write) = base

abbrev pub size_of : BuilderCall → ℕ
size_of (allow base size attributes) = size
size_of (handle base size read write) = size

abbrev pub bytes_of : BuilderCall → PageRange
bytes_of c = page_range (base_of c) (size_of c)

-- the handlers that a call names are known
abbrev pub Known : BuilderCall → Type 0
Known (allow base size attributes) = Unit {0}
Known (handle base size read write) = (is_handler read && is_handler write) ≡ true

-- there is room for its record
abbrev pub Room : View → BuilderCall → Type 0
Room v (allow base size attributes) = length v.allowed < 32
Room v (handle base size read write) = length v.regions < 16

-- no record held shares one of these bytes
abbrev pub Clear : View → PageRange → Type 0
Clear v bytes =
    ((r : Stage2Range) → Memᴰ r v.allowed → shares_byte (range_bytes r) bytes ≡ false)
    × ((r : MemoryAccessRegion) → Memᴰ r v.regions → shares_byte (region_bytes r) bytes ≡ false)

-- a call can be accepted: its arguments fit, there is room, no byte is shared
pub record Fits (v : View) (c : BuilderCall) : Type 0 where
  pub known : Known c
  pub valid : ValidRange (base_of c) (size_of c)
  pub room : Room v c
  pub clear : Clear v (bytes_of c)

-- bytes share none with what a policy holds exactly where they are clear of it
apart_clear : (p : Policy) (bytes : PageRange) → Apart p bytes → Clear (view p) bytes
apart_clear p bytes a = (perm_member (sort_perm range_base (allowed_held p)) _ a.from_allowed, a.from_regions)

clear_apart : (p : Policy) (bytes : PageRange) → Clear (view p) bytes → Apart p bytes
clear_apart p bytes k =
    record { from_allowed = perm_member (Permᴰ.symm (sort_perm range_base (allowed_held p))) _ k.0; from_regions = k.1 }

-- A well-formed policy accepts exactly the calls that fit what it holds, and then holds one record more.
module _ (p : Policy) (w : WellFormed p) where
  -- as many allowed ranges are seen as their count says
  ranges-length : length (sort_by range_base (allowed_held p)) ≡ p.allowed_count
  ranges-length = sort_length range_base (allowed_held p) ∙ allowed_length p w

  -- a call that is accepted fits
  pub accepted-fits : (c : BuilderCall) → (build p c).answer ≡ Ok tt → Fits (view p) c
  accepted-fits (allow base size attributes) h =
      let k = allow_accepted p base size attributes h in
      let clear = apart_clear p (page_range base size) k.apart in
      record { known = tt; valid = k.fits; room = omega (arith, k.room, ranges-length); clear = clear }
  accepted-fits (handle base size read write) h =
      let k = handle_accepted p base size read write h in
      let clear = apart_clear p (page_range base size) k.apart in
      record { known = k.handlers; valid = k.fits; room = omega (arith, k.room, regions-length p w); clear = clear }

  -- a call that fits is accepted, and its record is held
  pub fits-accepted : (c : BuilderCall) → Fits (view p) c → ((build p c).answer ≡ Ok tt) × (view (build p c).policy ≡ put (view p) c)
  fits-accepted (allow base size attributes) f =
      let r : Stage2Range = range_of base size attributes in
      let room : p.allowed_count < 32 = omega (arith, f.room, ranges-length) in
      let k : CanAllow p base size = record { fits = f.valid; room = room; apart = clear_apart p (page_range base size) f.clear } in
      let taken = ap (λ (b : Built). b.answer) (can_allow p base size attributes k) in
      let h = allow_holds p w base size attributes taken in
      let e = ap (sort_by range_base) (h.0 ∙ insert_end r (allowed_held p)) ∙ sort_append range_base r (allowed_held p) in
      (taken, λ i. record { allowed = e i; regions = h.1 i })
  fits-accepted (handle base size read write) f =
      let room : p.region_count < 16 = omega (arith, f.room, regions-length p w) in
      let apart = clear_apart p (page_range base size) f.clear in
      let k : CanHandle p base size read write = record { handlers = f.known; fits = f.valid; room = room; apart = apart } in
      let taken = ap (λ (b : Built). b.answer) (can_handle p base size read write k) in
      let h = handle_holds p w base size read write taken in
      (taken, λ i. record { allowed = sort_by range_base (h.0 i); regions = h.1 i })

-- Bytes are clear of what is held after a call exactly where they are clear of what was held and of the call's range.
module _ (v : View) (bytes : PageRange) where
  put_clear : (c : BuilderCall) → Clear (put v c) bytes → (shares_byte (bytes_of c) bytes ≡ false) × Clear v bytes
  put_clear (allow b s a) k =
      let h = insertion_all _ _ (range_of b s a) v.allowed k.0 in
      (h.0, (h.1, k.1))
  put_clear (handle b s r w) k =
      let h = insertion_all _ _ (region_of b s r w) v.regions k.1 in
      (h.0, (k.0, h.1))

  clear_put : (c : BuilderCall) → shares_byte (bytes_of c) bytes ≡ false → Clear v bytes → Clear (put v c) bytes
  clear_put (allow b s a) h k = (inserted_all _ _ (range_of b s a) v.allowed h k.0, k.1)
  clear_put (handle b s r w) h k = (k.0, inserted_all _ _ (region_of b s r w) v.regions h k.1)

-- of two records of one kind either may come first, where the bases differ: there is room for it, and the list is the same
both_ways : {A : Type 0} (key : A → ℕ) (limit : ℕ) (x y : A) (l : List A) → (key y ≡ key x → ⊥) → length (insert_by key x l) < limit
    → (length l < limit) × (length (insert_by key y l) < limit)
    × (insert_by key y (insert_by key x l) ≡ insert_by key x (insert_by key y l))
both_ways key limit x y l differ h =
    let e = length_insert (λ z. leb (key x) (key z)) x l in
    let f = length_insert (λ z. leb (key y) (key z)) y l in
    (omega (arith, h, e), omega (arith, h, e, f), insert_comm key y x l differ)

-- the same of any two calls
room_both : (v : View) (a b : BuilderCall) → (base_of b ≡ base_of a → ⊥) → Room v a → Room (put v a) b
    → Room v b × Room (put v b) a × (put (put v a) b ≡ put (put v b) a)
room_both v (allow b s a) (allow b' s' a') differ h k =
    let t = both_ways range_base 32 (range_of b s a) (range_of b' s' a') v.allowed differ k in
    (t.0, t.1, λ i. record { allowed = t.2 i; regions = v.regions })
room_both v (allow b s a) (handle b' s' r' w') differ h k = (k, h, refl)
room_both v (handle b s r w) (allow b' s' a') differ h k = (k, h, refl)
room_both v (handle b s r w) (handle b' s' r' w') differ h k =
    let t = both_ways region_base 16 (region_of b s r w) (region_of b' s' r' w') v.regions differ k in
    (t.0, t.1, λ i. record { allowed = v.allowed; regions = t.2 i })

-- two calls that fit one after the other fit the other way round, and the same is held
fits_both : (v : View) (a b : BuilderCall) → Fits v a → Fits (put v a) b
    → Fits v b × Fits (put v b) a × (put (put v a) b ≡ put (put v b) a)
fits_both v a b f g =
    let k = put_clear v (bytes_of b) a g.clear in
    let apart = shares_sym (bytes_of b) (bytes_of a) ∙ k.0 in
    let differ = apart_bases (bytes_of b) (bytes_of a) (base_byte _ _ g.valid) (base_byte _ _ f.valid) apart in
    let r = room_both v a b differ f.room g.room in (
      record { known = g.known; valid = g.valid; room = r.0; clear = k.1 },
      record { known = f.known; valid = f.valid; room = r.1; clear = clear_put v (bytes_of a) b apart f.clear },
      r.2,
    )

-- calls that fit one after the other, from what is held before the first to what is held after the last
abbrev Leads : View → List BuilderCall → View → Type 0
Leads v [] u = v ≡ u
Leads v (c ∷ cs) u = Fits v c × Leads (put v c) cs u

-- in another order they lead to the same
perm_leads : {calls order : List BuilderCall} → Permᴰ calls order → (v u : View) → Leads v calls u → Leads v order u
perm_leads Permᴰ.nil v u h = h
perm_leads (Permᴰ.cons {a = a} {l₂ = l} e d) v u h =
    subst (λ x. Leads v (x ∷ l) u) e (h.0, perm_leads d (put v a) u h.1)
perm_leads (Permᴰ.swap {a = a} {b = b} {l = l} e₁ e₂) v u h =
    let t = fits_both v a b h.0 h.1.0 in
    subst₂ (λ x y. Leads v (x ∷ y ∷ l) u) e₂ e₁ (t.0, (t.1, subst (λ x. Leads x l u) t.2 h.1.1))
perm_leads (Permᴰ.trans d₁ d₂) v u h = perm_leads d₂ v u (perm_leads d₁ v u h)

-- calls that are all accepted lead to what is held after them
built_leads : (calls : List BuilderCall) (p : Policy) (rest : List BuilderCall) (u : View) → WellFormed p → AllBuilt p calls
    → Leads (view (build_all p calls)) rest u → Leads (view p) (calls ++ rest) u
built_leads [] p rest u w a h = h
built_leads (c ∷ cs) p rest u w a h =
    let f = accepted-fits p w c a.0 in
    (f, subst (λ v. Leads v (cs ++ rest) u) (fits-accepted p w c f).1 (built_leads cs (build p c).policy rest u (build_keeps p c w) a.1 h))

-- the calls of a list that are accepted, taken apart, lead to what is held after all of them
accepted_leads : (p : Policy) (calls : List PolicyCall) → WellFormed p → Leads (view p) (accepted p calls) (view (change_all p calls))
accepted_leads p [] w = refl
accepted_leads p (c ∷ cs) w = go (accepts p c) refl (accepted_leads (change p c).policy cs (change_keeps p c w))
  where
    rest : List BuilderCall
    rest = accepted (change p c).policy cs

    end : View
    end = view (change_all p (c ∷ cs))

    go : (b : Bool) → accepts p c ≡ b → Leads (view (change p c).policy) rest end → Leads (view p) (cond b (taken_apart c ++ rest) rest) end
    go true e h =
        let a = accepted_apart p c (zero_accepted (change p c).answer (eqb-true _ 0 e)) in
        built_leads (taken_apart c) p rest end w a.0 (subst (λ q. Leads (view q) rest end) a.1 h)
    go false e h = subst (λ q. Leads (view q) rest end) (change-refused p c (eqb-false _ 0 e)) h

-- calls that fit one after the other are all accepted
leads_accepted : (p : Policy) (calls : List BuilderCall) (u : View) → WellFormed p → Leads (view p) calls u
    → AllBuilt p calls × (view (build_all p calls) ≡ u)
leads_accepted p [] u w h = (tt, h)
leads_accepted p (c ∷ cs) u w h =
    let f = fits-accepted p w c h.0 in
    let r = leads_accepted (build p c).policy cs u (build_keeps p c w) (subst (λ v. Leads v cs u) (sym f.1) h.1) in
    ((f.0, r.0), r.1)

-- where the builder calls of a list are all accepted, so are its calls, and the policy is the same
pub apart_all : (calls : List PolicyCall) (p : Policy) → AllBuilt p (all_apart calls)
    → AllAccepted p calls × (change_all p calls ≡ build_all p (all_apart calls))
apart_all [] p h = (tt, refl)
apart_all (c ∷ cs) p h =
    let parts = all_parts (taken_apart c) (all_apart cs) p h in
    let one = apart_accepted p c parts.0 in
    let r = apart_all cs (change p c).policy (subst (λ q. AllBuilt q (all_apart cs)) (sym one.1) parts.1) in
    ((one.0, r.0), r.1 ∙ (ap (λ q. build_all q (all_apart cs)) one.1 ∙ sym (build-append (taken_apart c) (all_apart cs) p)))

-- The calls of a list that are accepted, in any order: each is accepted again, and the policies are the same.
pub any_order : (p q : Policy) (calls order : List PolicyCall) → WellFormed p → WellFormed q → SamePolicy p q
    → Permᴰ (accepted p calls) (all_apart order) → AllAccepted q order × SamePolicy (change_all p calls) (change_all q order)
any_order p q calls order w w' same d =
    let end : View = view (change_all p calls) in
    let e : view p ≡ view q = λ i. record { allowed = same.allowed i; regions = same.regions i } in
    let h = subst (λ v. Leads v (accepted p calls) end) e (accepted_leads p calls w) in
    let r = leads_accepted q (all_apart order) end w' (perm_leads d (view q) end h) in
    let a = apart_all order q r.0 in
    let f : end ≡ view (change_all q order) = sym (ap view a.1 ∙ r.1) in
    (a.0, record { regions = λ i. (f i).regions; allowed = λ i. (f i).allowed })

-- The same of builder calls that are all accepted.
pub built_order : (p : Policy) (calls order : List BuilderCall) → WellFormed p → AllBuilt p calls → Permᴰ calls order
    → AllBuilt p order × SamePolicy (build_all p calls) (build_all p order)
built_order p calls order w a d =
    let end : View = view (build_all p calls) in
    let h : Leads (view p) calls end = subst (λ l. Leads (view p) l end) (append-nil calls) (built_leads calls p [] end w a refl) in
    let r = leads_accepted p order end w (perm_leads d (view p) end h) in
    (r.0, record { regions = λ i. (sym r.1 i).regions; allowed = λ i. (sym r.1 i).allowed })
