-- Laws on the builder's calls. Assumes nothing.
use Prim.Native.Nat.{ℕ}
use mathlib.Core.Path.{◌≡◌, refl, sym, ◌∙◌, ap}
use mathlib.Core.Bool.{true, false, ◌&&◌}
use mathlib.Core.List.{◌++◌}
use borrow.Author.Tests.{lt-leb, leb-false, not-false}
use Rattle.lists.specs.Refusals.{first_met}
use Rattle.stage2_range.specs.Ranges.{after, answer_of, range_cases, validate_range, page_range, range_of, range_bytes, error_number, result_number}
use Rattle.stage2_range.specs.Handlers.{is_handler}
use Rattle.stage2_range.specs.Registry.{region_of, region_bytes}
use Rattle.stage2_range.proofs.Ranges.{not_after, answer_number_lem, answer_after_lem, accepted_unmet, accepted_valid, valid_accepted, overlaps_none, none_overlaps}
use Rattle.stage2.specs.declared.Policy.{Policy}
use Rattle.stage2.specs.Policy.{allowed_held, regions_held, built_by, allow_cases, allow_answer, add_allowed, allow_range, half_cases, handle_cases, handle_answer, add_region, handle_range}
use Rattle.stage2.specs.Builds.{BuilderCall, allow, handle, build, CanAllow, CanHandle}
use Rattle.std.specs.Prelude.{Err, Ok, Result, ⊤}
use Rattle.stage2_range.specs.declared.Stage2ConfigError.{Stage2ConfigError}
use Rattle.stage2_range.specs.declared.Stage2ConfigError.TheVariants.{UnknownMemoryHandler}

-- what the calls answer
pub built_answer : (s : Result ⊤ Stage2ConfigError) (p q : Policy) → (built_by s p q).answer ≡ s
built_answer (Ok _) p q = refl
built_answer (Err e) p q = refl

pub allow_answer_lem : (p : Policy) (base size attributes : ℕ) → (allow_range p base size attributes).answer ≡ allow_answer p base size
unfolding allow_range
allow_answer_lem p base size attributes = built_answer (allow_answer p base size) p (add_allowed p (range_of base size attributes))

pub handle_answer_lem : (p : Policy) (base size read write : ℕ) → (handle_range p base size read write).answer ≡ handle_answer p base size read write
unfolding handle_range
handle_answer_lem p base size read write = built_answer (handle_answer p base size read write) p (add_region p (region_of base size read write))

-- "allow 1 to 7 in order", first met wins
pub allow_number : (p : Policy) (base size attributes : ℕ)
    → result_number (allow_range p base size attributes).answer
    ≡ first_met error_number 0 (range_cases base size ++ allow_cases p (page_range base size))
unfolding allow_answer
allow_number p base size attributes =
    ap result_number (allow_answer_lem p base size attributes) ∙ answer_number_lem (range_cases base size ++ allow_cases p (page_range base size))

-- "handle 20, 1 to 4, 6, 8, 9", first met wins
pub handle_number : (p : Policy) (base size read write : ℕ)
    → result_number (handle_range p base size read write).answer
    ≡ first_met error_number 0 (half_cases read write ++ (range_cases base size ++ handle_cases p (page_range base size)))
unfolding handle_answer
handle_number p base size read write =
    ap result_number (handle_answer_lem p base size read write)
    ∙ answer_number_lem (half_cases read write ++ (range_cases base size ++ handle_cases p (page_range base size)))

-- "A refusal returns its number .., and all state is as before"
pub built_refused : (s : Result ⊤ Stage2ConfigError) (p q : Policy) → (result_number (built_by s p q).answer ≡ 0 → ⊥) → (built_by s p q).policy ≡ p
built_refused (Ok _) p q h = absurd (h refl)
built_refused (Err e) p q h = refl

pub build-refused : (p : Policy) (c : BuilderCall) → (result_number (build p c).answer ≡ 0 → ⊥) → (build p c).policy ≡ p
unfolding allow_range handle_range
build-refused p (allow base size attributes) h =
    built_refused (allow_answer p base size) p (add_allowed p (range_of base size attributes)) h
build-refused p (handle base size read write) h =
    built_refused (handle_answer p base size read write) p (add_region p (region_of base size read write)) h

-- The arguments are tested first: past them the policy answers.
module _ (p : Policy) (base size : ℕ) where
  pub allow_splits : allow_answer p base size ≡ after (validate_range base size) (answer_of (allow_cases p (page_range base size)))
  unfolding allow_answer validate_range
  allow_splits = answer_after_lem (range_cases base size) (allow_cases p (page_range base size))

  pub handle_splits : (read write : ℕ)
      → handle_answer p base size read write
      ≡ after (answer_of (half_cases read write)) (after (validate_range base size) (answer_of (handle_cases p (page_range base size))))
  unfolding handle_answer validate_range
  handle_splits read write =
      answer_after_lem (half_cases read write) (range_cases base size ++ handle_cases p (page_range base size))
      ∙ ap (after (answer_of (half_cases read write))) (answer_after_lem (range_cases base size) (handle_cases p (page_range base size)))

-- What each test of a call's arguments answers, and what answers past them.
module _ (p : Policy) (base size : ℕ) where
  pub allow_unfit : (e : Stage2ConfigError) → validate_range base size ≡ Err e → allow_answer p base size ≡ Err e
  allow_unfit e h = rw (allow_splits p base size, h)

  pub allow_past : validate_range base size ≡ Ok tt → allow_answer p base size ≡ answer_of (allow_cases p (page_range base size))
  allow_past h = rw (allow_splits p base size, h)

  module _ (read write : ℕ) where
    pub read_unknown : is_handler read ≡ false → handle_answer p base size read write ≡ Err UnknownMemoryHandler
    read_unknown r = rw (handle_splits p base size read write, r)

    pub write_unknown : is_handler read ≡ true → is_handler write ≡ false → handle_answer p base size read write ≡ Err UnknownMemoryHandler
    write_unknown r w = rw (handle_splits p base size read write, r, w)

    pub handle_unfit : is_handler read ≡ true → is_handler write ≡ true → (e : Stage2ConfigError) → validate_range base size ≡ Err e
        → handle_answer p base size read write ≡ Err e
    handle_unfit r w e h = rw (handle_splits p base size read write, r, w, h)

    pub handle_past : is_handler read ≡ true → is_handler write ≡ true → validate_range base size ≡ Ok tt
        → handle_answer p base size read write ≡ answer_of (handle_cases p (page_range base size))
    handle_past r w h = rw (handle_splits p base size read write, r, w, h)

pub ruleset allow_by_arguments = (allow_unfit, allow_past)

pub ruleset handle_by_arguments = (read_unknown, write_unknown, handle_unfit, handle_past)

-- A range is allowed exactly where its arguments fit, there is room and no byte is shared.
module _ (p : Policy) (base size attributes : ℕ) where
  pub allow_accepted : (allow_range p base size attributes).answer ≡ Ok tt → CanAllow p base size
  allow_accepted h =
      let told = allow_answer_lem p base size attributes ∙ allow_splits p base size in
      let a = not_after (validate_range base size) _ (sym told ∙ h) in
      let unmet = accepted_unmet (allow_cases p (page_range base size)) a.1 in
      record {
        fits = accepted_valid base size a.0;
        room = leb-false 32 p.allowed_count unmet.0;
        apart = record {
          from_allowed = overlaps_none range_bytes (allowed_held p) (page_range base size) unmet.1.0;
          from_regions = overlaps_none region_bytes (regions_held p) (page_range base size) unmet.1.1.0;
        };
      }

  pub can_allow : CanAllow p base size
      → allow_range p base size attributes ≡ record { answer = Ok tt; policy = add_allowed p (range_of base size attributes) }
  unfolding allow_range
  can_allow c =
      rw (
        allow_splits p base size,
        valid_accepted base size c.fits,
        lt-leb 32 p.allowed_count c.room,
        none_overlaps range_bytes (allowed_held p) (page_range base size) c.apart.from_allowed,
        none_overlaps region_bytes (regions_held p) (page_range base size) c.apart.from_regions,
      )

-- A range is handled exactly where its halves are known, its arguments fit, there is room and no byte is shared.
module _ (p : Policy) (base size read write : ℕ) where
  pub handle_accepted : (handle_range p base size read write).answer ≡ Ok tt → CanHandle p base size read write
  handle_accepted h =
      let told = handle_answer_lem p base size read write ∙ handle_splits p base size read write in
      let u = not_after (answer_of (half_cases read write)) _ (sym told ∙ h) in
      let a = not_after (validate_range base size) _ u.1 in
      let unmet = accepted_unmet (handle_cases p (page_range base size)) a.1 in
      record {
        handlers = not-false (is_handler read && is_handler write) (accepted_unmet (half_cases read write) u.0).0;
        fits = accepted_valid base size a.0;
        room = leb-false 16 p.region_count unmet.1.0;
        apart = record {
          from_allowed = overlaps_none range_bytes (allowed_held p) (page_range base size) unmet.0;
          from_regions = overlaps_none region_bytes (regions_held p) (page_range base size) unmet.1.1.0;
        };
      }

  pub can_handle : CanHandle p base size read write
      → handle_range p base size read write ≡ record { answer = Ok tt; policy = add_region p (region_of base size read write) }
  unfolding handle_range
  can_handle c =
      rw (
        handle_splits p base size read write,
        c.handlers,
        valid_accepted base size c.fits,
        none_overlaps range_bytes (allowed_held p) (page_range base size) c.apart.from_allowed,
        lt-leb 16 p.region_count c.room,
        none_overlaps region_bytes (regions_held p) (page_range base size) c.apart.from_regions,
      )
