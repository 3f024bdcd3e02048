-- Past the test of the allowed ranges the registry answers, and what it hands back is what is built (`registered_built`).
use Rattle.stage2_range.specs.Registry.{region_bytes, register_cases, registered_by, register_region}
use mathlib.Core.Path.{◌≡◌, refl, sym, ◌∙◌, ap}
use mathlib.Core.Bool.{false}
use Rattle.stage2_range.specs.Ranges.{answer_of, overlaps_allowed}
use Rattle.stage2_range.specs.declared.MemoryAccessRegion.{MemoryAccessRegion}
use Rattle.stage2.specs.declared.Policy.{Policy}
use Rattle.stage2.specs.declared.Built.{Built}
use Rattle.stage2.specs.Policy.{allowed_held, built_by, add_region}
use Rattle.stage2.proofs.handle_valid.Goals as goal
use Rattle.std.specs.Prelude.{Err, Ok, Result, ⊤}
use Rattle.stage2_range.specs.declared.Stage2ConfigError.{Stage2ConfigError}

-- what the registry answers is what is built of it
registered_built : (answer : Result ⊤ Stage2ConfigError) (p : Policy) (r : MemoryAccessRegion) →
    let registered = registered_by answer p.regions p.region_count r in
    ◌≡◌ {A = Built}
    (record {
      answer = registered.answer;
      policy = record {
        allowed = p.allowed;
        allowed_count = p.allowed_count;
        regions = registered.regions;
        region_count = registered.region_count;
      };
    })
    (built_by answer p (add_region p r))
unfolding add_region
registered_built (Ok _) p r = refl
registered_built (Err error) p r = refl

pub returns : goal.returns
unfolding register_region
returns c =
    let a = c.args in
    let p = a.policy in
    let bytes = region_bytes a.region in
    let apart : overlaps_allowed (allowed_held p) bytes ≡ false =
    ap (λ l. overlaps_allowed l bytes) (sym c.allowed_held.ensures) ∙ ap (overlaps_allowed c.allowed_held.result.now) (sym c.bytes.ensures) ∙ sym c.overlaps.ensures ∙ c.if-overlaps.false in
    rw (c.register-registered.ensures, apart) (registered_built (answer_of (register_cases p.regions p.region_count bytes)) p a.region)
