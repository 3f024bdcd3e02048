-- Steps of eight cores that share a counter, in any mixing that keeps each core's own steps in order: where at most one core changes the
-- counter, each core ends as its own steps alone say. Over any state, of which each core sees a part. Assumes nothing.
use Prim.Native.Nat.{ℕ, ◌<◌}
use mathlib.Core.Path.{◌≡◌, refl, sym, ◌∙◌, ap, ap₂, subst}
use mathlib.Core.Bool.{Bool, true, false, cond, true≢false}
use mathlib.Core.List.{List, [], ◌∷◌, foldl, Memᴰ}
use mathlib.Core.Logic.{◌⊎◌, inl, inr}
use native.Mathlib.Omega.{arith}
use native.Mathlib.Decide.{ℕ_discrete}
use Rattle.lists.specs.Lists.{select}
use Rattle.order_independence.specs.Calls.{answers_in}

-- what a step comes to, for the core whose step it is: the answer, the core's part of the state, the counter
pub record Acted (Part Answer : Type 0) : Type 0 where
  pub answer : Answer
  pub part : Part
  pub counter : ℕ

-- A system: its steps, whose own they are, what each core sees of the state, and what a step comes to by that part and the counter alone.
-- `Sound` and `Named` are what the laws ask of states and steps.
pub record System : Type 1 where
  pub State : Type 0
  pub Step : Type 0
  pub Part : Type 0
  pub Answer : Type 0
  pub answer : State → Step → Answer
  pub next : State → Step → State
  pub own : ℕ → Step → Bool
  pub part : ℕ → State → Part
  pub counter : State → ℕ
  pub act : Step → Part → ℕ → Acted Part Answer
  pub Sound : State → Type 0
  pub Named : Step → Type 0

pub record Laws (M : System) : Type 0 where
  pub keeps : (s : M.State) (c : M.Step) → M.Sound s → M.Named c → M.Sound (M.next s c)
  -- a core's own step reads and writes its part and the counter
  pub local : (s : M.State) (c : M.Step) (i : ℕ) → M.Sound s → M.Named c → i < 8 → M.own i c ≡ true
      → ◌≡◌ {A = Acted M.Part M.Answer}
      (record { answer = M.answer s c; part = M.part i (M.next s c); counter = M.counter (M.next s c) })
      (M.act c (M.part i s) (M.counter s))
  -- and no other core's part
  pub others : (s : M.State) (c : M.Step) (i : ℕ) → M.Sound s → M.Named c → i < 8 → M.own i c ≡ false
      → M.part i (M.next s c) ≡ M.part i s
  -- a step is some core's own, or leaves the counter
  pub owned : (c : M.Step) → M.Named c
      → ((i : ℕ) × (i < 8) × (M.own i c ≡ true)) ⊎ ((s : M.State) → M.counter (M.next s c) ≡ M.counter s)
  -- a step that leaves the counter at one value leaves it at any, and does not depend on it
  pub steady : (c : M.Step) (l : M.Part) (k k' : ℕ) → (M.act c l k).counter ≡ k
      → M.act c l k' ≡ record { answer = (M.act c l k).answer; part = (M.act c l k).part; counter = k' }

module _ (M : System) (W : Laws M) where
  abbrev S : Type 0
  S = M.State

  abbrev C : Type 0
  C = M.Step

  abbrev AllNamed : List C → Type 0
  AllNamed cs = (c : C) → Memᴰ c cs → M.Named c

  abbrev after : S → List C → S
  after s cs = foldl M.next s cs

  abbrev answers : ℕ → S → List C → List M.Answer
  answers i s cs = answers_in M.answer M.next (M.own i) s cs

  -- one core's steps alone
  abbrev alone : M.Part → ℕ → List C → Acted M.Part (List M.Answer)
  alone l k [] = record { answer = []; part = l; counter = k }
  alone l k (c ∷ cs) =
      let a = M.act c l k in
      let r = alone a.part a.counter cs in
      record { answer = a.answer ∷ r.answer; part = r.part; counter = r.counter }

  -- none of them changes the counter
  abbrev Still : M.Part → List C → Type 0
  Still l [] = Unit {0}
  Still l (c ∷ cs) = ((M.act c l 0).counter ≡ 0) × Still (M.act c l 0).part cs

  -- the own steps of every core but one leave the counter
  abbrev OnlyBy : ℕ → S → List C → Type 0
  OnlyBy loader s cs = (i : ℕ) → i < 8 → (i ≡ loader → ⊥) → Still (M.part i s) (select (M.own i) cs)

  -- One step, before the steps `cs`.
  module _ (s : S) (c : C) (cs : List C) (sound : M.Sound s) (named : M.Named c) where
    -- what it comes to at a counter, as an own step of core `i`
    abbrev acted : ℕ → ℕ → Acted M.Part M.Answer
    acted i k = M.act c (M.part i s) k

    -- a core whose own steps leave the counter: so does this one
    still_head : (i : ℕ) → M.own i c ≡ true → Still (M.part i s) (select (M.own i) (c ∷ cs)) → (acted i 0).counter ≡ 0
    still_head i o still = (subst (λ b. Still (M.part i s) (cond b (c ∷ select (M.own i) cs) (select (M.own i) cs))) o still).0

    -- and so do those after it
    still_rest : (i : ℕ) → i < 8 → Still (M.part i s) (select (M.own i) (c ∷ cs))
        → Still (M.part i (M.next s c)) (select (M.own i) cs)
    still_rest i h still = go (M.own i c) refl still
      where
        go : (b : Bool) → M.own i c ≡ b → Still (M.part i s) (cond b (c ∷ select (M.own i) cs) (select (M.own i) cs))
            → Still (M.part i (M.next s c)) (select (M.own i) cs)
        go true o k =
            subst (λ l. Still l (select (M.own i) cs))
            (sym (ap (λ a. a.part) (W.local s c i sound named h o ∙ W.steady c (M.part i s) 0 (M.counter s) k.0))) k.1
        go false o k = subst (λ l. Still l (select (M.own i) cs)) (sym (W.others s c i sound named h o)) k

    -- where it is not the loader's, it leaves the counter
    counter_left : (loader : ℕ) → OnlyBy loader s (c ∷ cs) → M.own loader c ≡ false → M.counter (M.next s c) ≡ M.counter s
    counter_left loader only e = go (W.owned c named)
      where
        go : ((i : ℕ) × (i < 8) × (M.own i c ≡ true)) ⊎ ((t : S) → M.counter (M.next t c) ≡ M.counter t)
            → M.counter (M.next s c) ≡ M.counter s
        go (inl (i, h, o)) =
            let still = still_head i o (only i h (λ z. true≢false (sym (subst (λ j. M.own j c ≡ true) z o) ∙ e))) in
            ap (λ a. a.counter) (W.local s c i sound named h o ∙ W.steady c (M.part i s) 0 (M.counter s) still)
        go (inr kept) = kept s

    -- As an own step of core `i`, it comes to what it comes to at a counter `k`, which need be the true one for the loader alone.
    record AtCounter (loader i k : ℕ) : Type 0 where
      said : M.answer s c ≡ (acted i k).answer
      left : M.part i (M.next s c) ≡ (acted i k).part
      counted : i ≡ loader → M.counter (M.next s c) ≡ (acted i k).counter

    at_counter : (loader i k : ℕ) → i < 8 → OnlyBy loader s (c ∷ cs) → M.own i c ≡ true → (i ≡ loader → M.counter s ≡ k)
        → AtCounter loader i k
    at_counter loader i k h only o e = go (ℕ_discrete i loader)
      where
        here : record { answer = M.answer s c; part = M.part i (M.next s c); counter = M.counter (M.next s c) } ≡ acted i (M.counter s)
        here = W.local s c i sound named h o

        go : Dec (i ≡ loader) → AtCounter loader i k
        go (yes z) =
            let p = here ∙ ap (acted i) (e z) in
            record { said = ap (λ a. a.answer) p; left = ap (λ a. a.part) p; counted = λ z. ap (λ a. a.counter) p }
        go (no ne) =
            let still = still_head i o (only i h ne) in
            let p = here ∙ W.steady c (M.part i s) 0 (M.counter s) still in
            let q = W.steady c (M.part i s) 0 k still in
            record {
              said = ap (λ a. a.answer) p ∙ sym (ap (λ a. a.answer) q);
              left = ap (λ a. a.part) p ∙ sym (ap (λ a. a.part) q);
              counted = λ z. absurd (ne z);
            }

  -- A core ends a run as its own steps alone say.
  record Tracked (loader i k : ℕ) (l : M.Part) (cs : List C) (end : S) (said : List M.Answer) : Type 0 where
    part : M.part i end ≡ (alone l k cs).part
    answers : said ≡ (alone l k cs).answer
    counter : i ≡ loader → M.counter end ≡ (alone l k cs).counter

  track : (loader : ℕ) (cs : List C) (i : ℕ) → i < 8 → (s : S) (k : ℕ) → M.Sound s → AllNamed cs → OnlyBy loader s cs
      → (i ≡ loader → M.counter s ≡ k) → Tracked loader i k (M.part i s) (select (M.own i) cs) (after s cs) (answers i s cs)
  track loader [] i h s k sound named only e = record { part = refl; answers = refl; counter = e }
  track loader (c ∷ cs) i h s k sound named only e =
      go (M.own i c) refl
      (λ k'. track loader cs i h (M.next s c) k' (W.keeps s c sound (named c (Memᴰ.head refl)))
      (λ d m. named d (Memᴰ.tail m))
      (λ j within ne. still_rest s c cs sound (named c (Memᴰ.head refl)) j within (only j within ne)))
    where
      here : M.Named c
      here = named c (Memᴰ.head refl)

      rest : List C
      rest = select (M.own i) cs

      said : List M.Answer
      said = answers i (M.next s c) cs

      go : (b : Bool) → M.own i c ≡ b
          → ((k' : ℕ) → (i ≡ loader → M.counter (M.next s c) ≡ k')
          → Tracked loader i k' (M.part i (M.next s c)) rest (after (M.next s c) cs) said)
          → Tracked loader i k (M.part i s) (cond b (c ∷ rest) rest) (after (M.next s c) cs) (cond b (M.answer s c ∷ said) said)
      go true o later =
          let a = at_counter s c cs sound here loader i k h only o e in
          let k' = (acted s c cs sound here i k).counter in
          let t = subst (λ l. Tracked loader i k' l rest (after (M.next s c) cs) said) a.left (later k' a.counted) in
          record { part = t.part; answers = ap₂ (λ x xs. x ∷ xs) a.said t.answers; counter = t.counter }
      go false o later =
          subst (λ l. Tracked loader i k l rest (after (M.next s c) cs) said) (W.others s c i sound here h o)
          (later k (λ z. counter_left s c cs sound here loader only (subst (λ j. M.own j c ≡ false) z o) ∙ e z))

  -- core `i` changes the counter at some step
  abbrev pub Moves : S → List C → ℕ → Type 0
  Moves s [] i = ⊥
  Moves s (c ∷ cs) i = ((M.own i c ≡ true) × (M.counter (M.next s c) ≡ M.counter s → ⊥)) ⊎ Moves (M.next s c) cs i

  -- where it does not, its own steps leave the counter
  still_all : (cs : List C) (s : S) (i : ℕ) → i < 8 → M.Sound s → AllNamed cs → (Moves s cs i → ⊥)
      → Still (M.part i s) (select (M.own i) cs)
  still_all [] s i h sound named none = tt
  still_all (c ∷ cs) s i h sound named none =
      go (M.own i c) refl
      (still_all cs (M.next s c) i h (W.keeps s c sound here) (λ d m. named d (Memᴰ.tail m)) (λ m. none (inr m)))
    where
      here : M.Named c
      here = named c (Memᴰ.head refl)

      kept : M.own i c ≡ true → Dec (M.counter (M.next s c) ≡ M.counter s) → M.counter (M.next s c) ≡ M.counter s
      kept o (yes e) = e
      kept o (no ne) = absurd (none (inl (o, ne)))

      go : (b : Bool) → M.own i c ≡ b → Still (M.part i (M.next s c)) (select (M.own i) cs)
          → Still (M.part i s) (cond b (c ∷ select (M.own i) cs) (select (M.own i) cs))
      go true o later =
          let p = W.local s c i sound here h o in
          let e = sym (ap (λ a. a.counter) p) ∙ kept o (ℕ_discrete (M.counter (M.next s c)) (M.counter s)) in
          let q = W.steady c (M.part i s) (M.counter s) 0 e in
          (ap (λ a. a.counter) q, subst (λ l. Still l (select (M.own i) cs)) (ap (λ a. a.part) p ∙ sym (ap (λ a. a.part) q)) later)
      go false o later = subst (λ l. Still l (select (M.own i) cs)) (W.others s c i sound here h o) later

  -- some core changes the counter first, or none does
  first_mover : (cs : List C) (s : S) → AllNamed cs → ((i : ℕ) × (i < 8) × Moves s cs i) ⊎ ((i : ℕ) → Moves s cs i → ⊥)
  first_mover [] s named = inr (λ i m. m)
  first_mover (c ∷ cs) s named =
      go (ℕ_discrete (M.counter (M.next s c)) (M.counter s)) (first_mover cs (M.next s c) (λ d m. named d (Memᴰ.tail m)))
    where
      whose : (M.counter (M.next s c) ≡ M.counter s → ⊥)
          → ((i : ℕ) × (i < 8) × (M.own i c ≡ true)) ⊎ ((t : S) → M.counter (M.next t c) ≡ M.counter t)
          → ((i : ℕ) × (i < 8) × Moves s (c ∷ cs) i)
      whose ne (inl (i, h, o)) = (i, h, inl (o, ne))
      whose ne (inr kept) = absurd (ne (kept s))

      neither : M.counter (M.next s c) ≡ M.counter s → ((i : ℕ) → Moves (M.next s c) cs i → ⊥) → (i : ℕ) → Moves s (c ∷ cs) i → ⊥
      neither e none i (inl m) = m.1 e
      neither e none i (inr m) = none i m

      go : Dec (M.counter (M.next s c) ≡ M.counter s)
          → ((i : ℕ) × (i < 8) × Moves (M.next s c) cs i) ⊎ ((i : ℕ) → Moves (M.next s c) cs i → ⊥)
          → ((i : ℕ) × (i < 8) × Moves s (c ∷ cs) i) ⊎ ((i : ℕ) → Moves s (c ∷ cs) i → ⊥)
      go (no ne) later = inl (whose ne (W.owned c (named c (Memᴰ.head refl))))
      go (yes e) (inl (i, h, m)) = inl (i, h, inr m)
      go (yes e) (inr none) = inr (neither e none)

  -- so one core alone may change it
  one_loader : (cs : List C) (s : S) → M.Sound s → AllNamed cs
      → ((i j : ℕ) → i < 8 → j < 8 → Moves s cs i → Moves s cs j → i ≡ j) → (loader : ℕ) × (loader < 8) × OnlyBy loader s cs
  one_loader cs s sound named one = go (first_mover cs s named)
    where
      go : ((i : ℕ) × (i < 8) × Moves s cs i) ⊎ ((i : ℕ) → Moves s cs i → ⊥) → (loader : ℕ) × (loader < 8) × OnlyBy loader s cs
      go (inl (j, k, m)) = (j, k, λ i h ne. still_all cs s i h sound named (λ n. ne (one i j h k n m)))
      go (inr none) = (0, omega arith, λ i h ne. still_all cs s i h sound named (none i))

  -- Two runs from states that agree, with each core's own steps in the same order, agree.
  pub record Agree (s t : S) : Type 0 where
    pub counters : M.counter s ≡ M.counter t
    pub parts : (i : ℕ) → i < 8 → M.part i s ≡ M.part i t

  pub mixed : (s t : S) (cs ds : List C) → M.Sound s → M.Sound t → AllNamed cs → AllNamed ds → Agree s t
      → ((i : ℕ) → i < 8 → select (M.own i) cs ≡ select (M.own i) ds)
      → ((i j : ℕ) → i < 8 → j < 8 → Moves s cs i → Moves s cs j → i ≡ j)
      → Agree (after s cs) (after t ds) × ((i : ℕ) → i < 8 → answers i s cs ≡ answers i t ds)
  mixed s t cs ds sound-s sound-t named-cs named-ds agree order one = go (one_loader cs s sound-s named-cs one)
    where
      first : (loader : ℕ) → OnlyBy loader s cs → (i : ℕ) → i < 8
          → Tracked loader i (M.counter s) (M.part i s) (select (M.own i) cs) (after s cs) (answers i s cs)
      first loader only i h = track loader cs i h s (M.counter s) sound-s named-cs only (λ z. refl)

      only_again : (loader : ℕ) → OnlyBy loader s cs → OnlyBy loader t ds
      only_again loader only i h ne =
          subst (λ l. Still l (select (M.own i) ds)) (agree.parts i h) (subst (Still (M.part i s)) (order i h) (only i h ne))

      second : (loader : ℕ) → OnlyBy loader s cs → (i : ℕ) → i < 8
          → Tracked loader i (M.counter s) (M.part i t) (select (M.own i) ds) (after t ds) (answers i t ds)
      second loader only i h =
          track loader ds i h t (M.counter s) sound-t named-ds (only_again loader only) (λ z. sym agree.counters)

      same : (i : ℕ) → i < 8
          → alone (M.part i s) (M.counter s) (select (M.own i) cs) ≡ alone (M.part i t) (M.counter s) (select (M.own i) ds)
      same i h = ap₂ (λ l own. alone l (M.counter s) own) (agree.parts i h) (order i h)

      go : (loader : ℕ) × (loader < 8) × OnlyBy loader s cs
          → Agree (after s cs) (after t ds) × ((i : ℕ) → i < 8 → answers i s cs ≡ answers i t ds)
      go (loader, within, only) = (
        record {
          counters =
              (first loader only loader within).counter refl
              ∙ ap (λ a. a.counter) (same loader within)
              ∙ sym ((second loader only loader within).counter refl);
          parts = λ i h. (first loader only i h).part ∙ ap (λ a. a.part) (same i h) ∙ sym (second loader only i h).part;
        },
        λ i h. (first loader only i h).answers ∙ ap (λ a. a.answer) (same i h) ∙ sym (second loader only i h).answers,
      )
