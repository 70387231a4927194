-- The sweep ends finished or stuck, and never because its steps run out: refusal 14 means exactly that a state is reached in which no pair is eligible.
use Prim.Native.Nat.{ℕ, zero, suc, ◌+◌, ◌-◌, ◌≤◌, ◌<◌}
use mathlib.Core.Path.{◌≡◌, refl, sym, ap, ◌∙◌, subst}
use mathlib.Core.List.Memᴰ
use mathlib.Core.List.{List, [], ◌∷◌, ◌++◌, map, reverse, reverse-cons, reverse-append, Memᴰ}
use mathlib.Core.Bool.{Bool, true, false, not, ◌&&◌, ◌||◌, false≢true}
use mathlib.Core.Logic.{◌⊎◌, inl, inr, ◌↔◌}
use native.Mathlib.Omega.{arith}
use lib.ListN.{length, get_or, take, drop, length-append}
use borrow.Author.Tests.{not-true}
use Rattle.std.specs.List.{list_any, list_all}
use Rattle.lists.specs.Tests.{is_empty, member, repeats}
use Rattle.lists.specs.Ranges.{from}
use Rattle.lists.specs.Parts.{flatten, index_of, squeeze}
use Rattle.lists.proofs.Bools.{or_no, and_yes}
use Rattle.lists.proofs.Tests.{repeats-append}
use Rattle.lists.proofs.Counts.{count_below-le, length-count_below}
use Rattle.lists.proofs.Joins.{mem_join}
use Rattle.lists.proofs.Members.{mem-take, mem-drop, mem-reverse, mem-before, mem-squeeze, repeats-reverse}
use Rattle.model.specs.Outcome.{Outcome, accepted, refused, passed, ◌>>=◌, ◌>>◌, rule}
use Rattle.model.specs.Plan.{Plan, context_count, ring, onward, strictly_between, border, north, east, west, plan_rules}
use Rattle.model.specs.Sound.{Sound}
use Rattle.model.specs.Labels.{label_rules, breaks}
use Rattle.model.specs.Sweep.{State, top, first_state, below, finished, finish, listed, replaced, chordless, eligible, choices, choose, advance, sweep_from, sweep}
use Rattle.model.specs.SweepStates.{NoneEligible, Chosen, Reached, first, further, Stuck, Ends}
use Rattle.model.proofs.Outcomes.{not-both, same-refusal, bind_refused, rule_refuses}
use Rattle.model.proofs.Plans.{mem-adjacent}
use Rattle.model.proofs.PlanRules.{sound, inner_ring, border_ring}
use Rattle.model.proofs.Choices.{chosen, none_chosen, chosen_taken, none-taken}

-- What is seen are contexts, none twice
pub record Sane (p : Plan) (s : State) : Type 0 where
  pub inside : (a : ℕ) → Memᴰ a s.seen → a < context_count p
  pub once : repeats s.seen ≡ false

nonempty : (l m : List ℕ) → not (is_empty l) ≡ true → 0 < length (squeeze (l ++ m))
nonempty [] m e = absurd (false≢true e)
nonempty (a ∷ l) m e = omega arith

module _ (p : Plan) where
  abbrev something : List ℕ → ℕ → Bool
  something f k = not (is_empty (below p f k))

  -- the whole sweep, before the label rules are tested
  abbrev swept : Outcome (List ℕ)
  swept = sweep_from p (context_count p) (first_state p)

  -- what a step does
  at_end : (fuel : ℕ) (s : State) → finished p s.frontier ≡ true → sweep_from p (suc fuel) s ≡ accepted (finish p s)
  unfolding sweep_from
  at_end fuel s u = rw u

  one_step : (fuel : ℕ) (s : State) (i j : ℕ) → finished p s.frontier ≡ false → Chosen p s i j → sweep_from p (suc fuel) s ≡ sweep_from p fuel (advance p s i j)
  unfolding sweep_from
  one_step fuel s i j u c = rw (u, chosen_taken p s i j c)

  no_step : (fuel : ℕ) (s : State) → finished p s.frontier ≡ false → NoneEligible p s → sweep_from p (suc fuel) s ≡ refused 14 0
  unfolding sweep_from
  no_step fuel s u n = rw (u, none-taken p s n)

  -- something is listed between positions that are two apart
  listed-some : (f : List ℕ) (i j : ℕ) → i + 2 ≤ j → list_all (something f) (from (suc i) (j - suc i)) ≡ true → 0 < length (listed p f i j)
  unfolding listed
  listed-some f i j h e = go (j - suc i) refl e
    where
      go : (m : ℕ) → j - suc i ≡ m → list_all (something f) (from (suc i) m) ≡ true → 0 < length (squeeze (flatten (map (below p f) (from (suc i) m))))
      go zero q e = absurd (omega arith)
      go (suc m) q e = nonempty (below p f (suc i)) (flatten (map (below p f) (from (suc (suc i)) m))) (and_yes (something f (suc i)) (list_all (something f) (from (suc (suc i)) m)) e).0

  -- what an eligible pair lists: something, all of it new, nothing twice
  record News (s : State) (l : List ℕ) : Type 0 where
    some : 0 < length l
    once : repeats l ≡ false
    new : list_any (λ (c : ℕ). member c s.seen) l ≡ false

  eligible-news : (s : State) (i j : ℕ) → i + 2 ≤ j → eligible p s i j ≡ true → News s (listed p s.frontier i j)
  unfolding eligible
  eligible-news s i j h e =
      let f = s.frontier in
      let l = listed p f i j in
      let new = list_any (λ (c : ℕ). member c s.seen) l in
      let full = list_all (something f) (from (suc i) (j - suc i)) in
      let bad = repeats l || list_any border l || new in
      let (a, b) = and_yes full (not bad) (and_yes (full && not bad) (chordless p (replaced f i j l)) e).0 in
      let (c, d) = or_no (repeats l || list_any border l) new (not-true bad b) in
      record { some = listed-some f i j h a; once = (or_no (repeats l) (list_any border l) c).0; new = d }

  module _ (r : Sound p) where
    pub ring-inside : (u a : ℕ) → Memᴰ a (ring p u) → a < context_count p
    ring-inside u a m = r.inside u a (mem-adjacent p u a m)

    below-inside : (f : List ℕ) (k a : ℕ) → Memᴰ a (below p f k) → a < context_count p
    unfolding below strictly_between onward
    below-inside f k a m =
        let u = get_or f k 0 in
        let x = get_or f (suc k) 0 in
        let y = get_or f (k - 1) 0 in
        let c = ring p u in
        go u (index_of x c) (Memᴰ.append_cases (drop (suc (index_of x c)) c) (mem-before y (onward x c) a (mem-reverse (strictly_between x y c) a m)))
      where
        go : (u k : ℕ) → Memᴰ a (drop (suc k) (ring p u)) ⊎ Memᴰ a (take k (ring p u)) → a < context_count p
        go u k (inl m) = ring-inside u a (mem-drop (suc k) (ring p u) a m)
        go u k (inr m) = ring-inside u a (mem-take k (ring p u) a m)

    listed-inside : (f : List ℕ) (i j a : ℕ) → Memᴰ a (listed p f i j) → a < context_count p
    unfolding listed
    listed-inside f i j a m =
        let ks = from (suc i) (j - suc i) in
        let (k, n, h) = mem_join (below p f) ks a (mem-squeeze (flatten (map (below p f) ks)) a m) in
        below-inside f k a h

    -- West, North's inner neighbours, East: North's ring in reverse
    first-seen : (first_state p).seen ≡ reverse (ring p north)
    unfolding first_state top
    first-seen =
        let m = inner_ring p north in
        let turned : reverse (east ∷ (m ++ (west ∷ []))) ≡ west ∷ reverse m ++ (east ∷ []) = reverse-cons east (m ++ (west ∷ [])) ∙ ap (λ (l : List ℕ). l ++ (east ∷ [])) (reverse-append m (west ∷ [])) in
        sym turned ∙ sym (ap reverse (border_ring p r north (omega arith)))

    sane-first : Sane p (first_state p)
    sane-first =
        record {
          inside = λ a m. ring-inside north a (mem-reverse (ring p north) a (subst (Memᴰ a) first-seen m));
          once = subst (λ (l : List ℕ). repeats l ≡ false) (sym first-seen) (repeats-reverse (ring p north) (r.no_repeat north));
        }

    sane_further : (s : State) (i j : ℕ) → Sane p s → Chosen p s i j → Sane p (advance p s i j)
    unfolding advance
    sane_further s i j h c =
        let l = listed p s.frontier i j in
        let n = eligible-news s i j c.positions.apart c.fits in
        record { inside = λ a m. go a (Memᴰ.append_cases l m); once = repeats-append l s.seen n.once h.once n.new }
      where
        go : (a : ℕ) → Memᴰ a (listed p s.frontier i j) ⊎ Memᴰ a s.seen → a < context_count p
        go a (inl m) = listed-inside s.frontier i j a m
        go a (inr m) = h.inside a m

    pub sane : (s : State) → Reached p s → Sane p s
    sane s first = sane-first
    sane s (further t i j q u c) = sane_further t i j (sane t q) c

    -- so at most n are seen, and each step adds to them
    pub seen-short : (s : State) → Reached p s → length s.seen ≤ context_count p
    seen-short s q =
        let h = sane s q in
        let x = length-count_below (context_count p) s.seen h.once h.inside in
        let y = count_below-le (λ (w : ℕ). member w s.seen) (context_count p) in
        omega arith

    seen_grows : (s : State) (i j : ℕ) → Chosen p s i j → length s.seen < length (advance p s i j).seen
    unfolding advance
    seen_grows s i j c =
        let x = (eligible-news s i j c.positions.apart c.fits).some in
        let y = length-append (listed p s.frontier i j) s.seen in
        omega arith

    first_some : 0 < length (first_state p).seen
    unfolding first_state
    first_some = omega arith

    -- more steps are left than contexts not seen
    abbrev Enough : ℕ → State → Type 0
    Enough fuel s = context_count p < length s.seen + fuel

    -- the sweep from a state that is reached ends finished or stuck
    ends : (fuel : ℕ) (s : State) → Reached p s → Enough fuel s → Ends p (sweep_from p fuel s)
    ends zero s q h = let x = seen-short s q in absurd (omega arith)
    ends (suc fuel) s q h = go (ends fuel) (finished p s.frontier) refl (choose p s (choices s.frontier)) refl
      where
        go : ((t : State) → Reached p t → Enough fuel t → Ends p (sweep_from p fuel t))
            → (b : Bool) → finished p s.frontier ≡ b → (o : Outcome (ℕ × ℕ)) → choose p s (choices s.frontier) ≡ o → Ends p (sweep_from p (suc fuel) s)
        go ends' true u o e = inl (s, record { reached = q; over = u }, at_end fuel s u)
        go ends' false u (accepted d) e =
            let c = chosen p s d.0 d.1 e in
            let x = seen_grows s d.0 d.1 c in
            subst (Ends p) (sym (one_step fuel s d.0 d.1 u c)) (ends' (advance p s d.0 d.1) (further s d.0 d.1 q u c) (omega arith))
        go ends' false u (refused k at) e = let n = (none_chosen p s k at e).2 in inr (s, record { reached = q; unfinished = u; none = n }, no_step fuel s u n)

    -- the sweep passes through every state that is reached, with steps enough left
    passes : (s : State) → Reached p s → (fuel : ℕ) × Enough fuel s × (swept ≡ sweep_from p fuel s)
    passes s first = (context_count p, (let x = first_some in omega arith), refl)
    passes s (further t i j q u c) = let (fuel, h, e) = passes t q in go fuel h e
      where
        go : (fuel : ℕ) → Enough fuel t → swept ≡ sweep_from p fuel t
            → (k : ℕ) × Enough k (advance p t i j) × (swept ≡ sweep_from p k (advance p t i j))
        go zero h e = let x = seen-short t q in absurd (omega arith)
        go (suc k) h e = let x = seen_grows t i j c in (k, omega arith, e ∙ one_step k t i j u c)

    passes_by : (s : State) → Reached p s → (fuel : ℕ) × (swept ≡ sweep_from p (suc fuel) s)
    passes_by s q = let (fuel, h, e) = passes s q in go fuel h e
      where
        go : (fuel : ℕ) → Enough fuel s → swept ≡ sweep_from p fuel s → (k : ℕ) × (swept ≡ sweep_from p (suc k) s)
        go zero h e = let x = seen-short s q in absurd (omega arith)
        go (suc k) h e = (k, e)

  module _ (rules : plan_rules p ≡ passed) where
    -- n steps are enough: the sweep ends finished or stuck
    pub sweep_ends : Ends p (sweep_from p (context_count p) (first_state p))
    sweep_ends = let r = sound p rules in ends r (context_count p) (first_state p) first (let x = first_some r in omega arith)

    -- It refuses exactly where a stuck state is reached, and then with 14 at 0
    pub stuck_exactly : (k at : ℕ) → (sweep_from p (context_count p) (first_state p) ≡ refused k at) ↔ ((k ≡ 14) × (at ≡ 0) × (s : State) × Stuck p s)
    stuck_exactly k at = (go sweep_ends, back)
      where
        back : ((k ≡ 14) × (at ≡ 0) × (s : State) × Stuck p s) → swept ≡ refused k at
        back h = let (a, b, s, f) = h in let (n, e) = passes_by (sound p rules) s f.reached in e ∙ no_step n s f.unfinished f.none ∙ (λ i. refused (sym a i) (sym b i))

        go : Ends p swept → swept ≡ refused k at → (k ≡ 14) × (at ≡ 0) × (s : State) × Stuck p s
        go (inl h) e = not-both (sym (sym h.2 ∙ e))
        go (inr h) e = let (a, b) = same-refusal (sym e ∙ h.2) in (a, b, h.0, h.1)

    -- The call's refusal 14 is the sweep's: the label rules, tested after finishing, refuse with 10
    pub refusal_14 : (at : ℕ) → (sweep p ≡ refused 14 at) ↔ ((at ≡ 0) × (s : State) × Stuck p s)
    unfolding sweep label_rules
    refusal_14 at = (λ e. go (bind_refused swept tested 14 at e), back)
      where
        tested : List ℕ → Outcome (List ℕ)
        tested ls = rule 10 (context_count p) (breaks p ls) >> accepted ls

        back : ((at ≡ 0) × (s : State) × Stuck p s) → (swept >>= tested) ≡ refused 14 at
        back h = ap (λ (o : Outcome (List ℕ)). o >>= tested) ((stuck_exactly 14 at).1 (refl, h.0, h.1, h.2))

        not_10 : (ls : List ℕ) (o : Outcome (Unit {0})) → rule 10 (context_count p) (breaks p ls) ≡ o → (o >> accepted ls) ≡ refused 14 at → ⊥
        not_10 ls (accepted t) q e = not-both (sym e)
        not_10 ls (refused k place) q e = let x : k ≡ 14 = (same-refusal e).0 in let y = ((rule_refuses 10 (context_count p) (breaks p ls) k place).0 q).0 in omega arith

        go : (swept ≡ refused 14 at) ⊎ ((ls : List ℕ) × (swept ≡ accepted ls) × (tested ls ≡ refused 14 at)) → (at ≡ 0) × (s : State) × Stuck p s
        go (inl e) = let (a, b, s, f) = (stuck_exactly 14 at).0 e in (b, s, f)
        go (inr h) = absurd (not_10 h.0 (rule 10 (context_count p) (breaks p h.0)) refl h.2)
