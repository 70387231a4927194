-- The frontier that the engine makes of an eligible pair of positions is the model's.
use Prim.Native.Nat.{ℕ, suc, ◌+◌, ◌-◌, ◌≤◌, ◌<◌}
use mathlib.Core.Path.{◌≡◌, refl, ap, sym, ◌∙◌, subst}
use mathlib.Core.Logic.{⊎_elim}
use mathlib.Core.List.{List, [], ◌∷◌, ◌++◌, append_assoc, append-nil}
use mathlib.Core.Bool.{true, false, ◌||◌}
use native.Mathlib.Omega.{arith}
use lib.ListN.{length, take, drop, length-append, length-drop}
use lib.Seq.{take_all, append_snoc}
use lib.Dec.{eqb}
use Rattle.std.specs.List.{list_any}
use Rattle.lists.specs.Tests.{member, repeats}
use Rattle.lists.specs.Spans.{stretch, span, zero_padded}
use Rattle.lists.proofs.Bools.{both, and_yes, or_no}
use Rattle.lists.proofs.Tests.{list_any-append, repeats-append, none_of, of_none}
use Rattle.lists.proofs.Members.{mem-take, mem-drop}
use Rattle.model.specs.Plan.{Plan}
use Rattle.model.specs.Sweep.{State, listed, replaced, chordless, eligible, advance}
use Rattle.model.proofs.Eligible.{replaced-length}
use Rattle.sweep_frontier.specs.Held.{AllBelow200, EntriesBelow200, HoldsList, Marks, HoldsFrontier}
use Rattle.sweep_frontier.specs.Frontiers.{Frontier, lent_frontier, pushed, empty_frontier}
use Rattle.sweep_by_definition.specs.Lists.{listing}
use Rattle.sweep_by_definition.proofs.Dirt.{dirty, clean_once, clean_new}
use Rattle.sweep_frontier.proofs.Holding.{small-append, small-mem, mem-small, no_longer, push_rep, marks-same, pushed-marks, fresh-rep, stretch-all, stretch_part}
use Rattle.std.specs.Prelude.{Result, Ok, fold}
use Rattle.sweep_by_definition.proofs.Adding.{Good}
use Rattle.sweep_by_definition.proofs.Gather.{allowed, list, comes}
use Rattle.sweep_by_definition.specs.Lists as run

-- ---- what the code puts on new frontiers
-- the frontier with the list of positions i and j in place
abbrev pub next : Plan → Frontier → ℕ → ℕ → Frontier
next p v i j = let g = list p v i j in run.frontier_replaced (empty_frontier g.marks) v.at v.len (suc i) j g.at g.len

module _ (p : Plan) (v : Frontier) (i j : ℕ) {k : ℕ} (above : k ≡ suc i) (r : Result ℕ ℕ) {at marks : List ℕ} (is : lent_frontier r at marks ≡ listing p v.at k j (empty_frontier v.marks)) where
  -- the code's list
  pub list-is : lent_frontier r at marks ≡ list p v i j
  list-is = is ∙ ap (λ (n : ℕ). listing p v.at n j (empty_frontier v.marks)) above

  -- and the code's new frontier
  pub new-is : {q : ℕ} → r ≡ Ok q → {w : Frontier} → w ≡ run.frontier_replaced (empty_frontier marks) v.at v.len k j at q → w ≡ next p v i j
  new-is on put = put ∙ (λ d. let g = (ap (λ (r : Result ℕ ℕ). lent_frontier r at marks) (sym on) ∙ list-is) d in run.frontier_replaced (empty_frontier g.marks) v.at v.len (above d) j g.at g.len)

-- ---- contexts put at the end of a frontier
-- a frontier holds what was put at its end
push_all : (v : Frontier) (l m : List ℕ) → HoldsList v l → length l + length m ≤ 512 → HoldsList (fold pushed v m) (l ++ m)
push_all v l [] r h = subst (HoldsList v) (sym (append-nil l)) r
push_all v l (x ∷ m) r h =
    let s = length-append l (x ∷ []) in
    subst (HoldsList (fold pushed (pushed v x) m)) (append_snoc l x m) (push_all (pushed v x) (l ++ (x ∷ [])) m (push_rep v l x r (omega arith)) (omega arith))

-- and its marks stay
push_all-marks : (v : Frontier) (m : List ℕ) → (fold pushed v m).marks ≡ v.marks
push_all-marks v [] = refl
push_all-marks v (x ∷ m) = push_all-marks (pushed v x) m ∙ pushed-marks v x

-- ---- the frontier with a list in place
-- every context of it is below 200
small-replaced : (f l : List ℕ) (i j : ℕ) → AllBelow200 f → AllBelow200 l → AllBelow200 (replaced f i j l)
unfolding replaced
small-replaced f l i j h k =
    small-append (take (suc i) f ++ l) (drop j f) (small-append (take (suc i) f) l (mem-small (take (suc i) f) (λ a m. small-mem f a h (mem-take (suc i) f a m))) k) (mem-small (drop j f) (λ a m. small-mem f a h (mem-drop j f a m)))

module _ (p : Plan) (sane : EntriesBelow200 p) (s : State) (v : Frontier) (fr : HoldsFrontier s v) where
  -- the frontier
  abbrev f : List ℕ
  f = s.frontier

  -- what is listed is new, so there is room for it
  module _ (l : List ℕ) (once : repeats l ≡ false) (new : list_any (λ (c : ℕ). member c s.seen) l ≡ false) (small : AllBelow200 l) where
    -- the list has nothing of what came since the start
    apart : list_any (λ (c : ℕ). member c fr.news) l ≡ false
    apart =
        of_none (λ (c : ℕ). member c fr.news) l
        (λ a m. (or_no (member a fr.news) (member a fr.olds) (sym (list_any-append (eqb a) fr.news fr.olds) ∙ ap (member a) (sym fr.parts) ∙ none_of (λ (c : ℕ). member c s.seen) l new a m)).0)

    -- nothing that came since the start stands twice
    pub news-once : repeats (l ++ fr.news) ≡ false
    news-once = repeats-append l fr.news once fr.once apart

    -- so the list and the frontier are short
    pub news-fit : length l + length f ≤ 455
    news-fit =
        let x = no_longer (l ++ fr.news) news-once (small-append l fr.news small fr.few) in
        let y = length-append l fr.news in
        let z = fr.room in
        omega arith

  module _ (i j : ℕ) (h : i + 2 ≤ j) (q : j < length f) where
    -- the list of the pair
    abbrev l : List ℕ
    l = listed p f i j

    -- the array after the step holds the new frontier
    pub new_rep : Good s.seen (list p v i j) l → HoldsList (next p v i j) (replaced f i j l)
    unfolding run.frontier_replaced replaced
    new_rep g =
        let m = list p v i j in
        let fit = news-fit l (clean_once s.seen l g.clean) (clean_new s.seen l g.clean) g.small in
        let size = replaced-length f l i j h q in
        let a : suc i - 0 ≡ suc i = omega arith in
        let b : length l - 0 ≡ length l = omega arith in
        let left = (λ t. span (fr.rep.at t) 0 (suc i)) ∙ ap (stretch (zero_padded 512 f) 0) a ∙ stretch_part f 0 (suc i) (omega arith) in
        let middle = (λ t. span (g.rep.at t) 0 (g.rep.len t)) ∙ ap (stretch (zero_padded 512 l) 0) b ∙ stretch-all l in
        let right = (λ t. span (fr.rep.at t) j (fr.rep.len t)) ∙ stretch_part f j (length f - j) (omega arith) ∙ take_all (length f - j) (drop j f) (let z = length-drop j f in omega arith) in
        let put = push_all (empty_frontier m.marks) [] (take (suc i) f ++ l ++ drop j f) (fresh-rep m.marks) (omega arith) in
        subst (λ (n : List ℕ). HoldsList (fold pushed (empty_frontier m.marks) n) (take (suc i) f ++ l ++ drop j f)) (sym (λ t. left t ++ middle t ++ right t)) put

    -- an eligible pair's list is gathered whole
    pub gathered : eligible p s i j ≡ true → Good s.seen (list p v i j) l
    unfolding eligible dirty
    gathered e = let okay = allowed p s.seen f i j in ⊎_elim (λ w. w.0) (λ w. both okay (and_yes okay (chordless p (replaced f i j l)) e).0 w.1) (comes p sane s v fr i j)

    -- and with its marks it holds that of the next state
    pub next-front : eligible p s i j ≡ true → HoldsFrontier (advance p s i j) (next p v i j)
    unfolding advance empty_frontier run.frontier_replaced
    next-front e =
        let g = gathered e in
        let m = list p v i j in
        let once = clean_once s.seen l g.clean in
        let new = clean_new s.seen l g.clean in
        let size = replaced-length f l i j h q in
        let more = length-append l fr.news in
        let before = fr.room in
        record {
          rep = new_rep g;
          marks =
              subst (λ (m : List ℕ). Marks m (λ (c : ℕ). member c (l ++ s.seen))) (sym (push_all-marks (empty_frontier m.marks) (span v.at 0 (suc i) ++ span m.at 0 m.len ++ span v.at j v.len)))
              (marks-same (λ (c : ℕ). member c l || member c s.seen) (λ (c : ℕ). member c (l ++ s.seen)) (λ c. sym (list_any-append (eqb c) l s.seen)) g.marks);
          small = small-replaced f l i j fr.small g.small;
          news = l ++ fr.news;
          olds = fr.olds;
          parts = ap (λ (m : List ℕ). l ++ m) fr.parts ∙ sym (append_assoc l fr.news fr.olds);
          once = news-once l once new g.small;
          few = small-append l fr.news g.small fr.few;
          room = omega arith;
        }
