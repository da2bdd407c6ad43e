-- A next move of work in which something was let go is that of the work that has kept all.
use Rattle.std.proofs.Common.{◌≡◌, ℕ, suc, ◌+◌, ◌-◌, ◌<◌, ◌≤◌, ℤ, List, [], ◌∷◌, Option, Some, None, Bool, true, false, cond, nat_lt, slice_get, refl, sym, ap, ◌∙◌, subst, arith}
use Rattle.std.proofs.lemmas.Bool.{ltb-true, ltb-false}
use Rattle.sd_work.specs.Memory.{Memory, Memories, waiting}
use Rattle.sd_work.specs.Change.{own_after}
use Rattle.sd_work.specs.Move.{Move, fails, goes, no_move, map_move}
use Rattle.sd_work.specs.Exit.{Values, Exit, first_exit}
use Rattle.sd_work.specs.Residual.{Term, list, owning, nested, pool, Terms, also, Actives, busy, finished, flags_of, is_ready}
use Rattle.sd_work.specs.Moves.{Path}
use Rattle.sd_work.specs.Fire.{owned, transition, and_last, take_move, fire, fire_part, fire_active}
use Rattle.sd_moves.specs.numbered.Counts.{count, count_parts, count_active}
use Rattle.sd_moves.specs.numbered.Places.{here_or_later, place_of, place_in_parts, place_in_active}
use Rattle.sd_moves.proofs.numbered_lemmas.Counted.{count-finished}
use Rattle.sd_core.specs.Released.{IsReleased, same, let_go, in_list, in_owner, in_run, in_pool, AreReleased, no_part, each_part, AreActiveReleased, no_active, each_active}
use Rattle.sd_core.proofs.released_lemmas.Moves.{finished-released}

-- ---- moves that differ in what they leave alone

abbrev pub LeavesSo : {P A : Type 0} → (A → A → Type 0) → (old new : Move P A) → Type 0
LeavesSo IsSo (fails turn fault) new = new ≡ fails turn fault
LeavesSo {P} {A} IsSo (goes turn change left) new = (other : A) × (new ≡ goes turn change other) × IsSo left other
LeavesSo IsSo no_move new = new ≡ no_move

leaves-same : {P A : Type 0} (IsSo : A → A → Type 0) (move : Move P A) → ((left : A) → IsSo left left) → LeavesSo IsSo move move
leaves-same IsSo (fails turn fault) itself = refl
leaves-same IsSo (goes turn change left) itself = (left, refl, itself left)
leaves-same IsSo no_move itself = refl

leaves-mapped : {P A B : Type 0} (IsSo : A → A → Type 0) (IsWhole : B → B → Type 0) (whole others : A → B) (old new : Move P A) → ((left other : A) → IsSo left other → IsWhole (whole left) (others other))
    → LeavesSo IsSo old new → LeavesSo IsWhole (map_move whole old) (map_move others new)
leaves-mapped IsSo IsWhole whole others (fails turn fault) new wholly so = ap (map_move others) so
leaves-mapped IsSo IsWhole whole others (goes turn change left) new wholly so = (others so.0, ap (map_move others) so.1, wholly left so.0 so.2)
leaves-mapped IsSo IsWhole whole others no_move new wholly so = ap (map_move others) so

leaves-owned : {P : Type 0} (whole : Memory → Term P → Term P) (own : Memory) (old new : Move P (Term P)) → ((memory : Memory) (left other : Term P) → IsReleased left other → IsReleased (whole memory left) (whole memory other))
    → LeavesSo IsReleased old new → LeavesSo IsReleased (owned whole own old) (owned whole own new)
leaves-owned whole own (fails turn fault) new wholly so = ap (owned whole own) so
leaves-owned whole own (goes turn change left) new wholly so = (whole (own_after change own) so.0, ap (owned whole own) so.1, wholly (own_after change own) left so.0 so.2)
leaves-owned whole own no_move new wholly so = ap (owned whole own) so

-- ---- takes

last-released : {P : Type 0} {old new : Actives P} (value : ℤ) (part : Term P) → AreActiveReleased old new → AreActiveReleased (and_last old value part) (and_last new value part)
last-released value part no_active = each_active same no_active
last-released value part (each_active first active) = each_active first (last-released value part active)

take-released : {P : Type 0} (level container : ℕ) (body : ℤ → Term P) (old new : Actives P) (closed : Bool) (position : ℕ) (value : Option ℤ) → AreActiveReleased old new
    → LeavesSo IsReleased (take_move level container body old closed position value) (take_move level container body new closed position value)
take-released level container body old new closed position None changed = refl
take-released level container body old new closed position (Some value) changed =
    (pool level container body (and_last new value (body value)) closed, refl, in_pool (last-released value (body value) changed))

-- ---- places

-- a place in parts from this number on: one in a part, whose moves leave so
abbrev LeavePartsSo : {P : Type 0} → (start : ℕ) → (path : Path) → (old new : Terms P) → Memories → Type 0
LeavePartsSo start path old new memories = (number : ℕ) × (inner : Path) × (path ≡ (start + number) ∷ inner) × LeavesSo AreReleased (fire_part old number inner memories) (fire_part new number inner memories)

abbrev LeaveActiveSo : {P : Type 0} → (start : ℕ) → (path : Path) → (old new : Actives P) → Memories → Type 0
LeaveActiveSo start path old new memories = (number : ℕ) × (inner : Path) × (path ≡ (start + number) ∷ inner) × LeavesSo AreActiveReleased (fire_active old number inner memories) (fire_active new number inner memories)

-- a number below a count is one of these, any other one of the later ones
by-count : (IsSo : Path → Type 0) (move counted : ℕ) (here : Path) (later : ℕ → Path) → (move < counted → IsSo here) → (counted ≤ move → IsSo (later (move - counted))) → IsSo (here_or_later move counted here later)
by-count IsSo move counted here later first others = by (nat_lt move counted) refl
  where
    by : (below : Bool) → nat_lt move counted ≡ below → IsSo (here_or_later move counted here later)
    by true is = subst (λ (below : Bool). IsSo (cond below here (later (move - counted)))) (sym is) (first (ltb-true move counted is))
    by false is = subst (λ (below : Bool). IsSo (cond below here (later (move - counted)))) (sym is) (others (ltb-false move counted is))

below-ready : (ready : Bool) (move counted : ℕ) → move < cond ready counted 0 → move < counted
below-ready true move counted below = below
below-ready false move counted below = absurd (omega (arith, below))

-- ---- runs

module _ {P : Type 0} (body : ℕ → Values → Term P) (exits : ℕ → Values → List (Exit P)) (own : Memory) (state : ℕ) (values : Values) (part other : Term P) (memories : Memories) (move : ℕ) where
  abbrev whole : Memory → Term P → Term P
  whole memory left = nested body exits memory state values left

  abbrev moving : (over : Bool) → Term P → Path → Move P (Term P)
  moving over left path = cond over (transition body exits own (first_exit (exits state values) (own ∷ memories))) (owned whole own (fire left path (own ∷ memories)))

  abbrev moving_at : (over : Bool) → Path
  moving_at over = cond over [] (place_of part (own ∷ memories) move)

  abbrev FiresInside : Type 0
  FiresInside = move < count part (own ∷ memories) → LeavesSo IsReleased (fire part (place_of part (own ∷ memories) move) (own ∷ memories)) (fire other (place_of part (own ∷ memories) move) (own ∷ memories))

  moves-so : FiresInside → (over : Bool) → move < cond over 1 (count part (own ∷ memories)) → LeavesSo IsReleased (moving over part (moving_at over)) (moving over other (moving_at over))
  moves-so inner true below = leaves-same IsReleased (transition body exits own (first_exit (exits state values) (own ∷ memories))) (λ left. same)
  moves-so inner false below =
      leaves-owned whole own (fire part (place_of part (own ∷ memories) move) (own ∷ memories)) (fire other (place_of part (own ∷ memories) move) (own ∷ memories)) (λ memory left next so. in_run so) (inner below)

  run-fires : finished other ≡ finished part → FiresInside → move < cond (finished part) 1 (count part (own ∷ memories))
      → LeavesSo IsReleased (moving (finished part) part (moving_at (finished part))) (moving (finished other) other (moving_at (finished part)))
  run-fires still inner below =
      subst (λ (over : Bool). LeavesSo IsReleased (moving (finished part) part (moving_at (finished part))) (moving over other (moving_at (finished part)))) (sym still) (moves-so inner (finished part) below)

mutual
  pub fires-released : {P : Type 0} {old new : Term P} (memories : Memories) (move : ℕ) → IsReleased old new → move < count old memories
      → LeavesSo IsReleased (fire old (place_of old memories move) memories) (fire new (place_of old memories move) memories)
  fires-released {old = old} memories move same below = leaves-same IsReleased (fire old (place_of old memories move) memories) (λ left. same)
  fires-released memories move (let_go {kind} {before} {parts} own memory over closed) below =
      let nothing : count (list kind before parts) (own ∷ memories) ≡ 0 = count-finished (list kind before parts) (own ∷ memories) over in
      absurd (omega (arith, below, nothing))
  fires-released {P} memories move (in_list {kind} {before} {parts} {others} changed) below =
      let found = parts-fire before (flags_of parts) 0 memories move changed below in
      let first : 0 + found.0 ≡ found.0 = omega arith in
      subst (λ (path : Path). LeavesSo IsReleased (fire (list kind before parts) path memories) (fire (list kind before others) path memories)) (sym (found.2 ∙ ap (λ (n : ℕ). n ∷ found.1) first))
      (leaves-mapped AreReleased IsReleased (list kind before) (list kind before) (fire_part parts found.0 found.1 memories) (fire_part others found.0 found.1 memories) (λ left other so. in_list so) found.3)
  fires-released memories move (in_owner {own} {part} {other} changed) below =
      leaves-owned owning own (fire part (place_of part (own ∷ memories) move) (own ∷ memories)) (fire other (place_of part (own ∷ memories) move) (own ∷ memories)) (λ memory left next so. in_owner so)
      (fires-released (own ∷ memories) move changed below)
  fires-released memories move (in_run {body} {exits} {own} {state} {values} {part} {other} changed) below =
      run-fires body exits own state values part other memories move (finished-released changed) (λ inner. fires-released (own ∷ memories) move changed inner) below
  fires-released memories move (in_pool {closed = true} changed) below = absurd (omega (arith, below))
  fires-released {P} memories move (in_pool {level} {container} {body} {closed = false} {active} {others} changed) below =
      by-count (λ (path : Path). LeavesSo IsReleased (fire (pool level container body active false) path memories) (fire (pool level container body others false) path memories)) move (count_active active memories)
      (1 ∷ place_in_active 0 active memories move) (λ position. 0 ∷ position ∷ [])
      (λ here.
      let found = active-fire 0 memories move changed here in
      let first : 0 + found.0 ≡ found.0 = omega arith in
      subst (λ (path : Path). LeavesSo IsReleased (fire (pool level container body active false) (1 ∷ path) memories) (fire (pool level container body others false) (1 ∷ path) memories)) (sym (found.2 ∙ ap (λ (n : ℕ). n ∷ found.1) first))
      (leaves-mapped AreActiveReleased IsReleased (λ left. pool level container body left false) (λ left. pool level container body left false) (fire_active active found.0 found.1 memories) (fire_active others found.0 found.1 memories)
      (λ left other so. in_pool so) found.3))
      (λ behind. take-released level container body active others false (move - count_active active memories) (slice_get (waiting level container memories) (move - count_active active memories)) changed)

  parts-fire : {P : Type 0} {old new : Terms P} (before : ℕ → ℕ → Bool) (flags : List Bool) (start : ℕ) (memories : Memories) (move : ℕ) → AreReleased old new → move < count_parts before flags start old memories
      → LeavePartsSo start (place_in_parts before flags start old memories move) old new memories
  parts-fire before flags start memories move no_part below = absurd (omega (arith, below))
  parts-fire before flags start memories move (each_part {part} {other} {parts} {others} changed rest) below =
      let few = cond (is_ready before flags start) (count part memories) 0 in
      by-count (λ (path : Path). LeavePartsSo start path (also part parts) (also other others) memories) move few (start ∷ place_of part memories move) (place_in_parts before flags (suc start) parts memories)
      (λ here.
      let first : start ≡ start + 0 = omega arith in
      let inner = place_of part memories move in (
        0,
        inner,
        ap (λ (n : ℕ). n ∷ inner) first,
        leaves-mapped IsReleased AreReleased (λ left. also left parts) (λ left. also left others) (fire part inner memories) (fire other inner memories) (λ left next so. each_part so rest)
            (fires-released memories move changed (below-ready (is_ready before flags start) move (count part memories) here)),
      ))
      (λ behind.
      let found = parts-fire before flags (suc start) memories (move - few) rest (omega (arith, below, behind)) in
      let next : suc start + found.0 ≡ start + suc found.0 = omega arith in (
        suc found.0,
        found.1,
        found.2 ∙ ap (λ (n : ℕ). n ∷ found.1) next,
        leaves-mapped AreReleased AreReleased (also part) (also other) (fire_part parts found.0 found.1 memories) (fire_part others found.0 found.1 memories) (λ left others so. each_part changed so) found.3,
      ))

  active-fire : {P : Type 0} {old new : Actives P} (start : ℕ) (memories : Memories) (move : ℕ) → AreActiveReleased old new → move < count_active old memories
      → LeaveActiveSo start (place_in_active start old memories move) old new memories
  active-fire start memories move no_active below = absurd (omega (arith, below))
  active-fire start memories move (each_active {value} {part} {other} {active} {others} changed rest) below =
      let few = count part memories in
      by-count (λ (path : Path). LeaveActiveSo start path (busy value part active) (busy value other others) memories) move few (start ∷ place_of part memories move) (place_in_active (suc start) active memories)
      (λ here.
      let first : start ≡ start + 0 = omega arith in
      let inner = place_of part memories move in (
        0,
        inner,
        ap (λ (n : ℕ). n ∷ inner) first,
        leaves-mapped IsReleased AreActiveReleased (λ left. busy value left active) (λ left. busy value left others) (fire part inner memories) (fire other inner memories) (λ left next so. each_active so rest)
            (fires-released memories move changed here),
      ))
      (λ behind.
      let found = active-fire (suc start) memories (move - few) rest (omega (arith, below, behind)) in
      let next : suc start + found.0 ≡ start + suc found.0 = omega arith in (
        suc found.0,
        found.1,
        found.2 ∙ ap (λ (n : ℕ). n ∷ found.1) next,
        leaves-mapped AreActiveReleased AreActiveReleased (busy value part) (busy value other) (fire_active active found.0 found.1 memories) (fire_active others found.0 found.1 memories) (λ left others so. each_active changed so) found.3,
      ))
