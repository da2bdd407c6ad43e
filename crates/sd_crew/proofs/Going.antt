-- A run of a graph by workers, one state after another.
use Rattle.std.proofs.Common.{◌≡◌, ◌⊎◌, inl, inr, ℕ, zero, suc, ◌+◌, ◌-◌, ◌^◌, ◌<◌, ◌≤◌, List, [], ◌∷◌, Option, Some, None, Result, Ok, Err, Bool, true, false, IsTrue, refl, sym, ◌∙◌, ap, subst, arith, append-nil, pos, replicate, length, String, string_bytes, Vec, vec_len}
use Rattle.std.specs.declared.alloc.Global.{Global}
use Rattle.std.specs.Option.{is_some}
use Rattle.sd_work.specs.Memory.{Memory, Memories}
use Rattle.sd_work.specs.Move.{Fault}
use Rattle.sd_work.specs.Exit.{Values, Exit, first_exit}
use Rattle.sd_work.specs.Residual.{Items, Term, list}
use Rattle.sd_work.specs.Step.{Done}
use Rattle.sd_work.specs.Run.{Left, Sequential}
use Rattle.sd_work.specs.BigStep.{big_step, big_parts}
use Rattle.sd_work.proofs.Outcomes.{Run-unique}
use Rattle.sd_confluence.specs.Alike.{AreAlike}
use Rattle.sd_graph.specs.PlainTree.{StateTrees, no_state, and_state, GraphTree, graph}
use Rattle.sd_graph.specs.TreeParts.{containers_of, items_at}
use Rattle.sd_graph.specs.Wiring.{before}
use Rattle.sd_graph.specs.Context.{Context, own_reach}
use Rattle.sd_graph.specs.Unfold.{at_state, unfold_items, unfold_state, run_of}
use Rattle.sd_graph.specs.declared.place.Place.{Place}
use Rattle.sd_graph.specs.TreeFold.{graph_tree}
use Rattle.sd_graph.specs.declared.graph.Sdfg.{Sdfg}
use Rattle.sd_graph.specs.declared.graph.ItemKind.TheViews.{out-Sdfg}
use Rattle.sd_graph.proofs.TreeLemmas.{graph_opened}
use Rattle.sd_graph.proofs.UnfoldedOrder.{run_is_ordered}
use Rattle.sd_graph.proofs.UnfoldedNew.{run_unfolds_new}
use Rattle.sd_graph.proofs.UnfoldedCycles.{run_pays}
use Rattle.sd_graph.proofs.UnfoldedPools.{run_has_ordered_pools}
use Rattle.sd_race.specs.race.Pairs.{IsGraphAccepted}
use Rattle.sd_validity.specs.rules.Valid.{IsValid}
use Rattle.sd_safe.specs.normal.NormalForm.{IsGraphNormal}
use Rattle.sd_validity.proofs.rules_lemmas.UpwardsLemmas.{leads_upwards}
use Rattle.sd_mem.specs.mem.Shaped.{Shaped}
use Rattle.sd_mem.specs.machine.Coming.{state_term, exits_of, variable_count}
use Rattle.sd_safe.specs.pieces.ItemPieces.{state_items, state_place, IsStateInPieces}
use Rattle.sd_safe.proofs.pieces_lemmas.StateRuns.{items-may, items-pools, items-done}
use Rattle.sd_part.specs.Follow.{following, values_following, through, values_through}
use Rattle.sd_part.specs.declared.kept.Kept.{Kept}
use Rattle.sd_part.specs.declared.kept.Kept.TheVariants.{Turns}
use Rattle.sd_part.specs.declared.transition.Followed.{Followed}
use Rattle.sd_part.specs.declared.transition.Followed.TheVariants as ways
use Rattle.sd_part.specs.Whole.{IsOfWidths}
use Rattle.sd_board.specs.declared.job.Closed.{Closed}
use Rattle.sd_board.specs.Boards.{IsClosed}
use Rattle.sd_board.specs.States.{state_assignment, state_run}
use Rattle.sd_board.proofs.States.{state-whole, state-not-stopped}
use Rattle.sd_board.proofs.Closing.{not-stopped}
use Rattle.sd_crew.specs.Stand.{run_from}
use Rattle.sd_crew.specs.Ends.{IsDoneWith}
use Rattle.sd_crew.specs.Going.{Stands}
use Rattle.sd_crew.proofs.Alike.{alike-same, alike-back, alike-on, exit-alike, from-alike}
use Rattle.sd_crew.proofs.Works.{as-many}
use Rattle.sd_crew.proofs.Stages.{AllEnd, IsState, Paid, total, stage-end, stage-fault, stage-spent, stage-on, stage-done}

-- ---- graphs

abbrev body_of : GraphTree → ℕ → Values → Term Place
body_of tree = state_term tree (own_reach (containers_of tree)) []

abbrev ways_of : GraphTree → ℕ → Values → List (Exit Place)
ways_of tree = exits_of tree (own_reach (containers_of tree)) []

all-end : (tree : GraphTree) → IsValid tree → AllEnd (body_of tree) (ways_of tree)
all-end (graph name containers arguments variables symbols states) valid =
    let tree = graph name containers arguments variables symbols states in
    record {
      ordered = λ state values own. let r = run_is_ordered tree own in (r.1 state values, r.1);
      pools = λ state values own. let r = run_has_ordered_pools tree own in (r.1 state values, r.1);
      pays = λ state values own. let r = run_pays tree own (leads_upwards tree valid.transitions) in (r.1 state values, r.1, r.2);
      new = λ state values own. let r = run_unfolds_new tree own in ((r.1 state values).1, r.1);
    }

-- what the items of a state do, as its run alone does them
abbrev items_term : GraphTree → ℕ → Values → Term Place
items_term tree state values = list Items (before (state_place tree state values).containers (state_items tree state)) (unfold_items (state_items tree state) (state_place tree state values))

items-same : (states : StateTrees) (state : ℕ) (context : Context) (most : ℕ) (memories : Memories) (turns : ℕ) →
    big_step (unfold_state states state context) most memories turns ≡ big_parts (unfold_items (items_at states state) context) most memories turns
items-same no_state state context most memories turns = refl
items-same (and_state items exits states) zero context most memories turns = refl
items-same (and_state items exits states) (suc state) context most memories turns = items-same states state context most memories turns

term-same : (tree : GraphTree) (state : ℕ) (values : Values) (most : ℕ) (memories : Memories) (turns : ℕ) →
    big_step (body_of tree state values) most memories turns ≡ big_step (items_term tree state values) most memories turns
term-same (graph name containers arguments variables symbols states) state values most memories turns =
    items-same states state (at_state containers variables states (own_reach containers) [] state values) most memories turns

is-state : (tree : GraphTree) (state : ℕ) (values : Values) → IsValid tree → IsGraphNormal tree → IsGraphAccepted tree → IsState (body_of tree state values) (items_term tree state values)
is-state tree state values valid normal accepted = record {
  same = term-same tree state values;
  ordered = λ own. (items-may tree state values own valid normal accepted).ordered;
  pools = λ own. items-pools tree state values own;
}

-- ---- where a run stands

abbrev zeros : GraphTree → Values
zeros tree = replicate (variable_count tree) (pos 0)

-- the values with which code begins
pub values-begin : (g : Sdfg) (values : Values) → values ≡ replicate (length (out-Sdfg g).variables.items) (pos 0) → values ≡ zeros (graph_tree g)
values-begin g values is =
    let counted : variable_count (graph_tree g) ≡ length (out-Sdfg g).variables.items = ap variable_count (graph_opened g) ∙ as-many string_bytes (out-Sdfg g).variables.items in
    is ∙ ap (λ (count : ℕ). replicate count (pos 0)) (sym counted)

begins-as : (tree : GraphTree) (own : Memory) → run_from tree 0 (zeros tree) own ≡ run_of tree own
begins-as (graph name containers arguments variables symbols states) own = refl

pub stands-first : (tree : GraphTree) (opening : Shaped) (turns : ℕ) (values : Values) → values ≡ zeros tree → IsOfWidths opening → turns ≤ 2 ^ 40 → Stands tree opening turns 0 values opening turns
stands-first tree opening turns values are widths few = record {
  own = opening.contents;
  alike = alike-same opening.contents;
  forth = λ outcome run. subst (λ term. Sequential term turns outcome) (ap (λ v. run_from tree 0 v opening.contents) are ∙ begins-as tree opening.contents) run;
  shapes = refl;
  widths = widths;
  few = few;
}

-- the state's own run, from the memory of the sequential run
record Reached (tree : GraphTree) (state : ℕ) (values : Values) (own : Memory) (turns : ℕ) (memory : Memory) (left : ℕ) : Type 0 where
  pub mid : Left
  pub run : Sequential (state_run tree state values own) turns (Done mid)
  pub alike : AreAlike memory mid.memory
  pub left_is : mid.turns ≡ left

reached : (tree : GraphTree) (state : ℕ) (values : Values) (counts : ℕ → List ℕ) (memory : Shaped) (turns : ℕ) (own : Memory) (closed : Closed) (left : ℕ) → IsStateInPieces tree state counts (state_place tree state values) →
    AreAlike memory.contents own → IsClosed (state_assignment tree state values counts memory turns) closed → IsTrue closed.is_whole → turns ≡ closed.turns + left → Reached tree state values own turns closed.memory.contents left
reached tree state values counts memory turns own closed left s alike is whole sum =
    let w = state-whole tree state values counts memory turns closed left s is whole in
    let may = λ (m : Memory). items-may tree state values m s.valid s.normal s.accepted in
    let f =
    from-alike (before (state_place tree state values).containers (state_items tree state)) (unfold_items (state_items tree state) (state_place tree state values)) memory.contents own turns w.0
    (may memory.contents) (may own) alike (subst (λ n. Sequential (state_run tree state values memory.contents) n (Done w.0)) (sym sum) w.1) in
    record { mid = f.0; run = f.1; alike = alike-on closed.memory.contents w.0.memory f.0.memory w.2 f.2.memory; left_is = sym f.2.turns ∙ w.3 }

-- the sequential run from a memory like this one is done where the whole run is
still-done : (tree : GraphTree) (opening : Shaped) (turns : ℕ) (state : ℕ) (values : Values) (memory : Shaped) (left : ℕ) (end : Left) → IsValid tree → (s : Stands tree opening turns state values memory left) →
    Sequential (run_of tree opening.contents) turns (Done end) → Sequential (run_from tree state values s.own) left (Done end)
still-done tree opening turns state values memory left end valid s whole =
    let t = total (body_of tree) (ways_of tree) (all-end tree valid) state values s.own left in
    let same : t.0 ≡ Done end = Run-unique (run_of tree opening.contents) turns [] t.0 (Done end) (s.forth t.0 t.1) whole in
    subst (Sequential (run_from tree state values s.own) left) same t.1

-- ---- how a state is left

-- the choice of the exit, from what the board left
abbrev choice_at : GraphTree → ℕ → Values → Shaped → Result (Option (Exit Place)) (Fault Place)
choice_at tree state values memory = first_exit (ways_of tree state values) (memory.contents ∷ [])

module _ (tree : GraphTree) (opening : Shaped) (turns : ℕ) (state : ℕ) (values : Values) (memory : Shaped) (budget : ℕ) (counts : ℕ → List ℕ) (closed : Closed)
    (s : IsStateInPieces tree state counts (state_place tree state values)) (stands : Stands tree opening turns state values memory budget)
    (is : IsClosed (state_assignment tree state values counts memory budget) closed) where
  like-own : IsState (body_of tree state values) (items_term tree state values)
  like-own = is-state tree state values s.valid s.normal s.accepted

  -- through an exit
  pub goes-on : (left next : ℕ) (exit : Exit Place) → IsTrue closed.is_whole → budget ≡ closed.turns + left → choice_at tree state values closed.memory ≡ Ok (Some exit) → Paid exit.marked left next →
      Stands tree opening turns exit.state exit.values closed.memory next
  goes-on left next exit whole sum taken paid =
      let r = reached tree state values counts memory budget stands.own closed left s stands.alike is whole sum in
      let also_taken : first_exit (ways_of tree state values) (r.mid.memory ∷ []) ≡ Ok (Some exit) = sym (exit-alike (ways_of tree state values) closed.memory.contents r.mid.memory r.alike) ∙ taken in
      let also_paid : Paid exit.marked r.mid.turns next = subst (λ n. Paid exit.marked n next) (sym r.left_is) paid in
      record {
        own = r.mid.memory;
        alike = r.alike;
        forth = λ outcome run.
            stands.forth outcome
            (stage-on (body_of tree) (ways_of tree) (all-end tree s.valid) state values stands.own budget (items_term tree state values) r.mid exit next outcome like-own r.run also_taken also_paid run);
        shapes = is.memory.shape.0 ∙ stands.shapes;
        widths = (is.memory.elements, is.memory.values);
        few = at-most exit.marked next paid;
      }
    where
      at-most : (marked : Bool) (next : ℕ) → Paid marked left next → next ≤ 2 ^ 40
      at-most true next p = let up = stands.few in omega (arith, p, up, sum)
      at-most false next p = let up = stands.few in omega (arith, p, up, sum)

  -- where no exit is taken
  pub goes-out : (left : ℕ) → IsTrue closed.is_whole → budget ≡ closed.turns + left → choice_at tree state values closed.memory ≡ Ok None → IsDoneWith tree opening turns closed.memory left
  goes-out left whole sum none =
      let r = reached tree state values counts memory budget stands.own closed left s stands.alike is whole sum in
      let also_none : first_exit (ways_of tree state values) (r.mid.memory ∷ []) ≡ Ok None = sym (exit-alike (ways_of tree state values) closed.memory.contents r.mid.memory r.alike) ∙ none in
      record {
        end = r.mid;
        sequential = stands.forth (Done r.mid) (stage-end (body_of tree) (ways_of tree) (all-end tree s.valid) state values stands.own budget (items_term tree state values) r.mid like-own r.run also_none);
        alike = r.alike;
        turns_left = sym r.left_is;
        shapes = is.memory.shape.0 ∙ stands.shapes;
      }

  -- where a condition comes to a fault
  pub goes-wrong : (left : ℕ) (fault : Fault Place) (end : Left) → IsTrue closed.is_whole → budget ≡ closed.turns + left → choice_at tree state values closed.memory ≡ Err fault → Sequential (run_of tree opening.contents) turns (Done end) → ⊥
  goes-wrong left fault end whole sum bad done =
      let r = reached tree state values counts memory budget stands.own closed left s stands.alike is whole sum in
      let also_bad : first_exit (ways_of tree state values) (r.mid.memory ∷ []) ≡ Err fault = sym (exit-alike (ways_of tree state values) closed.memory.contents r.mid.memory r.alike) ∙ bad in
      stage-fault (body_of tree) (ways_of tree) (all-end tree s.valid) state values stands.own budget (items_term tree state values) r.mid end fault like-own r.run also_bad
      (still-done tree opening turns state values memory budget end s.valid stands done)

  -- where a turn is wanted and none is left
  pub goes-spent : (left : ℕ) (exit : Exit Place) (end : Left) → IsTrue closed.is_whole → budget ≡ closed.turns + left → choice_at tree state values closed.memory ≡ Ok (Some exit) → exit.marked ≡ true → left ≡ 0 →
      Sequential (run_of tree opening.contents) turns (Done end) → ⊥
  goes-spent left exit end whole sum taken marked none done =
      let r = reached tree state values counts memory budget stands.own closed left s stands.alike is whole sum in
      let also_taken : first_exit (ways_of tree state values) (r.mid.memory ∷ []) ≡ Ok (Some exit) = sym (exit-alike (ways_of tree state values) closed.memory.contents r.mid.memory r.alike) ∙ taken in
      stage-spent (body_of tree) (ways_of tree) (all-end tree s.valid) state values stands.own budget (items_term tree state values) r.mid end exit like-own r.run also_taken marked (r.left_is ∙ none)
      (still-done tree opening turns state values memory budget end s.valid stands done)

  -- the state's own run is done where the whole run is
  state-is-done : (end : Left) → Sequential (run_of tree opening.contents) turns (Done end) → (mid : Left) × Sequential (state_run tree state values memory.contents) budget (Done mid)
  state-is-done end done =
      let d = stage-done (body_of tree) (ways_of tree) (all-end tree s.valid) state values stands.own budget (items_term tree state values) end like-own (still-done tree opening turns state values memory budget end s.valid stands done) in
      let may = λ (m : Memory). items-may tree state values m s.valid s.normal s.accepted in
      let f =
      from-alike (before (state_place tree state values).containers (state_items tree state)) (unfold_items (state_items tree state) (state_place tree state values)) stands.own memory.contents budget d.0
      (may stands.own) (may memory.contents) (alike-back memory.contents stands.own stands.alike) d.1 in
      (f.0, f.1)

  some-none : (kept : Kept) → Some kept ≡ None → ⊥
  some-none kept e = cc

  -- where the board was stopped
  pub goes-stopped : (kept : Kept) (end : Left) → closed.stopped ≡ Some kept → Sequential (run_of tree opening.contents) turns (Done end) → ⊥
  goes-stopped kept end stopped done =
      let d = state-is-done end done in
      some-none kept (sym stopped ∙ state-not-stopped tree state values counts memory budget closed d.0 s d.1 is)

  -- where it has more turns than there were
  pub goes-over : (end : Left) → budget < closed.turns → Sequential (run_of tree opening.contents) turns (Done end) → ⊥
  goes-over end over done =
      let d = state-is-done end done in
      some-none (Turns closed.turns)
      (not-stopped (state_assignment tree state values counts memory budget) closed.history.items (unfold_items (state_items tree state) (state_place tree state values)) d.0 (Some (Turns closed.turns))
      (over, inr (record { earlier = closed.history.items; later = []; is_beginning = sym (append-nil closed.history.items); memories = closed.memory.contents ∷ []; done = is.done }))
      (items-done tree state values counts memory.contents budget d.0 s d.1))

-- what stopped a board that was stopped
pub some-of : (stopped : Option Kept) → true ≡ is_some stopped → (kept : Kept) × (stopped ≡ Some kept)
some-of None e = cc
some-of (Some kept) e = (kept, refl)

pub many : (names : Vec (String Global) Global) → vec_len names ≡ length names.items
many names = omega (arith, names.ok)

-- ---- the choice that `follow` tells

abbrev to_of : Followed → ℕ
to_of (ways.To state paid) = state
to_of ways.End = 0
to_of (ways.Stopped kept) = 0

abbrev paid_of : Followed → ℕ
paid_of (ways.To state paid) = paid
paid_of ways.End = 0
paid_of (ways.Stopped kept) = 0

one-more-left : (n paid : ℕ) → 1 ≡ paid → suc n ≡ paid + n
one-more-left n paid e = omega (arith, e)

none-more-left : (n paid : ℕ) → 0 ≡ paid → n ≡ paid + n
none-more-left n paid e = omega (arith, e)

-- what is told of a way on
pub record Onward (choice : Result (Option (Exit Place)) (Fault Place)) (turns : ℕ) (old : Values) (state paid : ℕ) : Type 0 where
  pub exit : Exit Place
  pub taken : choice ≡ Ok (Some exit)
  pub to : exit.state ≡ state
  pub values : values_following choice turns old ≡ exit.values
  pub next : ℕ
  pub pays : Paid exit.marked turns next
  pub left : turns ≡ paid + next

-- so it is where the choice is followed to a state
pub followed-to : (choice : Result (Option (Exit Place)) (Fault Place)) (turns : ℕ) (old : Values) (state paid : ℕ) → following choice turns ≡ ways.To state paid → Onward choice turns old state paid
followed-to (Err fault) turns old state paid is = cc
followed-to (Ok None) turns old state paid is = cc
followed-to (Ok (Some exit)) turns old state paid is = go exit.marked turns refl is
  where
    go : (marked : Bool) (turns : ℕ) → exit.marked ≡ marked → through marked exit.state turns ≡ ways.To state paid → Onward (Ok (Some exit)) turns old state paid
    go true zero m is = cc
    go true (suc n) m is = record {
      exit = exit;
      taken = refl;
      to = ap to_of is;
      values = ap (λ b. values_through b exit.values (suc n) old) m;
      next = n;
      pays = subst (λ b. Paid b (suc n) n) (sym m) refl;
      left = one-more-left n paid (ap paid_of is);
    }
    go false turns m is = record {
      exit = exit;
      taken = refl;
      to = ap to_of is;
      values = ap (λ b. values_through b exit.values turns old) m;
      next = turns;
      pays = subst (λ b. Paid b turns turns) (sym m) refl;
      left = none-more-left turns paid (ap paid_of is);
    }

pub followed-out : (choice : Result (Option (Exit Place)) (Fault Place)) (turns : ℕ) → following choice turns ≡ ways.End → choice ≡ Ok None
followed-out (Err fault) turns is = cc
followed-out (Ok None) turns is = refl
followed-out (Ok (Some exit)) turns is = elim (never exit.marked turns is) [ ]
  where
    never : (marked : Bool) (turns : ℕ) → through marked exit.state turns ≡ ways.End → ⊥
    never true zero is = cc
    never true (suc n) is = cc
    never false turns is = cc

-- a way that is stopped: a fault, or a turn that was wanted when none was left
pub followed-stopped : (choice : Result (Option (Exit Place)) (Fault Place)) (turns : ℕ) (kept : Kept) → following choice turns ≡ ways.Stopped kept →
    ((fault : Fault Place) × (choice ≡ Err fault)) ⊎ ((exit : Exit Place) × (choice ≡ Ok (Some exit)) × (exit.marked ≡ true) × (turns ≡ 0))
followed-stopped (Err fault) turns kept is = inl (fault, refl)
followed-stopped (Ok None) turns kept is = cc
followed-stopped (Ok (Some exit)) turns kept is = let wants = none-left exit.marked turns refl is in inr (exit, refl, wants.0, wants.1)
  where
    none-left : (marked : Bool) (n : ℕ) → exit.marked ≡ marked → through marked exit.state n ≡ ways.Stopped kept → (exit.marked ≡ true) × (n ≡ 0)
    none-left true zero m is = (m, refl)
    none-left true (suc n) m is = cc
    none-left false n m is = cc

-- ---- what is told behind a state

module _ (tree : GraphTree) (opening : Shaped) (turns : ℕ) (state : ℕ) (values : Values) (memory : Shaped) (budget : ℕ) (counts : ℕ → List ℕ) (closed : Closed)
    (s : IsStateInPieces tree state counts (state_place tree state values)) (stands : Stands tree opening turns state values memory budget)
    (is : IsClosed (state_assignment tree state values counts memory budget) closed) (left : ℕ) (whole : IsTrue closed.is_whole) (sum : budget ≡ closed.turns + left) where
  -- it goes on at a state
  pub left-to : (next paid : ℕ) (later : Values) (after : Shaped) (rest : ℕ) → following (choice_at tree state values closed.memory) left ≡ ways.To next paid →
      later ≡ values_following (choice_at tree state values closed.memory) left values → after ≡ closed.memory → rest ≡ left - paid → Stands tree opening turns next later after rest
  left-to next paid later after rest follows are same less =
      let on = followed-to (choice_at tree state values closed.memory) left values next paid follows in
      let goes = goes-on tree opening turns state values memory budget counts closed s stands is left on.next on.exit whole sum on.taken on.pays in
      let count : on.next ≡ rest = (let e = on.left in omega (arith, e, less)) in
      subst (λ n. Stands tree opening turns n later after rest) on.to
      (subst (λ (v : Values). Stands tree opening turns on.exit.state v after rest) (sym (are ∙ on.values))
      (subst (λ (m : Shaped). Stands tree opening turns on.exit.state on.exit.values m rest) (sym same)
      (subst (λ n. Stands tree opening turns on.exit.state on.exit.values closed.memory n) count goes)))

  -- it has ended
  pub left-out : (after : Shaped) → following (choice_at tree state values closed.memory) left ≡ ways.End → after ≡ closed.memory → IsDoneWith tree opening turns after left
  left-out after follows same =
      subst (λ (m : Shaped). IsDoneWith tree opening turns m left) (sym same)
      (goes-out tree opening turns state values memory budget counts closed s stands is left whole sum (followed-out (choice_at tree state values closed.memory) left follows))

  -- it is stopped
  pub left-stopped : (kept : Kept) (end : Left) → following (choice_at tree state values closed.memory) left ≡ ways.Stopped kept → Sequential (run_of tree opening.contents) turns (Done end) → ⊥
  left-stopped kept end follows done = elim (followed-stopped (choice_at tree state values closed.memory) left kept follows) [
    | inl bad ↦ goes-wrong tree opening turns state values memory budget counts closed s stands is left bad.0 end whole sum bad.1 done
    | inr wants ↦ goes-spent tree opening turns state values memory budget counts closed s stands is left wants.0 end whole sum wants.1 wants.2 wants.3 done
  ]
