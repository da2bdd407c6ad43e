-- What is told of boards, of the items of a state of a valid, accepted graph.
use Rattle.std.proofs.Common.{◌≡◌, ◌+◌, ℕ, zero, suc, List, None, IsTrue, []}
use Rattle.sd_work.specs.Memory.{Memory}
use Rattle.sd_work.specs.Exit.{Values}
use Rattle.sd_work.specs.New.{AreNew, UnfoldNew, IsNew, UnfoldsNew}
use Rattle.sd_work.specs.Step.{Done}
use Rattle.sd_work.specs.Run.{Left, Sequential}
use Rattle.sd_work.specs.WellFormed.{PaysCycles, PayCycles}
use Rattle.sd_confluence.specs.Alike.{AreAlike}
use Rattle.sd_graph.specs.PlainTree.{StateTrees, no_state, and_state, GraphTree, graph}
use Rattle.sd_graph.specs.TreeParts.{items_at}
use Rattle.sd_graph.specs.Context.{Context, own_reach}
use Rattle.sd_graph.specs.Upwards.{LeadsUpwards}
use Rattle.sd_graph.specs.Unfold.{at_state, unfold_items, unfold_state}
use Rattle.sd_graph.proofs.UnfoldedCycles.{run_pays}
use Rattle.sd_graph.proofs.UnfoldedNew.{run_unfolds_new}
use Rattle.sd_mem.specs.mem.Shaped.{Shaped}
use Rattle.sd_validity.proofs.rules_lemmas.UpwardsLemmas.{leads_upwards}
use Rattle.sd_windows.proofs.CutItems.{cut-items}
use Rattle.sd_safe.specs.pieces.ItemPieces.{state_items, state_place, IsStateInPieces}
use Rattle.sd_safe.proofs.pieces_lemmas.StateRuns.{items-may, items-pools, items-done}
use Rattle.sd_board.specs.declared.job.Closed.{Closed}
use Rattle.sd_board.specs.Assignment.{HaveEnds}
use Rattle.sd_board.specs.Boards.{IsClosed}
use Rattle.sd_board.specs.States.{state_assignment, state_run}
use Rattle.sd_board.proofs.Closing.{whole-sequential, not-stopped}
use Rattle.sd_board.proofs.Ends.{items-end}

-- ---- the items of a state

list-pays : (states : StateTrees) (state : ℕ) (context : Context) → PaysCycles (unfold_state states state context) → PayCycles (unfold_items (items_at states state) context)
list-pays no_state state context h = tt
list-pays (and_state items exits states) zero context h = h
list-pays (and_state items exits states) (suc state) context h = list-pays states state context h

list-new : (states : StateTrees) (state : ℕ) (context : Context) → IsNew (unfold_state states state context) → AreNew (unfold_items (items_at states state) context)
list-new no_state state context h = tt
list-new (and_state items exits states) zero context h = h
list-new (and_state items exits states) (suc state) context h = list-new states state context h

list-unfolds : (states : StateTrees) (state : ℕ) (context : Context) → UnfoldsNew (unfold_state states state context) → UnfoldNew (unfold_items (items_at states state) context)
list-unfolds no_state state context h = tt
list-unfolds (and_state items exits states) zero context h = h
list-unfolds (and_state items exits states) (suc state) context h = list-unfolds states state context h

state-pays : (tree : GraphTree) (state : ℕ) (values : Values) (own : Memory) → LeadsUpwards tree → PaysCycles (state_run tree state values own)
state-pays (graph name containers arguments variables symbols states) state values own h =
    let here : Context = at_state containers variables states (own_reach containers) [] state values in
    let pays : PayCycles (unfold_items (items_at states state) here) = list-pays states state here ((run_pays (graph name containers arguments variables symbols states) own h).1 state values) in
    (pays, λ k e. pays, record { rank = λ k. k; bound = 0; rises = λ k e. tt })

state-unfolds : (tree : GraphTree) (state : ℕ) (values : Values) (own : Memory) → UnfoldsNew (state_run tree state values own)
state-unfolds (graph name containers arguments variables symbols states) state values own =
    let here : Context = at_state containers variables states (own_reach containers) [] state values in
    let both = (run_unfolds_new (graph name containers arguments variables symbols states) own).1 state values in
    let is_new : AreNew (unfold_items (items_at states state) here) = list-new states state here both.0 in
    let unfolds : UnfoldNew (unfold_items (items_at states state) here) = list-unfolds states state here both.1 in
    (unfolds, λ k e. (is_new, unfolds))

-- ---- boards

pub state-ends : (tree : GraphTree) (state : ℕ) (values : Values) (counts : ℕ → List ℕ) (opening : Shaped) (budget : ℕ) → IsStateInPieces tree state counts (state_place tree state values)
    → HaveEnds (state_assignment tree state values counts opening budget)
state-ends tree state values counts opening budget s =
    let own : Memory = opening.contents in
    items-end (state_assignment tree state values counts opening budget).work (unfold_items (state_items tree state) (state_place tree state values)) own
    (cut-items (state_items tree state) counts 0 (state_place tree state values) s.all)
    (state-pays tree state values own (leads_upwards tree s.valid.transitions)) (state-unfolds tree state values own)
    (items-may tree state values own s.valid s.normal s.accepted).ordered (items-pools tree state values own)

pub state-whole : (tree : GraphTree) (state : ℕ) (values : Values) (counts : ℕ → List ℕ) (opening : Shaped) (budget : ℕ) (closed : Closed) (left : ℕ)
    → IsStateInPieces tree state counts (state_place tree state values)
    → IsClosed (state_assignment tree state values counts opening budget) closed → IsTrue closed.is_whole
    → (end : Left) × Sequential (state_run tree state values opening.contents) (closed.turns + left) (Done end) × AreAlike closed.memory.contents end.memory × (end.turns ≡ left)
state-whole tree state values counts opening budget closed left s is whole =
    whole-sequential (state_assignment tree state values counts opening budget) closed (unfold_items (state_items tree state) (state_place tree state values)) left is whole
    (cut-items (state_items tree state) counts 0 (state_place tree state values) s.all)
    (items-may tree state values opening.contents s.valid s.normal s.accepted) (items-pools tree state values opening.contents)

pub state-not-stopped : (tree : GraphTree) (state : ℕ) (values : Values) (counts : ℕ → List ℕ) (opening : Shaped) (budget : ℕ) (closed : Closed) (left : Left)
    → IsStateInPieces tree state counts (state_place tree state values)
    → Sequential (state_run tree state values opening.contents) budget (Done left)
    → IsClosed (state_assignment tree state values counts opening budget) closed → closed.stopped ≡ None
state-not-stopped tree state values counts opening budget closed left s run is =
    not-stopped (state_assignment tree state values counts opening budget) closed.history.items (unfold_items (state_items tree state) (state_place tree state values)) left closed.stopped is.stopped
    (items-done tree state values counts opening.contents budget left s run)
