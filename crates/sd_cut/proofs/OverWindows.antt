-- An item over windows is the item.
use Rattle.std.proofs.Common.{◌≡◌, ℕ, List, [], Option, sym, ◌∙◌, ap, subst}
use Rattle.sd_work.specs.Memory.{Memories}
use Rattle.sd_work.specs.Exit.{Values}
use Rattle.sd_work.specs.Residual.{Term}
use Rattle.sd_work.specs.BigStep.{big_step}
use Rattle.sd_pieces.specs.cut.Naming.{AreMemoriesNamed, term_named}
use Rattle.sd_pieces.specs.cut.Merged.{Marking, IsPrepared, MergesTo}
use Rattle.sd_pieces.proofs.cut_lemmas.OnCut.{on-cut}
use Rattle.sd_graph.specs.PlainTree.{KindTree, GraphTree, graph}
use Rattle.sd_graph.specs.TreeParts.{containers_of}
use Rattle.sd_graph.specs.Context.{Reach, own_reach}
use Rattle.sd_graph.specs.Unfold.{unfold_kind}
use Rattle.sd_graph.specs.declared.place.Place.{Place}
use Rattle.sd_windows.specs.NamedContext.{context_named}
use Rattle.sd_windows.proofs.NamedUnfold.{kind-named}
use Rattle.sd_windows.proofs.WindowNumbers.{windows-are-one-to-one, window-reach}
use Rattle.sd_prop.specs.propagation.Accesses.{kind_accesses}
use Rattle.sd_race.specs.cover.Fit.{IsFit}
use Rattle.sd_mem.specs.machine.Coming.{state_context}
use Rattle.sd_cut.specs.declared.window.Window.{Window}
use Rattle.sd_cut.specs.Windowed.{window_at, reach_in, numbers_in, HaveDimensions}
use Rattle.sd_cut.specs.Marked.{AreAccessesMarked}
use Rattle.sd_cut.proofs.Marking.{item-marked, item-numbered}

-- where a whole run's containers are reached through windows
windowed-context : (tree : GraphTree) (ws : List (Option Window)) (state : ℕ) (values : Values) →
    state_context tree (reach_in (containers_of tree) ws) [] state values ≡ context_named (numbers_in (containers_of tree) ws) 0 (state_context tree (own_reach (containers_of tree)) [] state values)
windowed-context (graph name containers arguments variables symbols states) ws state values =
    ap (λ (reach : ℕ → Reach). state_context (graph name containers arguments variables symbols states) reach [] state values) (λ i. λ c. window-reach containers (window_at ws) c i)

-- what the item has to do there is its work by the windows' numbers
windowed-work : (tree : GraphTree) (ws : List (Option Window)) (state : ℕ) (values : Values) (kind : KindTree) (line : ℕ) →
    unfold_kind kind line (state_context tree (reach_in (containers_of tree) ws) [] state values)
    ≡ term_named (numbers_in (containers_of tree) ws) 0 (unfold_kind kind line (state_context tree (own_reach (containers_of tree)) [] state values))
windowed-work tree ws state values kind line =
    ap (unfold_kind kind line) (windowed-context tree ws state values)
    ∙ kind-named kind (numbers_in (containers_of tree) ws) 0 line (state_context tree (own_reach (containers_of tree)) [] state values)

pub over-windows : (tree : GraphTree) (state : ℕ) (values : Values) (kind : KindTree) (line : ℕ) (nodes : List ℕ) (windows : List (Option Window)) (marking : Marking) (memories cut others : Memories) (most turns : ℕ) →
    IsFit kind [] → HaveDimensions (containers_of tree) windows →
    AreAccessesMarked (containers_of tree) values (numbers_in (containers_of tree) windows) marking (kind_accesses kind (containers_of tree) nodes) →
    IsPrepared marking memories others → AreMemoriesNamed (numbers_in (containers_of tree) windows) 0 memories cut →
    MergesTo (numbers_in (containers_of tree) windows) marking others
    (big_step (unfold_kind kind line (state_context tree (reach_in (containers_of tree) windows) [] state values)) most cut turns)
    (big_step (unfold_kind kind line (state_context tree (own_reach (containers_of tree)) [] state values)) most others turns)
over-windows tree state values kind line nodes windows marking memories cut others most turns fit shaped all prepared same =
    let numbers = numbers_in (containers_of tree) windows in
    let work = unfold_kind kind line (state_context tree (own_reach (containers_of tree)) [] state values) in
    subst (λ (t : Term Place). MergesTo numbers marking others (big_step t most cut turns) (big_step work most others turns)) (sym (windowed-work tree windows state values kind line))
    (on-cut numbers marking work most memories cut others turns (windows-are-one-to-one (containers_of tree) (window_at windows) shaped)
    (item-numbered tree state values kind line nodes numbers marking fit all) (item-marked tree state values kind line nodes numbers marking fit all) prepared same)
