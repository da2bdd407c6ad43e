-- Items over a memory of their own, states and runs that begin.
use Rattle.std.proofs.Common.{◌≡◌, ℕ, zero, suc, ◌<◌, ◌≤◌, ℤ, pos, List, [], ◌∷◌, map, length, drop, get_or, replicate, Bool, true, false, refl, sym, ap, ap₂, ◌∙◌, subst, arith, String, string_bytes, Vec, vec_len}
use Rattle.std.specs.declared.alloc.Global.{Global}
use Rattle.std.proofs.lemmas.List.{length-map}
use Rattle.sd_range.specs.declared.range.Range.{Range}
use Rattle.sd_work.specs.Memory.{Memory, Memories}
use Rattle.sd_work.specs.Change.{innermost}
use Rattle.sd_work.specs.Exit.{Values}
use Rattle.sd_work.specs.BigStep.{Reached}
use Rattle.sd_work.specs.Residual.{list, Items}
use Rattle.sd_graph.specs.PlainTree.{ItemTrees, no_item, StateTrees, GraphTree}
use Rattle.sd_graph.specs.ContainerParts.{Containers}
use Rattle.sd_graph.specs.TreeParts.{containers_of, states_of_graph, items_at}
use Rattle.sd_graph.specs.TreeFold.{PlainState, graph_tree, item_trees, state_tree, state_trees, named_container}
use Rattle.sd_graph.specs.Wiring.{before}
use Rattle.sd_graph.specs.Context.{Reach, Context, private_memory}
use Rattle.sd_graph.specs.Unfold.{at_point, unfold_graph}
use Rattle.sd_graph.specs.declared.place.Frame.{Frame}
use Rattle.sd_graph.specs.declared.graph.State.{State}
use Rattle.sd_graph.specs.declared.graph.Sdfg.{Sdfg}
use Rattle.sd_graph.specs.declared.graph.ItemKind.TheViews.{out-State, out-Sdfg}
use Rattle.sd_graph.proofs.TreeLemmas.{state_opened, graph_opened}
use Rattle.sd_mem.specs.machine.Coming.{state_context, variable_count}
use Rattle.sd_left.specs.tree.Begun.{AreBegun, IsPointBegun, zeros}
use Rattle.sd_left.specs.tree.Standing.{ItemLeft, BodyLeft, RunLeft, run_left}
use Rattle.sd_left.proofs.tree_lemmas.Begins.{items-begin, state-begins, run-begins}
use Rattle.sd_fire.specs.begin.Begun.{IsBodyBegun}

-- ---- memories

-- a memory that was lent is given back as it was
pub given-back : (own given : Memory) (old lent same : Reached) → lent.memories ≡ own ∷ old.memories → same ≡ lent → given ≡ innermost same.memories → given ≡ own
given-back own given old lent same entered stays back = back ∙ ap innermost (ap (λ (now : Reached). now.memories) stays ∙ entered)

-- and the others stay
pub left-behind : (own : Memory) (old lent same new : Reached) → lent.memories ≡ own ∷ old.memories → lent.turns ≡ old.turns → same ≡ lent →
    new.memories ≡ drop 1 same.memories → new.turns ≡ same.turns → new ≡ old
left-behind own old lent same new entered paid stays dropped kept =
    let memories : new.memories ≡ old.memories = dropped ∙ ap (drop 1) (ap (λ (now : Reached). now.memories) stays ∙ entered) in
    let turns : new.turns ≡ old.turns = kept ∙ ap (λ (now : Reached). now.turns) stays ∙ paid in
    (λ i. record { memories = memories i; turns = turns i })

-- ---- bodies

pub containers_in : (g : Sdfg) → map named_container (out-Sdfg g).containers.entries ≡ containers_of (graph_tree g)
containers_in g = sym (ap containers_of (graph_opened g))

pub body-begins : (items : ItemTrees) (context : Context) (containers : Containers) (at : List ℤ) (own given : Memory) (order : ℕ → ℕ → Bool) (parts : List ItemLeft) (body : BodyLeft) →
    body ≡ record { at = at; own = given; order = order; parts = parts } → containers ≡ context.containers → given ≡ own → order ≡ before containers items → AreBegun parts items context →
    IsBodyBegun items context at own body
body-begins items context containers at own given order parts body kept same same_own ordered begun =
    subst (λ (left : BodyLeft). IsBodyBegun items context at own left) (sym kept) (record {
      at = refl;
      own = same_own;
      begun = ap₂ (list Items) (ordered ∙ ap (λ (all : Containers). before all items) same) (items-begin parts items context begun);
    })

pub body-counted : (told : Memories → Bool) (memories : Memories) (own given : Memory) (held : Bool) → given ≡ own → held ≡ told (given ∷ memories) → told (own ∷ memories) ≡ true → held ≡ true
body-counted told memories own given held same counted inside = counted ∙ ap (λ (memory : Memory). told (memory ∷ memories)) same ∙ inside

-- at a point of a map
pub point-begins : (params : List (ℕ × Range)) (private : List ℕ) (items : ItemTrees) (context inside : Context) (containers : Containers) (point at : List ℤ) (own : Memory) (body : BodyLeft) →
    inside ≡ at_point context params private point → containers ≡ context.containers → at ≡ point → own ≡ private_memory containers private →
    IsBodyBegun items inside at own body → IsPointBegun params private items context point body
point-begins params private items context inside containers point at own body same same_containers same_at same_own begun = record {
  at = begun.at ∙ same_at;
  own = begun.own ∙ same_own ∙ ap (λ (all : Containers). private_memory all private) same_containers;
  begun = (subst (λ (there : Context). IsBodyBegun items there at own body) same begun).begun;
}

-- ---- states

items_in : (states : List State) (state : ℕ) (here : State) → state < length states → here ≡ get_or states state here → items_at (state_trees states) state ≡ item_trees (out-State here).items.items
items_in [] state here within is = absurd (omega (arith, within))
items_in (first ∷ states) zero here within is = ap (λ (s : State). (state_tree s).0) (sym is) ∙ ap (λ (s : PlainState). s.0) (state_opened here)
items_in (first ∷ states) (suc state) here within is = items_in states state here (omega (arith, within)) is

items_past : (states : List State) (state : ℕ) → length states ≤ state → items_at (state_trees states) state ≡ no_item
items_past [] state past = refl
items_past (first ∷ states) zero past = absurd (omega (arith, past))
items_past (first ∷ states) (suc state) past = items_past states state (omega (arith, past))

states_in : (g : Sdfg) → states_of_graph (graph_tree g) ≡ state_trees (out-Sdfg g).states.items
states_in g = ap states_of_graph (graph_opened g)

pub items_here : (g : Sdfg) (states : List State) (state : ℕ) (here : State) (items : ItemTrees) → states ≡ (out-Sdfg g).states.items → state < length states → here ≡ get_or states state here →
    items ≡ item_trees (out-State here).items.items → items ≡ items_at (states_of_graph (graph_tree g)) state
items_here g states state here items same within is these =
    these ∙ sym (items_in states state here within is) ∙ ap (λ (s : StateTrees). items_at s state) (ap state_trees same ∙ sym (states_in g))

pub nothing_here : (g : Sdfg) (states : List State) (state : ℕ) → states ≡ (out-Sdfg g).states.items → length states ≤ state → no_item ≡ items_at (states_of_graph (graph_tree g)) state
nothing_here g states state same past = sym (items_past states state past) ∙ ap (λ (s : StateTrees). items_at s state) (ap state_trees same ∙ sym (states_in g))

-- where a state stands, its items begin there
pub state-body : (items others : ItemTrees) (context inside : Context) (values : Values) (own : Memory) (body : BodyLeft) → items ≡ others → context ≡ inside →
    IsBodyBegun items context values own body → IsBodyBegun others inside values own body
state-body items others context inside values own body same stands begun =
    subst (λ (there : Context). IsBodyBegun others there values own body) stands (subst (λ (these : ItemTrees). IsBodyBegun these context values own body) same begun)

-- ---- runs

pub as_many : (names : Vec (String Global) Global) → vec_len names ≡ length names.items
as_many names = omega (arith, names.ok)

pub values-begin : (g : Sdfg) (values : Values) → values ≡ replicate (length (out-Sdfg g).variables.items) (pos 0) → values ≡ zeros (graph_tree g)
values-begin g values same =
    let counted : variable_count (graph_tree g) ≡ length (out-Sdfg g).variables.items = ap variable_count (graph_opened g) ∙ length-map (out-Sdfg g).variables.items string_bytes in
    same ∙ ap (λ (n : ℕ). replicate n (pos 0)) (sym counted)

pub started-run : (tree : GraphTree) (reach : ℕ → Reach) (around : List Frame) (own : Memory) (values : Values) (body : BodyLeft) (run : RunLeft) →
    run ≡ record { state = 0; ended = false; body = body } → values ≡ zeros tree →
    IsBodyBegun (items_at (states_of_graph tree) 0) (state_context tree reach around 0 values) values own body → run_left run tree reach around ≡ unfold_graph tree reach own around
started-run tree reach around own values body run kept same begun =
    let at_zeros : IsBodyBegun (items_at (states_of_graph tree) 0) (state_context tree reach around 0 (zeros tree)) (zeros tree) own body =
    subst (λ (values : Values). IsBodyBegun (items_at (states_of_graph tree) 0) (state_context tree reach around 0 values) values own body) same begun in
    ap (λ (run : RunLeft). run_left run tree reach around) kept
    ∙ run-begins tree reach around own body at_zeros.at at_zeros.own (at_zeros.begun ∙ sym (state-begins tree reach around 0 (zeros tree)))

-- that of a nested graph
pub nested-run : (inner : GraphTree) (run : RunLeft) (reach there : ℕ → Reach) (around frames : List Frame) (own memory : Memory) → reach ≡ there → around ≡ frames → own ≡ memory →
    run_left run inner reach around ≡ unfold_graph inner reach own around → run_left run inner there frames ≡ unfold_graph inner there memory frames
nested-run inner run reach there around frames own memory same_reach same_around same_own begun =
    subst (λ (r : ℕ → Reach). run_left run inner r frames ≡ unfold_graph inner r memory frames) same_reach
    (subst (λ (f : List Frame). run_left run inner reach f ≡ unfold_graph inner reach memory f) same_around
    (subst (λ (m : Memory). run_left run inner reach around ≡ unfold_graph inner reach m around) same_own begun))
