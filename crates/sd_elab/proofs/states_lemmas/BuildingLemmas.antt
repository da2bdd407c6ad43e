-- What the code has made, as plain trees.
use Rattle.std.proofs.Common.{◌≡◌, ◌∙◌, ◌==◌, ◌+◌, List, [], ◌∷◌, ◌++◌, length, map, ap, sym, true, false, true≢false, ne_eqb, arith, refl}
use Rattle.sd_graph.specs.declared.graph.Item.{Item}
use Rattle.sd_graph.specs.declared.graph.State.{State}
use Rattle.sd_graph.specs.declared.graph.Sdfg.{Sdfg}
use Rattle.sd_graph.specs.declared.graph.ItemKind.{ItemKind}
use Rattle.sd_graph.specs.declared.graph.ItemKind.TheOpen.{State-F}
use Rattle.sd_graph.specs.declared.graph.ItemKind.TheViews.{roll-State}
use Rattle.sd_graph.specs.TreeFold.{state_tree, item_trees, exit_tree}
use Rattle.sd_graph.proofs.TreeLemmas.{state_rolled, map_grown}
use Rattle.sd_lex.specs.TreeFold.{block_of}
use Rattle.sd_lex.specs.declared.syntax.statement.Statement.{Statement}
use Rattle.sd_program.specs.Declared.{states_in_all}
use Rattle.sd_elab.specs.states.Exits.{plainly}
use Rattle.sd_elab.specs.states.Standing.{Standing, state_behind}
use Rattle.sd_elab.specs.states.Threaded.{Threaded, closed, join_of, else_begun, in_else}

-- one more state
pub states_closed : (states : List State) (state : State-F ItemKind Item Sdfg State) →
    map state_tree (states ++ roll-State state ∷ []) ≡ map state_tree states ++ (item_trees state.items.items, map exit_tree state.exits.items) ∷ []
states_closed states state = map_grown state_tree states (roll-State state) ∙ ap (λ closed. map state_tree states ++ closed ∷ []) (state_rolled state)

-- an `else` that is there
pub some_join : (other : List Statement) (at : Standing) → (length other == 0) ≡ false → join_of (block_of other) at ≡ at.state + 1 + states_in_all (block_of other)
some_join [] at some = cc
some_join (first ∷ rest) at some = refl

pub some_begun : (other : List Statement) (at : Standing) (t : Threaded) → (length other == 0) ≡ false →
    else_begun (block_of other) at t ≡ closed t (plainly (at.state + 1 + states_in_all (block_of other)) ∷ [])
some_begun [] at t some = cc
some_begun (first ∷ rest) at t some = refl

pub some_else : (other : List Statement) (at : Standing) → (length other == 0) ≡ false → in_else (block_of other) at ≡ state_behind at
some_else [] at some = cc
some_else (first ∷ rest) at some = refl

-- one that is not
pub no_join : (other : List Statement) (at : Standing) → (length other == 0) ≡ true → join_of (block_of other) at ≡ at.state
no_join [] at none = refl
no_join (first ∷ rest) at none = absurd (true≢false (sym none ∙ ne_eqb (length (first ∷ rest)) 0 (omega arith)))

pub none_begun : (other : List Statement) (at : Standing) (t : Threaded) → (length other == 0) ≡ true → else_begun (block_of other) at t ≡ t
none_begun [] at t none = refl
none_begun (first ∷ rest) at t none = absurd (true≢false (sym none ∙ ne_eqb (length (first ∷ rest)) 0 (omega arith)))

pub no_else : (other : List Statement) (at : Standing) → (length other == 0) ≡ true → in_else (block_of other) at ≡ at
no_else [] at none = refl
no_else (first ∷ rest) at none = absurd (true≢false (sym none ∙ ne_eqb (length (first ∷ rest)) 0 (omega arith)))
