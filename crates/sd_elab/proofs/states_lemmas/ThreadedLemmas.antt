-- The states made one after another are the chain that follows the current state.
use Rattle.std.proofs.Common.{◌≡◌, ◌∙◌, ℕ, ◌+◌, List, [], ◌∷◌, ◌++◌, refl, ap, append_assoc}
use Rattle.sd_lex.specs.PlainTree.{StatementTree, argument_array, local_array, local_stream, assign, copy, reduce, map_scope, tasklet, consume_scope, call, for_loop, while_loop, branch, input, output, set, set_at, tasklet_branch, Block, no_statement, and_statement}
use Rattle.sd_range.specs.Arithmetic.{affine_zero}
use Rattle.sd_graph.specs.PlainTree.{ItemTrees, no_item, ExitTree, GraphTree}
use Rattle.sd_graph.specs.TreeFold.{PlainState}
use Rattle.sd_program.specs.Names.{Name}
use Rattle.sd_program.specs.Declared.{states_in, states_in_all}
use Rattle.sd_task.specs.in_force.Ranges.{affine_or}
use Rattle.sd_task.specs.task.ElementCode.{guard_of, below}
use Rattle.sd_elab.specs.states.Exits.{plainly, setting, back_to, stepped_on}
use Rattle.sd_elab.specs.states.Standing.{Standing, behind, behind_all, state_behind, with_loop_variable}
use Rattle.sd_elab.specs.states.States.{chained, chained_all, chained_other}
use Rattle.sd_elab.specs.states.Threaded.{Threaded, closed, to_block, join_of, in_else, else_begun, threaded, threaded_all}

-- what was made so far, then one member more and the rest
grouped : (before : List PlainState) (state : PlainState) (rest : List PlainState) → (before ++ state ∷ []) ++ rest ≡ before ++ state ∷ rest
grouped before state rest = append_assoc before (state ∷ []) rest

module _ (graphs : Name → GraphTree) where
  mutual
    pub one_chained : (statement : StatementTree) (at : Standing) (t : Threaded) (rest : ItemTrees → List PlainState) →
        (threaded graphs statement at t).finished ++ rest (threaded graphs statement at t).items ≡ t.finished ++ chained graphs statement at t.items rest
    one_chained (argument_array line name bits extents) at t rest = refl
    one_chained (local_array line name extents bits) at t rest = refl
    one_chained (local_stream line name bits size) at t rest = refl
    one_chained (branch line when body other) at t rest =
        let exits : List ExitTree = to_block (guard_of at.table line when) body at in
        other_chained other (behind_all body (state_behind at)) (threaded_all graphs body (state_behind at) (closed t exits))
        (t.finished ++ (t.items, exits) ∷ []) (λ join. chained_all graphs body (state_behind at) no_item (plainly join ∷ [])) rest
        (λ join. all_chained body (state_behind at) (closed t exits) (plainly join ∷ []))
        ∙ grouped t.finished (t.items, exits) _
    one_chained (while_loop line when body) at t rest =
        let first : List ExitTree = plainly at.state ∷ [] in
        let second : List ExitTree = to_block (guard_of at.table line when) body (state_behind at) in
        let back : List ExitTree = back_to at.state [] ∷ [] in
        ap (λ states. states ++ rest no_item) (all_chained body (state_behind (state_behind at)) (closed (closed t first) second) back)
        ∙ append_assoc ((t.finished ++ (t.items, first) ∷ []) ++ (no_item, second) ∷ []) (chained_all graphs body (state_behind (state_behind at)) no_item back) (rest no_item)
        ∙ grouped (t.finished ++ (t.items, first) ∷ []) (no_item, second) _
        ∙ grouped t.finished (t.items, first) _
    one_chained (for_loop line name begin end step body) at t rest =
        let inside : Standing = with_loop_variable name (state_behind (state_behind at)) in
        let first : List ExitTree = setting at.state at.variable (affine_or affine_zero at.table.variables begin) ∷ [] in
        let second : List ExitTree = to_block (below inside.table line name end) body (state_behind at) in
        let back : List ExitTree = back_to at.state ((at.variable, stepped_on at.variable step) ∷ []) ∷ [] in
        ap (λ states. states ++ rest no_item) (all_chained body inside (closed (closed t first) second) back)
        ∙ append_assoc ((t.finished ++ (t.items, first) ∷ []) ++ (no_item, second) ∷ []) (chained_all graphs body inside no_item back) (rest no_item)
        ∙ grouped (t.finished ++ (t.items, first) ∷ []) (no_item, second) _
        ∙ grouped t.finished (t.items, first) _
    one_chained (assign line name at add value) standing t rest = grouped t.finished _ _
    one_chained (copy line to to_dimensions from from_dimensions) at t rest = grouped t.finished _ _
    one_chained (reduce line lambda from to axis identity) at t rest = grouped t.finished _ _
    one_chained (map_scope line parameters ranges body) at t rest = grouped t.finished _ _
    one_chained (tasklet line body) at t rest = grouped t.finished _ _
    one_chained (consume_scope line stream size name element worker body) at t rest = grouped t.finished _ _
    one_chained (call line name arguments) at t rest = grouped t.finished _ _
    one_chained (input line connector memlet) at t rest = grouped t.finished _ _
    one_chained (output line connector memlet) at t rest = grouped t.finished _ _
    one_chained (set line name value) at t rest = grouped t.finished _ _
    one_chained (set_at line name at value) standing t rest = grouped t.finished _ _
    one_chained (tasklet_branch line when body other) at t rest = grouped t.finished _ _

    pub all_chained : (block : Block) (at : Standing) (t : Threaded) (exits : List ExitTree) →
        (threaded_all graphs block at t).finished ++ ((threaded_all graphs block at t).items, exits) ∷ [] ≡ t.finished ++ chained_all graphs block at t.items exits
    all_chained no_statement at t exits = refl
    all_chained (and_statement first rest) at t exits =
        all_chained rest (behind first at) (threaded graphs first at t) exits
        ∙ one_chained first at t (λ items. chained_all graphs rest (behind first at) items exits)

    other_chained : (other : Block) (at : Standing) (t : Threaded) (before : List PlainState) (first : ℕ → List PlainState) (rest : ItemTrees → List PlainState) →
        ((join : ℕ) → t.finished ++ (t.items, plainly join ∷ []) ∷ [] ≡ before ++ first join) →
        (closed (threaded_all graphs other (in_else other at) (else_begun other at t)) (plainly (join_of other at) ∷ [])).finished ++ rest no_item ≡ before ++ chained_other graphs other at first rest
    other_chained no_statement at t before first rest same =
        ap (λ states. states ++ rest no_item) (same at.state) ∙ append_assoc before (first at.state) (rest no_item)
    other_chained (and_statement statement others) at t before first rest same =
        let join : ℕ = at.state + 1 + (states_in statement + states_in_all others) in
        let inner : Threaded = closed t (plainly join ∷ []) in
        let made_states : List PlainState = chained graphs statement (state_behind at) no_item (λ items. chained_all graphs others (behind statement (state_behind at)) items (plainly join ∷ [])) in
        ap (λ states. states ++ rest no_item) (all_chained others (behind statement (state_behind at)) (threaded graphs statement (state_behind at) inner) (plainly join ∷ [])
        ∙ one_chained statement (state_behind at) inner (λ items. chained_all graphs others (behind statement (state_behind at)) items (plainly join ∷ [])))
        ∙ ap (λ states. (states ++ made_states) ++ rest no_item) (same join)
        ∙ append_assoc (before ++ first join) made_states (rest no_item)
        ∙ append_assoc before (first join) (made_states ++ rest no_item)
