-- How many states a block makes.
use Rattle.std.proofs.Common.{◌≡◌, ℕ, ◌+◌, ◌≤◌, List, [], ◌∷◌, ◌++◌, length, false, ◌∙◌, refl, sym, arith, zero-add, length-append}
use Rattle.sd_lex.specs.PlainTree.{StatementTree, argument_array, local_array, local_stream, assign, copy, reduce, map_scope, tasklet, consume_scope, call, for_loop, while_loop, branch, input, output, set, set_at, tasklet_branch, Block, no_statement, and_statement}
use Rattle.sd_graph.specs.PlainTree.{ItemTrees, no_item, ExitTree, GraphTree}
use Rattle.sd_graph.specs.TreeFold.{PlainState}
use Rattle.sd_program.specs.Names.{Name}
use Rattle.sd_program.specs.Declared.{states_in, states_in_all, states_in_other}
use Rattle.sd_elab.specs.items.Items.{items_with}
use Rattle.sd_elab.specs.states.Exits.{plainly, back_to, stepped_on}
use Rattle.sd_elab.specs.states.Standing.{Standing, behind, behind_all, state_behind, with_loop_variable}
use Rattle.sd_elab.specs.states.States.{chained, chained_all, chained_other}

-- there is a state behind both blocks of an `if`
pub some_other : (other : Block) → 1 ≤ states_in_other other
some_other no_statement = omega arith
some_other (and_statement first rest) = omega arith

pub branch_behind : (state body other : ℕ) → state + (1 + body + other) ≡ state + 1 + body + other
branch_behind state body other = omega arith

-- calls are of these graphs
module _ (graphs : Name → GraphTree) where
  abbrev OfLength : ℕ → (ItemTrees → List PlainState) → Type 0
  OfLength more rest = (items : ItemTrees) → length (rest items) ≡ more

  mutual
    pub one_counted : (statement : StatementTree) (at : Standing) (items : ItemTrees) (rest : ItemTrees → List PlainState) (more : ℕ) → OfLength more rest →
        length (chained graphs statement at items rest) ≡ states_in statement + more
    one_counted (argument_array line name bits extents) at items rest more of = of items ∙ sym (zero-add more)
    one_counted (local_array line name extents bits) at items rest more of = of items ∙ sym (zero-add more)
    one_counted (local_stream line name bits size) at items rest more of = of items ∙ sym (zero-add more)
    one_counted (branch line when body other) at items rest more of =
        let first : ℕ → List PlainState = λ join. chained_all graphs body (state_behind at) no_item (plainly join ∷ []) in
        let counted : length (chained_other graphs other (behind_all body (state_behind at)) first rest) ≡ states_in_all body + (states_in_other other + more) =
        other_counted other (behind_all body (state_behind at)) first rest (states_in_all body) more (λ join. all_counted body (state_behind at) no_item (plainly join ∷ [])) of in
        omega (arith, counted)
    one_counted (while_loop line when body) at items rest more of =
        let inside : Standing = state_behind (state_behind at) in
        let back : List ExitTree = back_to at.state [] ∷ [] in
        omega (arith, length-append (chained_all graphs body inside no_item back) (rest no_item), all_counted body inside no_item back, of no_item)
    one_counted (for_loop line name begin end step body) at items rest more of =
        let inside : Standing = with_loop_variable name (state_behind (state_behind at)) in
        let back : List ExitTree = back_to at.state ((at.variable, stepped_on at.variable step) ∷ []) ∷ [] in
        omega (arith, length-append (chained_all graphs body inside no_item back) (rest no_item), all_counted body inside no_item back, of no_item)
    one_counted (assign line name place add value) at items rest more of = omega (arith, of (items_with graphs (assign line name place add value) false at.table at.container at.variable no_item))
    one_counted (copy line to to_dimensions from from_dimensions) at items rest more of = omega (arith, of (items_with graphs (copy line to to_dimensions from from_dimensions) false at.table at.container at.variable no_item))
    one_counted (reduce line lambda from to axis identity) at items rest more of = omega (arith, of (items_with graphs (reduce line lambda from to axis identity) false at.table at.container at.variable no_item))
    one_counted (map_scope line parameters ranges body) at items rest more of = omega (arith, of (items_with graphs (map_scope line parameters ranges body) false at.table at.container at.variable no_item))
    one_counted (tasklet line body) at items rest more of = omega (arith, of (items_with graphs (tasklet line body) false at.table at.container at.variable no_item))
    one_counted (consume_scope line stream size name element worker body) at items rest more of = omega (arith, of (items_with graphs (consume_scope line stream size name element worker body) false at.table at.container at.variable no_item))
    one_counted (call line name arguments) at items rest more of = omega (arith, of (items_with graphs (call line name arguments) false at.table at.container at.variable no_item))
    one_counted (input line connector memlet) at items rest more of = omega (arith, of no_item)
    one_counted (output line connector memlet) at items rest more of = omega (arith, of no_item)
    one_counted (set line name value) at items rest more of = omega (arith, of no_item)
    one_counted (set_at line name place value) at items rest more of = omega (arith, of no_item)
    one_counted (tasklet_branch line when body other) at items rest more of = omega (arith, of no_item)

    pub all_counted : (block : Block) (at : Standing) (items : ItemTrees) (exits : List ExitTree) → length (chained_all graphs block at items exits) ≡ states_in_all block + 1
    all_counted no_statement at items exits = refl
    all_counted (and_statement first rest) at items exits =
        omega (arith, one_counted first at items (λ items. chained_all graphs rest (behind first at) items exits) (states_in_all rest + 1) (λ items. all_counted rest (behind first at) items exits))

    other_counted : (other : Block) (at : Standing) (first : ℕ → List PlainState) (rest : ItemTrees → List PlainState) (body more : ℕ) →
        ((join : ℕ) → length (first join) ≡ body + 1) → OfLength more rest → length (chained_other graphs other at first rest) ≡ body + (states_in_other other + more)
    other_counted no_statement at first rest body more before of = omega (arith, length-append (first at.state) (rest no_item), before at.state, of no_item)
    other_counted (and_statement statement others) at first rest body more before of =
        let join : ℕ = at.state + 1 + (states_in statement + states_in_all others) in
        let inner : List PlainState = chained graphs statement (state_behind at) no_item (λ items. chained_all graphs others (behind statement (state_behind at)) items (plainly join ∷ [])) in
        let counted : length inner ≡ states_in statement + (states_in_all others + 1) =
        one_counted statement (state_behind at) no_item (λ items. chained_all graphs others (behind statement (state_behind at)) items (plainly join ∷ []))
        (states_in_all others + 1) (λ items. all_counted others (behind statement (state_behind at)) items (plainly join ∷ [])) in
        omega (arith, length-append (first join) (inner ++ rest no_item), length-append inner (rest no_item), before join, counted, of no_item)
