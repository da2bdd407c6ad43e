-- Each transition of a program's graph that sets a variable is one of the variable's loop.
use Rattle.std.proofs.Common.{◌≡◌, ◌∙◌, ℕ, zero, suc, ◌+◌, ◌<◌, ◌≤◌, ℤ, pos, List, [], ◌∷◌, ◌++◌, length, Option, Some, None, cond, ltb, refl, ap, sym, subst, arith, add-zero}
use Rattle.std.proofs.lemmas.Bool.{lt-ltb, le-ltb}
use Rattle.std.specs.List.{AllByRecursion}
use Rattle.sd_lex.specs.PlainTree.{StatementTree, argument_array, local_array, local_stream, assign, copy, reduce, map_scope, tasklet, consume_scope, call, for_loop, while_loop, branch, input, output, set, set_at, tasklet_branch, Block, no_statement, and_statement}
use Rattle.sd_graph.specs.PlainTree.{ItemTrees, no_item, ExitTree, GraphTree, StateTrees}
use Rattle.sd_graph.specs.TreeFold.{PlainState, states_listed}
use Rattle.sd_graph.specs.TreeParts.{exits_at}
use Rattle.sd_program.specs.Names.{Name}
use Rattle.sd_program.specs.Declared.{states_in, states_in_all, states_in_other}
use Rattle.sd_program.specs.Bounds.{EachBound}
use Rattle.sd_program.specs.IsAffine.{IsAffine}
use Rattle.sd_program.specs.Limits.{IsStep, HasSteps}
use Rattle.sd_program.specs.Every.{Every, EveryIn}
use Rattle.sd_elab.specs.items.Counts.{variables_in, variables_in_all}
use Rattle.sd_elab.specs.states.Exits.{plainly, back_to, stepped_on}
use Rattle.sd_elab.specs.states.Standing.{Standing, behind, behind_all, state_behind, with_loop_variable}
use Rattle.sd_elab.specs.states.States.{chained, chained_all, chained_other}
use Rattle.sd_made.specs.elab.LoopShape.{IsStepOf, BeginsLoop, SetLoopVariables}
use Rattle.sd_made.proofs.elab_lemmas.StateLists.{HasStates, first_of_two, second_of_two}
use Rattle.sd_made.proofs.elab_lemmas.StateCounts.{branch_behind, all_counted}
use Rattle.sd_made.proofs.elab_lemmas.LoopConditions.{newest, condition_below}

-- ---- the begin of each variable's loop

-- the state where the loop of a variable begins, in a statement that stands here
abbrev mutual
  pub begin_in : StatementTree → Standing → (variable : ℕ) → ℕ
  begin_in (for_loop line name begin end step body) at variable =
      cond (ltb variable (at.variable + 1)) at.state (begin_in_all body (with_loop_variable name (state_behind (state_behind at))) variable)
  begin_in (while_loop line when body) at variable = begin_in_all body (state_behind (state_behind at)) variable
  begin_in (branch line when body other) at variable =
      cond (ltb variable (at.variable + variables_in_all body)) (begin_in_all body (state_behind at) variable) (begin_in_all other (state_behind (behind_all body (state_behind at))) variable)
  begin_in statement at variable = 0

  pub begin_in_all : Block → Standing → (variable : ℕ) → ℕ
  begin_in_all no_statement at variable = 0
  begin_in_all (and_statement first rest) at variable =
      cond (ltb variable (at.variable + variables_in first)) (begin_in first at variable) (begin_in_all rest (behind first at) variable)

-- two functions agree on so many variables from one on
abbrev Agree : (first second : ℕ → ℕ) → (from many : ℕ) → Type 0
Agree first second from many = (variable : ℕ) → from ≤ variable → variable < from + many → first variable ≡ second variable

agree_below : (first lower upper : ℕ → ℕ) (from many more : ℕ) → Agree first (λ variable. cond (ltb variable (from + many)) (lower variable) (upper variable)) from (many + more) → Agree first lower from many
agree_below first lower upper from many more agree variable least most =
    agree variable least (omega (arith, most)) ∙ ap (λ test. cond test (lower variable) (upper variable)) (lt-ltb variable (from + many) most)

agree_above : (first lower upper : ℕ → ℕ) (from many more : ℕ) → Agree first (λ variable. cond (ltb variable (from + many)) (lower variable) (upper variable)) from (many + more) →
    Agree first upper (from + many) more
agree_above first lower upper from many more agree variable least most =
    agree variable (omega (arith, least)) (omega (arith, most)) ∙ ap (λ test. cond test (lower variable) (upper variable)) (le-ltb variable (from + many) least)

-- ---- one loop

-- a written step is at least 1, and one that is left out is 1
steps : (variable : ℕ) (step : Option ℤ) → IsStep step → IsStepOf variable (stepped_on variable step)
steps variable None is = (1, refl, omega arith)
steps variable (Some step) is = (is.0, ap (λ constant. record { constant = constant; terms = (variable, pos 1) ∷ [] }) is.1.0, is.1.1.0)

module _ (graphs : Name → GraphTree) (states : StateTrees) (begin : ℕ → ℕ) where
  -- the transitions of each state set loop variables alone
  abbrev pub AreSet : List PlainState → Type 0
  AreSet listed = AllByRecursion (λ state. SetLoopVariables states begin state.1) listed

  set_joined : (first second : List PlainState) → AreSet first → AreSet second → AreSet (first ++ second)
  set_joined [] second all others = others
  set_joined (state ∷ first) second all others = (all.0, set_joined first second all.1 others)

  abbrev Follows : (next : ℕ) → (ItemTrees → List PlainState) → Type 0
  Follows next rest = (items : ItemTrees) → HasStates (exits_at states) next (rest items) → AreSet (rest items)

  abbrev ElsesAreSet : Block → Standing → Type 0
  ElsesAreSet other at = (join : ℕ) → HasStates (exits_at states) at.state (chained_all graphs other at no_item (plainly join ∷ [])) → AreSet (chained_all graphs other at no_item (plainly join ∷ []))

  -- behind the first block of an `if`
  other_sets : (other : Block) (at : Standing) (next : ℕ) (first : ℕ → List PlainState) (rest : ItemTrees → List PlainState) (body : ℕ) → at.state ≡ next + body → ((join : ℕ) → length (first join) ≡ body + 1) →
      HasStates (exits_at states) next (chained_other graphs other at first rest) → ((join : ℕ) → HasStates (exits_at states) next (first join) → AreSet (first join)) →
      ElsesAreSet other (state_behind at) → Follows (at.state + states_in_other other) rest → AreSet (chained_other graphs other at first rest)
  other_sets no_statement at next first rest body stands counted has sets others follows =
      set_joined (first at.state) (rest no_item) (sets at.state (first_of_two (exits_at states) next (first at.state) (rest no_item) has))
      (follows no_item (subst (λ number. HasStates (exits_at states) number (rest no_item)) (omega (arith, stands, counted at.state))
      (second_of_two (exits_at states) next (first at.state) (rest no_item) has)))
  other_sets (and_statement statement others) at next first rest body stands counted has sets elses follows =
      let join : ℕ = at.state + 1 + (states_in statement + states_in_all others) in
      let inner : List PlainState = chained_all graphs (and_statement statement others) (state_behind at) no_item (plainly join ∷ []) in
      let behind_first : HasStates (exits_at states) (at.state + 1) (inner ++ rest no_item) =
      subst (λ number. HasStates (exits_at states) number (inner ++ rest no_item)) (omega (arith, stands, counted join)) (second_of_two (exits_at states) next (first join) (inner ++ rest no_item) has) in
      set_joined (first join) (inner ++ rest no_item) (sets join (first_of_two (exits_at states) next (first join) (inner ++ rest no_item) has))
      (set_joined inner (rest no_item) (elses join (first_of_two (exits_at states) (at.state + 1) inner (rest no_item) behind_first))
      (follows no_item (subst (λ number. HasStates (exits_at states) number (rest no_item))
      (omega (arith, all_counted graphs (and_statement statement others) (state_behind at) no_item (plainly join ∷ [])))
      (second_of_two (exits_at states) (at.state + 1) inner (rest no_item) behind_first))))

  mutual
    statement_sets : (statement : StatementTree) (at : Standing) (items : ItemTrees) (rest : ItemTrees → List PlainState) → HasStates (exits_at states) at.state (chained graphs statement at items rest) →
        Every (EachBound IsAffine) statement → Every HasSteps statement → Agree begin (begin_in statement at) at.variable (variables_in statement) → Follows (at.state + states_in statement) rest →
        AreSet (chained graphs statement at items rest)
    statement_sets (argument_array line name bits extents) at items rest has affine steps' agree follows = follows items (subst (λ number. HasStates (exits_at states) number (rest items)) (sym (add-zero at.state)) has)
    statement_sets (local_array line name extents bits) at items rest has affine steps' agree follows = follows items (subst (λ number. HasStates (exits_at states) number (rest items)) (sym (add-zero at.state)) has)
    statement_sets (local_stream line name bits size) at items rest has affine steps' agree follows = follows items (subst (λ number. HasStates (exits_at states) number (rest items)) (sym (add-zero at.state)) has)
    statement_sets (branch line when body other) at items rest has affine steps' agree follows = (
      (tt, (tt, tt)),
      other_sets other (behind_all body (state_behind at)) (at.state + 1) (λ join. chained_all graphs body (state_behind at) no_item (plainly join ∷ [])) rest (states_in_all body) refl
          (λ join. all_counted graphs body (state_behind at) no_item (plainly join ∷ [])) has.1
          (λ join has. block_sets body (state_behind at) no_item (plainly join ∷ []) has affine.1.0 steps'.1.0
          (agree_below begin (begin_in_all body (state_behind at)) (begin_in_all other (state_behind (behind_all body (state_behind at)))) at.variable (variables_in_all body) (variables_in_all other) agree) (tt, tt))
          (λ join has. block_sets other (state_behind (behind_all body (state_behind at))) no_item (plainly join ∷ []) has affine.1.1 steps'.1.1
          (agree_above begin (begin_in_all body (state_behind at)) (begin_in_all other (state_behind (behind_all body (state_behind at)))) at.variable (variables_in_all body) (variables_in_all other) agree) (tt, tt))
          (subst (λ number. Follows number rest) (branch_behind at.state (states_in_all body) (states_in_other other)) follows),
    )
    statement_sets (while_loop line when body) at items rest has affine steps' agree follows =
        let inside : Standing = state_behind (state_behind at) in
        let back : List ExitTree = back_to at.state [] ∷ [] in (
          (tt, tt),
          (
            (tt, (tt, tt)),
            set_joined (chained_all graphs body inside no_item back) (rest no_item)
                (block_sets body inside no_item back (first_of_two (exits_at states) (at.state + 1 + 1) (chained_all graphs body inside no_item back) (rest no_item) has.1.1) affine.1 steps'.1 agree (tt, tt))
                (follows no_item (subst (λ number. HasStates (exits_at states) number (rest no_item)) (omega (arith, all_counted graphs body inside no_item back))
                (second_of_two (exits_at states) (at.state + 1 + 1) (chained_all graphs body inside no_item back) (rest no_item) has.1.1))),
          ),
        )
    statement_sets (for_loop line name start end step body) at items rest has affine steps' agree follows =
        let inside : Standing = with_loop_variable name (state_behind (state_behind at)) in
        let back : List ExitTree = back_to at.state ((at.variable, stepped_on at.variable step) ∷ []) ∷ [] in
        let begins : at.state ≡ begin at.variable =
        sym (agree at.variable (omega arith) (omega arith)
        ∙ ap (λ test. cond test at.state (begin_in_all body inside at.variable)) (lt-ltb at.variable (at.variable + 1) (omega arith))) in
        let head : BeginsLoop at.variable (exits_at states at.state) =
        subst (BeginsLoop at.variable) (sym (has.1.0 at.state refl)) (condition_below inside.table line name end at.variable affine.0.1 (newest name at.variable at.table.variables), refl) in (
          ((((begins, head, λ marked. cc), tt), tt)),
          (
            (tt, (tt, tt)),
            set_joined (chained_all graphs body inside no_item back) (rest no_item)
                (block_sets body inside no_item back (first_of_two (exits_at states) (at.state + 1 + 1) (chained_all graphs body inside no_item back) (rest no_item) has.1.1) affine.1 steps'.1
                (agree_above begin (λ variable. at.state) (begin_in_all body inside) at.variable 1 (variables_in_all body) agree)
                (((begins, head, λ marked. steps at.variable step steps'.0), tt), tt))
                (follows no_item (subst (λ number. HasStates (exits_at states) number (rest no_item)) (omega (arith, all_counted graphs body inside no_item back))
                (second_of_two (exits_at states) (at.state + 1 + 1) (chained_all graphs body inside no_item back) (rest no_item) has.1.1))),
          ),
        )
    statement_sets (assign line name target add value) at items rest has affine steps' agree follows = ((tt, tt), follows _ has.1)
    statement_sets (copy line to to_dimensions from from_dimensions) at items rest has affine steps' agree follows = ((tt, tt), follows _ has.1)
    statement_sets (reduce line lambda from to axis identity) at items rest has affine steps' agree follows = ((tt, tt), follows _ has.1)
    statement_sets (map_scope line parameters ranges body) at items rest has affine steps' agree follows = ((tt, tt), follows _ has.1)
    statement_sets (tasklet line body) at items rest has affine steps' agree follows = ((tt, tt), follows _ has.1)
    statement_sets (consume_scope line stream size name element worker body) at items rest has affine steps' agree follows = ((tt, tt), follows _ has.1)
    statement_sets (call line name arguments) at items rest has affine steps' agree follows = ((tt, tt), follows _ has.1)
    statement_sets (input line connector memlet) at items rest has affine steps' agree follows = ((tt, tt), follows no_item has.1)
    statement_sets (output line connector memlet) at items rest has affine steps' agree follows = ((tt, tt), follows no_item has.1)
    statement_sets (set line name value) at items rest has affine steps' agree follows = ((tt, tt), follows no_item has.1)
    statement_sets (set_at line name target value) at items rest has affine steps' agree follows = ((tt, tt), follows no_item has.1)
    statement_sets (tasklet_branch line when body other) at items rest has affine steps' agree follows = ((tt, tt), follows no_item has.1)

    pub block_sets : (block : Block) (at : Standing) (items : ItemTrees) (exits : List ExitTree) → HasStates (exits_at states) at.state (chained_all graphs block at items exits) →
        EveryIn (EachBound IsAffine) block → EveryIn HasSteps block → Agree begin (begin_in_all block at) at.variable (variables_in_all block) → SetLoopVariables states begin exits →
        AreSet (chained_all graphs block at items exits)
    block_sets no_statement at items exits has affine steps' agree ends = (ends, tt)
    block_sets (and_statement first rest) at items exits has affine steps' agree ends =
        statement_sets first at items (λ items. chained_all graphs rest (behind first at) items exits) has affine.0 steps'.0
        (agree_below begin (begin_in first at) (begin_in_all rest (behind first at)) at.variable (variables_in first) (variables_in_all rest) agree)
        (λ items has. block_sets rest (behind first at) items exits has affine.1 steps'.1
        (agree_above begin (begin_in first at) (begin_in_all rest (behind first at)) at.variable (variables_in first) (variables_in_all rest) agree) ends)

  pub set_at_each : (listed : List PlainState) → AreSet listed → (state : ℕ) → SetLoopVariables states begin (exits_at (states_listed listed) state)
  set_at_each [] all state = tt
  set_at_each (first ∷ listed) all zero = all.0
  set_at_each (first ∷ listed) all (suc state) = set_at_each listed all.1 state
