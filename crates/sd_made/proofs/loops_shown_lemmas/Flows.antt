-- The transitions of the states that statements make, by their numbers alone.
use Rattle.std.proofs.Common.{◌≡◌, ℕ, ◌+◌, ℤ, List, [], ◌∷◌, ◌++◌, Option, subst, arith}
use Rattle.std.specs.Prelude.{⊤}
use Rattle.sd_lex.specs.PlainTree.{Expression, StatementTree, argument_array, local_array, local_stream, for_loop, while_loop, branch, Block, no_statement, and_statement}
use Rattle.sd_range.specs.declared.affine.Affine.{Affine}
use Rattle.sd_graph.specs.PlainTree.{StateTrees, ItemTrees, no_item, ExitTree, GuardTree, GraphTree}
use Rattle.sd_graph.specs.TreeFold.{PlainState}
use Rattle.sd_graph.specs.TreeParts.{exits_at}
use Rattle.sd_program.specs.Names.{Name}
use Rattle.sd_program.specs.Declared.{states_in, states_in_all}
use Rattle.sd_elab.specs.items.Counts.{variables_in, variables_in_all}
use Rattle.sd_elab.specs.states.Exits.{plainly, setting, if_holds, back_to, stepped_on}
use Rattle.sd_elab.specs.states.Standing.{Standing, behind, behind_all, state_behind, with_loop_variable}
use Rattle.sd_elab.specs.states.States.{chained, chained_all}
use Rattle.sd_made.proofs.elab_lemmas.StateLists.{first_of_two, second_of_two}
use Rattle.sd_made.proofs.elab_lemmas.StateCounts.{all_counted}
use Rattle.sd_made.proofs.elab_lemmas.StateRanges.{Has, behind_states}

module _ (states : StateTrees) where
  -- the state before this one has these transitions
  abbrev pub Before : (state : ℕ) → List ExitTree → Type 0
  Before state exits = (number : ℕ) → number + 1 ≡ state → exits_at states number ≡ exits

  abbrev mutual
    -- the transitions of the states from the one before this on, but those of the last one
    pub FlowsOne : StatementTree → (state variable : ℕ) → Type 0
    FlowsOne (argument_array line name bits extents) state variable = ⊤
    FlowsOne (local_array line name extents bits) state variable = ⊤
    FlowsOne (local_stream line name bits size) state variable = ⊤
    FlowsOne (branch line when body other) state variable =
        (guard : GuardTree) × Before state (if_holds guard state ∷ plainly (state + 1 + states_in_all body) ∷ [])
        × FlowsAll body (state + 1) variable × FlowsOther other (state + 1 + states_in_all body) (variable + variables_in_all body)
    FlowsOne (while_loop line when body) state variable =
        (guard : GuardTree) × Before state (plainly state ∷ []) × Before (state + 1) (if_holds guard (state + 1) ∷ plainly (state + 1 + 1 + states_in_all body) ∷ [])
        × FlowsAll body (state + 1 + 1) variable × Before (state + 1 + 1 + states_in_all body) (back_to state [] ∷ [])
    FlowsOne (for_loop line name begin end step body) state variable =
        (guard : GuardTree) × (opening : Affine) × (next : Affine) × Before state (setting state variable opening ∷ [])
        × Before (state + 1) (if_holds guard (state + 1) ∷ plainly (state + 1 + 1 + states_in_all body) ∷ [])
        × FlowsAll body (state + 1 + 1) (variable + 1) × Before (state + 1 + 1 + states_in_all body) (back_to state ((variable, next) ∷ []) ∷ [])
    FlowsOne statement state variable = Before state (plainly state ∷ [])

    pub FlowsAll : Block → (state variable : ℕ) → Type 0
    FlowsAll no_statement state variable = ⊤
    FlowsAll (and_statement first rest) state variable = FlowsOne first state variable × FlowsAll rest (state + states_in first) (variable + variables_in first)

    -- behind the first block of a branch
    pub FlowsOther : Block → (state variable : ℕ) → Type 0
    FlowsOther no_statement state variable = Before state (plainly state ∷ [])
    FlowsOther (and_statement first rest) state variable =
        Before state (plainly (state + 1 + (states_in first + states_in_all rest)) ∷ [])
        × (FlowsOne first (state + 1) variable × FlowsAll rest (state + 1 + states_in first) (variable + variables_in first))
        × Before (state + 1 + (states_in first + states_in_all rest)) (plainly (state + 1 + (states_in first + states_in_all rest)) ∷ [])

module _ (graphs : Name → GraphTree) (states : StateTrees) where
  abbrev AllFlow : Block → Type 0
  AllFlow block =
      (at : Standing) (items : ItemTrees) (exits : List ExitTree) → Has graphs states at.state (chained_all graphs block at items exits) →
      FlowsAll states block at.state at.variable × Before states (at.state + states_in_all block) exits

  abbrev OneFlows : StatementTree → Type 0
  OneFlows first = (at : Standing) (items : ItemTrees) (rest : ItemTrees → List PlainState) → Has graphs states at.state (chained graphs first at items rest) → FlowsOne states first at.state at.variable

  both_flow : (first : StatementTree) (rest : Block) → OneFlows first → AllFlow rest → AllFlow (and_statement first rest)
  both_flow first rest one all at items exits has =
      let following : ItemTrees → List PlainState = λ items. chained_all graphs rest (behind first at) items exits in
      let made = behind_states graphs states first at items following has in
      let more = all (behind first at) made.0 exits made.1 in
      ((one at items following has, more.0), λ number e. more.1 number (omega (arith, e)))

  if_flows : (line : ℕ) (when : Expression) (body : Block) → AllFlow body → OneFlows (branch line when body no_statement)
  if_flows line when body all at items rest has =
      let inner : Standing = state_behind at in
      let join : ℕ = at.state + 1 + states_in_all body in
      let made = all inner no_item (plainly join ∷ []) (first_of_two (exits_at states) (at.state + 1) (chained_all graphs body inner no_item (plainly join ∷ [])) (rest no_item) has.1) in
      (_, has.0, made.0, made.1)

  if_else_flows : (line : ℕ) (when : Expression) (body : Block) (first : StatementTree) (others : Block) → AllFlow body → AllFlow (and_statement first others) → OneFlows (branch line when body (and_statement first others))
  if_else_flows line when body first others all_body all_other at items rest has =
      let other : Block = and_statement first others in
      let inner : Standing = state_behind at in
      let second : ℕ = at.state + 1 + states_in_all body in
      let outer : Standing = state_behind (behind_all body inner) in
      let join : ℕ = second + 1 + states_in_all other in
      let A : List PlainState = chained_all graphs body inner no_item (plainly join ∷ []) in
      let B : List PlainState = chained_all graphs other outer no_item (plainly join ∷ []) in
      let made = all_body inner no_item (plainly join ∷ []) (first_of_two (exits_at states) (at.state + 1) A (B ++ rest no_item) has.1) in
      let behind_body : Has graphs states (second + 1) (B ++ rest no_item) =
      subst (λ number. Has graphs states number (B ++ rest no_item)) (omega (arith, all_counted graphs body inner no_item (plainly join ∷ []))) (second_of_two (exits_at states) (at.state + 1) A (B ++ rest no_item) has.1) in
      let made_other = all_other outer no_item (plainly join ∷ []) (first_of_two (exits_at states) (second + 1) B (rest no_item) behind_body) in
      (_, has.0, made.0, (made.1, made_other.0, made_other.1))

  while_flows : (line : ℕ) (when : Expression) (body : Block) → AllFlow body → OneFlows (while_loop line when body)
  while_flows line when body all at items rest has =
      let inside : Standing = state_behind (state_behind at) in
      let back : List ExitTree = back_to at.state [] ∷ [] in
      let made = all inside no_item back (first_of_two (exits_at states) (at.state + 1 + 1) (chained_all graphs body inside no_item back) (rest no_item) has.1.1) in
      (_, has.0, has.1.0, made.0, made.1)

  for_flows : (line : ℕ) (name : Name) (begin : Option Expression) (end : Expression) (step : Option ℤ) (body : Block) → AllFlow body → OneFlows (for_loop line name begin end step body)
  for_flows line name begin end step body all at items rest has =
      let inside : Standing = with_loop_variable name (state_behind (state_behind at)) in
      let back : List ExitTree = back_to at.state ((at.variable, stepped_on at.variable step) ∷ []) ∷ [] in
      let made = all inside no_item back (first_of_two (exits_at states) (at.state + 1 + 1) (chained_all graphs body inside no_item back) (rest no_item) has.1.1) in
      (_, _, _, has.0, has.1.0, made.0, made.1)

  mutual
    one_flows : (first : StatementTree) → OneFlows first
    one_flows (argument_array line name bits extents) = λ at items rest has. tt
    one_flows (local_array line name extents bits) = λ at items rest has. tt
    one_flows (local_stream line name bits size) = λ at items rest has. tt
    one_flows (branch line when body no_statement) = if_flows line when body (all_flow body)
    one_flows (branch line when body (and_statement first others)) = if_else_flows line when body first others (all_flow body) (both_flow first others (one_flows first) (all_flow others))
    one_flows (while_loop line when body) = while_flows line when body (all_flow body)
    one_flows (for_loop line name begin end step body) = for_flows line name begin end step body (all_flow body)
    one_flows statement = λ at items rest has. has.0

    pub all_flow : (block : Block) → AllFlow block
    all_flow no_statement = λ at items exits has. (tt, λ number e. has.0 number (omega (arith, e)))
    all_flow (and_statement first rest) = both_flow first rest (one_flows first) (all_flow rest)
