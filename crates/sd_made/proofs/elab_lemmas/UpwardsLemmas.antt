-- The transitions of the graph of a program lead upwards.
use Rattle.std.proofs.Common.{◌≡◌, ◌∙◌, inl, inr, ℕ, ◌+◌, ◌<◌, ◌≤◌, List, [], ◌∷◌, ◌++◌, length, Option, Some, unwrap_or, Bool, true, false, cond, ◌&&◌, refl, sym, subst, arith, bytes_eq, add-zero, zero-add}
use Rattle.std.specs.List.{AllByRecursion}
use Rattle.sd_lex.specs.PlainTree.{StatementTree, argument_array, local_array, local_stream, assign, copy, reduce, map_scope, tasklet, consume_scope, call, for_loop, while_loop, branch, input, output, set, set_at, tasklet_branch, Block, no_statement, and_statement, FunctionTree, ProgramTree}
use Rattle.sd_lex.specs.StatementKind.{has_connector}
use Rattle.sd_range.specs.Arithmetic.{affine_zero}
use Rattle.sd_graph.specs.PlainTree.{ItemTrees, no_item, KindTree, ExitTree, GuardTree, GraphTree}
use Rattle.sd_graph.specs.TreeFold.{PlainState, states_listed}
use Rattle.sd_graph.specs.TreeParts.{count_states, exits_at}
use Rattle.sd_graph.specs.Upwards.{ExitsLeadUpwards, KindLeadsUpwards, ItemsLeadUpwards, LeadsUpwards}
use Rattle.sd_program.specs.Names.{Name, Named, in_force}
use Rattle.sd_program.specs.Declared.{states_in, states_in_all, states_in_other, containers_in}
use Rattle.sd_task.specs.task.Table.{Table, with_container, with_variables}
use Rattle.sd_task.specs.in_force.Ranges.{affine_or}
use Rattle.sd_task.specs.task.ElementCode.{guard_of, below}
use Rattle.sd_elab.specs.items.Counts.{variables_in}
use Rattle.sd_elab.specs.items.NamesBehind.{table_behind}
use Rattle.sd_elab.specs.items.Graphs.{no_graph, graph_named}
use Rattle.sd_elab.specs.items.Items.{items_with, items_of_body}
use Rattle.sd_elab.specs.states.Exits.{plainly, setting, if_holds, back_to, stepped_on}
use Rattle.sd_elab.specs.states.Standing.{Standing, behind, behind_all, state_behind, with_loop_variable}
use Rattle.sd_elab.specs.states.States.{chained, chained_all, chained_other}
use Rattle.sd_elab.specs.elab.Elaboration.{function_graph, graphs_with, latest, graph_of, start_of, states_of_function}
use Rattle.sd_made.proofs.elab_lemmas.StateCounts.{some_other, branch_behind, one_counted, all_counted}
use Rattle.sd_made.proofs.elab_lemmas.StateLists.{AreUpwards, upwards_joined, upwards_items, upwards_exits, states_counted}

-- one of two lists of items
either_items : (first : Bool) (one other : ItemTrees) → ItemsLeadUpwards one → ItemsLeadUpwards other → ItemsLeadUpwards (cond first one other)
either_items true one other leads others = leads
either_items false one other leads others = others

element_leads : (resolved : Bool) (one other : KindTree) → KindLeadsUpwards one → KindLeadsUpwards other → KindLeadsUpwards (cond resolved one other)
element_leads true one other leads others = leads
element_leads false one other leads others = others

-- one plain transition to a higher state
abbrev pub goes_to : (count state : ℕ) → state < count → (next : ℕ) → state ≡ next → (number : ℕ) → number + 1 ≡ next → ExitsLeadUpwards count number (plainly state ∷ [])
goes_to count state there next e number before = (inr (omega (arith, e, before), there), tt)

module _ (graphs : Name → GraphTree) (upwards : (name : Name) → LeadsUpwards (graphs name)) where
  mutual
    item_leads : (statement : StatementTree) (in_scope : Bool) (table : Table) (container variable : ℕ) (rest : ItemTrees) → ItemsLeadUpwards rest →
        ItemsLeadUpwards (items_with graphs statement in_scope table container variable rest)
    item_leads (argument_array line name bits extents) in_scope table container variable rest leads = leads
    item_leads (local_array line name extents bits) in_scope table container variable rest leads = leads
    item_leads (local_stream line name bits size) in_scope table container variable rest leads = leads
    item_leads (assign line name at add value) in_scope table container variable rest leads = (element_leads (add && in_scope) _ _ tt tt, leads)
    item_leads (copy line to to_dimensions from from_dimensions) in_scope table container variable rest leads = (tt, leads)
    item_leads (reduce line lambda from to axis identity) in_scope table container variable rest leads = (tt, leads)
    item_leads (map_scope line parameters ranges body) in_scope table container variable rest leads =
        (body_leads body (with_variables parameters variable table) container (variable + length parameters), leads)
    item_leads (tasklet line body) in_scope table container variable rest leads = (tt, leads)
    item_leads (consume_scope line stream size name element worker body) in_scope table container variable rest leads =
        (either_items (has_connector body) _ _ (tt, tt) (body_leads body (with_container element container table) (container + 1) variable), leads)
    item_leads (call line name arguments) in_scope table container variable rest leads = (upwards name, leads)
    item_leads (for_loop line name begin end step body) in_scope table container variable rest leads = leads
    item_leads (while_loop line when body) in_scope table container variable rest leads = leads
    item_leads (branch line when body other) in_scope table container variable rest leads = leads
    item_leads (input line connector memlet) in_scope table container variable rest leads = leads
    item_leads (output line connector memlet) in_scope table container variable rest leads = leads
    item_leads (set line name value) in_scope table container variable rest leads = leads
    item_leads (set_at line name at value) in_scope table container variable rest leads = leads
    item_leads (tasklet_branch line when body other) in_scope table container variable rest leads = leads

    body_leads : (body : Block) (table : Table) (container variable : ℕ) → ItemsLeadUpwards (items_of_body graphs body table container variable)
    body_leads no_statement table container variable = tt
    body_leads (and_statement first rest) table container variable =
        item_leads first true table container variable _
        (body_leads rest (table_behind first container table) (container + containers_in first) (variable + variables_in first))

  -- ---- the transitions of each state

  module _ (count : ℕ) where
    -- what follows leads upwards from the state of this number on
    abbrev Follows : (next : ℕ) → (ItemTrees → List PlainState) → Type 0
    Follows next rest = (items : ItemTrees) → ItemsLeadUpwards items → AreUpwards count next (rest items)

    -- a statement that makes one state
    one_leads : (at : Standing) (items made : ItemTrees) (rest : ItemTrees → List PlainState) → ItemsLeadUpwards items → ItemsLeadUpwards made →
        at.state + 1 ≤ count → Follows (at.state + 1) rest → AreUpwards count at.state ((items, plainly at.state ∷ []) ∷ rest made)
    one_leads at items made rest leads makes room follows = (leads, goes_to count at.state (omega (arith, room)) at.state refl, follows made makes)

    -- two exits, the first to the next state and the second to one behind it
    two_exits : (next state : ℕ) (guard : GuardTree) → next ≤ state → state < count → (number : ℕ) → number + 1 ≡ next →
        ExitsLeadUpwards count number (if_holds guard next ∷ plainly state ∷ [])
    two_exits next state guard below_it there number before =
        (inr (omega (arith, before), omega (arith, below_it, there)), (inr (omega (arith, before, below_it), there), tt))

    loop_leads : (at inside : Standing) (items : ItemTrees) (body : Block) (first : ExitTree) (guard : GuardTree) (back : List ExitTree) (rest : ItemTrees → List PlainState) →
        first.to ≡ at.state → inside.state ≡ at.state + 1 + 1 → ItemsLeadUpwards items → at.state + (2 + states_in_all body + 1) ≤ count →
        AreUpwards count inside.state (chained_all graphs body inside no_item back) → Follows (at.state + (2 + states_in_all body + 1)) rest →
        AreUpwards count at.state
        ((items, first ∷ []) ∷ (no_item, if_holds guard (at.state + 1) ∷ plainly (at.state + 1 + 1 + states_in_all body) ∷ []) ∷ (chained_all graphs body inside no_item back ++ rest no_item))
    loop_leads at inside items body first guard back rest to stands leads room inner follows = (
      leads,
      (λ number before. (inr (omega (arith, to, before), omega (arith, to, room)), tt)),
      (
        tt,
        two_exits (at.state + 1) (at.state + 1 + 1 + states_in_all body) guard (omega arith) (omega (arith, room)),
        upwards_joined count (at.state + 1 + 1) (chained_all graphs body inside no_item back) (rest no_item)
            (subst (λ number. AreUpwards count number (chained_all graphs body inside no_item back)) stands inner)
            (subst (λ number. AreUpwards count number (rest no_item)) (omega (arith, all_counted graphs body inside no_item back)) (follows no_item tt)),
      ),
    )

    mutual
      statement_leads : (statement : StatementTree) (at : Standing) (items : ItemTrees) (rest : ItemTrees → List PlainState) → ItemsLeadUpwards items →
          at.state + states_in statement ≤ count → Follows (at.state + states_in statement) rest → AreUpwards count at.state (chained graphs statement at items rest)
      statement_leads (argument_array line name bits extents) at items rest leads room follows = subst (λ number. AreUpwards count number (rest items)) (add-zero at.state) (follows items leads)
      statement_leads (local_array line name extents bits) at items rest leads room follows = subst (λ number. AreUpwards count number (rest items)) (add-zero at.state) (follows items leads)
      statement_leads (local_stream line name bits size) at items rest leads room follows = subst (λ number. AreUpwards count number (rest items)) (add-zero at.state) (follows items leads)
      statement_leads (branch line when body other) at items rest leads room follows =
          let first : ℕ → List PlainState = λ join. chained_all graphs body (state_behind at) no_item (plainly join ∷ []) in (
            leads,
            two_exits at.state (at.state + 1 + states_in_all body) (guard_of at.table line when) (omega arith) (omega (arith, room, some_other other)),
            other_leads other (behind_all body (state_behind at)) (at.state + 1) first rest (states_in_all body) refl
                (λ join. all_counted graphs body (state_behind at) no_item (plainly join ∷ []))
                (λ join there later. block_leads body (state_behind at) no_item (plainly join ∷ []) tt (omega (arith, room))
                (λ number before. (inr (omega (arith, before, later), there), tt)))
                (omega (arith, room))
                (subst (λ number. Follows number rest) (branch_behind at.state (states_in_all body) (states_in_other other)) follows),
          )
      statement_leads (while_loop line when body) at items rest leads room follows =
          let inside : Standing = state_behind (state_behind at) in
          let back : List ExitTree = back_to at.state [] ∷ [] in
          loop_leads at inside items body (plainly at.state) (guard_of at.table line when) back rest refl refl leads room
          (block_leads body inside no_item back tt (omega (arith, room)) (λ number before. (inl refl, tt))) follows
      statement_leads (for_loop line name begin end step body) at items rest leads room follows =
          let inside : Standing = with_loop_variable name (state_behind (state_behind at)) in
          let back : List ExitTree = back_to at.state ((at.variable, stepped_on at.variable step) ∷ []) ∷ [] in
          loop_leads at inside items body (setting at.state at.variable (affine_or affine_zero at.table.variables begin)) (below inside.table line name end) back rest refl refl leads room
          (block_leads body inside no_item back tt (omega (arith, room)) (λ number before. (inl refl, tt))) follows
      statement_leads (assign line name place add value) at items rest leads room follows =
          one_leads at items _ rest leads (item_leads (assign line name place add value) false at.table at.container at.variable no_item tt) room follows
      statement_leads (copy line to to_dimensions from from_dimensions) at items rest leads room follows =
          one_leads at items _ rest leads (item_leads (copy line to to_dimensions from from_dimensions) false at.table at.container at.variable no_item tt) room follows
      statement_leads (reduce line lambda from to axis identity) at items rest leads room follows =
          one_leads at items _ rest leads (item_leads (reduce line lambda from to axis identity) false at.table at.container at.variable no_item tt) room follows
      statement_leads (map_scope line parameters ranges body) at items rest leads room follows =
          one_leads at items _ rest leads (item_leads (map_scope line parameters ranges body) false at.table at.container at.variable no_item tt) room follows
      statement_leads (tasklet line body) at items rest leads room follows =
          one_leads at items _ rest leads (item_leads (tasklet line body) false at.table at.container at.variable no_item tt) room follows
      statement_leads (consume_scope line stream size name element worker body) at items rest leads room follows =
          one_leads at items _ rest leads (item_leads (consume_scope line stream size name element worker body) false at.table at.container at.variable no_item tt) room follows
      statement_leads (call line name arguments) at items rest leads room follows =
          one_leads at items _ rest leads (item_leads (call line name arguments) false at.table at.container at.variable no_item tt) room follows
      statement_leads (input line connector memlet) at items rest leads room follows = one_leads at items no_item rest leads tt room follows
      statement_leads (output line connector memlet) at items rest leads room follows = one_leads at items no_item rest leads tt room follows
      statement_leads (set line name value) at items rest leads room follows = one_leads at items no_item rest leads tt room follows
      statement_leads (set_at line name place value) at items rest leads room follows = one_leads at items no_item rest leads tt room follows
      statement_leads (tasklet_branch line when body other) at items rest leads room follows = one_leads at items no_item rest leads tt room follows

      -- the transitions of the last state lead upwards too
      pub block_leads : (block : Block) (at : Standing) (items : ItemTrees) (exits : List ExitTree) → ItemsLeadUpwards items → at.state + states_in_all block ≤ count →
          ((number : ℕ) → number + 1 ≡ at.state + states_in_all block → ExitsLeadUpwards count number exits) → AreUpwards count at.state (chained_all graphs block at items exits)
      block_leads no_statement at items exits leads room ends = (leads, (λ number before. ends number (before ∙ sym (add-zero at.state))), tt)
      block_leads (and_statement first rest) at items exits leads room ends =
          statement_leads first at items (λ items. chained_all graphs rest (behind first at) items exits) leads (omega (arith, room))
          (λ items leads. block_leads rest (behind first at) items exits leads (omega (arith, room))
          (λ number before. ends number (omega (arith, before))))

      -- behind the first block of an `if`, which begins with the state before this next one
      other_leads : (other : Block) (at : Standing) (next : ℕ) (first : ℕ → List PlainState) (rest : ItemTrees → List PlainState) (body : ℕ) → at.state ≡ next + body →
          ((join : ℕ) → length (first join) ≡ body + 1) →
          ((join : ℕ) → join < count → at.state ≤ join → AreUpwards count next (first join)) →
          at.state + states_in_other other ≤ count → Follows (at.state + states_in_other other) rest → AreUpwards count next (chained_other graphs other at first rest)
      other_leads no_statement at next first rest body stands counted leads room follows =
          upwards_joined count next (first at.state) (rest no_item) (leads at.state (omega (arith, room)) (omega arith))
          (subst (λ number. AreUpwards count number (rest no_item)) (omega (arith, stands, counted at.state)) (follows no_item tt))
      other_leads (and_statement statement others) at next first rest body stands counted leads room follows =
          let join : ℕ = at.state + 1 + (states_in statement + states_in_all others) in
          let behind_statement : ItemTrees → List PlainState = λ items. chained_all graphs others (behind statement (state_behind at)) items (plainly join ∷ []) in
          let inner : List PlainState = chained graphs statement (state_behind at) no_item behind_statement in
          let inner_counted : length inner ≡ states_in statement + (states_in_all others + 1) =
          one_counted graphs statement (state_behind at) no_item behind_statement (states_in_all others + 1) (λ items. all_counted graphs others (behind statement (state_behind at)) items (plainly join ∷ [])) in
          let inner_leads : AreUpwards count (at.state + 1) inner =
          statement_leads statement (state_behind at) no_item behind_statement tt (omega (arith, room))
          (λ items leads. block_leads others (behind statement (state_behind at)) items (plainly join ∷ []) leads (omega (arith, room))
          (λ number before. (inr (omega (arith, before), omega (arith, room)), tt))) in
          upwards_joined count next (first join) (inner ++ rest no_item) (leads join (omega (arith, room)) (omega arith))
          (subst (λ number. AreUpwards count number (inner ++ rest no_item)) (omega (arith, stands, counted join))
          (upwards_joined count (at.state + 1) inner (rest no_item) inner_leads
          (subst (λ number. AreUpwards count number (rest no_item)) (omega (arith, inner_counted)) (follows no_item tt))))

-- ---- graphs

abbrev pub LeadUpwards : Named GraphTree → Type 0
LeadUpwards graphs = AllByRecursion (λ entry. LeadsUpwards entry.1) graphs

no_graph_leads : LeadsUpwards no_graph
no_graph_leads = ((λ state. tt), tt)

named_one : (found : Bool) (of : GraphTree) (others : Option GraphTree) → LeadsUpwards of → LeadsUpwards (unwrap_or others no_graph) →
    LeadsUpwards (unwrap_or (cond found (Some of) others) no_graph)
named_one true of others leads rest = leads
named_one false of others leads rest = rest

named_leads : (graphs : Named GraphTree) → LeadUpwards graphs → (name : Name) → LeadsUpwards (graph_named graphs name)
named_leads [] all name = no_graph_leads
named_leads (entry ∷ graphs) all name = named_one (bytes_eq name entry.0) entry.1 (in_force graphs name) all.0 (named_leads graphs all.1 name)

function_leads : (symbols : List Name) (graphs : Name → GraphTree) → ((name : Name) → LeadsUpwards (graphs name)) → (function : FunctionTree) →
    LeadsUpwards (function_graph symbols graphs function)
function_leads symbols graphs upwards function =
    let start : Standing = start_of symbols function in
    let states : List PlainState = states_of_function symbols graphs function in
    let many : ℕ = count_states (states_listed states) in
    let room : 1 + states_in_all function.body ≤ many = omega (arith, states_counted states, all_counted graphs function.body start no_item []) in
    let all : AreUpwards many 1 states = block_leads graphs upwards many function.body start no_item [] tt room (λ number before. tt) in (
      (λ state. subst (λ number. ExitsLeadUpwards many number (exits_at (states_listed states) state)) (zero-add state) (upwards_exits many states 0 all state)),
      upwards_items many 1 states all,
    )

graphs_lead : (symbols : List Name) (before : Named GraphTree) (functions : List FunctionTree) → LeadUpwards before → LeadUpwards (graphs_with symbols before functions)
graphs_lead symbols before [] all = all
graphs_lead symbols before (function ∷ functions) all =
    graphs_lead symbols ((function.name, function_graph symbols (graph_named before) function) ∷ before) functions
    (function_leads symbols (graph_named before) (named_leads before all) function, all)

latest_leads : (graphs : Named GraphTree) → LeadUpwards graphs → LeadsUpwards (latest graphs)
latest_leads [] all = no_graph_leads
latest_leads (entry ∷ graphs) all = all.0

pub program_leads_upwards : (program : ProgramTree) → LeadsUpwards (graph_of program)
program_leads_upwards program = latest_leads (graphs_with program.symbols [] program.functions) (graphs_lead program.symbols [] program.functions tt)
