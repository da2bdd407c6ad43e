-- Items behind others.
use Rattle.std.proofs.Common.{◌≡◌, ◌∙◌, ℕ, ◌+◌, Bool, true, arith, List, [], ◌∷◌, ◌++◌, refl, ap, sym}
use Rattle.sd_lex.specs.PlainTree.{StatementTree, argument_array, local_array, local_stream, assign, copy, reduce, map_scope, tasklet, consume_scope, call, for_loop, while_loop, branch, input, output, set, set_at, tasklet_branch, Block, no_statement, and_statement}
use Rattle.sd_program.specs.Declared.{containers_in, containers_in_all}
use Rattle.sd_program.specs.Names.{Name}
use Rattle.sd_task.specs.task.Table.{Table}
use Rattle.sd_graph.specs.PlainTree.{KindTree, ItemTrees, no_item, and_item, GraphTree}
use Rattle.sd_graph.specs.TreeFold.{PlainState, PlainItem, kind_step, item_step, graph_step, state_step, item_trees, item_tree, kind_tree}
use Rattle.sd_graph.specs.declared.graph.Item.{Item}
use Rattle.sd_graph.specs.declared.graph.State.{State}
use Rattle.sd_graph.specs.declared.graph.Sdfg.{Sdfg}
use Rattle.sd_graph.specs.declared.graph.ItemKind.{ItemKind}
use Rattle.sd_graph.specs.declared.graph.ItemKind.TheFolds.{fold-roll-Item}
use Rattle.sd_graph.specs.declared.graph.ItemKind.TheOpen.{Item-F}
use Rattle.sd_graph.specs.declared.graph.ItemKind.TheViews.{roll-Item}
use Rattle.sd_elab.specs.items.Appended.{appended}
use Rattle.sd_elab.specs.items.Counts.{variables_in, variables_in_all}
use Rattle.sd_elab.specs.items.Items.{items_with, items_of_body}
use Rattle.sd_elab.specs.items.NamesBehind.{table_behind}

-- an item that is closed
item_rolled : (item : Item-F ItemKind Item Sdfg State) → item_tree (roll-Item item) ≡ (item.line, kind_tree item.kind)
item_rolled = fold-roll-Item KindTree PlainItem GraphTree PlainState kind_step item_step graph_step state_step

-- one more item
pub item_pushed : (items : List Item) (item : Item-F ItemKind Item Sdfg State) →
    item_trees (items ++ roll-Item item ∷ []) ≡ appended (item_trees items) (and_item item.line (kind_tree item.kind) no_item)
item_pushed [] item = ap (λ (pushed : PlainItem). and_item pushed.0 pushed.1 no_item) (item_rolled item)
item_pushed (first ∷ rest) item = ap (and_item (item_tree first).0 (item_tree first).1) (item_pushed rest item)

pub appended_grouped : (first second third : ItemTrees) → appended (appended first second) third ≡ appended first (appended second third)
appended_grouped no_item second third = refl
appended_grouped (and_item line kind rest) second third = ap (and_item line kind) (appended_grouped rest second third)

module _ (graphs : Name → GraphTree) where
  -- the item of a statement stands before others
  with_before : (statement : StatementTree) (in_scope : Bool) (table : Table) (container variable : ℕ) (rest : ItemTrees) →
      appended (items_with graphs statement in_scope table container variable no_item) rest ≡ items_with graphs statement in_scope table container variable rest
  with_before (argument_array line name bits extents) in_scope table container variable rest = refl
  with_before (local_array line name extents bits) in_scope table container variable rest = refl
  with_before (local_stream line name bits size) in_scope table container variable rest = refl
  with_before (assign line name at add value) in_scope table container variable rest = refl
  with_before (copy line to to_dimensions from from_dimensions) in_scope table container variable rest = refl
  with_before (reduce line lambda from to axis identity) in_scope table container variable rest = refl
  with_before (map_scope line parameters ranges body) in_scope table container variable rest = refl
  with_before (tasklet line body) in_scope table container variable rest = refl
  with_before (consume_scope line stream size name element worker body) in_scope table container variable rest = refl
  with_before (call line name arguments) in_scope table container variable rest = refl
  with_before (for_loop line name begin end step body) in_scope table container variable rest = refl
  with_before (while_loop line when body) in_scope table container variable rest = refl
  with_before (branch line when body other) in_scope table container variable rest = refl
  with_before (input line connector memlet) in_scope table container variable rest = refl
  with_before (output line connector memlet) in_scope table container variable rest = refl
  with_before (set line name value) in_scope table container variable rest = refl
  with_before (set_at line name at value) in_scope table container variable rest = refl
  with_before (tasklet_branch line when body other) in_scope table container variable rest = refl

  -- one more statement of a block
  pub one_more_made : (old new : ItemTrees) (first : StatementTree) (rest : Block) (table : Table) (container variable : ℕ) →
      new ≡ appended old (items_with graphs first true table container variable no_item) →
      appended new (items_of_body graphs rest (table_behind first container table) (container + containers_in first) (variable + variables_in first))
      ≡ appended old (items_of_body graphs (and_statement first rest) table container variable)
  one_more_made old new first rest table container variable made =
      let behind : ItemTrees = items_of_body graphs rest (table_behind first container table) (container + containers_in first) (variable + variables_in first) in
      ap (λ items. appended items behind) made
      ∙ appended_grouped old (items_with graphs first true table container variable no_item) behind
      ∙ ap (appended old) (with_before first true table container variable behind)

  -- a statement of a block, where what it left is equal to what it should
  pub one_step : (left rest : Block) (first : StatementTree) (before behind : Table) (container variable next_container next_variable : ℕ) (old new all : ItemTrees) →
      left ≡ and_statement first rest → appended old (items_of_body graphs left before container variable) ≡ all →
      new ≡ appended old (items_with graphs first true before container variable no_item) →
      behind ≡ table_behind first container before → next_container ≡ container + containers_in first → next_variable ≡ variable + variables_in first →
      appended new (items_of_body graphs rest behind next_container next_variable) ≡ all
  one_step left rest first before behind container variable next_container next_variable old new all left-is all-is made behind-is container-is variable-is =
      ap (λ table. appended new (items_of_body graphs rest table next_container next_variable)) behind-is
      ∙ ap (λ number. appended new (items_of_body graphs rest (table_behind first container before) number next_variable)) container-is
      ∙ ap (λ number. appended new (items_of_body graphs rest (table_behind first container before) (container + containers_in first) number)) variable-is
      ∙ one_more_made old new first rest before container variable made
      ∙ ap (λ block. appended old (items_of_body graphs block before container variable)) (sym left-is)
      ∙ all-is

-- one statement of a block counted
pub containers_counted : (left rest : Block) (first : StatementTree) (number next total : ℕ) →
    left ≡ and_statement first rest → number + containers_in_all left ≡ total → next ≡ number + containers_in first → next + containers_in_all rest ≡ total
containers_counted left rest first number next total left-is total-is next-is =
    let both : containers_in_all left ≡ containers_in first + containers_in_all rest = ap containers_in_all left-is in
    omega (arith, both, total-is, next-is)

pub variables_counted : (left rest : Block) (first : StatementTree) (number next total : ℕ) →
    left ≡ and_statement first rest → number + variables_in_all left ≡ total → next ≡ number + variables_in first → next + variables_in_all rest ≡ total
variables_counted left rest first number next total left-is total-is next-is =
    let both : variables_in_all left ≡ variables_in first + variables_in_all rest = ap variables_in_all left-is in
    omega (arith, both, total-is, next-is)

-- what was made is all where nothing is left
pub nothing_behind : (items : ItemTrees) → appended items no_item ≡ items
nothing_behind no_item = refl
nothing_behind (and_item line kind rest) = ap (and_item line kind) (nothing_behind rest)

-- the items of a block are all made where no statement is left
pub all_items_made : (graphs : Name → GraphTree) (left : Block) (table : Table) (container variable : ℕ) (items all : ItemTrees) →
    left ≡ no_statement → appended items (items_of_body graphs left table container variable) ≡ all → items ≡ all
all_items_made graphs left table container variable items all left-is made =
    sym (nothing_behind items) ∙ ap (λ block. appended items (items_of_body graphs block table container variable)) (sym left-is) ∙ made
