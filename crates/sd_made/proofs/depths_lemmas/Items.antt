-- The items of a statement stand no deeper than the statement.
use Rattle.std.proofs.Common.{◌≡◌, inl, inr, ℕ, ◌+◌, ◌≤◌, ℤ, List, ◌∷◌, length, Option, Some, Bool, true, false, cond, ◌&&◌, refl, arith}
use Rattle.sd_lex.specs.PlainTree.{StatementTree, assign, copy, reduce, map_scope, tasklet, consume_scope, call, Block, no_statement, and_statement}
use Rattle.sd_lex.specs.StatementKind.{has_connector}
use Rattle.sd_graph.specs.PlainTree as plain
use Rattle.sd_graph.specs.PlainTree.{KindTree, ItemTrees, GraphTree, ExitTree}
use Rattle.sd_program.specs.Names.{Name}
use Rattle.sd_program.specs.Declared.{containers_in}
use Rattle.sd_program.specs.Place.{Place, scope, in_map, in_consume, past, EveryAt, EveryFrom}
use Rattle.sd_task.specs.in_force.Ranges.{parameters_of}
use Rattle.sd_task.specs.task.Table.{Table, with_container, with_variables}
use Rattle.sd_task.specs.tasklets.Item.{task_with, inputs_of, outputs_of}
use Rattle.sd_elab.specs.items.Counts.{variables_in}
use Rattle.sd_elab.specs.items.NamesBehind.{own_of, table_behind}
use Rattle.sd_elab.specs.items.Items.{taken_link, items_with, items_of_body}
use Rattle.sd_elab.specs.items.Kinds.{kind_of}
use Rattle.sd_validity.specs.rules.Places.{Scopes, in_map as in_map_of, in_consume as in_consume_of}
use Rattle.sd_made.proofs.places_lemmas.Made.{IsAround}
use Rattle.sd_made.proofs.depths_lemmas.Loops.{Loops, about}
use Rattle.sd_made.proofs.depths_lemmas.Made.{IsItem}
use Rattle.sd_made.proofs.depths_lemmas.Alone.{KindAlone, ItemsAlone}

module _ (Given : Place → StatementTree → Type 0) (Nested : GraphTree → Type 0) (Leave : (state : ℕ) → ExitTree → Type 0) (loops : Loops)
    (graphs : Name → GraphTree) (inner : (name : Name) → Nested (graphs name)) where
  abbrev pub Do : (state : ℕ) → Scopes → KindTree → Type 0
  Do state scopes kind = IsItem Given (about loops state) scopes kind

  abbrev pub Items : ItemTrees → (state : ℕ) → Scopes → Type 0
  Items items state scopes = ItemsAlone Nested Leave Do items state scopes

  abbrev Inside : KindTree → (state : ℕ) → Scopes → Type 0
  Inside kind state scopes = KindAlone Nested Leave Do kind state scopes

  element_inside : (resolved : Bool) (one other : KindTree) (state : ℕ) (scopes : Scopes) → Inside one state scopes → Inside other state scopes → Inside (cond resolved one other) state scopes
  element_inside true one other state scopes holds others = holds
  element_inside false one other state scopes holds others = others

  module _ (state : ℕ) where
    of_statement : (statement : StatementTree) (in_scope : Bool) (table : Table) (container variable : ℕ) (scopes : Scopes) (place : Place) (kind : KindTree) → IsAround in_scope place.around →
        scopes.count + about loops state ≤ place.depth → EveryAt Given place statement → kind_of graphs statement in_scope table container variable ≡ Some kind → Do state scopes kind
    of_statement statement in_scope table container variable scopes place kind around deep given made = inl (record {
      place = place;
      statement = statement;
      in_scope = in_scope;
      table = table;
      container = container;
      variable = variable;
      graphs = graphs;
      around = around;
      given = given;
      deep = deep;
      made = made;
    })

    -- the block of a consume scope, which may be one tasklet
    consumed_made : (is_task : Bool) (line : ℕ) (stream : Name) (size : ℤ) (name element : Name) (worker : Option Name) (body : Block) (table : Table) (container variable : ℕ) (scopes : Scopes)
        (own : List ℕ) (place : Place) → has_connector body ≡ is_task → scopes.count + about loops state ≤ place.depth → Given place (consume_scope line stream size name element worker body) →
        EveryFrom Given (in_consume is_task element place) body →
        (EveryFrom Given (in_consume false element place) body → Items (items_of_body graphs body (with_container element container table) (container + 1) variable) state (in_consume_of scopes container own)) →
        Items
        (cond is_task (plain.and_item line (task_with table (taken_link element container ∷ inputs_of table body) (outputs_of table body) body) plain.no_item)
        (items_of_body graphs body (with_container element container table) (container + 1) variable))
        state (in_consume_of scopes container own)
    consumed_made true line stream size name element worker body table container variable scopes own place connects deep here given of_body = (
      inr (record {
        place = place;
        line = line;
        stream = stream;
        size = size;
        name = name;
        element = element;
        worker = worker;
        body = body;
        table = table;
        container = container;
        scope = here;
        connects = connects;
        given = given;
        deep = omega (arith, deep);
        made = refl;
      }),
      tt,
      tt,
    )
    consumed_made false line stream size name element worker body table container variable scopes own place connects deep here given of_body = of_body given

    mutual
      pub item_made : (statement : StatementTree) (in_scope : Bool) (table : Table) (container variable : ℕ) (rest : ItemTrees) (scopes : Scopes) (place : Place) → IsAround in_scope place.around →
          scopes.count + about loops state ≤ place.depth → EveryAt Given place statement → Items rest state scopes → Items (items_with graphs statement in_scope table container variable rest) state scopes
      item_made (assign line name at add value) in_scope table container variable rest scopes place around deep given others = (
        of_statement (assign line name at add value) in_scope table container variable scopes place _ around deep given refl,
        element_inside (add && in_scope) _ _ state scopes tt tt,
        others,
      )
      item_made (copy line to to_dimensions from from_dimensions) in_scope table container variable rest scopes place around deep given others =
          (of_statement (copy line to to_dimensions from from_dimensions) in_scope table container variable scopes place _ around deep given refl, tt, others)
      item_made (reduce line lambda from to axis identity) in_scope table container variable rest scopes place around deep given others =
          (of_statement (reduce line lambda from to axis identity) in_scope table container variable scopes place _ around deep given refl, tt, others)
      item_made (map_scope line parameters ranges body) in_scope table container variable rest scopes place around deep given others = (
        of_statement (map_scope line parameters ranges body) in_scope table container variable scopes place _ around deep given refl,
        body_made body (with_variables parameters variable table) container (variable + length parameters) (in_map_of scopes (parameters_of table.variables ranges variable) (own_of body container)) (in_map place) refl
            (omega (arith, deep)) given.1,
        others,
      )
      item_made (tasklet line body) in_scope table container variable rest scopes place around deep given others =
          (of_statement (tasklet line body) in_scope table container variable scopes place _ around deep given refl, tt, others)
      item_made (consume_scope line stream size name element worker body) in_scope table container variable rest scopes place around deep given others =
          let own : List ℕ = own_of body (container + 1) in (
            of_statement (consume_scope line stream size name element worker body) in_scope table container variable scopes place _ around deep given refl,
            consumed_made (has_connector body) line stream size name element worker body table container variable scopes own place refl deep given.0 given.1
                (λ given. body_made body (with_container element container table) (container + 1) variable (in_consume_of scopes container own) (in_consume false element place) refl (omega (arith, deep)) given),
            others,
          )
      item_made (call line name arguments) in_scope table container variable rest scopes place around deep given others =
          (of_statement (call line name arguments) in_scope table container variable scopes place _ around deep given refl, inner name, others)
      item_made statement in_scope table container variable rest scopes place around deep given others = others

      body_made : (body : Block) (table : Table) (container variable : ℕ) (scopes : Scopes) (place : Place) → place.around ≡ scope → scopes.count + about loops state ≤ place.depth → EveryFrom Given place body →
          Items (items_of_body graphs body table container variable) state scopes
      body_made no_statement table container variable scopes place around deep given = tt
      body_made (and_statement first rest) table container variable scopes place around deep given =
          item_made first true table container variable _ scopes place around deep given.0
          (body_made rest (table_behind first container table) (container + containers_in first) (variable + variables_in first) scopes (past first place) around deep given.1)
