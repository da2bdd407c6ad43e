-- The items of a program have the nodes, and do to containers, what its statements say.
use Rattle.std.proofs.Common.{◌≡◌, ◌∙◌, ℕ, ◌+◌, ◌-◌, ◌≤◌, List, [], ◌∷◌, ◌++◌, length, nat_eq, Option, Some, None, Bool, true, false, not, cond, ◌&&◌, ◌||◌, if◌then◌else◌, bytes_eq, codes, refl, ap, sym, subst, arith}
use Rattle.std.specs.Prelude.{⊤}
use Rattle.std.specs.List.{AllByRecursion}
use Rattle.std.proofs.lemmas.List.Folds.{list_any-append}
use Rattle.sd_lex.specs.PlainTree.{Dimension, Expression, element_at, two, Expressions, StatementTree, argument_array, local_array, local_stream, assign, copy, reduce, map_scope, tasklet, consume_scope, call, for_loop, while_loop, branch, input, output, set, set_at, tasklet_branch, Block, no_statement, and_statement, FunctionTree}
use Rattle.sd_lex.specs.StatementKind.{has_connector}
use Rattle.sd_lex.specs.declared.syntax.operator.TwoSign.TheVariants.{Add}
use Rattle.sd_num.specs.declared.resolution.Resolution.{Resolution}
use Rattle.sd_num.specs.declared.resolution.Resolution.TheVariants.{Sum}
use Rattle.sd_source.specs.nodes.Items as source
use Rattle.sd_source.specs.nodes.Items.{Item, Items, none, single}
use Rattle.sd_source.specs.nodes.Names.{is_among, found, noted_own}
use Rattle.sd_source.specs.nodes.Nodes.{chosen}
use Rattle.sd_source.specs.nodes.NodeLimits.{nested}
use Rattle.sd_source.specs.nodes.SourceItems.{Parameters, parameters_by, given, with_locals, elements_in, connected, summed, item_of, items_of}
use Rattle.sd_source.specs.declared.nodes.access.Access.{Access}
use Rattle.sd_source.specs.declared.nodes.access.Access.TheVariants.{Read, Write}
use Rattle.sd_source.specs.declared.nodes.functions.Functions.{Functions}
use Rattle.sd_graph.specs.PlainTree as plain
use Rattle.sd_graph.specs.PlainTree.{KindTree, ItemTrees, GraphTree, TaskletTree}
use Rattle.sd_graph.specs.TreeParts.{containers_of}
use Rattle.sd_graph.specs.ContainerParts.{Containers}
use Rattle.sd_graph.specs.Mode as modes
use Rattle.sd_graph.specs.Mode.{Mode}
use Rattle.sd_graph.specs.Wiring.{Use, use_of, reduction_mode, outside, kind_uses, item_uses, graph_uses}
use Rattle.sd_graph.specs.declared.link.Link.{Link}
use Rattle.sd_wire.specs.declared.wiring.access.Access.TheVariants.{Reads, Writes}
use Rattle.sd_wire.specs.wiring.Mentioned.{is_of, has_access}
use Rattle.sd_range.specs.declared.range.Range.{Range}
use Rattle.sd_program.specs.Names.{Name, in_force}
use Rattle.sd_program.specs.Bounds.{EachBound}
use Rattle.sd_program.specs.IsAffine.{IsAffine}
use Rattle.sd_program.specs.Calls.{argument_counts, IsCallable}
use Rattle.sd_program.specs.Declared.{containers_in, containers_in_all}
use Rattle.sd_program.specs.Place.{of_dimensions, of_values, length_of, scope, Place, past, in_map, in_tasklet, in_consume, EveryAt, EveryFrom}
use Rattle.sd_program.specs.Known.{IsPlaced, IsKnown, IsArrayOf, KnowsElements}
use Rattle.sd_task.specs.task.Table.{Table, with_container, with_variables, container_number}
use Rattle.sd_task.specs.task.Links.{element_link, subset_link, resolution_of}
use Rattle.sd_task.specs.task.ElementCode.{links_with, assignment, element_task}
use Rattle.sd_task.specs.tasklets.Item.{tasklet_item, task_with, inputs_of, outputs_of}
use Rattle.sd_task.specs.in_force.Ranges.{parameters_of}
use Rattle.sd_elab.specs.items.Counts.{variables_in}
use Rattle.sd_elab.specs.items.NamesBehind.{own_of, table_behind}
use Rattle.sd_elab.specs.items.Items.{call_links, taken_link, items_with, items_of_body}
use Rattle.sd_made.proofs.places_lemmas.Given.{so_at, so_from}
use Rattle.sd_made.proofs.places_lemmas.Made.{IsAround}
use Rattle.sd_made.specs.counted.Drawn as drawn
use Rattle.sd_made.specs.counted.Drawn.{current_behind}
use Rattle.sd_made.specs.counted.Counted as counted
use Rattle.sd_made.specs.counted.Counted.{names_in, names_in_all, item_nested, list_nested}
use Rattle.sd_made.proofs.counted_lemmas.Agreed.{IsOwn, AreCurrent, DoAgree, read_same, written_same, current_same}
use Rattle.sd_made.proofs.nodes_lemmas.Places.{nested_in, nested_in_all, nodes_in, IsFew, AreFew, HasFew}
use Rattle.sd_made.proofs.nodes_lemmas.Entries.{Entry, entry_of, name_of, number_of, entries_of, entries_in, level_in, all_first, all_second, all_levels_hold, AreApart, other_holder}
use Rattle.sd_made.proofs.nodes_lemmas.Own.{scope_is_own, IsOutside, IsClear, AreClear, scope_is_clear}
use Rattle.sd_made.proofs.nodes_lemmas.Known.{AreKnown, one_more_known, known_behind, entry_known}
use Rattle.sd_made.proofs.nodes_lemmas.Modes.{drawn_as, and_true, and_false, has_link, is_take, takes, task_does, task_takes, outside_same, DoAs}
use Rattle.sd_made.proofs.nodes_lemmas.Outside.{chosen_among, outside_own, outside_element, other_container, task_own, none_current, moved_does, moved_takes, reduction_told}
use Rattle.sd_made.proofs.nodes_lemmas.Uses.{named_same, part_same, elements_same, call_same, connected_same, nested_takes}

-- what is asked of each statement in its place
abbrev pub Fit : Place → StatementTree → Type 0
Fit place statement = IsPlaced place statement × (IsKnown place statement × (IsCallable place statement × EachBound IsAffine statement))

pub placed_at : (place : Place) (statement : StatementTree) → EveryAt Fit place statement → EveryAt IsPlaced place statement
placed_at = so_at Fit IsPlaced (λ place statement fit. fit.0)

pub placed_from : (place : Place) (block : Block) → EveryFrom Fit place block → EveryFrom IsPlaced place block
placed_from = so_from Fit IsPlaced (λ place statement fit. fit.0)

known_from : (place : Place) (block : Block) → EveryFrom Fit place block → EveryFrom IsKnown place block
known_from = so_from Fit IsKnown (λ place statement fit. fit.1.0)

-- ---- functions that are called

-- the graph of a function with so many arguments, what it does with its parameters, and its nodes in all
pub record IsCallee (most : ℕ) (tree : GraphTree) (parameters : Parameters) (nodes count : ℕ) : Type 0 where
  pub counted : length parameters ≡ count
  pub there : count ≤ length (containers_of tree)
  pub does : DoAs (graph_uses tree) 0 parameters
  pub same : nodes_in tree ≡ nodes
  pub few : HasFew most tree

-- what is known of the graphs of the functions above
abbrev pub AreCallees : (most : ℕ) → (above : List FunctionTree) → (graphs : Name → GraphTree) → Functions → Type 0
AreCallees most above graphs functions =
    (name : Name) (count : ℕ) → in_force (argument_counts above) name ≡ Some count →
    IsCallee most (graphs name) (parameters_by (found functions.parameters name)) (nested functions.counts (Some name)) count

module _ (most : ℕ) (above : List FunctionTree) (graphs : Name → GraphTree) (functions : Functions) (callees : AreCallees most above graphs functions) (Is : Entry → Type 0)
    (apart : (entry other : Entry) → Is entry → Is other → AreApart entry other) (all : Containers) where
  -- an item of the graph is as one of the source, where the containers of its own are so many from one on
  pub record Agrees (kind : KindTree) (item : Item) (container count : ℕ) : Type 0 where
    pub does : (access : Access) (entry : Entry) → Is entry → IsOutside container count entry → has_access (drawn_as access) (kind_uses kind all) entry.number ≡ is_among (names_in access item) entry.name
    pub taken : (entry : Entry) (dimensions : ℕ) → Is entry → entry.holder ≡ of_dimensions dimensions → IsOutside container count entry → takes (kind_uses kind all) entry.number ≡ false
    pub inner : nested_in kind ≡ item_nested functions.counts item
    pub few : IsFew most kind
    pub nodes : drawn.item_nodes kind all ≡ counted.item_nodes item

  -- so it is of lists of items
  pub record AllAgree (items : ItemTrees) (others : Items) (container count : ℕ) (Clear : List Entry → Type 0) : Type 0 where
    pub does : (access : Access) (entry : Entry) → Is entry → IsOutside container count entry → has_access (drawn_as access) (item_uses items all) entry.number ≡ is_among (names_in_all access others) entry.name
    pub taken : (entry : Entry) (dimensions : ℕ) → Is entry → entry.holder ≡ of_dimensions dimensions → IsOutside container count entry → takes (item_uses items all) entry.number ≡ false
    pub inner : nested_in_all items ≡ list_nested functions.counts others
    pub few : AreFew most items
    pub nodes : (level : List Entry) (own : List ℕ) (names : List Name) → IsOwn name_of number_of level own names → AllByRecursion Is level → Clear level → (current : List ℕ) (known : List Name) →
        AreCurrent name_of number_of level current known → drawn.list_nodes items all own current ≡ counted.list_nodes names known others

  pub none_agree : (container : ℕ) → AllAgree plain.no_item source.no_item container 0 (λ level. ⊤)
  none_agree container = record {
    does = λ access entry is outside. refl;
    taken = λ entry dimensions is array outside. refl;
    inner = refl;
    few = tt;
    nodes = λ level own names of are clear current known same. refl;
  }

  -- a declaration has no item
  none_more : (line : ℕ) (items : ItemTrees) (others : Items) (container one more : ℕ) (Clear First : List Entry → Type 0) → AllAgree items others (container + one) more Clear →
      AllAgree items (source.and_item (none line) others) container (one + more) (λ level. First level × Clear level)
  none_more line items others container one more Clear First agree = record {
    does = λ access entry is outside. agree.does access entry is (λ least most. outside (omega (arith, least)) (omega (arith, most)));
    taken = λ entry dimensions is array outside. agree.taken entry dimensions is array (λ least most. outside (omega (arith, least)) (omega (arith, most)));
    inner = agree.inner ∙ omega arith;
    few = agree.few;
    nodes = λ level own names of are clear current known same. agree.nodes level own names of are clear.1 current known same ∙ no_more names known others;
  }
    where
      no_more : (names known : List Name) (others : Items) → counted.list_nodes names known others ≡ (length known - length known) + (0 + ((0 - 0) + counted.list_nodes names known others))
      no_more names known others = omega arith

  agree_all : (access : Access) (kind : KindTree) (item : Item) (container count : ℕ) → Agrees kind item container count → (level : List Entry) → AllByRecursion Is level → AllByRecursion (IsOutside container count) level →
      DoAgree name_of number_of level (drawn_as access) (kind_uses kind all) (names_in access item)
  agree_all access kind item container count agrees [] are clear = tt
  agree_all access kind item container count agrees (entry ∷ level) are clear = (agrees.does access entry are.0 clear.0, agree_all access kind item container count agrees level are.1 clear.1)

  -- one item more
  one_more : (line : ℕ) (kind : KindTree) (item : Item) (items : ItemTrees) (others : Items) (container one more : ℕ) (Clear : List Entry → Type 0) → Agrees kind item container one → AllAgree items others (container + one) more Clear →
      AllAgree (plain.and_item line kind items) (source.and_item item others) container (one + more) (λ level. AllByRecursion (IsOutside container one) level × Clear level)
  one_more line kind item items others container one more Clear agrees agree = record {
    does = λ access entry is outside.
        list_any-append _ (kind_uses kind all) (item_uses items all)
        ∙ (λ i. agrees.does access entry is (λ least most. outside least (omega (arith, most))) i || agree.does access entry is (λ least most. outside (omega (arith, least)) (omega (arith, most))) i)
        ∙ sym (list_any-append (bytes_eq entry.name) (names_in access item) (names_in_all access others));
    taken = λ entry dimensions is array outside.
        list_any-append _ (kind_uses kind all) (item_uses items all)
        ∙ (λ i. agrees.taken entry dimensions is array (λ least most. outside least (omega (arith, most))) i
        || agree.taken entry dimensions is array (λ least most. outside (omega (arith, least)) (omega (arith, most))) i);
    inner = λ i. agrees.inner i + agree.inner i;
    few = (agrees.few, agree.few);
    nodes = λ level own names of are clear current known same.
        let reads : DoAgree name_of number_of level Reads (kind_uses kind all) (names_in Read item) = agree_all Read kind item container one agrees level are clear.0 in
        let writes : DoAgree name_of number_of level Writes (kind_uses kind all) (names_in Write item) = agree_all Write kind item container one agrees level are clear.0 in
        let behind : drawn.list_nodes items all own (current_behind kind all own current) ≡ counted.list_nodes names (noted_own names (noted_own names known (names_in Read item)) (names_in Write item)) others =
        agree.nodes level own names of are clear.1 (current_behind kind all own current) (noted_own names (noted_own names known (names_in Read item)) (names_in Write item))
        (current_same name_of number_of level own names of kind all current known (names_in Read item) (names_in Write item) same reads writes) in
        (λ i. read_same name_of number_of level own names of kind all current known (names_in Read item) same reads i
        + (agrees.nodes i + (written_same name_of number_of level own names of kind all (names_in Write item) writes i + behind i)));
  }

  -- ---- items that are no scopes

  -- a tasklet
  task_agrees : (line : ℕ) (code : TaskletTree) (ins outs : List Link) (reads writes : List Name) (container count : ℕ) →
      ((entry : Entry) → Is entry → IsOutside container count entry → (has_link ins entry.number ≡ is_among reads entry.name) × (has_link outs entry.number ≡ is_among writes entry.name)) →
      Agrees (plain.task code ins outs) (single line None reads writes) container count
  task_agrees line code ins outs reads writes container count same = record {
    does = λ access entry is outside.
        task_does all access code ins outs entry.number (is_among reads entry.name) (is_among writes entry.name) (same entry is outside).0 (same entry is outside).1 ∙ chosen_among access reads writes entry.name;
    taken = λ entry dimensions is array outside. task_takes all code ins outs entry.number;
    inner = refl;
    few = tt;
    nodes = refl;
  }

  module _ (place : Place) (table : Table) (are : AreKnown Is place.containers table.containers) where
    assignment_agrees : (line : ℕ) (name : Name) (at : Expressions) (resolution : Option Resolution) (value : Expression) (container count : ℕ) → IsArrayOf place.containers name (length_of at) →
        KnowsElements place.containers value → Agrees (assignment table name at resolution value) (single line None (elements_in value) (name ∷ [])) container count
    assignment_agrees line name at resolution value container count array knows =
        task_agrees line _ (links_with table [] value) (element_link table _ name at resolution ∷ []) (elements_in value) (name ∷ []) container count
        (λ entry is outside. (
          elements_same Is apart table entry is place.containers are [] value knows,
          ap (λ same. same || false) (named_same Is apart table entry is place.containers are name (of_dimensions (length_of at), array)),
        ))

    element_agrees : (line : ℕ) (in_scope add : Bool) (name : Name) (at : Expressions) (value : Expression) (container count : ℕ) → IsArrayOf place.containers name (length_of at) → KnowsElements place.containers value → Agrees (element_task table in_scope name at add value) (single line None (summed (add && not in_scope) name ++ elements_in value) (name ∷ [])) container count
    element_agrees line in_scope false name at value container count array knows = assignment_agrees line name at None value container count array knows
    element_agrees line true true name at value container count array knows = assignment_agrees line name at (Some Sum) value container count array knows
    element_agrees line false true name at value container count array knows = assignment_agrees line name at None (two Add (element_at name at) value) container count array (array, knows)

    moved_agrees : (line : ℕ) (kind : KindTree) (from to : Link) (mode : Mode) (source_name target_name : Name) (container count : ℕ) → kind_uses kind all ≡ use_of modes.Read from ∷ use_of mode to ∷ [] →
        (is_of Writes mode ≡ true) × ((is_of Reads mode ≡ false) × (is_take mode ≡ false)) → nested_in kind ≡ 0 → IsFew most kind → drawn.item_nodes kind all ≡ 1 →
        ((entry : Entry) → Is entry → (nat_eq from.memlet.container entry.number ≡ bytes_eq entry.name source_name) × (nat_eq to.memlet.container entry.number ≡ bytes_eq entry.name target_name)) →
        Agrees kind (single line None (source_name ∷ []) (target_name ∷ [])) container count
    moved_agrees line kind from to mode source_name target_name container count uses is_written inner few nodes same = record {
      does = λ access entry is outside.
          ap (λ (uses : List Use). has_access (drawn_as access) uses entry.number) uses
          ∙ moved_does from to mode is_written entry.number access entry.name source_name target_name (same entry is).0 (same entry is).1;
      taken = λ entry dimensions is array outside. ap (λ (uses : List Use). takes uses entry.number) uses ∙ moved_takes from to mode is_written entry.number;
      inner = inner;
      few = few;
      nodes = nodes;
    }

    call_agrees : (line : ℕ) (name : Name) (arguments : List (Name × List Dimension)) (container count : ℕ) → in_force (argument_counts above) name ≡ Some (length arguments) → IsKnown place (call line name arguments) →
        Agrees (plain.nested_graph (graphs name) (call_links table arguments (containers_of (graphs name)))) (item_of functions.parameters false (call line name arguments)) container count
    call_agrees line name arguments container count callable known =
        let callee : IsCallee most (graphs name) (parameters_by (found functions.parameters name)) (nested functions.counts (Some name)) (length arguments) = callees name (length arguments) callable in
        let parameters : Parameters = parameters_by (found functions.parameters name) in
        record {
          does = λ access entry is outside.
              call_same Is apart table entry is place.containers are access (graph_uses (graphs name)) 0 parameters arguments (containers_of (graphs name)) callee.does callee.counted callee.there known
              ∙ given_chosen access parameters entry.name;
          taken = λ entry dimensions is array outside. nested_takes (graph_uses (graphs name)) 0 parameters table arguments (containers_of (graphs name)) entry.number callee.does callee.counted;
          inner = callee.same;
          few = callee.few;
          nodes = refl;
        }
      where
        given_chosen : (access : Access) (parameters : Parameters) (wanted : Name) → is_among (given access parameters arguments) wanted ≡ is_among (chosen access (given Read parameters arguments) (given Write parameters arguments)) wanted
        given_chosen Read parameters wanted = refl
        given_chosen Write parameters wanted = refl

  -- ---- scopes

  map_agrees : (line : ℕ) (params : List (ℕ × Range)) (body : Block) (items : ItemTrees) (place : Place) (container : ℕ) → place.around ≡ scope → EveryFrom IsPlaced place body → AllByRecursion Is (entries_in body container) →
      AllAgree items (items_of functions.parameters body) container (containers_in_all body) (λ level. AreClear level body container) →
      Agrees (plain.map_scope false params (own_of body container) items) (source.map_scope line (with_locals [] body) (items_of functions.parameters body)) container (containers_in_all body)
  map_agrees line params body items place container around placed has agree = record {
    does = λ access entry is outside.
        outside_same (own_of body container) (is_of (drawn_as access)) entry.number (outside_own body container entry.number outside) (item_uses items all) ∙ agree.does access entry is outside;
    taken = λ entry dimensions is array outside.
        outside_same (own_of body container) is_take entry.number (outside_own body container entry.number outside) (item_uses items all) ∙ agree.taken entry dimensions is array outside;
    inner = agree.inner;
    few = agree.few;
    nodes = ap (λ count. 2 + count)
        (agree.nodes (level_in body container) (own_of body container) (with_locals [] body) (scope_is_own Is apart body container place around placed has) (all_levels_hold Is body container has)
        (scope_is_clear body container) [] [] (none_current (level_in body container)));
  }

  -- the block of a consume scope, which may be one tasklet
  pub record IsConsumed (body : Block) (items : ItemTrees) (others : Items) (container : ℕ) (names : List Name) : Type 0 where
    pub does : (access : Access) (entry : Entry) → Is entry → IsOutside container (1 + containers_in_all body) entry → has_access (drawn_as access) (item_uses items all) entry.number ≡ is_among (names_in_all access others) entry.name
    pub taken : (entry : Entry) (dimensions : ℕ) → Is entry → entry.holder ≡ of_dimensions dimensions → IsOutside container (1 + containers_in_all body) entry → takes (item_uses items all) entry.number ≡ false
    pub inner : nested_in_all items ≡ list_nested functions.counts others
    pub few : AreFew most items
    pub nodes : drawn.list_nodes items all (own_of body (container + 1)) [] ≡ counted.list_nodes names [] others

  consumed_agrees : (is_task : Bool) (line : ℕ) (body : Block) (table : Table) (element : Name) (container variable : ℕ) (place : Place) → AreKnown Is place.containers table.containers →
      AllByRecursion Is (cond is_task [] (entry_of element (of_dimensions 1) container ∷ entries_in body (container + 1))) → EveryFrom Fit (in_consume is_task element place) body →
      (AreKnown Is ((element, of_dimensions 1) ∷ place.containers) ((element, container) ∷ table.containers) → AllByRecursion Is (entries_in body (container + 1)) → EveryFrom Fit (in_consume false element place) body →
      AllAgree (items_of_body graphs body (with_container element container table) (container + 1) variable) (items_of functions.parameters body) (container + 1) (containers_in_all body)
      (λ level. AreClear level body (container + 1))) →
      IsConsumed body
      (cond is_task (plain.and_item line (task_with table (taken_link element container ∷ inputs_of table body) (outputs_of table body) body) plain.no_item)
      (items_of_body graphs body (with_container element container table) (container + 1) variable))
      (if is_task then source.and_item (single line None (connected Read body) (connected Write body)) source.no_item else items_of functions.parameters body) container (if is_task then [] else with_locals [] body)
  consumed_agrees true line body table element container variable place are has fit of_body =
      let inside : Place = in_consume true element place in
      let placed : EveryFrom IsPlaced inside body = placed_from inside body fit in
      let outs : List Link = outputs_of table body in
      let ins : List Link = taken_link element container ∷ inputs_of table body in
      let count : ℕ = 1 + containers_in_all body in
      let item : Item = single line None (connected Read body) (connected Write body) in
      let one : Agrees (task_with table ins outs body) item container count =
      task_agrees line _ ins outs (connected Read body) (connected Write body) container count
      (λ entry is outside. (
        (λ i. other_container container (containers_in_all body) entry.number outside i || (connected_same Is apart table entry is body inside refl placed (known_from inside body fit) are).0 i),
        (connected_same Is apart table entry is body inside refl placed (known_from inside body fit) are).1,
      )) in
      let both : AllAgree (plain.and_item line (task_with table ins outs body) plain.no_item) (source.and_item item source.no_item) container (count + 0) (λ level. AllByRecursion (IsOutside container count) level × ⊤) =
      one_more line (task_with table ins outs body) item plain.no_item source.no_item container count 0 (λ level. ⊤) one (none_agree (container + count)) in
      let own : own_of body (container + 1) ≡ [] = task_own body (container + 1) inside refl placed in
      record {
        does = λ access entry is outside. both.does access entry is (λ least less. outside least (omega (arith, less)));
        taken = λ entry dimensions is array outside. both.taken entry dimensions is array (λ least less. outside least (omega (arith, less)));
        inner = both.inner;
        few = both.few;
        nodes = ap (λ own. drawn.list_nodes (plain.and_item line (task_with table ins outs body) plain.no_item) all own []) own ∙ both.nodes [] [] [] nothing_own tt (tt, tt) [] [] tt;
      }
    where
      nothing_own : IsOwn name_of number_of [] [] []
      nothing_own = record { numbers = λ number. refl; names = λ name. refl; numbers_differ = tt; names_differ = tt }
  consumed_agrees false line body table element container variable place are has fit of_body =
      let inside : Place = in_consume false element place in
      let placed : EveryFrom IsPlaced inside body = placed_from inside body fit in
      let items : ItemTrees = items_of_body graphs body (with_container element container table) (container + 1) variable in
      let agree : AllAgree items (items_of functions.parameters body) (container + 1) (containers_in_all body) (λ level. AreClear level body (container + 1)) =
      of_body (one_more_known Is place.containers table.containers element (of_dimensions 1) container has.0 are) has.1 fit in
      let level : List Entry = level_in body (container + 1) in
      record {
        does = λ access entry is outside. agree.does access entry is (λ least less. outside (omega (arith, least)) (omega (arith, less)));
        taken = λ entry dimensions is array outside. agree.taken entry dimensions is array (λ least less. outside (omega (arith, least)) (omega (arith, less)));
        inner = agree.inner;
        few = agree.few;
        nodes = agree.nodes level (own_of body (container + 1)) (with_locals [] body) (scope_is_own Is apart body (container + 1) inside refl placed has.1) (all_levels_hold Is body (container + 1) has.1)
            (scope_is_clear body (container + 1)) [] [] (none_current level);
      }

  consume_agrees : (line : ℕ) (stream : Name) (body : Block) (items : ItemTrees) (others : Items) (names : List Name) (place : Place) (table : Table) (container : ℕ) → AreKnown Is place.containers table.containers →
      in_force place.containers stream ≡ Some of_values → IsConsumed body items others container names →
      Agrees (plain.consume_scope (container_number table stream) container (own_of body (container + 1)) items) (source.consume_scope line stream names others) container (1 + containers_in_all body)
  consume_agrees line stream body items others names place table container are known is_consumed = record {
    does = λ access entry is outside.
        (λ i. (named_same Is apart table entry is place.containers are stream (of_values, known) i && is_of (drawn_as access) modes.Take) || out access entry outside i)
        ∙ ap (λ found. (bytes_eq entry.name stream && is_of (drawn_as access) modes.Take) || found) (is_consumed.does access entry is outside) ∙ by access entry.name;
    taken = λ entry dimensions is array outside.
        (λ i. (apart_from entry dimensions is array i && true) || out_taken entry outside i) ∙ is_consumed.taken entry dimensions is array outside;
    inner = is_consumed.inner;
    few = is_consumed.few;
    nodes = ap (λ count. 2 + count) is_consumed.nodes;
  }
    where
      private : List ℕ
      private = container ∷ own_of body (container + 1)

      out : (access : Access) (entry : Entry) → IsOutside container (1 + containers_in_all body) entry → has_access (drawn_as access) (outside private (item_uses items all)) entry.number ≡ has_access (drawn_as access) (item_uses items all) entry.number
      out access entry is_outside = outside_same private (is_of (drawn_as access)) entry.number (outside_element body container entry.number is_outside) (item_uses items all)

      out_taken : (entry : Entry) → IsOutside container (1 + containers_in_all body) entry → takes (outside private (item_uses items all)) entry.number ≡ takes (item_uses items all) entry.number
      out_taken entry is_outside = outside_same private is_take entry.number (outside_element body container entry.number is_outside) (item_uses items all)

      apart_from : (entry : Entry) (dimensions : ℕ) → Is entry → entry.holder ≡ of_dimensions dimensions → nat_eq (container_number table stream) entry.number ≡ false
      apart_from entry dimensions is array =
          let other : Entry = entry_of stream of_values (container_number table stream) in
          other_holder other entry dimensions refl array (apart other entry (entry_known Is table place.containers are stream of_values known) is)

      by : (access : Access) (wanted : Name) → ((bytes_eq wanted stream && is_of (drawn_as access) modes.Take) || is_among (names_in_all access others) wanted) ≡ is_among (chosen access (stream ∷ []) [] ++ names_in_all access others) wanted
      by Read wanted = ap (λ same. same || is_among (names_in_all Read others) wanted) (and_true (bytes_eq wanted stream))
      by Write wanted = ap (λ same. same || is_among (names_in_all Write others) wanted) (and_false (bytes_eq wanted stream))

  mutual
    pub statement_agrees : (statement : StatementTree) (in_scope : Bool) (table : Table) (container variable : ℕ) (place : Place) (rest : ItemTrees) (others : Items) (behind : Block) →
        IsAround in_scope place.around → place.programs ≡ above → AreKnown Is place.containers table.containers → EveryAt Fit place statement → AllByRecursion Is (entries_of statement container) →
        AllAgree rest others (container + containers_in statement) (containers_in_all behind) (λ level. AreClear level behind (container + containers_in statement)) →
        AllAgree (items_with graphs statement in_scope table container variable rest) (source.and_item (item_of functions.parameters in_scope statement) others) container (containers_in statement + containers_in_all behind)
        (λ level. IsClear level statement container × AreClear level behind (container + containers_in statement))
    statement_agrees (argument_array line name bits extents) in_scope table container variable place rest others behind around of are fit has agree =
        none_more line rest others container 1 (containers_in_all behind) (λ level. AreClear level behind (container + 1)) (λ level. ⊤) agree
    statement_agrees (local_array line name extents bits) in_scope table container variable place rest others behind around of are fit has agree =
        none_more line rest others container 1 (containers_in_all behind) (λ level. AreClear level behind (container + 1)) (λ level. ⊤) agree
    statement_agrees (local_stream line name bits size) in_scope table container variable place rest others behind around of are fit has agree =
        none_more line rest others container 1 (containers_in_all behind) (λ level. AreClear level behind (container + 1)) (λ level. ⊤) agree
    statement_agrees (assign line name at add value) in_scope table container variable place rest others behind around of are fit has agree =
        one_more line (element_task table in_scope name at add value) _ rest others container 0 (containers_in_all behind) (λ level. AreClear level behind (container + 0)) (element_agrees place table are line in_scope add name at value container 0 fit.1.0.0 fit.1.0.1) agree
    statement_agrees (copy line to to_dimensions from from_dimensions) in_scope table container variable place rest others behind around of are fit has agree =
        one_more line _ _ rest others container 0 (containers_in_all behind) (λ level. AreClear level behind (container + 0))
        (moved_agrees place table are line _ (subset_link table (codes "from") from from_dimensions) (subset_link table (codes "to") to to_dimensions) modes.Write from to container 0 refl (refl, (refl, refl)) refl tt refl
        (λ entry is. (part_same Is apart table entry is place.containers are from from_dimensions fit.1.0.1, part_same Is apart table entry is place.containers are to to_dimensions fit.1.0.0)))
        agree
    statement_agrees (reduce line lambda from to axis identity) in_scope table container variable place rest others behind around of are fit has agree =
        one_more line _ _ rest others container 0 (containers_in_all behind) (λ level. AreClear level behind (container + 0))
        (moved_agrees place table are line _ (subset_link table (codes "from") from []) (subset_link table (codes "to") to []) (reduction_mode (resolution_of lambda) identity) from to container 0 refl
        (reduction_told (resolution_of lambda) identity) refl tt refl
        (λ entry is. (part_same Is apart table entry is place.containers are from [] fit.1.0.0, part_same Is apart table entry is place.containers are to [] fit.1.0.1)))
        agree
    statement_agrees (map_scope line parameters ranges body) in_scope table container variable place rest others behind around of are fit has agree =
        let inside : ItemTrees = items_of_body graphs body (with_variables parameters variable table) container (variable + length parameters) in
        one_more line (plain.map_scope false (parameters_of table.variables ranges variable) (own_of body container) inside) _ rest others container (containers_in_all body) (containers_in_all behind) (λ level. AreClear level behind (container + (containers_in_all body)))
        (map_agrees line (parameters_of table.variables ranges variable) body inside (in_map place) container refl (placed_from (in_map place) body fit.1) has
        (body_agrees body (with_variables parameters variable table) container (variable + length parameters) (in_map place) refl of are fit.1 has))
        agree
    statement_agrees (tasklet line body) in_scope table container variable place rest others behind around of are fit has agree =
        let inside : Place = in_tasklet place in
        one_more line (tasklet_item table body) _ rest others container 0 (containers_in_all behind) (λ level. AreClear level behind (container + 0))
        (task_agrees line _ (inputs_of table body) (outputs_of table body) (connected Read body) (connected Write body) container 0
        (λ entry is outside. connected_same Is apart table entry is body inside refl (placed_from inside body fit.1) (known_from inside body fit.1) are))
        agree
    statement_agrees (consume_scope line stream size name element worker body) in_scope table container variable place rest others behind around of are fit has agree =
        one_more line _ _ rest others container (1 + containers_in_all body) (containers_in_all behind) (λ level. AreClear level behind (container + (1 + containers_in_all body)))
        (consume_agrees line stream body _ _ _ place table container are fit.0.1.0
        (consumed_agrees (has_connector body) line body table element container variable place are has fit.1
        (λ are has fit. body_agrees body (with_container element container table) (container + 1) variable (in_consume false element place) refl of are fit has)))
        agree
    statement_agrees (call line name arguments) in_scope table container variable place rest others behind around of are fit has agree =
        one_more line _ _ rest others container 0 (containers_in_all behind) (λ level. AreClear level behind (container + 0))
        (call_agrees place table are line name arguments container 0 (subst (λ programs. in_force (argument_counts programs) name ≡ Some (length arguments)) of fit.1.1.0) fit.1.0) agree
    statement_agrees (for_loop line name begin end step body) in_scope table container variable place rest others behind around of are fit has agree =
        none_more line rest others container (containers_in_all body) (containers_in_all behind) (λ level. AreClear level behind (container + (containers_in_all body))) (λ level. AreClear level body container) agree
    statement_agrees (while_loop line when body) in_scope table container variable place rest others behind around of are fit has agree =
        none_more line rest others container (containers_in_all body) (containers_in_all behind) (λ level. AreClear level behind (container + (containers_in_all body))) (λ level. AreClear level body container) agree
    statement_agrees (branch line when body other) in_scope table container variable place rest others behind around of are fit has agree =
        none_more line rest others container (containers_in_all body + containers_in_all other) (containers_in_all behind) (λ level. AreClear level behind (container + (containers_in_all body + containers_in_all other)))
        (λ level. AreClear level body container × AreClear level other (container + containers_in_all body)) agree
    statement_agrees (input line connector memlet) in_scope table container variable place rest others behind around of are fit has agree =
        none_more line rest others container 0 (containers_in_all behind) (λ level. AreClear level behind (container + 0)) (AllByRecursion (IsOutside container 0)) agree
    statement_agrees (output line connector memlet) in_scope table container variable place rest others behind around of are fit has agree =
        none_more line rest others container 0 (containers_in_all behind) (λ level. AreClear level behind (container + 0)) (AllByRecursion (IsOutside container 0)) agree
    statement_agrees (set line name value) in_scope table container variable place rest others behind around of are fit has agree =
        none_more line rest others container 0 (containers_in_all behind) (λ level. AreClear level behind (container + 0)) (AllByRecursion (IsOutside container 0)) agree
    statement_agrees (set_at line name at value) in_scope table container variable place rest others behind around of are fit has agree =
        none_more line rest others container 0 (containers_in_all behind) (λ level. AreClear level behind (container + 0)) (AllByRecursion (IsOutside container 0)) agree
    statement_agrees (tasklet_branch line when body other) in_scope table container variable place rest others behind around of are fit has agree =
        none_more line rest others container 0 (containers_in_all behind) (λ level. AreClear level behind (container + 0)) (AllByRecursion (IsOutside container 0)) agree

    body_agrees : (body : Block) (table : Table) (container variable : ℕ) (place : Place) → place.around ≡ scope → place.programs ≡ above → AreKnown Is place.containers table.containers → EveryFrom Fit place body →
        AllByRecursion Is (entries_in body container) →
        AllAgree (items_of_body graphs body table container variable) (items_of functions.parameters body) container (containers_in_all body) (λ level. AreClear level body container)
    body_agrees no_statement table container variable place around of are fit has = none_agree container
    body_agrees (and_statement first rest) table container variable place around of are fit has =
        let one : List Entry = entries_of first container in
        let others : List Entry = entries_in rest (container + containers_in first) in
        statement_agrees first true table container variable place (items_of_body graphs rest (table_behind first container table) (container + containers_in first) (variable + variables_in first))
        (items_of functions.parameters rest) rest around of are fit.0 (all_first Is one others has)
        (body_agrees rest (table_behind first container table) (container + containers_in first) (variable + variables_in first) (past first place) around of
        (known_behind Is first table container place around (placed_at place first fit.0) (all_first Is one others has) are) fit.1 (all_second Is one others has))
