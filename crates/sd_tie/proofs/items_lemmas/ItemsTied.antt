-- What an item of a graph does is what its statement says.
use Rattle.std.proofs.Common.{◌≡◌, ◌∙◌, ℕ, suc, ◌+◌, ℤ, List, [], ◌∷◌, ◌++◌, map, length, Some, None, option_map, nat_abs, Bool, true, false, cond, ◌&&◌, codes, refl, sym, ap, subst, arith, length-append}
use Rattle.std.specs.List.{zip}
use Rattle.std.proofs.lemmas.List.{length-map}
use Rattle.sd_lex.specs.PlainTree.{element_at, two, Dimension, StatementTree, argument_array, local_array, local_stream, assign, copy, reduce, map_scope, tasklet, consume_scope, call, for_loop, while_loop, branch, input, output, set, set_at, tasklet_branch, Block, no_statement, and_statement}
use Rattle.sd_lex.specs.StatementKind.{has_connector}
use Rattle.sd_lex.specs.declared.syntax.operator.TwoSign.TheVariants.{Add}
use Rattle.sd_num.specs.declared.resolution.Resolution.TheVariants.{Sum}
use Rattle.sd_range.specs.Points.{tuples, points, ranges_of}
use Rattle.sd_range.specs.Range.{range_values}
use Rattle.sd_work.specs.Memory.{Memory, Memories}
use Rattle.sd_work.specs.Change.{changed_at}
use Rattle.sd_work.specs.Leaf.{Leaf}
use Rattle.sd_work.specs.Residual.{Term, leaf, owning}
use Rattle.sd_work.specs.Step.{Outcome}
use Rattle.sd_work.specs.BigStep.{big_takes, Reached, Coming, reached, and_then, leaving, big_leaf, big_step, big_parts}
use Rattle.sd_graph.specs.PlainTree as plain
use Rattle.sd_graph.specs.PlainTree.{KindTree, ItemTrees, GraphTree}
use Rattle.sd_graph.specs.TreeParts.{containers_of}
use Rattle.sd_graph.specs.ContainerParts.{name_at}
use Rattle.sd_graph.specs.Context.{Context, Reach, private_memory, source_name}
use Rattle.sd_graph.specs.Context as graph
use Rattle.sd_graph.specs.Unfold.{at_point, at_element, one_element, element_memory, point_terms, unfold_kind, run_memory, list_of, reach_inside}
use Rattle.sd_graph.specs.declared.place.Place as graph_place
use Rattle.sd_valid.specs.SizedValues.{sized}
use Rattle.sd_valid.specs.SizedWork.{at_sizes, sized_containers, sized_kind, sized_items, sized_graph}
use Rattle.sd_program.specs.Names.{Name, in_force}
use Rattle.sd_program.specs.Declared.{containers_in}
use Rattle.sd_program.specs.Place.{Place, scope, of_values, of_dimensions, past, in_map, in_tasklet, in_consume, EveryAt, EveryFrom}
use Rattle.sd_program.specs.Known.{StandsIn, StandsInScope}
use Rattle.sd_task.specs.in_force.Ranges.{parameters_of}
use Rattle.sd_task.specs.task.Table.{Table, container_number, with_container}
use Rattle.sd_task.specs.task.Table as tables
use Rattle.sd_task.specs.task.ElementCode.{element_task, assignment}
use Rattle.sd_task.specs.task.Links as links
use Rattle.sd_task.specs.task.Links.{subset_link}
use Rattle.sd_task.specs.tasklets.Item.{tasklet_item, task_with, inputs_of, outputs_of}
use Rattle.sd_elab.specs.items.Counts.{variables_in, variables_in_all}
use Rattle.sd_elab.specs.items.NamesBehind.{own_of, table_behind}
use Rattle.sd_elab.specs.items.Scopes.{map_kind, consume_kind}
use Rattle.sd_elab.specs.items.Items.{call_links, taken_link, items_with, items_of_body}
use Rattle.sd_says.specs.Exact.{ranges_in}
use Rattle.sd_says.specs.Held.{Held}
use Rattle.sd_says.specs.Setting.{Setting, held_by, frames_at, place_at, inside_showing}
use Rattle.sd_says.specs.Setting as setting
use Rattle.sd_says.specs.Declared as declared
use Rattle.sd_says.specs.Declared.{Declaration, own_held, scope_memory}
use Rattle.sd_says.specs.Parts.{part_in}
use Rattle.sd_says.specs.AsLeaves.{element_statement, tasklet_statement, taking_tasklet, copy_statement, reduce_statement}
use Rattle.sd_says.specs.Behind as said
use Rattle.sd_says.specs.Items.{Calls, parts_passed}
use Rattle.sd_says.proofs.ByLeaves.{one_by_one, says_item, says_body}
use Rattle.sd_tie.specs.elements.Tied.{held_at}
use Rattle.sd_tie.proofs.elements_lemmas.Affines.{ranges_exact}
use Rattle.sd_tie.proofs.elements_lemmas.LinkReads.{held_found}
use Rattle.sd_tie.proofs.elements_lemmas.PartsKnown.{IsName, part_known, array_known}
use Rattle.sd_tie.proofs.elements_lemmas.PartsTied.{copy_tied, reduction_tied}
use Rattle.sd_tie.proofs.elements_lemmas.Statements.{element_statement_tied}
use Rattle.sd_tie.specs.tasklets.Connected.{AreConnected, inputs_named, outputs_named}
use Rattle.sd_tie.proofs.tasklets_lemmas.WholeTied.{tasklet_tied, taking_tied}
use Rattle.sd_tie.specs.items.CallsDo as calls_do
use Rattle.sd_tie.specs.items.CallsDo.{CallsDo}
use Rattle.sd_tie.specs.items.Follows.{Follows}
use Rattle.sd_tie.specs.items.Standing.{Fits, variables_named, variables_named_all, HasElements, HaveElements, StandsAt, Stands}
use Rattle.sd_tie.proofs.items_lemmas.Following.{at-once, follows-then, follows-leaving, ends-with-nothing, long-tuples, follow-points}
use Rattle.sd_tie.proofs.items_lemmas.Bounds.{takes-follow}
use Rattle.sd_tie.proofs.items_lemmas.Memories.{own_tied, width_tied, scope_memory_tied}
use Rattle.sd_tie.proofs.items_lemmas.Points.{ranges_same}
use Rattle.sd_tie.proofs.items_lemmas.Entering.{own_same, HasOwn, own_rest, own_inside, is_own, still_own, in_point, in_element, behind_declared, behind_other}
use Rattle.sd_tie.proofs.items_lemmas.CallsTied.{reach_tied}
use Rattle.sd_tie.proofs.items_lemmas.TaskLines.{here_of, lines_known}

-- ---- names of variables, one statement after another

mutual
  pub name_count : (statement : StatementTree) → length (variables_named statement) ≡ variables_in statement
  name_count (map_scope line parameters ranges body) = omega (arith, length-append parameters (variables_named_all body), name_count_all body)
  name_count (consume_scope line stream size name element worker body) = name_count_all body
  name_count (for_loop line name begin end step body) = omega (arith, name_count_all body)
  name_count (while_loop line when body) = name_count_all body
  name_count (branch line when body other) = omega (arith, length-append (variables_named_all body) (variables_named_all other), name_count_all body, name_count_all other)
  name_count statement = refl

  pub name_count_all : (block : Block) → length (variables_named_all block) ≡ variables_in_all block
  name_count_all no_statement = refl
  name_count_all (and_statement first rest) = omega (arith, length-append (variables_named first) (variables_named_all rest), name_count first, name_count_all rest)

pub stands_first : (whole part more : List Name) (n : ℕ) → StandsAt [] whole (part ++ more) n → StandsAt [] whole part n
stands_first whole [] more n h = tt
stands_first whole (member ∷ part) more n h = (h.0, stands_first whole part more (suc n) h.1)

stands_rest : (whole part more : List Name) (n : ℕ) → StandsAt [] whole (part ++ more) n → StandsAt [] whole more (n + length part)
stands_rest whole [] more n h = let e : n ≡ n + 0 = omega arith in subst (StandsAt [] whole more) e h
stands_rest whole (member ∷ part) more n h =
    let e : suc n + length part ≡ n + suc (length part) = omega arith in
    subst (StandsAt [] whole more) e (stands_rest whole part more (suc n) h.1)

pub names_next : (names : List Name) (first : StatementTree) (rest : Block) (v : ℕ) → StandsAt [] names (variables_named_all (and_statement first rest)) v → StandsAt [] names (variables_named_all rest) (v + variables_in first)
names_next names first rest v h = subst (λ n. StandsAt [] names (variables_named_all rest) (v + n)) (name_count first) (stands_rest names (variables_named first) (variables_named_all rest) v h)

module _ (sizes : List ℤ) (graphs : Name → GraphTree) (callable : Place → StatementTree → Type 0) (calls : Calls) (all : List Declaration)
    (calls_follow : CallsDo sizes graphs callable calls) where
  -- what an item does
  abbrev KindFollows : KindTree → (line : ℕ) → Context → (Memories → ℕ → Coming graph_place.Place) → Type 0
  KindFollows kind line context told =
      (memories : Memories) (turns : ℕ) (o : Outcome graph_place.Place Reached) → told memories turns ≡ Some o → Follows (λ m. big_step (sized_kind sizes kind line context) m memories turns) o

  abbrev pub ItemsFollow : ItemTrees → Context → (Memories → ℕ → Coming graph_place.Place) → Type 0
  ItemsFollow items context told = calls_do.ItemsFollow sizes items context told

  one_item : (kind : KindTree) (line : ℕ) (context : Context) (told : Memories → ℕ → Coming graph_place.Place) → KindFollows kind line context told → (rest : ItemTrees) (told_rest : Memories → ℕ → Coming graph_place.Place) →
      ItemsFollow rest context told_rest → ItemsFollow (plain.and_item line kind rest) context (λ memories turns. and_then (told memories turns) told_rest)
  one_item kind line context told f rest told_rest g memories turns o h =
      follows-then (λ m. big_step (sized_kind sizes kind line context) m memories turns) (λ m. big_parts (sized_items sizes rest context) m) (told memories turns) told_rest (f memories turns) g o h

  -- work that is one leaf
  leaf_follows : (kind : KindTree) (line : ℕ) (context : Context) (place : graph_place.Place) (work : Leaf) → sized_kind sizes kind line context ≡ leaf place work → KindFollows kind line context (λ memories turns. big_leaf place work memories turns)
  leaf_follows kind line context place work e memories turns o h =
      subst (λ term. Follows (λ m. big_step term m memories turns) o) (sym e) (at-once (big_leaf place work memories turns) o h)

  -- ---- behind a statement of a scope

  pub scope_behind : (first : StatementTree) (rest : Block) (place : Place) (c v : ℕ) (table : Table) (told : Setting) (context : Context) → place.around ≡ scope → EveryAt (Fits callable) place first →
      Stands sizes all place.containers c v table told context → HasOwn context (and_statement first rest) c →
      Stands sizes all (past first place).containers (c + containers_in first) (v + variables_in first) (table_behind first c table) (said.behind all first c told) context
  scope_behind (local_array line name extents bits) rest place c v table told context e fits stands own =
      let same : v ≡ v + 0 = omega arith in
      subst (λ n. Stands sizes all (past (local_array line name extents bits) place).containers (c + 1) n (with_container name c table) (setting.with_container name (own_held all c) told) context) same
      (behind_declared sizes all place.containers c v table told context stands name _ 1 (omega arith) (own c (is_own c (own_of rest (c + 1)))))
  scope_behind (local_stream line name bits size) rest place c v table told context e fits stands own =
      let same : v ≡ v + 0 = omega arith in
      subst (λ n. Stands sizes all (past (local_stream line name bits size) place).containers (c + 1) n (with_container name c table) (setting.with_container name (own_held all c) told) context) same
      (behind_declared sizes all place.containers c v table told context stands name _ 1 (omega arith) (own c (is_own c (own_of rest (c + 1)))))
  scope_behind (assign line name at add value) rest place c v table told context e fits stands own = behind_other sizes all place.containers c v table told context stands _ _
  scope_behind (copy line to to_dimensions from from_dimensions) rest place c v table told context e fits stands own = behind_other sizes all place.containers c v table told context stands _ _
  scope_behind (reduce line lambda from to axis identity) rest place c v table told context e fits stands own = behind_other sizes all place.containers c v table told context stands _ _
  scope_behind (map_scope line parameters ranges body) rest place c v table told context e fits stands own = behind_other sizes all place.containers c v table told context stands _ _
  scope_behind (tasklet line body) rest place c v table told context e fits stands own = behind_other sizes all place.containers c v table told context stands _ _
  scope_behind (consume_scope line stream size name element worker body) rest place c v table told context e fits stands own = behind_other sizes all place.containers c v table told context stands _ _
  scope_behind (call line name arguments) rest place c v table told context e fits stands own = behind_other sizes all place.containers c v table told context stands _ _
  scope_behind (argument_array line name bits extents) rest place c v table told context e fits stands own = absurd (subst (λ around. StandsIn around (argument_array line name bits extents)) e fits.placed)
  scope_behind (for_loop line name begin end step body) rest place c v table told context e fits stands own = absurd (subst (λ around. StandsIn around (for_loop line name begin end step body)) e fits.0.placed)
  scope_behind (while_loop line when body) rest place c v table told context e fits stands own = absurd (subst (λ around. StandsIn around (while_loop line when body)) e fits.0.placed)
  scope_behind (branch line when body other) rest place c v table told context e fits stands own = absurd (subst (λ around. StandsIn around (branch line when body other)) e fits.0.placed)
  scope_behind (input line connector memlet) rest place c v table told context e fits stands own = absurd (subst (λ around. StandsIn around (input line connector memlet)) e fits.placed)
  scope_behind (output line connector memlet) rest place c v table told context e fits stands own = absurd (subst (λ around. StandsIn around (output line connector memlet)) e fits.placed)
  scope_behind (set line name value) rest place c v table told context e fits stands own = absurd (subst (λ around. StandsIn around (set line name value)) e fits.placed)
  scope_behind (set_at line name at value) rest place c v table told context e fits stands own = absurd (subst (λ around. StandsIn around (set_at line name at value)) e fits.placed)
  scope_behind (tasklet_branch line when body other) rest place c v table told context e fits stands own = absurd (subst (λ around. StandsIn around (tasklet_branch line when body other)) e fits.0.placed)

  -- ---- scopes

  -- the block of a scope
  abbrev pub BodyFollows : Block → (most : ℕ) → Type 0
  BodyFollows body most =
      (place : Place) (c v : ℕ) (table : Table) (told : Setting) (context : Context) → place.around ≡ scope → Stands sizes all place.containers c v table told context → HasOwn context body c →
      StandsAt [] context.names (variables_named_all body) v → HaveElements context.containers body c → EveryFrom (Fits callable) place body →
      ItemsFollow (items_of_body graphs body table c v) context (λ memories turns. says_body calls all body c told most memories turns)

  memory_same : (place : Place) (c v : ℕ) (table : Table) (told : Setting) (context : Context) → Stands sizes all place.containers c v table told context → (own other : List ℕ) → other ≡ own →
      private_memory context.containers own ≡ scope_memory all other
  memory_same place c v table told context stands own other e =
      ap (λ known. private_memory known own) stands.containers ∙ scope_memory_tied sizes table.all own ∙ (λ i. scope_memory (sym stands.declared i) (sym e i))

  map_follows : (line : ℕ) (parameters : List Name) (ranges : List Dimension) (body : Block) (most : ℕ) → BodyFollows body most →
      (place : Place) (c v : ℕ) (table : Table) (told : Setting) (context : Context) → Stands sizes all place.containers c v table told context →
      StandsAt [] context.names (variables_named (map_scope line parameters ranges body)) v → HaveElements context.containers body c → EveryAt (Fits callable) place (map_scope line parameters ranges body) →
      KindFollows (plain.map_scope false (parameters_of table.variables ranges v) (own_of body c) (items_of_body graphs body (tables.with_variables parameters v table) c (v + length parameters))) line context
      (λ memories turns. one_by_one (λ point memories turns. leaving (says_body calls all body c (setting.at_point (zip parameters point) told) most (scope_memory all (said.own_of body c) ∷ memories) turns)) (tuples (ranges_in told.variables ranges)) memories turns)
  map_follows line parameters ranges body most all_body place c v table told context stands names elements fits memories turns o h =
      let inside : Table = tables.with_variables parameters v table in
      let items : ItemTrees = items_of_body graphs body inside c (v + length parameters) in
      let params = parameters_of table.variables ranges v in
      let run : List ℤ → Memories → ℕ → Coming graph_place.Place = λ point memories turns. leaving (says_body calls all body c (setting.at_point (zip parameters point) told) most (scope_memory all (said.own_of body c) ∷ memories) turns) in
      let make : List ℤ → Term graph_place.Place = λ point. owning (private_memory context.containers (own_of body c)) (list_of (at_point context params (own_of body c) point) items (sized_items sizes items (at_point context params (own_of body c) point))) in
      let paired : length parameters ≡ length ranges = fits.0.parameters.0 in
      let counted : length (ranges_in told.variables ranges) ≡ length ranges = length-map ranges _ in
      let same : points (ranges_of params) (sized sizes context.values) ≡ tuples (ranges_in told.variables ranges) =
      ap (λ all. tuples (map (range_values (sized sizes context.values)) all)) (ranges_same table.variables ranges v)
      ∙ ap tuples (ranges_exact (sized sizes context.values) table.variables ranges fits.0.affine ∙ ap (λ names. ranges_in names ranges) (sym stands.tied.variables)) in
      let memory : private_memory context.containers (own_of body c) ≡ scope_memory all (said.own_of body c) = memory_same place c v table told context stands (own_of body c) (said.own_of body c) (own_same body c) in
      subst (λ points. Follows (λ m. big_parts (point_terms make points) m memories turns) o) (sym same)
      (follow-points (length (ranges_in told.variables ranges)) make run
      (λ point long memories turns o g.
      (let inner : Context = at_point context params (own_of body c) point in
      subst (λ own. Follows (λ m. leaving (big_parts (sized_items sizes items inner) m (own ∷ memories) turns)) o) (sym memory)
      (follows-leaving (λ m. big_parts (sized_items sizes items inner) m (scope_memory all (said.own_of body c) ∷ memories) turns)
      (says_body calls all body c (setting.at_point (zip parameters point) told) most (scope_memory all (said.own_of body c) ∷ memories) turns)
      (all_body (in_map place) c (v + length parameters) inside (setting.at_point (zip parameters point) told) inner refl
      (in_point sizes all place.containers c v table told context stands parameters ranges body point paired (long ∙ counted) (stands_first context.names parameters (variables_named_all body) v names))
      (λ n e. own_inside context (own_of body c) n e) (stands_rest context.names parameters (variables_named_all body) v names) elements fits.1 (scope_memory all (said.own_of body c) ∷ memories) turns)
      o g)))
      (tuples (ranges_in told.variables ranges)) (long-tuples (ranges_in told.variables ranges)) memories turns o h)

  -- the block of a consume scope, for a value that is taken
  module _ (line : ℕ) (element : Name) (body : Block) (most : ℕ) (all_body : BodyFollows body most) (place : Place) (c v : ℕ) (table : Table) (told : Setting) (context : Context)
      (stands : Stands sizes all place.containers c v table told context) (joined : has_connector body ≡ true → AreConnected (element ∷ inputs_named body) (outputs_named body) body)
      (names : StandsAt [] context.names (variables_named_all body) v) (named : source_name (name_at context.containers c) ≡ element) (elements : HaveElements context.containers body (c + 1)) (value : ℤ) where
    abbrev inner : Context
    inner = at_element context c (own_of body (c + 1)) value

    abbrev inner_told : Setting
    inner_told = inside_showing ((element, value) ∷ []) told

    abbrev task_items : ItemTrees
    task_items = plain.and_item line (task_with table (taken_link element c ∷ inputs_of table body) (outputs_of table body) body) plain.no_item

    abbrev body_items : ItemTrees
    body_items = items_of_body graphs body (with_container element c table) (c + 1) v

    inner_stands : Stands sizes all place.containers c v table inner_told inner
    inner_stands = in_element sizes all place.containers c v table told context stands element body value named

    element_own : inner.reach c ≡ graph.own_reach inner.containers c
    element_own = own_inside context (c ∷ own_of body (c + 1)) c (is_own c (own_of body (c + 1)))

    taken_follows : (b : Bool) → has_connector body ≡ b → EveryFrom (Fits callable) (in_consume b element place) body →
        ItemsFollow (cond b task_items body_items) inner
        (λ memories turns. cond b (big_leaf (place_at inner_told line) (taking_tasklet inner_told element (own_held all c) body) memories turns)
        (says_body calls all body (c + 1) (setting.with_container element (own_held all c) inner_told) most memories turns))
    taken_follows true e fits memories turns o h =
        let held : held_at table (at_sizes sizes inner) c ≡ own_held all c = own_tied sizes all table (at_sizes sizes inner) c inner_stands.containers inner_stands.declared (inner_stands.bare c) element_own in
        let work = taking_tied place.containers table inner_told (at_sizes sizes inner) inner_stands.tied inner_stands.numbered line element c (own_held all c) (ap (λ (container : Held). container.reach) held) body
        (lines_known callable body (in_consume true element place) refl fits) (joined e) in
        one_item (task_with table (taken_link element c ∷ inputs_of table body) (outputs_of table body) body) line inner
        (λ memories turns. big_leaf (place_at inner_told line) (taking_tasklet inner_told element (own_held all c) body) memories turns)
        (leaf_follows (task_with table (taken_link element c ∷ inputs_of table body) (outputs_of table body) body) line inner (place_at inner_told line) (taking_tasklet inner_told element (own_held all c) body) work)
        plain.no_item reached (λ memories turns o g. at-once (reached memories turns) o g) memories turns o
        (ends-with-nothing (big_leaf (place_at inner_told line) (taking_tasklet inner_told element (own_held all c) body) memories turns) ∙ h)
    taken_follows false e fits memories turns o h =
        all_body (in_consume false element place) (c + 1) v (with_container element c table) (setting.with_container element (own_held all c) inner_told) inner refl
        (behind_declared sizes all place.containers c v table inner_told inner inner_stands element (of_dimensions 1) 1 (omega arith) element_own)
        (λ n e. own_inside context (c ∷ own_of body (c + 1)) n (still_own n c (own_of body (c + 1)) e)) names elements fits memories turns o h

  consume_follows : (line : ℕ) (stream : Name) (element : Name) (body : Block) (most : ℕ) → BodyFollows body most →
      (place : Place) (c v : ℕ) (table : Table) (told : Setting) (context : Context) → Stands sizes all place.containers c v table told context → in_force place.containers stream ≡ Some of_values →
      (has_connector body ≡ true → AreConnected (element ∷ inputs_named body) (outputs_named body) body) → StandsAt [] context.names (variables_named_all body) v →
      source_name (name_at context.containers c) ≡ element → HaveElements context.containers body (c + 1) → EveryFrom (Fits callable) (in_consume (has_connector body) element place) body →
      KindFollows (plain.consume_scope (container_number table stream) c (own_of body (c + 1))
      (cond (has_connector body) (plain.and_item line (task_with table (taken_link element c ∷ inputs_of table body) (outputs_of table body) body) plain.no_item) (items_of_body graphs body (with_container element c table) (c + 1) v))) line context
      (λ memories turns. big_takes most (held_by told stream).reach.level (held_by told stream).reach.container
      (λ value memories turns. leaving (cond (has_connector body)
      (big_leaf (place_at (inside_showing ((element, value) ∷ []) told) line) (taking_tasklet (inside_showing ((element, value) ∷ []) told) element (own_held all c) body) (declared.element_memory all c (said.own_of body (c + 1)) value ∷ memories) turns)
      (says_body calls all body (c + 1) (setting.with_container element (own_held all c) (inside_showing ((element, value) ∷ []) told)) most (declared.element_memory all c (said.own_of body (c + 1)) value ∷ memories) turns)))
      memories turns)
  consume_follows line stream element body most all_body place c v table told context stands known joined names named elements fits memories turns o h =
      let items : ItemTrees = cond (has_connector body) (plain.and_item line (task_with table (taken_link element c ∷ inputs_of table body) (outputs_of table body) body) plain.no_item) (items_of_body graphs body (with_container element c table) (c + 1) v) in
      let own : List ℕ = own_of body (c + 1) in
      let said_memory : ℤ → Memory = λ value. declared.element_memory all c (said.own_of body (c + 1)) value in
      let told_for : ℤ → Memories → ℕ → Coming graph_place.Place = λ value memories turns. cond (has_connector body)
      (big_leaf (place_at (inside_showing ((element, value) ∷ []) told) line) (taking_tasklet (inside_showing ((element, value) ∷ []) told) element (own_held all c) body) memories turns)
      (says_body calls all body (c + 1) (setting.with_container element (own_held all c) (inside_showing ((element, value) ∷ []) told)) most memories turns) in
      let make : ℤ → Term graph_place.Place = λ value. owning (element_memory context c own value) (list_of (at_element context c own value) items (sized_items sizes items (at_element context c own value))) in
      let memory : (value : ℤ) → element_memory context c own value ≡ said_memory value =
      λ value i. changed_at c (λ old. one_element (width_tied sizes all table context c stands.containers stands.declared i) value)
      (memory_same place c v table told context stands (c ∷ own) (c ∷ said.own_of body (c + 1)) (ap (λ numbers. c ∷ numbers) (own_same body (c + 1))) i) in
      let held : held_by told stream ≡ held_at table (at_sizes sizes context) (container_number table stream) = held_found place.containers table told (at_sizes sizes context) stands.tied stands.numbered stream of_values known in
      subst (λ (container : Held). Follows (λ m. big_takes m container.reach.level container.reach.container (λ value. big_step (make value) m) memories turns) o) held
      (takes-follow (held_by told stream).reach.level (held_by told stream).reach.container make (λ value memories turns. leaving (told_for value (said_memory value ∷ memories) turns))
      (λ value memories turns o g.
      subst (λ own_memory. Follows (λ m. leaving (big_parts (sized_items sizes items (at_element context c own value)) m (own_memory ∷ memories) turns)) o) (sym (memory value))
      (follows-leaving (λ m. big_parts (sized_items sizes items (at_element context c own value)) m (said_memory value ∷ memories) turns) (told_for value (said_memory value ∷ memories) turns)
      (taken_follows line element body most all_body place c v table told context stands joined names named elements value (has_connector body) refl fits (said_memory value ∷ memories) turns) o g))
      most memories turns o h)

  -- ---- calls

  call_follows : (line : ℕ) (name : Name) (arguments : List (Name × List Dimension)) (most : ℕ) (place : Place) (c v : ℕ) (table : Table) (told : Setting) (context : Context) → Stands sizes all place.containers c v table told context →
      Fits callable place (call line name arguments) →
      KindFollows (plain.nested_graph (graphs name) (call_links table arguments (containers_of (graphs name)))) line context (λ memories turns. calls name (parts_passed told arguments) (frames_at told line) most memories turns)
  call_follows line name arguments most place c v table told context stands fits memories turns o h =
      let inner = sized_containers sizes (containers_of (graphs name)) in
      let call = calls_follow place line name arguments fits.called in
      let reach = reach_tied place.containers table told (at_sizes sizes context) stands.tied stands.numbered arguments (containers_of (graphs name)) inner call.0 fits.known fits.affine in
      let frames : graph.frames_at context line ≡ frames_at told line = (λ i. sym stands.tied.around i ++ record { line = line; values = sym stands.tied.shown i } ∷ []) in
      subst (λ frames. Follows (λ m. big_step (sized_graph sizes (graphs name) (reach_inside (at_sizes sizes context) (call_links table arguments (containers_of (graphs name))) inner) (run_memory inner) frames) m memories turns) o) (sym frames)
      (subst (λ reach. Follows (λ m. big_step (sized_graph sizes (graphs name) reach (run_memory inner) (frames_at told line)) m memories turns) o) (sym reach)
      (call.1 (parts_passed told arguments) (length-map arguments _) (frames_at told line) most memories turns o h))

  -- ---- statements

  sized_either : (b : Bool) (first other : KindTree) (line : ℕ) (context : Context) → sized_kind sizes first line context ≡ unfold_kind first line (at_sizes sizes context) → sized_kind sizes other line context ≡ unfold_kind other line (at_sizes sizes context) →
      sized_kind sizes (cond b first other) line context ≡ unfold_kind (cond b first other) line (at_sizes sizes context)
  sized_either true first other line context e f = e
  sized_either false first other line context e f = f

  -- what a statement does, and then the rest
  abbrev pub ItemFollows : StatementTree → (in_scope : Bool) → (most : ℕ) → Type 0
  ItemFollows first in_scope most =
      (place : Place) (c v : ℕ) (table : Table) (told : Setting) (context : Context) → Stands sizes all place.containers c v table told context → StandsInScope first →
      StandsAt [] context.names (variables_named first) v → HasElements context.containers first c → EveryAt (Fits callable) place first →
      (rest : ItemTrees) (told_rest : Memories → ℕ → Coming graph_place.Place) → ItemsFollow rest context told_rest →
      ItemsFollow (items_with graphs first in_scope table c v rest) context (λ memories turns. and_then (says_item calls all first in_scope c told most memories turns) told_rest)

  mutual
    pub item_follows : (first : StatementTree) (in_scope : Bool) (most : ℕ) → ItemFollows first in_scope most
    item_follows (local_array line name extents bits) in_scope most place c v table told context stands here names elements fits rest told_rest f = f
    item_follows (local_stream line name bits size) in_scope most place c v table told context stands here names elements fits rest told_rest f = f
    item_follows (assign line name at add value) in_scope most place c v table told context stands here names elements fits rest told_rest f =
        let kind : KindTree = element_task table in_scope name at add value in
        let work = element_statement_tied place.containers table told (at_sizes sizes context) stands.tied stands.numbered in_scope name _ fits.known.0 at fits.affine.0 add value fits.known.1 fits.known.0 fits.affine.1 line in
        let same = sized_either (add && in_scope) (assignment table name at (Some Sum) value) (assignment table name at None (cond add (two Add (element_at name at) value) value)) line context refl refl in
        one_item kind line context (λ memories turns. big_leaf (place_at told line) (element_statement told in_scope name at add value) memories turns)
        (leaf_follows kind line context (place_at told line) (element_statement told in_scope name at add value) (same ∙ work)) rest told_rest f
    item_follows (copy line to to_dimensions from from_dimensions) in_scope most place c v table told context stands here names elements fits rest told_rest f =
        let kind : KindTree = plain.copy (subset_link table (codes "from") from from_dimensions) (subset_link table (codes "to") to to_dimensions) in
        let target : IsName place.containers to = part_known place.containers to to_dimensions fits.known.0 in
        let source : IsName place.containers from = part_known place.containers from from_dimensions fits.known.1 in
        let work = copy_tied place.containers table told (at_sizes sizes context) stands.tied stands.numbered to target.0 target.1 to_dimensions fits.affine.0 from source.0 source.1 from_dimensions fits.affine.1 line in
        one_item kind line context (λ memories turns. big_leaf (place_at told line) (copy_statement (part_in told from from_dimensions) (part_in told to to_dimensions)) memories turns)
        (leaf_follows kind line context (place_at told line) (copy_statement (part_in told from from_dimensions) (part_in told to to_dimensions)) work) rest told_rest f
    item_follows (reduce line lambda from to axis identity) in_scope most place c v table told context stands here names elements fits rest told_rest f =
        let kind : KindTree = plain.reduction (links.resolution_of lambda) (option_map nat_abs axis) identity (subset_link table (codes "from") from []) (subset_link table (codes "to") to []) in
        let target : IsName place.containers to = array_known place.containers to fits.known.1 in
        let source : IsName place.containers from = array_known place.containers from fits.known.0 in
        let work = reduction_tied place.containers table told (at_sizes sizes context) stands.tied stands.numbered lambda from source.0 source.1 to target.0 target.1 axis identity line in
        one_item kind line context (λ memories turns. big_leaf (place_at told line) (reduce_statement lambda (part_in told from []) (part_in told to []) axis identity) memories turns)
        (leaf_follows kind line context (place_at told line) (reduce_statement lambda (part_in told from []) (part_in told to []) axis identity) work) rest told_rest f
    item_follows (tasklet line body) in_scope most place c v table told context stands here names elements fits rest told_rest f =
        let work = tasklet_tied place.containers table told (at_sizes sizes context) stands.tied stands.numbered line body (lines_known callable body (in_tasklet place) refl fits.1) fits.0.joined in
        one_item (tasklet_item table body) line context (λ memories turns. big_leaf (place_at told line) (tasklet_statement told body) memories turns)
        (leaf_follows (tasklet_item table body) line context (place_at told line) (tasklet_statement told body) work) rest told_rest f
    item_follows (map_scope line parameters ranges body) in_scope most place c v table told context stands here names elements fits rest told_rest f =
        one_item (map_kind graphs table parameters ranges body c v) line context (λ memories turns. says_item calls all (map_scope line parameters ranges body) in_scope c told most memories turns)
        (map_follows line parameters ranges body most (body_follows body most) place c v table told context stands names elements fits) rest told_rest f
    item_follows (consume_scope line stream size name element worker body) in_scope most place c v table told context stands here names elements fits rest told_rest f =
        one_item (consume_kind graphs table line stream element body c v) line context (λ memories turns. says_item calls all (consume_scope line stream size name element worker body) in_scope c told most memories turns)
        (consume_follows line stream element body most (body_follows body most) place c v table told context stands fits.0.known fits.0.joined names elements.0 elements.1 fits.1) rest told_rest f
    item_follows (call line name arguments) in_scope most place c v table told context stands here names elements fits rest told_rest f =
        one_item (plain.nested_graph (graphs name) (call_links table arguments (containers_of (graphs name)))) line context (λ memories turns. says_item calls all (call line name arguments) in_scope c told most memories turns)
        (call_follows line name arguments most place c v table told context stands fits) rest told_rest f
    item_follows statement in_scope most place c v table told context stands here names elements fits rest told_rest f = absurd here

    pub body_follows : (body : Block) (most : ℕ) → BodyFollows body most
    body_follows no_statement most place c v table told context e stands own names elements fits = λ memories turns o h. at-once (reached memories turns) o h
    body_follows (and_statement first rest) most place c v table told context e stands own names elements fits =
        item_follows first true most place c v table told context stands (subst (λ around. StandsIn around first) e (here_of callable first place fits.0).placed) (stands_first context.names (variables_named first) (variables_named_all rest) v names) elements.0 fits.0
        (items_of_body graphs rest (table_behind first c table) (c + containers_in first) (v + variables_in first)) (says_body calls all rest (c + containers_in first) (said.behind all first c told) most)
        (body_follows rest most (past first place) (c + containers_in first) (v + variables_in first) (table_behind first c table) (said.behind all first c told) context e
        (scope_behind first rest place c v table told context e fits.0 stands own) (own_rest context first rest c own) (names_next context.names first rest v names) elements.1 fits.1)
