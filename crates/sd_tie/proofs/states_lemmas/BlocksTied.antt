-- What the statements of a program say is what the states do that they make.
use Rattle.std.proofs.Common.{◌≡◌, ◌∙◌, ℕ, zero, suc, ◌≤◌, ◌+◌, ℤ, pos, ◌+ℤ◌, ◌*ℤ◌, List, [], ◌∷◌, ◌++◌, Option, Some, None, Result, Ok, Err, Bool, true, false, slice_index_or, refl, sym, ap, subst, arith}
use Rattle.std.proofs.lemmas.Int.{ints}
use Rattle.std.proofs.lemmas.List.{map-append}
use Rattle.sd_lex.specs.PlainTree.{Expression, named, two, StatementTree, argument_array, local_array, local_stream, assign, copy, reduce, map_scope, tasklet, consume_scope, call, for_loop, while_loop, branch, input, output, set, set_at, tasklet_branch, Block, no_statement, and_statement}
use Rattle.sd_lex.specs.declared.syntax.operator.TwoSign.TheVariants.{Less}
use Rattle.sd_range.specs.Affine.{affine_value, variable_value}
use Rattle.sd_range.specs.Arithmetic.{affine_zero}
use Rattle.sd_range.specs.Variables.{with_variable}
use Rattle.sd_range.specs.declared.affine.Affine.{Affine}
use Rattle.sd_range.proofs.Variables.{variable_set, variable_kept}
use Rattle.sd_work.specs.Memory.{Memories}
use Rattle.sd_work.specs.Move.{Fault}
use Rattle.sd_work.specs.Exit.{Values, passed}
use Rattle.sd_work.specs.Step.{Outcome, Done, Faulted, Spent}
use Rattle.sd_work.specs.BigStep.{Reached, Coming, reached, and_then, spending, big_parts}
use Rattle.sd_graph.specs.PlainTree.{StateTrees, ItemTrees, no_item, GraphTree, GuardTree}
use Rattle.sd_graph.specs.TreeParts.{items_at, exits_at}
use Rattle.sd_graph.specs.ContainerParts.{Containers}
use Rattle.sd_graph.specs.Context.{Reach, Context, own_reach}
use Rattle.sd_graph.specs.Unfold as graph
use Rattle.sd_graph.specs.declared.place.Frame.{Frame}
use Rattle.sd_graph.specs.declared.place.Place as graph_place
use Rattle.sd_valid.specs.SizedValues.{sized}
use Rattle.sd_valid.specs.SizedWork.{at_sizes, sized_items}
use Rattle.sd_valid.proofs.SizedLaws.{other_value}
use Rattle.sd_program.specs.Names.{Name, Named}
use Rattle.sd_program.specs.Declared.{containers_in, containers_in_all}
use Rattle.sd_program.specs.IsAffine.{IsAffine}
use Rattle.sd_program.specs.Bounds.{EachSubscript}
use Rattle.sd_program.specs.Place.{Holder, Place, program, past, past_all, in_loop, EveryAt, EveryFrom}
use Rattle.sd_program.specs.Known.{KnowsElements, StandsIn, StandsInScope}
use Rattle.sd_task.specs.in_force.Ranges.{affine_or}
use Rattle.sd_task.specs.task.Table as tables
use Rattle.sd_task.specs.task.Table.{Table, with_variables}
use Rattle.sd_task.specs.task.ElementCode.{guard_of, below}
use Rattle.sd_elab.specs.items.Counts.{variables_in, variables_in_all}
use Rattle.sd_elab.specs.items.NamesBehind.{table_behind_state, table_behind_all}
use Rattle.sd_elab.specs.items.Items.{items_with}
use Rattle.sd_elab.specs.states.Exits.{plainly, if_holds, back_to, stepped_on}
use Rattle.sd_says.specs.Exact.{exact_or, step_or_one}
use Rattle.sd_says.specs.Setting as settings
use Rattle.sd_says.specs.Setting.{Setting}
use Rattle.sd_says.specs.Declared.{Declaration, own_held}
use Rattle.sd_says.specs.Behind as said
use Rattle.sd_says.specs.Items.{Calls}
use Rattle.sd_says.specs.Statements.{in_round}
use Rattle.sd_says.proofs.ByLeaves.{if_passed, rounds, tested, says_item, says_one, says_block}
use Rattle.sd_tie.proofs.elements_lemmas.Affines.{zero_value, affine_or_exact}
use Rattle.sd_tie.proofs.elements_lemmas.Statements.{condition_tied}
use Rattle.sd_tie.specs.items.Follows.{Follows}
use Rattle.sd_tie.specs.items.CallsDo.{CallsDo}
use Rattle.sd_tie.specs.items.Standing.{Fits, variables_named, variables_named_all, HasElements, HaveElements, StandsAt}
use Rattle.sd_tie.proofs.items_lemmas.Following.{at-once, ends-with-nothing}
use Rattle.sd_tie.proofs.items_lemmas.Points.{made_below, below_more}
use Rattle.sd_tie.proofs.items_lemmas.Entering.{behind_declared}
use Rattle.sd_tie.proofs.items_lemmas.ItemsTied.{stands_first, name_count_all, names_next, item_follows}
use Rattle.sd_tie.specs.states.Course.{Agree, here, loops_at, Goes}
use Rattle.sd_tie.proofs.states_lemmas.Agreeing.{all_more, all_last, named_agree, sized_agree, affine_knows, affine_subscripts, names_rest}
use Rattle.sd_tie.specs.states.InProgram as in_program
use Rattle.sd_tie.specs.states.Made.{IsMade, AreMade, IsOtherMade}
use Rattle.sd_tie.proofs.states_lemmas.Courses.{comes_step, comes_then, comes_stop, state_items, assigned_values, run_from, Ends, state_does, takes_exit, set_ends, plain_ends, marked_ends, marked_spent, Passed, true_ends, false_ends, fault_ends}

module _ (sizes : List ℤ) (graphs : Name → GraphTree) (callable : Place → StatementTree → Type 0) (calls : Calls) (all : List Declaration) (calls_follow : CallsDo sizes graphs callable calls)
    (containers : Containers) (names : List Name) (states : StateTrees) (reach : ℕ → Reach) (around : List Frame) (first_own : ℕ) (owns : (n : ℕ) → first_own ≤ n → reach n ≡ own_reach containers n) where
  abbrev at : List ℕ → Values → Context
  at loops values = here sizes containers names states reach around loops values

  abbrev shows : ℕ → List ℕ
  shows k = loops_at sizes containers names states reach around k

  abbrev Ended : ℕ → Values → Memories → ℕ → Outcome graph_place.Place Reached → Type 0
  Ended k values memories turns o = Ends sizes containers names states reach around k values memories turns o

  abbrev pub GoesOn : (from to bound : ℕ) → Values → Memories → ℕ → Outcome graph_place.Place Reached → Type 0
  GoesOn c n v values memories turns o = Goes sizes containers names states reach around c n v values memories turns o

  abbrev pub Standing : (known : Named Holder) → (c v : ℕ) → (loops : List ℕ) → Table → Setting → Values → Type 0
  Standing known c v loops table told values = in_program.Standing sizes all containers names states reach around first_own known c v loops table told values

  standing_agree : (known : Named Holder) (c v : ℕ) (loops : List ℕ) (table : Table) (told : Setting) (values other : Values) → Agree v other values → Standing known c v loops table told values → Standing known c v loops table told other
  standing_agree known c v loops table told values other same h =
      record {
        stands = record {
          tied = record {
            containers = h.stands.tied.containers;
            variables = h.stands.tied.variables ∙ made_below v (variable_value (sized sizes values)) (variable_value (sized sizes other)) (λ n b. sym (sized_agree sizes v other values same n b)) table.variables h.stands.variables_below;
            shown = h.stands.tied.shown ∙ sym (named_agree names v other values same loops h.loops_below);
            around = h.stands.tied.around;
            extents = h.stands.extents other;
          };
          numbered = h.stands.numbered;
          containers = h.stands.containers;
          extents = h.stands.extents;
          declared = h.stands.declared;
          bare = h.stands.bare;
          containers_below = h.stands.containers_below;
          variables_below = h.stands.variables_below;
          sizes_below = h.stands.sizes_below;
        };
        loops_below = h.loops_below;
        own = h.own;
      }

  standing_wider : (known : Named Holder) (c v more : ℕ) (loops : List ℕ) (table : Table) (told : Setting) (values : Values) → Standing known c v loops table told values → Standing known c (v + more) loops table told values
  standing_wider known c v more loops table told values h =
      record {
        stands = record {
          tied = h.stands.tied;
          numbered = h.stands.numbered;
          containers = h.stands.containers;
          extents = h.stands.extents;
          declared = h.stands.declared;
          bare = h.stands.bare;
          containers_below = h.stands.containers_below;
          variables_below = below_more v (v + more) table.variables (omega arith) h.stands.variables_below;
          sizes_below = omega (arith, h.stands.sizes_below);
        };
        loops_below = all_more v (v + more) loops (omega arith) h.loops_below;
        own = h.own;
      }

  standing_declared : (known : Named Holder) (c v : ℕ) (loops : List ℕ) (table : Table) (told : Setting) (values : Values) (name : Name) (holder : Holder) → Standing known c v loops table told values →
      Standing ((name, holder) ∷ known) (c + 1) v loops (tables.with_container name c table) (settings.with_container name (own_held all c) told) values
  standing_declared known c v loops table told values name holder h =
      record { stands = behind_declared sizes all known c v table told (at loops values) h.stands name holder 1 (omega arith) (owns c h.own); loops_below = h.loops_below; own = omega (arith, h.own) }

  standing_same : (known : Named Holder) (c d v : ℕ) (loops : List ℕ) (table : Table) (told : Setting) (values : Values) → c ≡ d → Standing known c v loops table told values → Standing known d v loops table told values
  standing_same known c d v loops table told values e h = subst (λ n. Standing known n v loops table told values) e h

  standing_more : (known : Named Holder) (c v more : ℕ) (loops : List ℕ) (table : Table) (told : Setting) (values : Values) → Standing known c v loops table told values → Standing known (c + more) v loops table told values
  standing_more known c v more loops table told values h =
      record {
        stands = record {
          tied = h.stands.tied;
          numbered = h.stands.numbered;
          containers = h.stands.containers;
          extents = h.stands.extents;
          declared = h.stands.declared;
          bare = h.stands.bare;
          containers_below = below_more c (c + more) table.containers (omega arith) h.stands.containers_below;
          variables_below = h.stands.variables_below;
          sizes_below = h.stands.sizes_below;
        };
        loops_below = h.loops_below;
        own = omega (arith, h.own);
      }

  not_here : (statement : StatementTree) (place : Place) → place.around ≡ program → StandsIn place.around statement → StandsIn program statement
  not_here statement place e h = subst (λ kind. StandsIn kind statement) e h

  mutual
    standing_one : (first : StatementTree) (place : Place) → place.around ≡ program → EveryAt (Fits callable) place first → (c v : ℕ) (loops : List ℕ) (table : Table) (told : Setting) (values : Values) → Standing place.containers c v loops table told values →
        Standing (past first place).containers (c + containers_in first) v loops (table_behind_state first c table) (said.behind_one all first c told) values
    standing_one (local_array line name extents bits) place e fits c v loops table told values h = standing_declared place.containers c v loops table told values name _ h
    standing_one (local_stream line name bits size) place e fits c v loops table told values h = standing_declared place.containers c v loops table told values name _ h
    standing_one (for_loop line name begin end step body) place e fits c v loops table told values h = standing_all body (in_loop place) e fits.1 c v loops table told values h
    standing_one (while_loop line when body) place e fits c v loops table told values h = standing_all body (in_loop place) e fits.1 c v loops table told values h
    standing_one (branch line when body other) place e fits c v loops table told values h =
        let same : (c + containers_in_all body) + containers_in_all other ≡ c + (containers_in_all body + containers_in_all other) = omega arith in
        standing_same (past (branch line when body other) place).containers ((c + containers_in_all body) + containers_in_all other) (c + (containers_in_all body + containers_in_all other)) v loops _ _ values same
        (standing_all other (past_all body place) e fits.1.1 (c + containers_in_all body) v loops (table_behind_all body c table) (said.behind_all all body c told) values
        (standing_all body place e fits.1.0 c v loops table told values h))
    standing_one (assign line name at add value) place e fits c v loops table told values h = standing_more place.containers c v _ loops table told values h
    standing_one (copy line to to_dimensions from from_dimensions) place e fits c v loops table told values h = standing_more place.containers c v _ loops table told values h
    standing_one (reduce line lambda from to axis identity) place e fits c v loops table told values h = standing_more place.containers c v _ loops table told values h
    standing_one (map_scope line parameters ranges body) place e fits c v loops table told values h = standing_more place.containers c v _ loops table told values h
    standing_one (tasklet line body) place e fits c v loops table told values h = standing_more place.containers c v _ loops table told values h
    standing_one (consume_scope line stream size name element worker body) place e fits c v loops table told values h = standing_more place.containers c v _ loops table told values h
    standing_one (call line name arguments) place e fits c v loops table told values h = standing_more place.containers c v _ loops table told values h
    standing_one (argument_array line name bits extents) place e fits c v loops table told values h = absurd (not_here (argument_array line name bits extents) place e fits.placed)
    standing_one (input line connector memlet) place e fits c v loops table told values h = absurd (not_here (input line connector memlet) place e fits.placed)
    standing_one (output line connector memlet) place e fits c v loops table told values h = absurd (not_here (output line connector memlet) place e fits.placed)
    standing_one (set line name value) place e fits c v loops table told values h = absurd (not_here (set line name value) place e fits.placed)
    standing_one (set_at line name at value) place e fits c v loops table told values h = absurd (not_here (set_at line name at value) place e fits.placed)
    standing_one (tasklet_branch line when body other) place e fits c v loops table told values h = absurd (not_here (tasklet_branch line when body other) place e fits.0.placed)

    standing_all : (block : Block) (place : Place) → place.around ≡ program → EveryFrom (Fits callable) place block → (c v : ℕ) (loops : List ℕ) (table : Table) (told : Setting) (values : Values) → Standing place.containers c v loops table told values →
        Standing (past_all block place).containers (c + containers_in_all block) v loops (table_behind_all block c table) (said.behind_all all block c told) values
    standing_all no_statement place e fits c v loops table told values h = standing_same place.containers c (c + 0) v loops table told values (omega arith) h
    standing_all (and_statement first rest) place e fits c v loops table told values h =
        standing_same (past_all rest (past first place)).containers ((c + containers_in first) + containers_in_all rest) (c + (containers_in first + containers_in_all rest)) v loops _ _ values (omega arith)
        (standing_all rest (past first place) e fits.1 (c + containers_in first) v loops (table_behind_state first c table) (said.behind_one all first c told) values
        (standing_one first place e fits.0 c v loops table told values h))

  -- in a loop, whose variable has this value
  standing_loop : (known : Named Holder) (c v : ℕ) (loops : List ℕ) (table : Table) (told : Setting) (values other : Values) (name : Name) (value : ℤ) → Standing known c v loops table told values →
      slice_index_or names v [] ≡ name → Agree v other values → variable_value other v ≡ value →
      Standing known c (v + 1) (loops ++ v ∷ []) (with_variables (name ∷ []) v table) (in_round name value told) other
  standing_loop known c v loops table told values other name value h e same g =
      let k : Standing known c v loops table told other = standing_agree known c v loops table told values other same h in
      record {
        stands = record {
          tied = record {
            containers = k.stands.tied.containers;
            variables = (λ i. (name, sym (other_value sizes other v k.stands.sizes_below ∙ g) i) ∷ k.stands.tied.variables i);
            shown = (λ i. k.stands.tied.shown i ++ (sym e i, sym g i) ∷ []) ∙ sym (map-append (λ variable. (slice_index_or names variable [], variable_value other variable)) loops (v ∷ []));
            around = k.stands.tied.around;
            extents = k.stands.tied.extents;
          };
          numbered = k.stands.numbered;
          containers = k.stands.containers;
          extents = k.stands.extents;
          declared = k.stands.declared;
          bare = k.stands.bare;
          containers_below = k.stands.containers_below;
          variables_below = (omega arith, below_more v (v + 1) table.variables (omega arith) k.stands.variables_below);
          sizes_below = omega (arith, k.stands.sizes_below);
        };
        loops_below = all_last v loops k.loops_below;
        own = k.own;
      }

  -- ---- how a run goes

  goes_less : (c n v w : ℕ) (values : Values) (memories : Memories) (turns : ℕ) (o : Outcome graph_place.Place Reached) → v ≤ w → GoesOn c n w values memories turns o → GoesOn c n v values memories turns o
  goes_less c n v w values memories turns (Done now) h g = (g.0, (λ x f. g.1 x (omega (arith, h, f))), g.2)
  goes_less c n v w values memories turns (Faulted fault) h g = g
  goes_less c n v w values memories turns Spent h g = g

  -- from another state that comes to this one
  goes_from : (c h n v : ℕ) (values other : Values) (memories more : Memories) (turns left : ℕ) (o : Outcome graph_place.Place Reached) → Agree v other values →
      ((o : Outcome graph_place.Place Reached) → Ended h other more left o → Ended c values memories turns o) → GoesOn h n v other more left o → GoesOn c n v values memories turns o
  goes_from c h n v values other memories more turns left (Done now) same f g = (g.0, (λ x b. g.1 x b ∙ same x b), (λ o e. f o (g.2 o e)))
  goes_from c h n v values other memories more turns left (Faulted fault) same f g = f (Faulted fault) g
  goes_from c h n v values other memories more turns left Spent same f g = f Spent g

  -- on to another state
  goes_on : (c p n v : ℕ) (values : Values) (memories : Memories) (turns : ℕ) (o : Outcome graph_place.Place Reached) →
      ((values : Values) (memories : Memories) (turns : ℕ) (o : Outcome graph_place.Place Reached) → Ended n values memories turns o → Ended p values memories turns o) →
      GoesOn c p v values memories turns o → GoesOn c n v values memories turns o
  goes_on c p n v values memories turns (Done now) f g = (g.0, g.1, (λ o e. g.2 o (f g.0 now.memories now.turns o e)))
  goes_on c p n v values memories turns (Faulted fault) f g = g
  goes_on c p n v values memories turns Spent f g = g

  -- nothing said: the state stays
  goes_nowhere : (c n v : ℕ) (values : Values) (memories : Memories) (turns : ℕ) (o : Outcome graph_place.Place Reached) → c ≡ n → reached memories turns ≡ Some o → GoesOn c n v values memories turns o
  goes_nowhere c n v values memories turns (Done now) e h =
      let r : record_of memories turns ≡ now = cc in
      (values, (λ x b. refl), (λ o g. subst (λ (x : Reached). Ended c values x.memories x.turns o → Ended c values memories turns o) r (λ k. k) (subst (λ k. Ended k values now.memories now.turns o) (sym e) g)))
    where
      record_of : Memories → ℕ → Reached
      record_of memories turns = record { memories = memories; turns = turns }
  goes_nowhere c n v values memories turns (Faulted fault) e h = cc
  goes_nowhere c n v values memories turns Spent e h = cc

  -- first to b, and then to n
  goes_then : (c b n v w : ℕ) → v ≤ w → (values : Values) (memories : Memories) (turns : ℕ) (told : Coming graph_place.Place) (rest : Memories → ℕ → Coming graph_place.Place) →
      ((o : Outcome graph_place.Place Reached) → told ≡ Some o → GoesOn c b w values memories turns o) →
      ((after : Values) → Agree w after values → (memories : Memories) (turns : ℕ) (o : Outcome graph_place.Place Reached) → rest memories turns ≡ Some o → GoesOn b n v after memories turns o) →
      (o : Outcome graph_place.Place Reached) → and_then told rest ≡ Some o → GoesOn c n v values memories turns o
  goes_then c b n v w le values memories turns None rest f g o h = cc
  goes_then c b n v w le values memories turns (Some (Done now)) rest f g o h =
      let a = f (Done now) refl in
      goes_from c b n v values a.0 memories now.memories turns now.turns o (λ x f. a.1 x (omega (arith, le, f))) a.2 (g a.0 a.1 now.memories now.turns o h)
  goes_then c b n v w le values memories turns (Some (Faulted fault)) rest f g (Done now) h = cc
  goes_then c b n v w le values memories turns (Some (Faulted fault)) rest f g (Faulted other) h = f (Faulted other) h
  goes_then c b n v w le values memories turns (Some (Faulted fault)) rest f g Spent h = cc
  goes_then c b n v w le values memories turns (Some Spent) rest f g (Done now) h = cc
  goes_then c b n v w le values memories turns (Some Spent) rest f g (Faulted other) h = cc
  goes_then c b n v w le values memories turns (Some Spent) rest f g Spent h = f Spent h

  -- ---- items

  abbrev run : ℕ → Values → Memories → ℕ → (e m : ℕ) → Coming graph_place.Place
  run k values memories turns e m = run_from sizes containers names states reach around k values memories turns e m

  abbrev doing : (m k : ℕ) → Values → Memories → ℕ → Coming graph_place.Place
  doing m k values memories turns = state_does sizes containers names states reach around m k values memories turns

  does_is : (n : ℕ) (values : Values) (loops : List ℕ) (items : ItemTrees) → items_at states n ≡ items → shows n ≡ loops → (m : ℕ) (memories : Memories) (turns : ℕ) →
      doing m n values memories turns ≡ big_parts (sized_items sizes items (at loops values)) m memories turns
  does_is n values loops items p q m memories turns = state_items sizes states n (at (shows n) values) m memories turns ∙ (λ i. big_parts (sized_items sizes (p i) (at (q i) values)) m memories turns)

  item_ends : (c n v : ℕ) (values : Values) (memories : Memories) (turns : ℕ) → exits_at states c ≡ plainly n ∷ [] → (o : Outcome graph_place.Place Reached) →
      Follows (λ m. doing m n values memories turns) o → GoesOn c n v values memories turns o
  item_ends c n v values memories turns w (Done now) h = (
    values,
    (λ x b. refl),
    (λ o g.
        comes_step (run c values memories turns) _ (λ e m. takes_exit sizes containers names states reach around c values memories turns (plainly n ∷ []) w e m) o
        (comes_then (λ m. doing m n values memories turns) (λ e m memories turns. run n values memories turns e m) now o h g)),
  )
  item_ends c n v values memories turns w (Faulted fault) h =
      comes_step (run c values memories turns) _ (λ e m. takes_exit sizes containers names states reach around c values memories turns (plainly n ∷ []) w e m) (Faulted fault)
      (comes_stop (λ m. doing m n values memories turns) (λ e m memories turns. run n values memories turns e m) (Faulted fault) tt h)
  item_ends c n v values memories turns w Spent h =
      comes_step (run c values memories turns) _ (λ e m. takes_exit sizes containers names states reach around c values memories turns (plainly n ∷ []) w e m) Spent
      (comes_stop (λ m. doing m n values memories turns) (λ e m memories turns. run n values memories turns e m) Spent tt h)

  -- ---- what the induction says

  abbrev pub OneGoes : StatementTree → (most : ℕ) → Type 0
  OneGoes first most =
      (place : Place) (c v : ℕ) (loops : List ℕ) (from to : ℕ) (table : Table) (told : Setting) (values : Values) → place.around ≡ program → Standing place.containers c v loops table told values →
      StandsAt [] names (variables_named first) v → HasElements containers first c → EveryAt (Fits callable) place first → IsMade graphs states shows first table c v loops from to → shows from ≡ loops →
      (memories : Memories) (turns : ℕ) (o : Outcome graph_place.Place Reached) → says_one calls all first c told most memories turns ≡ Some o → GoesOn from to v values memories turns o

  abbrev pub AllGo : Block → (most : ℕ) → Type 0
  AllGo block most =
      (place : Place) (c v : ℕ) (loops : List ℕ) (from to : ℕ) (table : Table) (told : Setting) (values : Values) → place.around ≡ program → Standing place.containers c v loops table told values →
      StandsAt [] names (variables_named_all block) v → HaveElements containers block c → EveryFrom (Fits callable) place block → AreMade graphs states shows block table c v loops from to → shows from ≡ loops →
      (memories : Memories) (turns : ℕ) (o : Outcome graph_place.Place Reached) → says_block calls all block c told most memories turns ≡ Some o → GoesOn from to v values memories turns o

  item_goes : (first : StatementTree) (most : ℕ) (place : Place) (c v : ℕ) (loops : List ℕ) (from to : ℕ) (table : Table) (told : Setting) (values : Values) → Standing place.containers c v loops table told values →
      StandsAt [] names (variables_named first) v → HasElements containers first c → EveryAt (Fits callable) place first → StandsInScope first →
      (exits_at states from ≡ plainly to ∷ []) × (items_at states to ≡ items_with graphs first false table c v no_item) × (shows to ≡ loops) →
      (memories : Memories) (turns : ℕ) (o : Outcome graph_place.Place Reached) → says_item calls all first false c told most memories turns ≡ Some o → GoesOn from to v values memories turns o
  item_goes first most place c v loops from to table told values standing naming elements fits scoped made memories turns o h =
      let f = item_follows sizes graphs callable calls all calls_follow first false most place c v table told (at loops values) standing.stands scoped naming elements fits no_item reached
      (λ memories turns o g. at-once (reached memories turns) o g) memories turns o (ends-with-nothing (says_item calls all first false c told most memories turns) ∙ h) in
      item_ends from to v values memories turns made.0 o (f.0, λ j. does_is to values loops (items_with graphs first false table c v no_item) made.1 made.2 (f.0 + j) memories turns ∙ f.1 j)

  -- the loop variables that show stay the same
  made_loops : (first : StatementTree) (table : Table) (c v : ℕ) (loops : List ℕ) (from to : ℕ) → IsMade graphs states shows first table c v loops from to → shows from ≡ loops → shows to ≡ loops
  made_loops (argument_array line name bits extents) table c v loops from to made h = subst (λ k. shows k ≡ loops) made h
  made_loops (local_array line name extents bits) table c v loops from to made h = subst (λ k. shows k ≡ loops) made h
  made_loops (local_stream line name bits size) table c v loops from to made h = subst (λ k. shows k ≡ loops) made h
  made_loops (branch line when body other) table c v loops from to made h = made.10.1
  made_loops (while_loop line when body) table c v loops from to made h = made.9.1
  made_loops (for_loop line name begin end step body) table c v loops from to made h = made.9.1
  made_loops statement table c v loops from to made h = made.2

  block_goes : (first : StatementTree) (rest : Block) (most : ℕ) → OneGoes first most → AllGo rest most → AllGo (and_statement first rest) most
  block_goes first rest most one_goes all_go place c v loops from to table told values e standing naming elements fits made showing memories turns o h =
      goes_then from made.0 to v v (omega arith) values memories turns (says_one calls all first c told most memories turns)
      (says_block calls all rest (c + containers_in first) (said.behind_one all first c told) most)
      (one_goes place c v loops from made.0 table told values e standing (stands_first names (variables_named first) (variables_named_all rest) v naming) elements.0 fits.0 made.1 showing memories turns)
      (λ after same memories turns o g.
      goes_less made.0 to v (v + variables_in first) after memories turns o (omega arith)
      (all_go (past first place) (c + containers_in first) (v + variables_in first) loops made.0 to (table_behind_state first c table) (said.behind_one all first c told) after e
      (standing_wider (past first place).containers (c + containers_in first) v (variables_in first) loops _ _ after
      (standing_one first place e fits.0 c v loops table told after (standing_agree place.containers c v loops table told values after same standing)))
      (names_next names first rest v naming) elements.1 fits.1 made.2 (made_loops first table c v loops from made.0 made.1 showing) memories turns o g))
      o h

  -- ---- conditions

  passed_tied : (known : Named Holder) (c v : ℕ) (loops : List ℕ) (table : Table) (told : Setting) (values : Values) → Standing known c v loops table told values → (k : ℕ) → shows k ≡ loops →
      (line : ℕ) (when : Expression) → KnowsElements known when → EachSubscript IsAffine when → (memories : Memories) →
      Passed sizes containers names states reach around k (guard_of table line when) values memories ≡ tested told line when memories
  passed_tied known c v loops table told values standing k p line when knows affine memories =
      (λ i. passed (Some (graph.guard_of (at_sizes sizes (at (p i) values)) (guard_of table line when))) memories)
      ∙ ap (λ guard. passed (Some guard) memories) (condition_tied known table told (at_sizes sizes (at loops values)) standing.stands.tied standing.stands.numbered line when knows affine)

  plain_to : (p n : ℕ) → exits_at states p ≡ plainly n ∷ [] → items_at states n ≡ no_item → (values : Values) (memories : Memories) (turns : ℕ) (o : Outcome graph_place.Place Reached) →
      Ended n values memories turns o → Ended p values memories turns o
  plain_to p n w i values memories turns o g = plain_ends sizes containers names states reach around p n w i values memories turns o g

  -- one of two blocks, by a condition
  branch_goes : (c h g n v : ℕ) (guard : GuardTree) (values : Values) (memories : Memories) (turns : ℕ) (left right : Coming graph_place.Place) →
      exits_at states c ≡ if_holds guard h ∷ plainly g ∷ [] → items_at states h ≡ no_item → items_at states g ≡ no_item →
      ((o : Outcome graph_place.Place Reached) → left ≡ Some o → GoesOn h n v values memories turns o) → ((o : Outcome graph_place.Place Reached) → right ≡ Some o → GoesOn g n v values memories turns o) →
      (test : Result Bool (Fault graph_place.Place)) → Passed sizes containers names states reach around c guard values memories ≡ test →
      (o : Outcome graph_place.Place Reached) → if_passed test left right ≡ Some o → GoesOn c n v values memories turns o
  branch_goes c h g n v guard values memories turns left right w i j f k (Err fault) p (Done now) e = cc
  branch_goes c h g n v guard values memories turns left right w i j f k (Err fault) p (Faulted other) e =
      subst (λ z. Ended c values memories turns (Faulted z)) (let same : fault ≡ other = cc in same) (fault_ends sizes containers names states reach around c h g guard w values memories turns fault p)
  branch_goes c h g n v guard values memories turns left right w i j f k (Err fault) p Spent e = cc
  branch_goes c h g n v guard values memories turns left right w i j f k (Ok true) p o e =
      goes_from c h n v values values memories memories turns turns o (λ x b. refl) (λ o z. true_ends sizes containers names states reach around c h g guard w values memories turns p i o z) (f o e)
  branch_goes c h g n v guard values memories turns left right w i j f k (Ok false) p o e =
      goes_from c g n v values values memories memories turns turns o (λ x b. refl) (λ o z. false_ends sizes containers names states reach around c h g guard w values memories turns p j o z) (k o e)

  -- an `else`, or none
  abbrev OtherGoes : Block → (most : ℕ) → Type 0
  OtherGoes other most =
      (place : Place) (c v : ℕ) (loops : List ℕ) (from end to : ℕ) (table : Table) (told : Setting) (values : Values) → place.around ≡ program → Standing place.containers c v loops table told values →
      StandsAt [] names (variables_named_all other) v → HaveElements containers other c → EveryFrom (Fits callable) place other → IsOtherMade graphs states shows other table c v loops from end to → shows from ≡ loops →
      items_at states to ≡ no_item → (memories : Memories) (turns : ℕ) (o : Outcome graph_place.Place Reached) → says_block calls all other c told most memories turns ≡ Some o → GoesOn from to v values memories turns o

  other_goes : (other : Block) (most : ℕ) → AllGo other most → OtherGoes other most
  other_goes no_statement most all_go place c v loops from end to table told values e standing naming elements fits made showing idle memories turns o h = goes_nowhere from to v values memories turns o made h
  other_goes (and_statement first rest) most all_go place c v loops from end to table told values e standing naming elements fits made showing idle memories turns o h =
      goes_on from end to v values memories turns o (plain_to end to made.3 idle)
      (all_go place c v loops from end table told values e standing naming elements fits (made.0, made.1, made.2) showing memories turns o h)

  if_goes : (line : ℕ) (when : Expression) (body other : Block) (most : ℕ) → AllGo body most → AllGo other most → OneGoes (branch line when body other) most
  if_goes line when body other most body_go other_go place c v loops from to table told values e standing naming elements fits made showing memories turns o h =
      let body_names = stands_first names (variables_named_all body) (variables_named_all other) v naming in
      let other_names = subst (λ k. StandsAt [] names (variables_named_all other) (v + k)) (name_count_all body) (names_rest names (variables_named_all body) (variables_named_all other) v naming) in
      let behind_body : Setting = said.behind_all all body c told in
      let first : (o : Outcome graph_place.Place Reached) → says_block calls all body c told most memories turns ≡ Some o → GoesOn made.0 to v values memories turns o =
      λ o g. goes_on made.0 made.1 to v values memories turns o (plain_to made.1 to made.7 made.10.0)
      (body_go place c v loops made.0 made.1 table told values e standing body_names elements.0 fits.1.0 made.6 made.5.1 memories turns o g) in
      let second : (o : Outcome graph_place.Place Reached) → says_block calls all other (c + containers_in_all body) behind_body most memories turns ≡ Some o → GoesOn made.2 to v values memories turns o =
      λ o g. goes_less made.2 to v (v + variables_in_all body) values memories turns o (omega arith)
      (other_goes other most other_go (past_all body place) (c + containers_in_all body) (v + variables_in_all body) loops made.2 made.3 to (table_behind_all body c table) behind_body values e
      (standing_wider (past_all body place).containers (c + containers_in_all body) v (variables_in_all body) loops _ _ values (standing_all body place e fits.1.0 c v loops table told values standing))
      other_names elements.1 fits.1.1 made.9 made.8.1 made.10.0 memories turns o g) in
      branch_goes from made.0 made.2 to v (guard_of table line when) values memories turns
      (says_block calls all body c told most memories turns) (says_block calls all other (c + containers_in_all body) behind_body most memories turns) made.4 made.5.0 made.8.0 first second
      (tested told line when memories) (passed_tied place.containers c v loops table told values standing from showing line when fits.0.known fits.0.affine memories) o h

  -- ---- loops

  -- from the end of a loop's first state on
  module _ (k h e f v w : ℕ) (v≤w : v ≤ w) (guard : GuardTree) (assigned : List (ℕ × Affine)) (step : ℤ) (test : ℤ → Memories → Result Bool (Fault graph_place.Place)) (block : ℤ → Memories → ℕ → Coming graph_place.Place)
      (Good : ℤ → Values → Type 0)
      (exits_k : exits_at states k ≡ if_holds guard h ∷ plainly f ∷ []) (exits_e : exits_at states e ≡ back_to k assigned ∷ [])
      (idle_k : items_at states k ≡ no_item) (idle_h : items_at states h ≡ no_item) (idle_f : items_at states f ≡ no_item)
      (asked : (value : ℤ) (values : Values) → Good value values → (memories : Memories) → Passed sizes containers names states reach around k guard values memories ≡ test value memories)
      (inside : (value : ℤ) (values : Values) → Good value values → (memories : Memories) (turns : ℕ) (o : Outcome graph_place.Place Reached) → block value memories turns ≡ Some o → GoesOn h e w values memories turns o)
      (next : (value : ℤ) (values after : Values) → Good value values → Agree w after values → Good (value +ℤ step) (assigned_values sizes assigned after))
      (kept : (values : Values) → Agree v (assigned_values sizes assigned values) values) where
    round_goes : (most : ℕ) (value : ℤ) (values : Values) (memories : Memories) (turns : ℕ) →
        ((value : ℤ) (values : Values) → Good value values → (memories : Memories) (turns : ℕ) (o : Outcome graph_place.Place Reached) → rounds most test block step value memories turns ≡ Some o → GoesOn k f v values memories turns o) →
        Good value values → (after : Values) → Agree w after values → (memories : Memories) (turns : ℕ) (o : Outcome graph_place.Place Reached) →
        spending true turns (rounds most test block step (value +ℤ step) memories) ≡ Some o → GoesOn e f v after memories turns o
    round_goes most value values memories turns later good after same more zero (Done now) g = cc
    round_goes most value values memories turns later good after same more zero (Faulted fault) g = cc
    round_goes most value values memories turns later good after same more zero Spent g = marked_spent sizes containers names states reach around e k assigned exits_e after more
    round_goes most value values memories turns later good after same more (suc left) o g =
        goes_from e k f v after (assigned_values sizes assigned after) more more (suc left) left o (kept after)
        (λ o z. marked_ends sizes containers names states reach around e k assigned exits_e idle_k after more left o z)
        (later (value +ℤ step) (assigned_values sizes assigned after) (next value values after good same) more left o g)

    rounds_go : (most : ℕ) (value : ℤ) (values : Values) → Good value values → (memories : Memories) (turns : ℕ) (o : Outcome graph_place.Place Reached) → rounds most test block step value memories turns ≡ Some o → GoesOn k f v values memories turns o
    rounds_go zero value values good memories turns o g = cc
    rounds_go (suc most) value values good memories turns o g =
        branch_goes k h f f v guard values memories turns _ (reached memories turns) exits_k idle_h idle_f
        (λ o z. goes_then h e f v w v≤w values memories turns (block value memories turns) (λ memories turns. spending true turns (rounds most test block step (value +ℤ step) memories))
        (inside value values good memories turns)
        (λ after same more left o y. round_goes most value values memories turns (rounds_go most) good after same more left o y) o z)
        (λ o z. goes_nowhere f f v values memories turns o refl z) (test value memories) (asked value values good memories) o g

  while_goes : (line : ℕ) (when : Expression) (body : Block) (most : ℕ) → AllGo body most → OneGoes (while_loop line when body) most
  while_goes line when body most body_go place c v loops from to table told values e standing naming elements fits made showing memories turns o h =
      goes_from from made.0 to v values values memories memories turns turns o (λ x b. refl) (λ o g. plain_to from made.0 made.3 made.4.0 values memories turns o g)
      (rounds_go made.0 made.1 made.2 to v v (omega arith) (guard_of table line when) [] (pos 0) (λ value memories. tested told line when memories) (λ value. says_block calls all body c told most)
      (λ value other. Standing place.containers c v loops table told other)
      made.5 made.8 made.4.0 made.6.0 made.9.0
      (λ value other good memories. passed_tied place.containers c v loops table told other good made.0 made.4.1 line when fits.0.known fits.0.affine memories)
      (λ value other good memories turns o g. body_go (in_loop place) c v loops made.1 made.2 table told other e good naming elements fits.1 made.7 made.6.1 memories turns o g)
      (λ value other after good same. standing_agree place.containers c v loops table told other after same good)
      (λ other x b. refl) most (pos 0) values standing memories turns o h)

  for_goes : (line : ℕ) (name : Name) (begin : Option Expression) (end : Expression) (step : Option ℤ) (body : Block) (most : ℕ) → AllGo body most → OneGoes (for_loop line name begin end step body) most
  for_goes line name begin end step body most body_go place c v loops from to table told values e standing naming elements fits made showing memories turns o h =
      let by_step : ℤ = step_or_one step in
      let start : Affine = affine_or affine_zero table.variables begin in
      let first : Values = assigned_values sizes ((v, start) ∷ []) values in
      let inside : Table = with_variables (name ∷ []) v table in
      let assigned : List (ℕ × Affine) = (v, stepped_on v step) ∷ [] in
      let put_agree : (x : ℤ) (other : Values) → Agree v (with_variable v x other) other = λ x other m b. variable_kept v m x other (λ same. omega (arith, b, same)) in
      let begins : variable_value first v ≡ exact_or (pos 0) told.variables begin =
      variable_set v (affine_value (sized sizes values) start) values
      ∙ affine_or_exact (sized sizes values) table.variables affine_zero (pos 0) (zero_value (sized sizes values)) begin fits.0.affine.0
      ∙ ap (λ known. exact_or (pos 0) known begin) (sym standing.stands.tied.variables) in
      let stepped : (value : ℤ) (other after : Values) → variable_value other v ≡ value → Agree (v + 1) after other → variable_value (assigned_values sizes assigned after) v ≡ value +ℤ by_step =
      λ value other after good same.
      variable_set v (affine_value (sized sizes after) (stepped_on v step)) after
      ∙ one_step (variable_value (sized sizes after) v) by_step
      ∙ ap (λ now. now +ℤ by_step) (other_value sizes after v standing.stands.sizes_below ∙ same v (omega arith) ∙ good) in
      goes_from from made.0 to v values first memories memories turns turns o (put_agree (affine_value (sized sizes values) start) values)
      (λ o g. set_ends sizes containers names states reach around from made.0 v start made.3 made.4.0 values memories turns o g)
      (rounds_go made.0 made.1 made.2 to v (v + 1) (omega arith) (below inside line name end) assigned by_step
      (λ value memories. tested (in_round name value told) line (two Less (named name) end) memories)
      (λ value. says_block calls all body c (in_round name value told) most)
      (λ value other. Agree v other values × (variable_value other v ≡ value))
      made.5 made.8 made.4.0 made.6.0 made.9.0
      (λ value other good memories. passed_tied place.containers c (v + 1) (loops ++ v ∷ []) inside (in_round name value told) other
      (standing_loop place.containers c v loops table told values other name value standing naming.0 good.0 good.1) made.0 made.4.1 line (two Less (named name) end)
      (tt, affine_knows place.containers end fits.0.affine.1) (tt, affine_subscripts end fits.0.affine.1) memories)
      (λ value other good memories turns o g. body_go (in_loop place) c (v + 1) (loops ++ v ∷ []) made.1 made.2 inside (in_round name value told) other e
      (standing_loop place.containers c v loops table told values other name value standing naming.0 good.0 good.1) (next_names naming.1) elements fits.1 made.7 made.6.1 memories turns o g)
      (λ value other after good same. ((λ x b. put_agree _ after x b ∙ same x (omega (arith, b)) ∙ good.0 x b), stepped value other after good.1 same))
      (λ other. put_agree _ other) most (exact_or (pos 0) told.variables begin) first
      (put_agree (affine_value (sized sizes values) start) values, begins) memories turns o h)
    where
      one_step : (now by_step : ℤ) → by_step +ℤ ((pos 1 *ℤ now) +ℤ pos 0) ≡ now +ℤ by_step
      one_step now by_step = omega (arith, ints)

      next_names : StandsAt [] names (variables_named_all body) (suc v) → StandsAt [] names (variables_named_all body) (v + 1)
      next_names n = let same : suc v ≡ v + 1 = omega arith in subst (StandsAt [] names (variables_named_all body)) same n

  mutual
    pub one_goes : (first : StatementTree) (most : ℕ) → OneGoes first most
    one_goes (local_array line name extents bits) most = λ place c v loops from to table told values e standing naming elements fits made showing memories turns o h. goes_nowhere from to v values memories turns o made h
    one_goes (local_stream line name bits size) most = λ place c v loops from to table told values e standing naming elements fits made showing memories turns o h. goes_nowhere from to v values memories turns o made h
    one_goes (assign line name at add value) most = λ place c v loops from to table told values e standing naming elements fits made showing memories turns o h.
        item_goes (assign line name at add value) most place c v loops from to table told values standing naming elements fits tt made memories turns o h
    one_goes (copy line target to_dimensions source from_dimensions) most = λ place c v loops from to table told values e standing naming elements fits made showing memories turns o h.
        item_goes (copy line target to_dimensions source from_dimensions) most place c v loops from to table told values standing naming elements fits tt made memories turns o h
    one_goes (reduce line lambda source target axis identity) most = λ place c v loops from to table told values e standing naming elements fits made showing memories turns o h.
        item_goes (reduce line lambda source target axis identity) most place c v loops from to table told values standing naming elements fits tt made memories turns o h
    one_goes (map_scope line parameters ranges body) most = λ place c v loops from to table told values e standing naming elements fits made showing memories turns o h.
        item_goes (map_scope line parameters ranges body) most place c v loops from to table told values standing naming elements fits tt made memories turns o h
    one_goes (tasklet line body) most = λ place c v loops from to table told values e standing naming elements fits made showing memories turns o h.
        item_goes (tasklet line body) most place c v loops from to table told values standing naming elements fits tt made memories turns o h
    one_goes (consume_scope line stream size name element worker body) most = λ place c v loops from to table told values e standing naming elements fits made showing memories turns o h.
        item_goes (consume_scope line stream size name element worker body) most place c v loops from to table told values standing naming elements fits tt made memories turns o h
    one_goes (call line name arguments) most = λ place c v loops from to table told values e standing naming elements fits made showing memories turns o h.
        item_goes (call line name arguments) most place c v loops from to table told values standing naming elements fits tt made memories turns o h
    one_goes (for_loop line name begin end step body) most = for_goes line name begin end step body most (all_go body most)
    one_goes (while_loop line when body) most = while_goes line when body most (all_go body most)
    one_goes (branch line when body other) most = if_goes line when body other most (all_go body most) (all_go other most)
    one_goes (argument_array line name bits extents) most = λ place c v loops from to table told values e standing naming elements fits made showing memories turns o h. goes_nowhere from to v values memories turns o made h
    one_goes (input line connector memlet) most = λ place c v loops from to table told values e standing naming elements fits made showing memories turns o h. absurd (not_here (input line connector memlet) place e fits.placed)
    one_goes (output line connector memlet) most = λ place c v loops from to table told values e standing naming elements fits made showing memories turns o h. absurd (not_here (output line connector memlet) place e fits.placed)
    one_goes (set line name value) most = λ place c v loops from to table told values e standing naming elements fits made showing memories turns o h. absurd (not_here (set line name value) place e fits.placed)
    one_goes (set_at line name at value) most = λ place c v loops from to table told values e standing naming elements fits made showing memories turns o h. absurd (not_here (set_at line name at value) place e fits.placed)
    one_goes (tasklet_branch line when body other) most = λ place c v loops from to table told values e standing naming elements fits made showing memories turns o h. absurd (not_here (tasklet_branch line when body other) place e fits.0.placed)

    pub all_go : (block : Block) (most : ℕ) → AllGo block most
    all_go no_statement most = λ place c v loops from to table told values e standing naming elements fits made showing memories turns o h. goes_nowhere from to v values memories turns o made h
    all_go (and_statement first rest) most = block_goes first rest most (one_goes first most) (all_go rest most)
