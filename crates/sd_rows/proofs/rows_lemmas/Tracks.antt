-- The elements of links at the points of a row.
use Rattle.std.proofs.Common.{◌≡◌, ℕ, zero, suc, ◌≤◌, ◌-◌, ℤ, pos, List, [], ◌∷◌, ◌++◌, length, Some, None, option_map, false, slice_get, unsigned_abs, nat_lt, if◌then◌else◌, refl, sym, ap, ◌∙◌, arith}
use Rattle.std.proofs.lemmas.Bool.Decides.{nat_tests}
use Rattle.sd_range.specs.declared.range.Range.{Range}
use Rattle.sd_range.specs.Affine.{variable_value}
use Rattle.sd_range.specs.Variables.{with_variable, with_variables}
use Rattle.sd_work.specs.Memory.{Reference}
use Rattle.sd_work.specs.Leaf.{write_value, push_to}
use Rattle.sd_graph.specs.PlainTree.{TaskletTree, GraphTree}
use Rattle.sd_graph.specs.TreeFold.{graph_tree}
use Rattle.sd_graph.specs.ContainerParts.{container_at, is_stream}
use Rattle.sd_graph.specs.TaskletMeaning.{Effect}
use Rattle.sd_graph.specs.Context.{Context, Reach, reference_at, link_element, index_at}
use Rattle.sd_graph.specs.Unfold.{assigned, pending_of, pending_by}
use Rattle.sd_graph.specs.declared.link.Link.{Link}
use Rattle.sd_mem.specs.machine.Stack.{reference_of}
use Rattle.sd_mem.specs.declared.machine.address.Address.{Address}
use Rattle.sd_scope.specs.scope.Standing.{context_of}
use Rattle.sd_scope.specs.declared.scope.base.Base.{Base}
use Rattle.sd_scope.specs.declared.scope.scope.Scope.{Scope}
use Rattle.sd_scope.specs.even.Even.{spaced}
use Rattle.sd_scope.proofs.even_lemmas.Distances.{spaced_first}
use Rattle.sd_scope.proofs.even_lemmas.Reached.{even_within}
use Rattle.sd_scope.proofs.even_lemmas.LastParameter.{values_at_last}
use Rattle.sd_scope.proofs.even_lemmas.Row.{referred, to_element}
use Rattle.sd_tcode.specs.declared.columns.spacing.Spaced.{Spaced}
use Rattle.sd_rows.specs.declared.rows.steps.Steps.{Steps}
use Rattle.sd_tcode.specs.columns.Columns.{value_on}
use Rattle.sd_row.specs.row.Row.{reference_on}
use Rattle.sd_rows.specs.rows.Along.{step_to, IsAlong, IsFromTo, IsLast, row_of}
use Rattle.sd_rows.specs.rows.Map.{tree_of, row_at}
use Rattle.sd_rows.specs.declared.rows.map.TaskMap.{TaskMap}

-- the points of a row stand along it
pub along_row : (program : GraphTree) (base : Base) (scope : Scope) (tree : TaskletTree) (ins outs : List Link) (line : ℕ) (params outer : List (ℕ × Range)) (private : List ℕ) (row : List ℤ) (steps : Steps) →
    IsLast params outer scope.values.values steps → length row ≡ length outer →
    IsAlong steps (with_variables (assigned outer row) scope.values.values) (row_of tree ins outs line params private (context_of program base scope) row steps).context
along_row program base scope tree ins outs line params outer private row steps last many = record {
  values = λ k. ap (λ (all : List (ℕ × Range)). with_variables (assigned all (row ++ step_to steps k ∷ [])) scope.values.values) last.all
      ∙ values_at_last outer (steps.variable, last.range) row (step_to steps k) scope.values.values (sym many);
  reach = λ k. refl;
  containers = λ k. refl;
  even = λ number. even_within program base scope private number;
}

-- and so they do from the first one to the last one
pub way_along : (task : TaskMap) (outer : List (ℕ × Range)) (row : List ℤ) (steps : Steps) (gaps : ℕ) (begin end : Context) → IsLast task.params.now outer task.scope.now.values.values steps → length row ≡ length outer →
    begin ≡ (row_at task row steps).context 0 → end ≡ (row_at task row steps).context gaps →
    IsFromTo steps gaps begin end (with_variables (assigned outer row) task.scope.now.values.values) (row_at task row steps).context
way_along task outer row steps gaps begin end last many begins ends = record {
  along = along_row (graph_tree task.graph.now) task.base.now task.scope.now (tree_of task) task.ins.now task.outs.now task.line task.params.now outer task.private.now row steps last many;
  first = begins;
  last = ends;
}

-- ---- one link

module _ (steps : Steps) (gaps : ℕ) (first last : Context) (values : List ℤ) (context : ℕ → Context) (way : IsFromTo steps gaps first last values context) where
  -- the element of a link at a point
  at_point : (k : ℕ) (link : Link) → link_element (context k) link [] ≡ reference_at ((context 0).reach link.memlet.container) (index_at link.memlet.subset.dims (with_variable steps.variable (step_to steps k) values) [])
  at_point k link =
      ap (λ (reach : ℕ → Reach). reference_at (reach link.memlet.container) (index_at link.memlet.subset.dims (context k).values [])) (way.along.reach k)
      ∙ ap (λ here. reference_at ((context 0).reach link.memlet.container) (index_at link.memlet.subset.dims here [])) (way.along.values k)

  module _ (link : Link) (begin end : Address) (begins : Some (reference_of begin) ≡ link_element first link []) (ends : Some (reference_of end) ≡ link_element last link []) where
    abbrev reach : Reach
    reach = (context 0).reach link.memlet.container

    abbrev here : (k : ℕ) → List ℤ
    here k = index_at link.memlet.subset.dims (with_variable steps.variable (step_to steps k) values) []

    low : (reach.find (here 0) ≡ Some begin.element) × (to_element reach begin.element ≡ reference_of begin)
    low = referred reach (reach.find (here 0)) (reference_of begin) (sym (at_point 0 link) ∙ ap (λ (context : Context). link_element context link []) (sym way.first) ∙ sym begins)

    high : (reach.find (here gaps) ≡ Some end.element) × (to_element reach end.element ≡ reference_of end)
    high = referred reach (reach.find (here gaps)) (reference_of end) (sym (at_point gaps link) ∙ ap (λ (context : Context). link_element context link []) (sym way.last) ∙ sym ends)

    at_begin : reach.find (index_at link.memlet.subset.dims (with_variable steps.variable steps.first values) []) ≡ Some begin.element
    at_begin = ap (λ x. reach.find (index_at link.memlet.subset.dims (with_variable steps.variable x values) [])) (sym (spaced_first steps.first steps.step)) ∙ low.0

    -- where the ends are inside, the element at a point is that of the track
    pub on_track : (numbers : Spaced) →
        ((distance : ℤ) → pos end.element ≡ spaced (pos begin.element) distance gaps → (k element : ℕ) → k ≤ gaps → pos element ≡ spaced (pos begin.element) distance k → element ≡ unsigned_abs (value_on numbers k)) →
        (k : ℕ) → k ≤ gaps → link_element (context k) link [] ≡ Some (reference_on (record { station = begin.station; elements = numbers }) k)
    on_track numbers told k within =
        let all = (way.along.even link.memlet.container).between link.memlet.subset.dims values steps.variable steps.first steps.step [] gaps begin.element end.element at_begin high.0 in
        let one = all.2 k within in
        at_point k link ∙ ap (option_map (to_element reach)) one.1
        ∙ ap (λ (to : Reference). Some (record to { element = one.0 })) low.1
        ∙ ap (λ (element : ℕ). Some (record { level = begin.station.level; container = begin.station.container; element = element })) (told all.0 all.1 k one.0 within one.2)

-- ---- variables

set_value : (variable : ℕ) (value : ℤ) (values : List ℤ) → variable_value (with_variable variable value values) variable ≡ value
set_value zero value [] = refl
set_value zero value (old ∷ values) = refl
set_value (suc variable) value [] = set_value variable value []
set_value (suc variable) value (old ∷ values) = set_value variable value values

-- a variable without a value
none_there : (variable : ℕ) → variable_value [] variable ≡ pos 0
none_there variable = refl

other_value : (variable other : ℕ) (value : ℤ) (values : List ℤ) → ((other ≡ variable) → ⊥) → variable_value (with_variable variable value values) other ≡ variable_value values other
other_value zero zero value values differ = absurd (differ refl)
other_value zero (suc other) value [] differ = refl
other_value zero (suc other) value (old ∷ values) differ = refl
other_value (suc variable) zero value [] differ = refl
other_value (suc variable) zero value (old ∷ values) differ = refl
other_value (suc variable) (suc other) value [] differ = other_value variable other value [] (λ same. differ (ap suc same))
other_value (suc variable) (suc other) value (old ∷ values) differ = other_value variable other value values (λ same. differ (ap suc same))

module _ (steps : Steps) (values : List ℤ) (context : ℕ → Context) (along : IsAlong steps values context) (k : ℕ) where
  pub last_value : variable_value (context k).values steps.variable ≡ step_to steps k
  last_value = ap (λ values. variable_value values steps.variable) (along.values k) ∙ set_value steps.variable (step_to steps k) values

  -- another variable keeps its value
  pub kept_value : (variable : ℕ) → ((variable ≡ steps.variable) → ⊥) → variable_value (context k).values variable ≡ variable_value (context 0).values variable
  kept_value variable differ =
      ap (λ values. variable_value values variable) (along.values k) ∙ other_value steps.variable variable (step_to steps k) values differ
      ∙ sym (ap (λ values. variable_value values variable) (along.values 0) ∙ other_value steps.variable variable (step_to steps 0) values differ)

-- ---- writes

-- an output through the link of its number, into an array
pub output_through : (context : Context) (ins outs : List Link) (connector : ℕ) (link : Link) (value : ℤ) (to : Reference) → length ins ≤ connector → slice_get outs (connector - length ins) ≡ Some link →
    is_stream (container_at context.containers link.memlet.container).kind ≡ false → link_element context link [] ≡ Some to →
    pending_of context ins outs (record { connector = connector; at = []; value = value }) ≡ write_value value (Some to) link.memlet.resolution
output_through context ins outs connector link value to output there arrays found =
    let effect : Effect = record { connector = connector; at = []; value = value } in
    let not_in : nat_lt connector (length ins) ≡ false = grind (arith, nat_tests) in
    ap (λ test. if test then pending_by context None effect else pending_by context (slice_get outs (connector - length ins)) effect) not_in
    ∙ ap (λ link. pending_by context link effect) there
    ∙ ap (λ streams. if streams then push_to (context.reach link.memlet.container).level (context.reach link.memlet.container).container value else write_value value (link_element context link []) link.memlet.resolution) arrays
    ∙ ap (λ element. write_value value element link.memlet.resolution) found

-- the containers are those of the graph
pub containers_along : (steps : Steps) (gaps : ℕ) (begin end : Context) (values : List ℤ) (context : ℕ → Context) → IsFromTo steps gaps begin end values context → (k : ℕ) → (context k).containers ≡ begin.containers
containers_along steps gaps begin end values context way k = way.along.containers k ∙ ap (λ (c : Context). c.containers) (sym way.first)
