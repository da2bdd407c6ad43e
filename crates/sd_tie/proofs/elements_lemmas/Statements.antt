-- Element statements and conditions are the same work.
use Rattle.std.proofs.Common.{◌≡◌, ◌∙◌, ℕ, zero, suc, ◌+◌, ◌-◌, ◌<◌, ℤ, List, [], ◌∷◌, ◌++◌, length, map, take, drop, Option, Some, None, Ok, Err, Bool, true, false, nat_lt, slice_get, slice_index_or, if◌then◌else◌, codes, refl, ap, sym, arith}
use Rattle.sd_lex.specs.PlainTree.{Expression, element_at, two, Expressions}
use Rattle.sd_lex.specs.declared.syntax.operator.TwoSign.TheVariants.{Add}
use Rattle.sd_num.specs.Wrapped.{wrapped}
use Rattle.sd_num.specs.declared.resolution.Resolution.{Resolution}
use Rattle.sd_num.specs.declared.resolution.Resolution.TheVariants.{Sum}
use Rattle.sd_range.specs.Affine.{variable_value}
use Rattle.sd_range.specs.Points.{product}
use Rattle.sd_work.specs.Leaf.{write_value, push_to, instance_of}
use Rattle.sd_work.specs.Residual.{leaf}
use Rattle.sd_graph.specs.PlainTree.{ValueTree}
use Rattle.sd_graph.specs.ContainerParts.{container_at, is_stream}
use Rattle.sd_graph.specs.Context.{Context, Reach, reference_at, link_elements, link_element, link_extents}
use Rattle.sd_graph.specs.Context as places
use Rattle.sd_graph.specs.TaskletMeaning as meaning
use Rattle.sd_graph.specs.TaskletMeaning.{Inputs, Effect, Meaning, holds, and_then, checked, extents_of_connector}
use Rattle.sd_graph.specs.Unfold.{cut, meaning_at, pending_of, pending_by, pending_through, task_of, does_hold, unfold_kind}
use Rattle.sd_graph.specs.Unfold as unfolded
use Rattle.sd_graph.specs.ContainerParts as parts
use Rattle.sd_graph.specs.declared.container.Container.{Container}
use Rattle.sd_graph.specs.declared.link.Link.{Link}
use Rattle.sd_program.specs.Names.{Name, Named, in_force}
use Rattle.sd_program.specs.Affines.{affines_of}
use Rattle.sd_program.specs.IsAffine.{IsAffine}
use Rattle.sd_program.specs.Bounds.{EachExpression, EachSubscript}
use Rattle.sd_program.specs.Place.{Holder}
use Rattle.sd_program.specs.Known.{KnowsElements}
use Rattle.sd_task.specs.task.Table.{Table, container_number}
use Rattle.sd_task.specs.task.Links.{element_link}
use Rattle.sd_task.specs.task.ElementCode.{links_with, used_with, code_of, value_code}
use Rattle.sd_task.specs.task.ElementCode as task
use Rattle.sd_says.specs.Exact.{exact_all}
use Rattle.sd_says.specs.Held.{array_of, a_stream, pending_in}
use Rattle.sd_says.specs.Setting.{Setting, held_by, place_at}
use Rattle.sd_says.specs.AsLeaves.{value_of, condition_in, assignment, element_statement}
use Rattle.sd_tie.specs.elements.Tied.{shape_of, Tied, AreNumbered}
use Rattle.sd_tie.proofs.elements_lemmas.LinkReads.{held_found, subscripts, one_place, no_extents, links_count, reads_tied, AreSingle, singles}
use Rattle.sd_made.proofs.names_lemmas.UsedPlaces.{all_used}
use Rattle.sd_tie.proofs.elements_lemmas.Values.{drop_twice, value_tied}

-- a value is written or pushed alike
pub pending_tied : (container : Container) (reach : Reach) (index : List ℤ) (by : Option Resolution) (value : ℤ) →
    (if is_stream container.kind then push_to reach.level reach.container value else write_value value (reference_at reach index) by) ≡ pending_in (shape_of container) reach index by value
pending_tied container reach index by value = go (is_stream container.kind)
  where
    go : (streams : Bool) → (if streams then push_to reach.level reach.container value else write_value value (reference_at reach index) by)
        ≡ pending_in (if streams then a_stream else array_of (parts.extents_of container)) reach index by value
    go true = refl
    go false = refl

module _ (known : Named Holder) (table : Table) (setting : Setting) (context : Context) (tied : Tied table setting context) (are : AreNumbered known table.containers) where
  pub place_tied : (line : ℕ) → places.place_at context line ≡ place_at setting line
  place_tied line = λ i. record { frames = sym tied.around i ++ record { line = line; values = sym tied.shown i } ∷ [] }

  abbrev Singles : List Link → Type 0
  Singles links = AreSingle known table setting context tied are links

  -- the values that links of one element each are given
  cut_singles : (links : List Link) → Singles links → (read : List ℤ) (k : ℕ) → k < length links →
      slice_index_or (cut (map (λ link. product (link_extents context link)) links) read) k [] ≡ take 1 (drop k read)
  cut_singles [] h read k b = absurd (omega (arith, b))
  cut_singles (link ∷ links) h read zero b = ap (λ extents. take (product extents) read) h.0
  cut_singles (link ∷ links) h read (suc k) b =
      let next : 1 + k ≡ suc k = omega arith in
      ap (λ extents. slice_index_or (cut (map (λ link. product (link_extents context link)) links) (drop (product extents) read)) k []) h.0
      ∙ cut_singles links h.1 (drop 1 read) k (omega (arith, b))
      ∙ ap (take 1) (drop_twice 1 k read ∙ ap (λ count. drop count read) next)

  -- and their extents
  extents_singles : (links more : List Link) → Singles links → (k : ℕ) → k < length links → slice_index_or (map (link_extents context) (links ++ more)) k [] ≡ []
  extents_singles [] more h k b = absurd (omega (arith, b))
  extents_singles (link ∷ links) more h zero b = h.0
  extents_singles (link ∷ links) more h (suc k) b = extents_singles links more h.1 k (omega (arith, b))

  -- the extents of the connector behind them
  extents_behind : (links more : List Link) → slice_index_or (map (link_extents context) (links ++ more)) (length links) [] ≡ slice_index_or (map (link_extents context) more) 0 []
  extents_behind [] more = refl
  extents_behind (link ∷ links) more = extents_behind links more

  module _ (expression : Expression) (knows : KnowsElements known expression) (affine : EachSubscript IsAffine expression) (outs : List Link) (read : List ℤ) where
    abbrev ins : List Link
    ins = links_with table [] expression

    abbrev used : List ℕ
    used = used_with table.variables [] expression

    abbrev code : ValueTree
    code = code_of table.variables used 0 expression

    -- what the code is given
    abbrev given : Inputs
    given = record {
      values = cut (map (λ link. product (link_extents context link)) ins) read;
      extents = map (link_extents context) (ins ++ outs);
      variables = map (λ variable. wrapped (variable_value context.values variable)) used;
    }

    whole_value : meaning.value_of given [] code ≡ value_of setting.variables read expression
    whole_value =
        value_tied given context.values table.variables used read (length ins)
        (cut_singles ins (singles known table setting context tied are [] expression tt) read)
        (extents_singles ins outs (singles known table setting context tied are [] expression tt)) refl
        expression 0 (omega (arith, links_count table [] expression)) (all_used table.variables expression)
        ∙ ap (λ names. value_of names read expression) (sym tied.variables)

    one_effect : ℤ → Effect
    one_effect value = record { connector = length ins; at = []; value = value }

    -- code that gives the value to the connector behind the inputs, which has no extents, has this one effect
    pub meaning_tied : slice_index_or (map (link_extents context) outs) 0 [] ≡ [] →
        meaning_at context (value_code table.variables ins expression) ins outs read ≡ and_then (value_of setting.variables read expression) (λ value. Ok (record { connector = length ins; at = []; value = value } ∷ []))
    meaning_tied none =
        ap (λ extents. made (checked extents []) (meaning.value_of given [] code)) (extents_behind ins outs ∙ none)
        ∙ given_alone (meaning.value_of given [] code)
        ∙ ap (λ value. and_then value (λ value. Ok (record { connector = length ins; at = []; value = value } ∷ []))) whole_value
      where
        made : Meaning (List ℤ) → Meaning ℤ → Meaning (List Effect)
        made place value =
            and_then (and_then (and_then place (λ at. and_then value (λ value. Ok (meaning.with_effect (record { locals = []; effects = [] }) (length ins) at value)))) (λ now. Ok now)) (λ now. Ok now.effects)

        given_alone : (value : Meaning ℤ) → made (Ok []) value ≡ and_then value (λ value. Ok (record { connector = length ins; at = []; value = value } ∷ []))
        given_alone (Ok value) = refl
        given_alone (Err kind) = refl

  -- ---- element statements

  behind_itself : (count : ℕ) → nat_lt count count ≡ false
  behind_itself count = grind arith

  module _ (name : Name) (holder : Holder) (is : in_force known name ≡ Some holder) (at : Expressions) (subscripted : EachExpression IsAffine at) (by : Option Resolution) where
    abbrev out : Link
    out = element_link table (codes "_out") name at by

    -- an effect on it
    effect_tied : (value : ℤ) → pending_through context out (record { connector = 0; at = []; value = value }) ≡ pending_in (held_by setting name).shape (held_by setting name).reach (exact_all setting.variables at) by value
    effect_tied value =
        pending_tied (container_at context.containers (container_number table name)) (context.reach (container_number table name)) (places.index_at out.memlet.subset.dims context.values []) by value
        ∙ (λ i. pending_in (sym (held_found known table setting context tied are name holder is) i).shape (sym (held_found known table setting context tied are name holder is) i).reach
        ((one_place context.values (affines_of table.variables at) ∙ subscripts known table setting context tied are at subscripted) i) by value)

    assigned_effect : (ins : List Link) (value : ℤ) → pending_of context ins (out ∷ []) (record { connector = length ins; at = []; value = value })
        ≡ pending_in (held_by setting name).shape (held_by setting name).reach (exact_all setting.variables at) by value
    assigned_effect ins value =
        let none : length ins - length ins ≡ 0 = omega arith in
        let effect : Effect = record { connector = length ins; at = []; value = value } in
        ap (λ below. if below then pending_by context None effect else pending_by context (slice_get (out ∷ []) (length ins - length ins)) effect) (behind_itself (length ins))
        ∙ ap (λ number. pending_by context (slice_get (out ∷ []) number) effect) none
        ∙ effect_tied value

    assignment_tied : (value : Expression) → KnowsElements known value → EachSubscript IsAffine value → (line : ℕ) →
        unfold_kind (task.assignment table name at by value) line context ≡ leaf (place_at setting line) (assignment setting name at by value)
    assignment_tied value knows affine line =
        let ins : List Link = links_with table [] value in
        (λ i. leaf (place_tied line i) (instance_of (reads_tied known table setting context tied are [] value knows affine i) (λ read. (
        ap (λ made. and_then made (λ effects. Ok (map (pending_of context ins (out ∷ [])) effects)))
        (meaning_tied value knows affine (out ∷ []) read (no_extents context.values (affines_of table.variables at)))
        ∙ pended ins (value_of setting.variables read value)) i)))
      where
        pended : (inputs : List Link) (value : Meaning ℤ) → and_then (and_then value (λ value. Ok (record { connector = length inputs; at = []; value = value } ∷ []))) (λ effects. Ok (map (pending_of context inputs (out ∷ [])) effects))
            ≡ and_then value (λ value. Ok (pending_in (held_by setting name).shape (held_by setting name).reach (exact_all setting.variables at) by value ∷ []))
        pended inputs (Ok value) = ap (λ pending. Ok (pending ∷ [])) (assigned_effect inputs value)
        pended inputs (Err kind) = refl

  pub element_statement_tied : (in_scope : Bool) (name : Name) (holder : Holder) → in_force known name ≡ Some holder → (at : Expressions) → EachExpression IsAffine at → (add : Bool) (value : Expression) →
      KnowsElements known value → KnowsElements known (element_at name at) → EachSubscript IsAffine value → (line : ℕ) →
      unfold_kind (task.element_task table in_scope name at add value) line context ≡ leaf (place_at setting line) (element_statement setting in_scope name at add value)
  element_statement_tied true name holder is at subscripted true value knows itself affine line = assignment_tied name holder is at subscripted (Some Sum) value knows affine line
  element_statement_tied false name holder is at subscripted true value knows itself affine line =
      assignment_tied name holder is at subscripted None (two Add (element_at name at) value) (itself, knows) (subscripted, affine) line
  element_statement_tied true name holder is at subscripted false value knows itself affine line = assignment_tied name holder is at subscripted None value knows affine line
  element_statement_tied false name holder is at subscripted false value knows itself affine line = assignment_tied name holder is at subscripted None value knows affine line

  -- ---- conditions

  held_alone : (links : List Link) (value : Meaning ℤ) → and_then (and_then value (λ value. Ok (record { connector = length links; at = []; value = value } ∷ []))) (λ effects. Ok (does_hold effects)) ≡ and_then value (λ value. Ok (holds value))
  held_alone links (Ok value) = refl
  held_alone links (Err kind) = refl

  pub condition_tied : (line : ℕ) (when : Expression) → KnowsElements known when → EachSubscript IsAffine when → unfolded.guard_of context (task.guard_of table line when) ≡ condition_in setting line when
  condition_tied line when knows affine =
      let reads : List Link = links_with table [] when in
      (λ i. record {
        place = place_tied line i;
        reads = reads_tied known table setting context tied are [] when knows affine i;
        holds = λ read. (ap (λ made. and_then made (λ effects. Ok (does_hold effects))) (meaning_tied when knows affine [] read refl) ∙ held_alone reads (value_of setting.variables read when)) i;
      })
