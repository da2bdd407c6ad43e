-- What does not name a variable stays where the variable alone changes.
use Rattle.std.proofs.Common.{◌≡◌, ◌≢◌, ℕ, ℤ, ◌+ℤ◌, ◌*ℤ◌, List, [], ◌∷◌, ◌++◌, map, length, Bool, true, false, ◌&&◌, ◌||◌, not, nat_eq, if◌then◌else◌, refl, sym, ap, ◌∙◌, arith}
use Rattle.std.specs.List.{AllByRecursion, fold, list_all}
use Rattle.std.specs.Int.{int_min}
use Rattle.std.proofs.lemmas.Bool.Decides.{nat_tests}
use Rattle.sd_range.specs.declared.affine.Affine.{Affine}
use Rattle.sd_range.specs.declared.range.Range.{Range}
use Rattle.sd_range.specs.declared.subset.Dim.{Dim}
use Rattle.sd_range.specs.declared.subset.Dim.TheVariants.{Index, Span}
use Rattle.sd_range.specs.Affine.{variable_value, terms_value, affine_value}
use Rattle.sd_range.specs.Range.{range_values, least_value, stepped}
use Rattle.sd_range.specs.Variables.{with_variable}
use Rattle.sd_range.proofs.Variables.{variable_kept}
use Rattle.sd_work.specs.Leaf.{write_value, push_to}
use Rattle.sd_graph.specs.ContainerParts.{Containers, container_at, is_stream}
use Rattle.sd_graph.specs.TaskletMeaning.{Effect}
use Rattle.sd_graph.specs.Context.{Context, Reach, reference_at, index_at, span_counts, link_element, link_extents}
use Rattle.sd_graph.specs.Unfold.{pending_through}
use Rattle.sd_graph.specs.declared.link.Link.{Link}
use Rattle.sd_scope.specs.even.Even.{is_scalar}
use Rattle.sd_scope.proofs.even_lemmas.Scalar.{no_extents}
use Rattle.sd_rows.specs.declared.rows.steps.Steps.{Steps}
use Rattle.sd_rows.specs.rows.Along.{step_to, IsFromTo}
use Rattle.sd_rows.specs.rows.Still.{is_free, is_free_dim, is_still}

two : (a b : Bool) → (a && b) ≡ true → (a ≡ true) × (b ≡ true)
two true b both = (refl, both)
two false b both = cc

-- a test that fails for one fails for the other
pub apart_of : (a b : ℕ) → not (nat_eq a b) ≡ true → b ≢ a
apart_of a b differ same =
    let equal : nat_eq a b ≡ true = grind (arith, nat_tests) in
    let not_equal : false ≡ true = ap not (sym equal) ∙ differ in
    cc

module _ (variable : ℕ) (x y : ℤ) (values : List ℤ) where
  abbrev first : List ℤ
  first = with_variable variable x values

  abbrev second : List ℤ
  second = with_variable variable y values

  terms_stay : (terms : List (ℕ × ℤ)) → list_all (λ term. not (nat_eq term.0 variable)) terms ≡ true → terms_value first terms ≡ terms_value second terms
  terms_stay [] free = refl
  terms_stay (term ∷ terms) free =
      let both = two (not (nat_eq term.0 variable)) (list_all (λ term. not (nat_eq term.0 variable)) terms) free in
      let apart = apart_of term.0 variable both.0 in
      let value : variable_value first term.0 ≡ variable_value second term.0 = variable_kept variable term.0 x values apart ∙ sym (variable_kept variable term.0 y values apart) in
      ap (λ value. (term.1 *ℤ value) +ℤ terms_value first terms) value
      ∙ ap (λ rest. (term.1 *ℤ variable_value second term.0) +ℤ rest) (terms_stay terms both.1)

  value_stays : (a : Affine) → is_free variable a ≡ true → affine_value first a ≡ affine_value second a
  value_stays a free = ap (λ sum. a.constant +ℤ sum) (terms_stay a.terms free)

  values_stay : (ends : List Affine) → list_all (is_free variable) ends ≡ true → map (affine_value first) ends ≡ map (affine_value second) ends
  values_stay [] free = refl
  values_stay (end ∷ ends) free =
      let both = two (is_free variable end) (list_all (is_free variable) ends) free in
      ap (λ value. value ∷ map (affine_value first) ends) (value_stays end both.0) ∙ ap (λ rest. affine_value second end ∷ rest) (values_stay ends both.1)

  least_stays : (ends : List Affine) → list_all (is_free variable) ends ≡ true → least_value first ends ≡ least_value second ends
  least_stays [] free = refl
  least_stays (end ∷ ends) free =
      let both = two (is_free variable end) (list_all (is_free variable) ends) free in
      ap (λ value. fold int_min value (map (affine_value first) ends)) (value_stays end both.0)
      ∙ ap (fold int_min (affine_value second end)) (values_stay ends both.1)

  range_stays : (range : Range) → is_free_dim variable (Span range) ≡ true → range_values first range ≡ range_values second range
  range_stays range free =
      let both = two (is_free variable range.begin) (list_all (is_free variable) range.ends) free in
      ap (λ begin. stepped begin (least_value first range.ends) range.step) (value_stays range.begin both.0)
      ∙ ap (λ last. stepped (affine_value second range.begin) last range.step) (least_stays range.ends both.1)

  pub spans_stay : (dims : List Dim) → list_all (is_free_dim variable) dims ≡ true → span_counts dims first ≡ span_counts dims second
  spans_stay [] free = refl
  spans_stay (Index at ∷ dims) free =
      let both = two (is_free_dim variable (Index at)) (list_all (is_free_dim variable) dims) free in
      spans_stay dims both.1
  spans_stay (Span range ∷ dims) free =
      let both = two (is_free_dim variable (Span range)) (list_all (is_free_dim variable) dims) free in
      ap (λ (numbers : List ℤ). length numbers ∷ span_counts dims first) (range_stays range both.0) ∙ ap (λ rest. length (range_values second range) ∷ rest) (spans_stay dims both.1)

  pub index_stays : (dims : List Dim) (at : List ℤ) → list_all (is_free_dim variable) dims ≡ true → index_at dims first at ≡ index_at dims second at
  index_stays [] at free = refl
  index_stays (Index number ∷ dims) at free =
      let both = two (is_free_dim variable (Index number)) (list_all (is_free_dim variable) dims) free in
      ap (λ value. value ∷ index_at dims first at) (value_stays number both.0) ∙ ap (λ rest. affine_value second number ∷ rest) (index_stays dims at both.1)
  index_stays (Span range ∷ dims) [] free =
      let both = two (is_free_dim variable (Span range)) (list_all (is_free_dim variable) dims) free in
      let begins = two (is_free variable range.begin) (list_all (is_free variable) range.ends) both.0 in
      ap (λ value. value ∷ index_at dims first []) (value_stays range.begin begins.0) ∙ ap (λ rest. affine_value second range.begin ∷ rest) (index_stays dims [] both.1)
  index_stays (Span range ∷ dims) (number ∷ at) free =
      let both = two (is_free_dim variable (Span range)) (list_all (is_free_dim variable) dims) free in
      let begins = two (is_free variable range.begin) (list_all (is_free variable) range.ends) both.0 in
      ap (λ value. (value +ℤ (range.step *ℤ number)) ∷ index_at dims first at) (value_stays range.begin begins.0)
      ∙ ap (λ rest. (affine_value second range.begin +ℤ (range.step *ℤ number)) ∷ rest) (index_stays dims at both.1)

-- ---- along a row

-- a subset of more than one element names it nowhere
pub free_where : (variable : ℕ) (dims : List Dim) → is_still variable dims ≡ true → is_scalar dims ≡ false → list_all (is_free_dim variable) dims ≡ true
free_where variable dims still many = sym (ap (λ scalar. scalar || list_all (is_free_dim variable) dims) many) ∙ still

module _ (steps : Steps) (gaps : ℕ) (begin end : Context) (others : List ℤ) (context : ℕ → Context) (way : IsFromTo steps gaps begin end others context) (k : ℕ) where
  begins : begin.values ≡ with_variable steps.variable (step_to steps 0) others
  begins = ap (λ (c : Context). c.values) way.first ∙ way.along.values 0

  abbrev free : Link → Type 0
  free link = list_all (is_free_dim steps.variable) link.memlet.subset.dims ≡ true

  -- a link that is free has the extents that it has at the first point
  pub free_extents : (link : Link) → free link → link_extents begin link ≡ link_extents (context k) link
  free_extents link is =
      ap (span_counts link.memlet.subset.dims) begins
      ∙ spans_stay steps.variable (step_to steps 0) (step_to steps k) others link.memlet.subset.dims is
      ∙ ap (span_counts link.memlet.subset.dims) (sym (way.along.values k))

  extents_by : (link : Link) (scalar : Bool) → is_scalar link.memlet.subset.dims ≡ scalar → is_still steps.variable link.memlet.subset.dims ≡ true → link_extents begin link ≡ link_extents (context k) link
  extents_by link true is still = no_extents begin link is ∙ sym (no_extents (context k) link is)
  extents_by link false is still = free_extents link (free_where steps.variable link.memlet.subset.dims still is)

  -- the connectors have the extents that they have at the first point
  pub extents_stay : (links : List Link) → AllByRecursion (λ link. is_still steps.variable link.memlet.subset.dims ≡ true) links → map (link_extents begin) links ≡ map (link_extents (context k)) links
  extents_stay [] all = refl
  extents_stay (link ∷ links) all =
      ap (λ extents. extents ∷ map (link_extents begin) links) (extents_by link (is_scalar link.memlet.subset.dims) refl all.0)
      ∙ ap (λ rest. link_extents (context k) link ∷ rest) (extents_stay links all.1)

  -- and so where the inputs are scalars
  pub row_extents : (ins outs : List Link) → AllByRecursion (λ link. is_scalar link.memlet.subset.dims ≡ true) ins → AllByRecursion (λ link. is_still steps.variable link.memlet.subset.dims ≡ true) outs →
      map (link_extents begin) (ins ++ outs) ≡ map (link_extents (context k)) (ins ++ outs)
  row_extents [] outs scalars still = extents_stay outs still
  row_extents (link ∷ ins) outs scalars still =
      ap (λ extents. extents ∷ map (link_extents begin) (ins ++ outs)) (no_extents begin link scalars.0 ∙ sym (no_extents (context k) link scalars.0))
      ∙ ap (λ rest. link_extents (context k) link ∷ rest) (row_extents ins outs scalars.1 still)

  -- containers are reached as there
  pub reaches : (number : ℕ) → (context k).reach number ≡ begin.reach number
  reaches number = ap (λ (reach : ℕ → Reach). reach number) (way.along.reach k ∙ ap (λ (c : Context). c.reach) (sym way.first))

  pub containers_are : (context k).containers ≡ begin.containers
  containers_are = way.along.containers k ∙ ap (λ (c : Context). c.containers) (sym way.first)

  free_index : (link : Link) (at : List ℤ) → free link → index_at link.memlet.subset.dims (context k).values at ≡ index_at link.memlet.subset.dims begin.values at
  free_index link at is =
      ap (λ values. index_at link.memlet.subset.dims values at) (way.along.values k)
      ∙ index_stays steps.variable (step_to steps k) (step_to steps 0) others link.memlet.subset.dims at is
      ∙ ap (λ values. index_at link.memlet.subset.dims values at) (sym begins)

  free_element : (link : Link) (at : List ℤ) → free link → link_element (context k) link at ≡ link_element begin link at
  free_element link at is =
      ap (λ (reach : Reach). reference_at reach (index_at link.memlet.subset.dims (context k).values at)) (reaches link.memlet.container)
      ∙ ap (reference_at (begin.reach link.memlet.container)) (free_index link at is)

  -- an effect does what it does at the first point
  pub through_stays : (link : Link) (effect : Effect) → free link → pending_through (context k) link effect ≡ pending_through begin link effect
  through_stays link effect is =
      let number = link.memlet.container in
      ap (λ (containers : Containers). if is_stream (container_at containers number).kind then push_to ((context k).reach number).level ((context k).reach number).container effect.value else write_value effect.value (link_element (context k) link effect.at) link.memlet.resolution) containers_are
      ∙ ap (λ (reach : Reach). if is_stream (container_at begin.containers number).kind then push_to reach.level reach.container effect.value else write_value effect.value (link_element (context k) link effect.at) link.memlet.resolution) (reaches number)
      ∙ ap (λ element. if is_stream (container_at begin.containers number).kind then push_to (begin.reach number).level (begin.reach number).container effect.value else write_value effect.value element link.memlet.resolution) (free_element link effect.at is)
