-- The elements at the places in the one range of a subset.
use Rattle.std.proofs.Common.{◌≡◌, ℕ, ◌≤◌, ◌<◌, ℤ, pos, negsuc, ◌+ℤ◌, ◌*ℤ◌, List, [], ◌∷◌, Some, None, Bool, true, false, nat_lt, if◌then◌else◌, unsigned_abs, option_map, refl, sym, ap, ◌∙◌, arith}
use Rattle.std.proofs.lemmas.Bool.Decides.{nat_tests}
use Rattle.std.proofs.lemmas.Int.{ints}
use Rattle.sd_range.specs.declared.affine.Affine.{Affine}
use Rattle.sd_range.specs.declared.subset.Dim.{Dim}
use Rattle.sd_range.specs.declared.subset.Dim.TheVariants.{Index, Span}
use Rattle.sd_range.specs.Affine.{affine_value}
use Rattle.sd_range.specs.Variables.{with_variable}
use Rattle.sd_work.specs.Memory.{Reference}
use Rattle.sd_work.specs.Leaf.{write_value, push_to}
use Rattle.sd_graph.specs.ContainerParts.{container_at, is_stream}
use Rattle.sd_graph.specs.TaskletMeaning.{Effect}
use Rattle.sd_graph.specs.Context.{Context, Reach, index_at, link_element}
use Rattle.sd_graph.specs.Unfold.{pending_through}
use Rattle.sd_graph.specs.declared.link.Link.{Link}
use Rattle.sd_mem.specs.machine.Stack.{reference_of}
use Rattle.sd_mem.specs.declared.machine.address.Address.{Address}
use Rattle.sd_scope.specs.even.Even.{spaced, IsEven}
use Rattle.sd_scope.proofs.even_lemmas.Row.{referred, to_element}
use Rattle.sd_tcode.specs.declared.columns.spacing.Spaced.{Spaced}
use Rattle.sd_tcode.specs.columns.Columns.{value_on}
use Rattle.sd_row.specs.declared.row.track.Track.{Track}
use Rattle.sd_row.specs.row.Row.{reference_on}
use Rattle.sd_row.specs.instance.Known.{place_below, pending_among}

-- ---- places as values of a variable

-- an expression with this value
abbrev fixed : List ℤ → Affine → Affine
fixed values a = record { constant = affine_value values a; terms = [] }

-- indices at no place
abbrev still_dims : List ℤ → List Dim → List Dim
still_dims values [] = []
still_dims values (Index at ∷ dims) = Index (fixed values at) ∷ still_dims values dims
still_dims values (Span range ∷ dims) = Index (fixed values range.begin) ∷ still_dims values dims

-- indices at the place that variable 0 has
abbrev moving_dims : List ℤ → List Dim → List Dim
moving_dims values [] = []
moving_dims values (Index at ∷ dims) = Index (fixed values at) ∷ moving_dims values dims
moving_dims values (Span range ∷ dims) = Index (record { constant = affine_value values range.begin; terms = (0, range.step) ∷ [] }) ∷ still_dims values dims

none_more : (number : ℤ) → number +ℤ pos 0 ≡ number
none_more number = omega (arith, ints)

still_index : (values : List ℤ) (x : ℤ) (dims : List Dim) → index_at (still_dims values dims) (x ∷ []) [] ≡ index_at dims values []
still_index values x [] = refl
still_index values x (Index at ∷ dims) =
    ap (λ first. first ∷ index_at (still_dims values dims) (x ∷ []) []) (none_more (affine_value values at)) ∙ ap (λ rest. affine_value values at ∷ rest) (still_index values x dims)
still_index values x (Span range ∷ dims) =
    ap (λ first. first ∷ index_at (still_dims values dims) (x ∷ []) []) (none_more (affine_value values range.begin)) ∙ ap (λ rest. affine_value values range.begin ∷ rest) (still_index values x dims)

moving_index : (values : List ℤ) (x : ℤ) (dims : List Dim) → index_at (moving_dims values dims) (with_variable 0 x []) [] ≡ index_at dims values (x ∷ [])
moving_index values x [] = refl
moving_index values x (Index at ∷ dims) =
    ap (λ first. first ∷ index_at (moving_dims values dims) (x ∷ []) []) (none_more (affine_value values at)) ∙ ap (λ rest. affine_value values at ∷ rest) (moving_index values x dims)
moving_index values x (Span range ∷ dims) =
    ap (λ more. (affine_value values range.begin +ℤ more) ∷ index_at (still_dims values dims) (x ∷ []) []) (none_more (range.step *ℤ x))
    ∙ ap (λ rest. (affine_value values range.begin +ℤ (range.step *ℤ x)) ∷ rest) (still_index values x dims)

-- from 0 on, one apart
counted : (k : ℕ) → spaced (pos 0) (pos 1) k ≡ pos k
counted k = grind (arith, ints)

-- ---- elements

module _ (here : Context) (link : Link) (gaps : ℕ) (even : IsEven (here.reach link.memlet.container).find) (begin end : Address)
    (begins : Some (reference_of begin) ≡ link_element here link (pos 0 ∷ [])) (ends : Some (reference_of end) ≡ link_element here link (pos gaps ∷ [])) where
  abbrev reach : Reach
  reach = here.reach link.memlet.container

  abbrev dims : List Dim
  dims = moving_dims here.values link.memlet.subset.dims

  low : (reach.find (index_at link.memlet.subset.dims here.values (pos 0 ∷ [])) ≡ Some begin.element) × (to_element reach begin.element ≡ reference_of begin)
  low = referred reach (reach.find (index_at link.memlet.subset.dims here.values (pos 0 ∷ []))) (reference_of begin) (sym begins)

  high : (reach.find (index_at link.memlet.subset.dims here.values (pos gaps ∷ [])) ≡ Some end.element) × (to_element reach end.element ≡ reference_of end)
  high = referred reach (reach.find (index_at link.memlet.subset.dims here.values (pos gaps ∷ []))) (reference_of end) (sym ends)

  at_place : (k : ℕ) → index_at dims (with_variable 0 (spaced (pos 0) (pos 1) k) []) [] ≡ index_at link.memlet.subset.dims here.values (pos k ∷ [])
  at_place k = moving_index here.values (spaced (pos 0) (pos 1) k) link.memlet.subset.dims ∙ ap (λ x. index_at link.memlet.subset.dims here.values (x ∷ [])) (counted k)

  -- where the ends are inside, the element at a place is that of the track
  pub on_places : (numbers : Spaced) →
      ((distance : ℤ) → pos end.element ≡ spaced (pos begin.element) distance gaps → (k element : ℕ) → k ≤ gaps → pos element ≡ spaced (pos begin.element) distance k → element ≡ unsigned_abs (value_on numbers k)) →
      (k : ℕ) → k ≤ gaps → link_element here link (pos k ∷ []) ≡ Some (reference_on (record { station = begin.station; elements = numbers }) k)
  on_places numbers told k within =
      let all = even.between dims [] 0 (pos 0) (pos 1) [] gaps begin.element end.element
      (ap reach.find (moving_index here.values (pos 0) link.memlet.subset.dims) ∙ low.0) (ap reach.find (at_place gaps) ∙ high.0) in
      let one = all.2 k within in
      ap (option_map (to_element reach)) (ap reach.find (sym (at_place k)) ∙ one.1)
      ∙ ap (λ (to : Reference). Some (record to { element = one.0 })) low.1
      ∙ ap (λ (element : ℕ). Some (record { level = begin.station.level; container = begin.station.container; element = element })) (told all.0 all.1 k one.0 within one.2)

-- ---- effects

module _ (here : Context) (link : Link) (to : Track) (count : ℕ) (arrays : is_stream (container_at here.containers link.memlet.container).kind ≡ false)
    (on : (place : ℕ) → place < count → link_element here link (pos place ∷ []) ≡ Some (reference_on to place)) where
  by_test : (effect : Effect) (place : ℕ) (test : Bool) → nat_lt place count ≡ test → effect.at ≡ pos place ∷ [] →
      pending_through here link effect ≡ pending_among link.memlet.resolution to here link effect (if test then Some place else None)
  by_test effect place true below at =
      let inside : place < count = grind (arith, nat_tests) in
      ap (λ streams. if streams then push_to (here.reach link.memlet.container).level (here.reach link.memlet.container).container effect.value else write_value effect.value (link_element here link effect.at) link.memlet.resolution) arrays
      ∙ ap (λ element. write_value effect.value element link.memlet.resolution) (ap (link_element here link) at ∙ on place inside)
  by_test effect place false below at = refl

  by_place : (effect : Effect) (at : List ℤ) → effect.at ≡ at → pending_through here link effect ≡ pending_among link.memlet.resolution to here link effect (place_below count at)
  by_place effect [] is = refl
  by_place effect (pos place ∷ []) is = by_test effect place (nat_lt place count) refl is
  by_place effect (pos place ∷ next ∷ at) is = refl
  by_place effect (negsuc place ∷ at) is = refl

  -- an effect is performed at its place
  pub effect_placed : (effect : Effect) → pending_through here link effect ≡ pending_among link.memlet.resolution to here link effect (place_below count effect.at)
  effect_placed effect = by_place effect effect.at refl
