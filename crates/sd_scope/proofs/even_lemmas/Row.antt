-- In a row of points the context differs in the value of the last parameter alone, and each link has elements at equal distances.
use Rattle.std.proofs.Common.{◌≡◌, ℕ, ◌≤◌, ℤ, pos, List, [], ◌∷◌, ◌++◌, map, length, Option, Some, None, option_map, ap, sym, ◌∙◌}
use Rattle.std.proofs.lemmas.List.{map-append}
use Rattle.sd_range.specs.declared.range.Range.{Range}
use Rattle.sd_range.specs.declared.subset.Dim.{Dim}
use Rattle.sd_range.specs.Variables.{with_variable, with_variables}
use Rattle.sd_work.specs.Memory.{Reference}
use Rattle.sd_graph.specs.declared.link.Link.{Link}
use Rattle.sd_graph.specs.Context.{Context, Reach, reference_at, index_at, link_element, entered}
use Rattle.sd_graph.specs.Unfold.{assigned, at_point, name_of}
use Rattle.sd_scope.specs.even.Even.{spaced, IsEven}
use Rattle.sd_scope.proofs.even_lemmas.Found.{even_by}
use Rattle.sd_scope.proofs.even_lemmas.LastParameter.{values_at_last, assigned_at_last}

-- a parameter with its name
abbrev pub named_value : Context → ℕ × ℤ → List ℕ × ℤ
named_value context assignment = (name_of context assignment.0, assignment.1)

-- the values at a point of a row
abbrev pub row_values : Context → (params : List (ℕ × Range)) → (point : List ℤ) → (last : ℕ) → (x : ℤ) → List ℤ
row_values context params point last x = with_variable last x (with_variables (assigned params point) context.values)

-- the context at a point of a row
pub point_in_row : (context : Context) (params : List (ℕ × Range)) (last : ℕ × Range) (private : List ℕ) (point : List ℤ) (x : ℤ) → length params ≡ length point →
    at_point context (params ++ last ∷ []) private (point ++ x ∷ [])
    ≡ entered context private (row_values context params point last.0 x) (map (named_value context) (assigned params point) ++ named_value context (last.0, x) ∷ [])
point_in_row context params last private point x same =
    let all = assigned (params ++ last ∷ []) (point ++ x ∷ []) in
    ap (λ values. entered context private values (map (named_value context) all)) (values_at_last params last point x context.values same)
    ∙ ap (λ list. entered context private (row_values context params point last.0 x) (map (named_value context) list)) (assigned_at_last params last point x same)
    ∙ ap (entered context private (row_values context params point last.0 x)) (map-append (named_value context) (assigned params point) ((last.0, x) ∷ []))

-- what a reference is to, where there is one
abbrev pub to_element : Reach → ℕ → Reference
to_element reach element = record { level = reach.level; container = reach.container; element = element }

-- an element that is referred to is found
pub referred : (reach : Reach) (one : Option ℕ) (reference : Reference) → option_map (to_element reach) one ≡ Some reference →
    (one ≡ Some reference.element) × (to_element reach reference.element ≡ reference)
referred reach (Some element) reference is =
    let same : to_element reach element ≡ reference = cc in
    (ap (λ (to : Reference). Some to.element) same, ap (λ (to : Reference). to_element reach to.element) (sym same) ∙ same)
referred reach None reference is = cc

-- references between two are to elements at equal distances
pub references_between : (reach : Reach) → IsEven reach.find → (dims : List Dim) (values : List ℤ) (variable : ℕ) (begin step : ℤ) (at : List ℤ) (n : ℕ) (first last : Reference) (distance : ℤ) →
    reference_at reach (index_at dims (with_variable variable begin values) at) ≡ Some first →
    reference_at reach (index_at dims (with_variable variable (spaced begin step n) values) at) ≡ Some last →
    pos last.element ≡ spaced (pos first.element) distance n →
    (k : ℕ) → k ≤ n → (e : ℕ) × (reference_at reach (index_at dims (with_variable variable (spaced begin step k) values) at) ≡ Some (record first { element = e })) × (pos e ≡ spaced (pos first.element) distance k)
references_between reach even dims values variable begin step at n first last distance begins ends is k before =
    let low = referred reach (reach.find (index_at dims (with_variable variable begin values) at)) first begins in
    let high = referred reach (reach.find (index_at dims (with_variable variable (spaced begin step n) values) at)) last ends in
    let one = even_by reach.find even dims values variable begin step at n first.element last.element distance low.0 high.0 is k before in
    (one.0, ap (option_map (to_element reach)) one.1 ∙ ap (λ (to : Reference). Some (record to { element = one.0 })) low.1, one.2)

-- how a point or an element reaches a container, whatever its values are
abbrev pub reach_in : Context → (private : List ℕ) → (number : ℕ) → Reach
reach_in context private number = (entered context private [] []).reach number

-- the element of a link at a point of a row
pub link_in_row : (context : Context) (params : List (ℕ × Range)) (last : ℕ × Range) (private : List ℕ) (point : List ℤ) (x : ℤ) (link : Link) (at : List ℤ) → length params ≡ length point →
    link_element (at_point context (params ++ last ∷ []) private (point ++ x ∷ [])) link at
    ≡ reference_at (reach_in context private link.memlet.container) (index_at link.memlet.subset.dims (row_values context params point last.0 x) at)
link_in_row context params last private point x link at same =
    ap (λ values. reference_at (reach_in context private link.memlet.container) (index_at link.memlet.subset.dims values at)) (values_at_last params last point x context.values same)

-- the elements of a link at the points of a row lie at equal distances
pub row_between : (context : Context) (params : List (ℕ × Range)) (last : ℕ × Range) (private : List ℕ) (point : List ℤ) (link : Link) (at : List ℤ) (begin step : ℤ) (n : ℕ) (from to : Reference) (distance : ℤ) →
    length params ≡ length point → IsEven (reach_in context private link.memlet.container).find →
    link_element (at_point context (params ++ last ∷ []) private (point ++ begin ∷ [])) link at ≡ Some from →
    link_element (at_point context (params ++ last ∷ []) private (point ++ spaced begin step n ∷ [])) link at ≡ Some to →
    pos to.element ≡ spaced (pos from.element) distance n →
    (k : ℕ) → k ≤ n → (e : ℕ) × (link_element (at_point context (params ++ last ∷ []) private (point ++ spaced begin step k ∷ [])) link at ≡ Some (record from { element = e })) × (pos e ≡ spaced (pos from.element) distance k)
row_between context params last private point link at begin step n from to distance same even begins ends is k before =
    let in_row = λ (x : ℤ). link_in_row context params last private point x link at same in
    let one = references_between (reach_in context private link.memlet.container) even link.memlet.subset.dims (with_variables (assigned params point) context.values) last.0 begin step at n from to distance
    (sym (in_row begin) ∙ begins) (sym (in_row (spaced begin step n)) ∙ ends) is k before in
    (one.0, in_row (spaced begin step k) ∙ one.1, one.2)
