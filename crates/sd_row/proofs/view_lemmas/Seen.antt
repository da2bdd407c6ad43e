-- What is seen through windows.
use Rattle.std.proofs.Common.{◌≡◌, ℕ, zero, suc, ◌+◌, ◌-◌, ◌<◌, ◌≤◌, ◌^◌, ℤ, pos, List, [], ◌∷◌, ◌++◌, map, length, Option, Some, None, Ok, Err, Result, Bool, true, false, ◌==◌, if◌then◌else◌, Vec, get_or, slice_index_or, refl, sym, ap, ◌∙◌, subst, arith}
use Rattle.std.specs.declared.alloc.Global.{Global}
use Rattle.std.specs.List.{AllByRecursion, AllZip, Contains}
use Rattle.std.proofs.lemmas.Bool.Decides.{nat_tests}
use Rattle.std.proofs.lemmas.List.{map-append, length-map}
use Rattle.std.proofs.lemmas.Simd.{map-map}
use Rattle.sd_range.specs.Subset.{elements, inside, whole}
use Rattle.sd_range.proofs.SubsetLaws.{whole-members}
use Rattle.sd_work.specs.Memory.{Memories, Reference, look}
use Rattle.sd_work.specs.Exit.{all_seen, with_value}
use Rattle.sd_graph.specs.RowOrder.{row_number}
use Rattle.sd_graph.specs.TaskletMeaning as meaning
use Rattle.sd_graph.specs.Context.{Context, reference_at, index_at, link_element, link_elements, link_extents}
use Rattle.sd_graph.specs.declared.link.Link.{Link}
use Rattle.sd_graph.proofs.RowNumbers.{row_number_is_in_row_order}
use Rattle.sd_graph.proofs.ElementPlaces.{elements_are_at_places}
use Rattle.sd_work.specs.declared.fault.FaultKind.TheVariants.{Subscript}
use Rattle.sd_tcode.specs.op.Machine.{Held, extents_at, cells_at, cell_of}
use Rattle.sd_tcode.specs.tcode.Held.{values_with}
use Rattle.sd_leaves.specs.leaves.Read.{before_others, links_seen}
use Rattle.sd_row.specs.declared.view.window.Window.{Window}
use Rattle.sd_row.specs.declared.view.views.Views.{Views}
use Rattle.sd_row.specs.row.Row.{reference_on}
use Rattle.sd_row.specs.row.Point.{seen_on}
use Rattle.sd_row.specs.view.View.{along, reference_in, seen_in, held_in, held_out, connectors_in, IsWindow, IsInWords}
use Rattle.sd_row.proofs.instance_lemmas.Targets.{made_of}

-- ---- a link

-- elements that are all there
all_there : (find : List ℤ → Option Reference) (to : List ℤ → Reference) (memories : Memories) (places : List (List ℤ)) → AllByRecursion (λ at. find at ≡ Some (to at)) places →
    all_seen (map find places) memories ≡ Some (map (λ at. look (to at) memories) places)
all_there find to memories [] all = refl
all_there find to memories (at ∷ places) all = rw all.0 (rw (all_there find to memories places all.1) refl)

-- what holds of each member
by_member : {A : Type 0} (Is : A → Type 0) (members : List A) → ((member : A) → Contains members member → Is member) → AllByRecursion Is members
by_member Is [] each = tt
by_member Is (first ∷ members) each =
    (each first (0, omega arith, refl), by_member Is members (λ member there. each member (suc there.0, omega (arith, there.1), there.2)))

-- the elements of a link are seen as those of its window
pub window_seen : (k : ℕ) (here : Context) (memories : Memories) (link : Link) (window : Window) → IsWindow k here link window → all_seen (link_elements here link) memories ≡ Some (seen_in k memories window)
window_seen k here memories link window is =
    let reach = here.reach link.memlet.container in
    let dims = link.memlet.subset.dims in
    let places : link_elements here link ≡ map (link_element here link) (whole window.extents.items) =
    ap (map (reference_at reach)) (elements_are_at_places link.memlet.subset here.values)
    ∙ map-map (reference_at reach) (index_at dims here.values) (whole (link_extents here link))
    ∙ ap (λ extents. map (link_element here link) (whole extents)) (sym is.extents) in
    ap (λ elements. all_seen elements memories) places
    ∙ all_there (link_element here link) (reference_in k window) memories (whole window.extents.items)
    (by_member (λ at. link_element here link at ≡ Some (reference_in k window at)) (whole window.extents.items)
    (λ at there. is.elements at ((whole-members window.extents.items at).1 there)))

pub windows_seen : (k : ℕ) (here : Context) (memories : Memories) (links : List Link) (windows : List Window) → AllZip (IsWindow k here) links windows →
    links_seen here links memories ≡ Some (map (seen_in k memories) windows)
windows_seen k here memories [] [] all = refl
windows_seen k here memories [] (window ∷ windows) all = absurd all
windows_seen k here memories (link ∷ links) [] all = absurd all
windows_seen k here memories (link ∷ links) (window ∷ windows) all =
    ap (λ first. before_others first (links_seen here links memories)) (window_seen k here memories link window all.0)
    ∙ ap (before_others (Some (seen_in k memories window))) (windows_seen k here memories links windows all.1)

pub windows_extents : (k : ℕ) (here : Context) (memories : Memories) (links : List Link) (windows : List Window) → AllZip (IsWindow k here) links windows →
    map (λ connector. connector.extents) (map (held_in k memories) windows) ≡ map (link_extents here) links
windows_extents k here memories [] [] all = refl
windows_extents k here memories [] (window ∷ windows) all = absurd all
windows_extents k here memories (link ∷ links) [] all = absurd all
windows_extents k here memories (link ∷ links) (window ∷ windows) all =
    (λ i. all.0.extents i ∷ windows_extents k here memories links windows all.1 i)

pub windows_many : (k : ℕ) (here : Context) (links : List Link) (windows : List Window) → AllZip (IsWindow k here) links windows → length links ≡ length windows
windows_many k here [] [] all = refl
windows_many k here [] (window ∷ windows) all = absurd all
windows_many k here (link ∷ links) [] all = absurd all
windows_many k here (link ∷ links) (window ∷ windows) all = ap suc (windows_many k here links windows all.1)

-- ---- what code is given

some_or_none : (n : ℕ) → 0 < n → (n == 0) ≡ false
some_or_none n h = grind (arith, nat_tests)

-- a scalar is its first element
first_seen : (k : ℕ) (memories : Memories) (window : Window) (extents : List ℕ) → window.extents.items ≡ extents →
    (if length extents == 0 then seen_on k memories window.first ∷ [] else seen_in k memories window) ≡ seen_in k memories window
first_seen k memories window [] is = ap (λ extents. map (λ at. look (reference_in k window at) memories) (whole extents)) (sym is)
first_seen k memories window (extent ∷ extents) is =
    ap (λ (test : Bool). if test then seen_on k memories window.first ∷ [] else seen_in k memories window) (some_or_none (length (extent ∷ extents)) (omega arith))

pub values_seen : (k : ℕ) (memories : Memories) (windows : List Window) (outputs : List Held) →
    values_with (map (held_in k memories) windows ++ outputs) (map (λ window. seen_on k memories window.first ∷ []) windows) ≡ map (seen_in k memories) windows
values_seen k memories [] outputs = refl
values_seen k memories (window ∷ windows) outputs =
    (λ i. first_seen k memories window window.extents.items refl i ∷ values_seen k memories windows outputs i)

-- ---- connectors

-- the extents of an input
pub input_extents : (k : ℕ) (memories : Memories) (windows : List Window) (outputs : List Held) (connector : ℕ) (window : Window) → connector < length windows → window ≡ get_or windows connector window →
    extents_at (map (held_in k memories) windows ++ outputs) connector ≡ window.extents.items
input_extents k memories [] outputs connector window within is = absurd (omega (arith, within))
input_extents k memories (first ∷ windows) outputs zero window within is = ap (λ (w : Window). w.extents.items) (sym is)
input_extents k memories (first ∷ windows) outputs (suc connector) window within is = input_extents k memories windows outputs connector window (omega (arith, within)) is

-- those of an output
pub output_extents : (k : ℕ) (memories : Memories) (windows : List Window) (outputs : List Held) (connector : ℕ) → length windows ≤ connector →
    extents_at (map (held_in k memories) windows ++ outputs) connector ≡ extents_at outputs (connector - length windows)
output_extents k memories [] outputs connector behind = let same : connector ≡ connector - 0 = omega arith in ap (extents_at outputs) same
output_extents k memories (first ∷ windows) outputs zero behind = absurd (omega (arith, behind))
output_extents k memories (first ∷ windows) outputs (suc connector) behind =
    let same : connector - length windows ≡ suc connector - length (first ∷ windows) = omega arith in
    output_extents k memories windows outputs connector (omega (arith, behind)) ∙ ap (extents_at outputs) same

pub extents_out : (outputs : List (Vec ℕ Global)) (number : ℕ) (one : Vec ℕ Global) → number < length outputs → one ≡ get_or outputs number one →
    extents_at (map (λ (extents : Vec ℕ Global). held_out extents.items) outputs) number ≡ one.items
extents_out [] number one within is = absurd (omega (arith, within))
extents_out (first ∷ outputs) zero one within is = ap (λ (extents : Vec ℕ Global). extents.items) (sym is)
extents_out (first ∷ outputs) (suc number) one within is = extents_out outputs number one (omega (arith, within)) is

input_cells : (k : ℕ) (memories : Memories) (windows : List Window) (outputs : List Held) (connector : ℕ) (window : Window) → connector < length windows → window ≡ get_or windows connector window →
    cells_at (map (held_in k memories) windows ++ outputs) connector ≡ seen_in k memories window
input_cells k memories [] outputs connector window within is = absurd (omega (arith, within))
input_cells k memories (first ∷ windows) outputs zero window within is = ap (seen_in k memories) (sym is)
input_cells k memories (first ∷ windows) outputs (suc connector) window within is = input_cells k memories windows outputs connector window (omega (arith, within)) is

-- the element of an input at an index that is inside
pub input_seen : (k : ℕ) (memories : Memories) (windows : List Window) (outputs : List Held) (connector : ℕ) (window : Window) (at : List ℤ) → connector < length windows → window ≡ get_or windows connector window →
    inside window.extents.items at ≡ true → cell_of (map (held_in k memories) windows ++ outputs) connector at ≡ look (reference_in k window at) memories
input_seen k memories windows outputs connector window at within is there =
    (λ i. slice_index_or (input_cells k memories windows outputs connector window within is i) (row_number (input_extents k memories windows outputs connector window within is i) at) (pos 0))
    ∙ made_of (λ at. look (reference_in k window at) memories) (whole window.extents.items) (row_number window.extents.items at) at (pos 0) (row_number_is_in_row_order window.extents.items at there)

-- what an input answers at an index that is inside
pub input_checked : (k : ℕ) (memories : Memories) (windows : List Window) (outputs : List Held) (connector : ℕ) (window : Window) (at : List ℤ) → connector < length windows → window ≡ get_or windows connector window →
    inside window.extents.items at ≡ true → (value : ℤ) → value ≡ look (reference_in k window at) memories →
    meaning.and_then (meaning.checked (extents_at (map (held_in k memories) windows ++ outputs) connector) at) (λ at. Ok (cell_of (map (held_in k memories) windows ++ outputs) connector at)) ≡ Ok value
input_checked k memories windows outputs connector window at within is there value seen =
    let connectors = map (held_in k memories) windows ++ outputs in
    ap (λ extents. meaning.and_then (meaning.checked extents at) (λ at. Ok (cell_of connectors connector at))) (input_extents k memories windows outputs connector window within is)
    ∙ ap (λ (test : Bool). meaning.and_then (if test then Ok at else Err Subscript) (λ at. Ok (cell_of connectors connector at))) there
    ∙ ap Ok (input_seen k memories windows outputs connector window at within is there ∙ sym seen)

pub input_outside : (k : ℕ) (memories : Memories) (windows : List Window) (outputs : List Held) (connector : ℕ) (window : Window) (at : List ℤ) → connector < length windows → window ≡ get_or windows connector window →
    inside window.extents.items at ≡ false →
    meaning.and_then (meaning.checked (extents_at (map (held_in k memories) windows ++ outputs) connector) at) (λ at. Ok (cell_of (map (held_in k memories) windows ++ outputs) connector at)) ≡ Err Subscript
input_outside k memories windows outputs connector window at within is there =
    let connectors = map (held_in k memories) windows ++ outputs in
    ap (λ extents. meaning.and_then (meaning.checked extents at) (λ at. Ok (cell_of connectors connector at))) (input_extents k memories windows outputs connector window within is)
    ∙ ap (λ (test : Bool). meaning.and_then (if test then Ok at else Err Subscript) (λ at. Ok (cell_of connectors connector at))) there

-- its number fits 64 bits
pub word_there : (k : ℕ) (windows : List Window) (connector : ℕ) (window : Window) (at : List ℤ) → AllByRecursion (IsInWords k) windows → connector < length windows → window ≡ get_or windows connector window →
    inside window.extents.items at ≡ true → along (reference_on window.first k).element window.strides.items at < 2 ^ 64
word_there k [] connector window at all within is there = absurd (omega (arith, within))
word_there k (first ∷ windows) zero window at all within is there = subst (IsInWords k) (sym is) all.0 at there
word_there k (first ∷ windows) (suc connector) window at all within is there = word_there k windows connector window at all.1 (omega (arith, within)) is there

-- ---- dimensions

-- the connectors have as many dimensions each as the windows and the extents
pub dims_fit : (k : ℕ) (memories : Memories) (views : Views) (dims first second : List ℕ) → map (λ (window : Window). length window.extents.items) views.inputs.items ≡ first →
    map (λ (extents : Vec ℕ Global). length extents.items) views.outputs.items ≡ second → first ++ second ≡ dims → map (λ (connector : Held). length connector.extents) (connectors_in k memories views) ≡ dims
dims_fit k memories views dims first second inputs outputs all =
    map-append (λ (connector : Held). length connector.extents) (map (held_in k memories) views.inputs.items) (map (λ (extents : Vec ℕ Global). held_out extents.items) views.outputs.items)
    ∙ (λ i. (map-map (λ (connector : Held). length connector.extents) (held_in k memories) views.inputs.items ∙ inputs) i
    ++ (map-map (λ (connector : Held). length connector.extents) (λ (extents : Vec ℕ Global). held_out extents.items) views.outputs.items ∙ outputs) i)
    ∙ all

-- ---- indices

pub checked_so : (extents : List ℕ) (at : List ℤ) → inside extents at ≡ true → meaning.checked extents at ≡ Ok at
checked_so extents at is = ap (λ (test : Bool). if test then Ok at else Err Subscript) is

pub checked_not : (extents : List ℕ) (at : List ℤ) → inside extents at ≡ false → meaning.checked extents at ≡ Err Subscript
checked_not extents at is = ap (λ (test : Bool). if test then Ok at else Err Subscript) is
