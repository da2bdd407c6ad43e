use Rattle.std.proofs.Common.{◌≡◌, ℕ, List, Some, length, replicate, pos, sym, ap, subst, ◌∙◌, rules}
use Rattle.sd_work.specs.Memory.{Reference}
use Rattle.sd_graph.specs.TreeFold.{graph_tree}
use Rattle.sd_graph.specs.Context.{link_element, link_extents}
use Rattle.sd_scope.specs.scope.Standing.{context_of}
use Rattle.sd_row.specs.row.Row.{reference_on}
use Rattle.sd_row.specs.declared.view.window.Window.{Window}
use Rattle.sd_row.specs.view.Places.{HasLast, AreStrides}
use Rattle.sd_row.proofs.instance_lemmas.Matched.{found_so}
use Rattle.sd_row.proofs.view_lemmas.Windows.{window_found, window_words}
use Rattle.sd_row.proofs.view.finding.window_at.Goals as goal

pub returns-in-Some-strides-clause-window : goal.returns-in-Some-strides-clause-window
returns-in-Some-strides-clause-window c =
    let program = graph_tree c.args.graph.now in
    let here = context_of program c.args.base.now c.args.scope.now in
    let link = c.args.link.now in
    let window : Window = record { first = c.in-Some-2.first; extents = c.in-Some.extents; strides = c.in-Some-strides.strides } in
    let extents : window.extents.items ≡ link_extents here link =
    found_so _ c.in_ok-extents-2.field-0 c.in-Some.extents c.in-Some.is c.in_ok-extents-2.ensures ∙ c.as_slice.ensures.value ∙ c.in_ok-extents.ensures program c.args.base.now in
    let start : c.as_slice-3.result.now ≡ replicate (length window.extents.items) (pos 0) = c.as_slice-3.ensures.value ∙ c.in_ok-start.ensures ∙ ap (λ count. replicate count (pos 0)) (search rules) in
    let begins : link_element here link (replicate (length window.extents.items) (pos 0)) ≡ Some (reference_on window.first 0) =
    ap (link_element here link) (sym start) ∙ found_so _ c.in_ok-first.field-0 c.in-Some-2.first c.in-Some-2.is c.in_ok-first.ensures in
    let ends : HasLast here link window.extents.items = subst (HasLast here link) c.as_slice-2.ensures.value (c.in_ok-has_last.ensures (search rules)) in
    let many : length window.strides.items ≡ length window.extents.items =
    found_so _ c.in_ok-strides.strides c.in-Some-strides.strides c.in-Some-strides.is c.in_ok-strides.ensures.many ∙ ap length c.as_slice-4.ensures.value in
    let element : c.cell-element.result.element ≡ (reference_on window.first 0).element = ap (λ (r : Reference). r.element) c.cell-element.ensures in
    let strides : AreStrides here link window.extents.items window.strides.items (reference_on window.first 0).element =
    subst (λ (first : ℕ). AreStrides here link window.extents.items window.strides.items first) element
    (subst (λ (extents : List ℕ). AreStrides here link extents window.strides.items c.cell-element.result.element) c.as_slice-4.ensures.value
    (found_so _ c.in_ok-strides.strides c.in-Some-strides.strides c.in-Some-strides.is c.in_ok-strides.ensures.are)) in
    window_found program c.args.base.now c.args.scope.now link window extents begins ends many strides

pub returns-in-Some-strides-clause-words : goal.returns-in-Some-strides-clause-words
returns-in-Some-strides-clause-words c =
    let program = graph_tree c.args.graph.now in
    let here = context_of program c.args.base.now c.args.scope.now in
    let link = c.args.link.now in
    let window : Window = record { first = c.in-Some-2.first; extents = c.in-Some.extents; strides = c.in-Some-strides.strides } in
    let extents : window.extents.items ≡ link_extents here link =
    found_so _ c.in_ok-extents-2.field-0 c.in-Some.extents c.in-Some.is c.in_ok-extents-2.ensures ∙ c.as_slice.ensures.value ∙ c.in_ok-extents.ensures program c.args.base.now in
    let start : c.as_slice-3.result.now ≡ replicate (length window.extents.items) (pos 0) = c.as_slice-3.ensures.value ∙ c.in_ok-start.ensures ∙ ap (λ count. replicate count (pos 0)) (search rules) in
    let begins : link_element here link (replicate (length window.extents.items) (pos 0)) ≡ Some (reference_on window.first 0) =
    ap (link_element here link) (sym start) ∙ found_so _ c.in_ok-first.field-0 c.in-Some-2.first c.in-Some-2.is c.in_ok-first.ensures in
    let ends : HasLast here link window.extents.items = subst (HasLast here link) c.as_slice-2.ensures.value (c.in_ok-has_last.ensures (search rules)) in
    let many : length window.strides.items ≡ length window.extents.items =
    found_so _ c.in_ok-strides.strides c.in-Some-strides.strides c.in-Some-strides.is c.in_ok-strides.ensures.many ∙ ap length c.as_slice-4.ensures.value in
    let element : c.cell-element.result.element ≡ (reference_on window.first 0).element = ap (λ (r : Reference). r.element) c.cell-element.ensures in
    let strides : AreStrides here link window.extents.items window.strides.items (reference_on window.first 0).element =
    subst (λ (first : ℕ). AreStrides here link window.extents.items window.strides.items first) element
    (subst (λ (extents : List ℕ). AreStrides here link extents window.strides.items c.cell-element.result.element) c.as_slice-4.ensures.value
    (found_so _ c.in_ok-strides.strides c.in-Some-strides.strides c.in-Some-strides.is c.in_ok-strides.ensures.are)) in
    window_words program c.args.base.now c.args.scope.now link window extents begins ends many strides
