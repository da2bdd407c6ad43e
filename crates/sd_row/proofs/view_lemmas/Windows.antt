-- A window that was found by the elements of a few places.
use Rattle.std.proofs.Common.{◌≡◌, ℕ, ◌+◌, ◌<◌, ◌^◌, ℤ, pos, List, length, replicate, Option, Some, option_map, true, slice_index_or, sym, ap, ◌∙◌, arith}
use Rattle.std.specs.List.{AllZip}
use Rattle.sd_range.specs.Subset.{inside}
use Rattle.sd_work.specs.Memory.{Reference}
use Rattle.sd_graph.specs.PlainTree.{GraphTree}
use Rattle.sd_graph.specs.Context.{Context, Reach, index_at, link_element, link_extents}
use Rattle.sd_graph.specs.declared.link.Link.{Link}
use Rattle.sd_mem.specs.machine.Stack.{reference_of}
use Rattle.sd_mem.specs.declared.machine.address.Address.{Address}
use Rattle.sd_scope.specs.declared.scope.base.Base.{Base}
use Rattle.sd_scope.specs.declared.scope.scope.Scope.{Scope}
use Rattle.sd_scope.specs.scope.Standing.{context_of}
use Rattle.sd_scope.proofs.even_lemmas.Row.{referred, to_element}
use Rattle.sd_row.specs.row.Row.{reference_on}
use Rattle.sd_row.specs.declared.view.window.Window.{Window}
use Rattle.sd_row.specs.view.Places.{unit_place, element_there, LeadsTo, HasLast, AreStrides}
use Rattle.sd_row.specs.view.View.{along, reference_in, IsWindow, IsInWords}
use Rattle.sd_row.proofs.view_lemmas.Flat.{IsFlat, flat_standing, flat_places}
use Rattle.sd_row.proofs.view_lemmas.Box.{AreFurther, box_found, box_ends}

-- where a place leads to
pub leads_to : (here : Context) (link : Link) (at : List ℤ) (cell : Address) → Some (reference_of cell) ≡ link_element here link at → LeadsTo here link at cell.element
leads_to here link at cell is =
    let reach = here.reach link.memlet.container in
    ap (option_map (to_element reach)) (referred reach (reach.find (index_at link.memlet.subset.dims here.values at)) (reference_of cell) (sym is)).0

module _ (tree : GraphTree) (base : Base) (scope : Scope) (link : Link) (window : Window) where
  abbrev here : Context
  here = context_of tree base scope

  abbrev reach : Reach
  reach = here.reach link.memlet.container

  -- the number of the element at a place
  abbrev find : List ℤ → Option ℕ
  find at = reach.find (index_at link.memlet.subset.dims here.values at)

  flat : IsFlat find
  flat = flat_places reach.find link.memlet.subset.dims here.values (flat_standing tree base scope link.memlet.container)

  led : (at : List ℤ) (element : ℕ) → LeadsTo here link at element → find at ≡ Some element
  led at element leads = (referred reach (find at) (element_there here link element) leads).0

  module _ (extents : window.extents.items ≡ link_extents here link)
      (begins : link_element here link (replicate (length window.extents.items) (pos 0)) ≡ Some (reference_on window.first 0)) (ends : HasLast here link window.extents.items)
      (many : length window.strides.items ≡ length window.extents.items) (strides : AreStrides here link window.extents.items window.strides.items (reference_on window.first 0).element) where
    origin : (find (replicate (length window.extents.items) (pos 0)) ≡ Some (reference_on window.first 0).element) × (to_element reach (reference_on window.first 0).element ≡ reference_on window.first 0)
    origin = referred reach (find (replicate (length window.extents.items) (pos 0))) (reference_on window.first 0) begins

    further : AreFurther find window.extents.items window.strides.items (reference_on window.first 0).element
    further dim low more =
        led (unit_place (length window.extents.items) dim) ((reference_on window.first 0).element + slice_index_or window.strides.items dim 0) (strides dim (omega (arith, low, many)) more)

    end : find ends.last ≡ Some ends.element
    end = led ends.last ends.element ends.leads

    pub window_found : IsWindow 0 here link window
    window_found = record {
      extents = extents;
      elements = λ at within.
          ap (option_map (to_element reach))
          (box_found find flat window.extents.items window.strides.items (reference_on window.first 0).element ends.element ends.last many origin.0 ends.is_last end further at within)
          ∙ ap (λ (to : Reference). Some (record to { element = along (reference_on window.first 0).element window.strides.items at })) origin.1;
    }

    pub window_words : IsInWords 0 window
    window_words at within =
        omega (arith, ends.few, box_ends find flat window.extents.items window.strides.items (reference_on window.first 0).element ends.element ends.last many origin.0 ends.is_last end further at within)
