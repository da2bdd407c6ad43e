use Rattle.std.proofs.Common.{rules, ◌≡◌, List, Option, None, [], option_map, slice_index_or, sym, subst}
use Rattle.sd_cut.specs.declared.elements.CutElement.{CutElement}
use Rattle.sd_cut.specs.declared.window.Window.{Window}
use Rattle.sd_cut.specs.Cutting.{IsCounted}
use Rattle.sd_cut.specs.Elements.{IsEven}
use Rattle.sd_cut.specs.Windowed.{window_at, window_of}
use Rattle.sd_cut.proofs.Within.{of_window_counted}
use Rattle.sd_cut.proofs.overlay.Overlay.cut.Goals as goal

pub all_left-requires-clause-counted : goal.all_left-requires-clause-counted
all_left-requires-clause-counted c = λ container.
    let windows : c.as_slice-3.result.now ≡ c.args.windows.items = search rules in
    let arrays : c.as_slice-4.result.now ≡ c.in_ok-arrays.arrays.items = search rules in
    let all : c.as_slice.result.now ≡ c.args.windows.items = search rules in
    let even = subst (λ (list : List (Option Window)). IsEven (window_at list container)) (sym all) (c.requires.even container) in
    let counted = of_window_counted c.args.memory.now container (window_at c.as_slice.result.now container) (slice_index_or c.in_ok-arrays.arrays.items container []) even (c.in_ok-arrays.ensures.arrays container) in
    subst (λ (list : List (Option Window)). IsCounted (option_map window_of (slice_index_or list container None)) (slice_index_or c.as_slice-4.result.now container [])) (sym windows)
    (subst (λ (list : List (List CutElement)). IsCounted (window_at c.args.windows.items container) (slice_index_or list container [])) (sym arrays)
    (subst (λ (list : List (Option Window)). IsCounted (window_at list container) (slice_index_or c.in_ok-arrays.arrays.items container [])) all counted))
