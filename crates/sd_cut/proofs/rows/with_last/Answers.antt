use Rattle.std.proofs.Common.{rules, FitsSigned, to_z-of_z, ◌≡◌, ◌∙◌, ◌+ℤ◌, ◌-◌, ◌<◌, ◌++◌, ◌∷◌, [], None, IsSome, arith, ap, map, neg_ℤ, pos, refl, slice_get, subst, sym}
use Rattle.std.specs.Int.{w128}
use Rattle.sd_mem.specs.mem.Shaped.{place_in, shape_at}
use Rattle.sd_cut.specs.Elements.{told}
use Rattle.sd_cut.specs.Rows.{row_told}
use Rattle.sd_cut.proofs.RowLemmas.{last_unplaced, last_absent, last_there, last_told}
use Rattle.sd_cut.proofs.rows.with_last.Goals as goal

pub returns-in_default-clause-refused : goal.returns-in_default-clause-refused
returns-in_default-clause-refused c =
    let low_fits : FitsSigned w128 c.in_ok-low.low = search rules in
    let at_low = simp to_z-of_z at c.in_ok-place.ensures.place in
    let low : c.in_ok-low.low ≡ neg_ℤ c.args.shift +ℤ pos 0 = search rules in
    let some : 0 < c.args.extent = search rules in
    let none : c.in_ok-place.field-0 ≡ None = search rules in
    (refl, last_unplaced c.args.memory.now c.args.container c.args.index.now.items c.args.shift c.args.extent 0 c.in_ok-low.low low some (sym at_low ∙ none))

pub returns-in_default-2-clause-refused : goal.returns-in_default-2-clause-refused
returns-in_default-2-clause-refused c =
    let high_fits : FitsSigned w128 c.in_ok-high.high = search rules in
    let at_high = simp to_z-of_z at c.in_ok-last.ensures.place in
    let high : c.in_ok-high.high ≡ neg_ℤ c.args.shift +ℤ pos (c.args.extent - 1) = search rules in
    let some : 0 < c.args.extent = search rules in
    let none : c.in_ok-last.field-0 ≡ None = search rules in (
      refl,
      last_unplaced c.args.memory.now c.args.container c.args.index.now.items c.args.shift c.args.extent (c.args.extent - 1) c.in_ok-high.high high (omega (arith, some))
          (ap (λ before. place_in (shape_at c.args.memory.now c.args.container) (before ++ c.in_ok-high.high ∷ [])) (sym c.in_ok-place.ensures.index) ∙ sym at_high ∙ none),
    )

pub returns-then-is_none-clause-refused : goal.returns-then-is_none-clause-refused
returns-then-is_none-clause-refused c =
    let high_fits : FitsSigned w128 c.in_ok-high.high = search rules in
    let at_high = simp to_z-of_z at c.in_ok-last.ensures.place in
    let high : c.in_ok-high.high ≡ neg_ℤ c.args.shift +ℤ pos (c.args.extent - 1) = search rules in
    let some : 0 < c.args.extent = search rules in
    let gone : c.get.result ≡ None = search rules in (
      refl,
      last_absent c.args.memory.now c.args.container c.args.index.now.items c.args.shift c.args.extent (c.args.extent - 1) c.in-Some-2.last c.in_ok-high.high high (omega (arith, some))
          (ap (λ before. place_in (shape_at c.args.memory.now c.args.container) (before ++ c.in_ok-high.high ∷ [])) (sym c.in_ok-place.ensures.index) ∙ sym at_high ∙ c.in-Some-2.is)
          (ap (λ xs. slice_get xs c.in-Some-2.last) (sym c.cells-elements.ensures.elements) ∙ sym c.get.ensures ∙ gone),
    )

pub returns-clause-there : goal.returns-clause-there
returns-clause-there c =
    let low_fits : FitsSigned w128 c.in_ok-low.low = search rules in
    let at_low = simp to_z-of_z at c.in_ok-place.ensures.place in
    let low : c.in_ok-low.low ≡ neg_ℤ c.args.shift +ℤ pos 0 = search rules in
    let high_fits : FitsSigned w128 c.in_ok-high.high = search rules in
    let at_high = simp to_z-of_z at c.in_ok-last.ensures.place in
    let high : c.in_ok-high.high ≡ neg_ℤ c.args.shift +ℤ pos (c.args.extent - 1) = search rules in
    let here : IsSome c.get.result = search rules in
    last_there c.args.memory.now c.args.container c.args.index.now.items c.args.shift c.in_ok-low.low c.in_ok-high.high c.args.extent c.in-Some.place c.in-Some-2.last low high (sym at_low ∙ c.in-Some.is)
    (ap (λ before. place_in (shape_at c.args.memory.now c.args.container) (before ++ c.in_ok-high.high ∷ [])) (sym c.in_ok-place.ensures.index) ∙ sym at_high ∙ c.in-Some-2.is)
    (subst IsSome (c.get.ensures ∙ ap (λ xs. slice_get xs c.in-Some-2.last) c.cells-elements.ensures.elements) here)

pub returns-clause-told : goal.returns-clause-told
returns-clause-told c =
    let low_fits : FitsSigned w128 c.in_ok-low.low = search rules in
    let at_low = simp to_z-of_z at c.in_ok-place.ensures.place in
    let low : c.in_ok-low.low ≡ neg_ℤ c.args.shift +ℤ pos 0 = search rules in
    let high_fits : FitsSigned w128 c.in_ok-high.high = search rules in
    let at_high = simp to_z-of_z at c.in_ok-last.ensures.place in
    let high : c.in_ok-high.high ≡ neg_ℤ c.args.shift +ℤ pos (c.args.extent - 1) = search rules in
    c.in_ok-with_row.ensures.told
    ∙ ap (λ xs. map told c.args.cuts.items ++ row_told xs c.in-Some.place c.args.extent) c.cells-elements.ensures.elements
    ∙ ap (λ l. map told c.args.cuts.items ++ l)
    (last_told c.args.memory.now c.args.container c.args.index.now.items c.args.shift c.in_ok-low.low c.in_ok-high.high c.args.extent c.in-Some.place c.in-Some-2.last low high (sym at_low ∙ c.in-Some.is)
    (ap (λ before. place_in (shape_at c.args.memory.now c.args.container) (before ++ c.in_ok-high.high ∷ [])) (sym c.in_ok-place.ensures.index) ∙ sym at_high ∙ c.in-Some-2.is))
