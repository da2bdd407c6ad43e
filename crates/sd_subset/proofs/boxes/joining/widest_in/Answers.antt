use Rattle.std.proofs.Common.{◌+◌, ◌++◌, ◌∷◌, List, [], ◌<◌, length, get_or, take, drop, refl, sym, ap, ◌∙◌, subst}
use Rattle.sd_subset.specs.declared.boxes.bounds.Bounds.{Bounds}
use Rattle.sd_subset.specs.boxes.Columns.{column, widest_of, IsWidest}
use Rattle.sd_subset.proofs.boxes_lemmas.Columns.{first-there, column-next, column-whole, widest-one, widest-more, widest-none}
use Rattle.sd_subset.proofs.boxes.joining.widest_in.Goals.{in-None, in-Some-widest}
use Rattle.sd_subset.proofs.boxes.joining.widest_in.Goals as goal

pub returns-in-Some-2 : goal.returns-in-Some-2
returns-in-Some-2 c =
    let boxes = c.args.boxes.now in
    let dimension = c.args.dimension in
    let i = c.loop-one.one-index in
    let box = c.one-item.result in
    let bounds = c.in-Some.bounds.now in
    let known = column dimension (take i boxes) in
    let items = c.as_slice.ensures in
    let lookup = c.in-Some.ensures.lookup in
    let found = first-there box dimension bounds (subst (λ (all : List Bounds). dimension < length all) items lookup.3.0) (lookup.1 ∙ ap (λ (all : List Bounds). get_or all dimension bounds) items) in
    let whole = column-whole dimension boxes i box (bounds ∷ []) c.loop-one-test.true c.one-item.is found in
    let widest = subst (λ so_far. IsWidest so_far known) c.in-Some-widest.is c.loop-one.invariant in
    sym (ap widest_of whole ∙ widest-none known bounds (column dimension (drop (i + 1) boxes)) c.in-Some-widest.known widest (sym c.if-is_level.ensures.level))

pub loop-one-preserved : goal.loop-one-preserved
loop-one-preserved c =
    let boxes = c.args.boxes.now in
    let dimension = c.args.dimension in
    let i = c.loop-one.one-index in
    let box = c.one-item.result in
    let bounds = c.in-Some.bounds.now in
    let known = column dimension (take i boxes) in
    let items = c.as_slice.ensures in
    let lookup = c.in-Some.ensures.lookup in
    let found = first-there box dimension bounds (subst (λ (all : List Bounds). dimension < length all) items lookup.3.0) (lookup.1 ∙ ap (λ (all : List Bounds). get_or all dimension bounds) items) in
    let next = column-next dimension boxes i box (bounds ∷ []) c.loop-one-test.true c.one-item.is found in
    subst (λ all. IsWidest c.match-widest.widest all) (sym next) (elim c.match-widest.branch [
      | in-None w ↦ subst (λ so_far. IsWidest so_far (known ++ bounds ∷ [])) (sym w.widest-is)
          (widest-one known bounds w.alone.result (subst (λ so_far. IsWidest so_far known) w.in-None.is c.loop-one.invariant) w.alone.ensures)
      | in-Some-widest w ↦ subst (λ so_far. IsWidest so_far (known ++ bounds ∷ [])) (sym w.widest-is)
          (widest-more known bounds w.in-Some-widest.known w.wider.result (subst (λ so_far. IsWidest so_far known) w.in-Some-widest.is c.loop-one.invariant)
          (sym w.if-is_level.ensures.level) (w.if-is_level.ensures.low refl) (w.if-is_level.ensures.high refl) w.wider.ensures)
    ])
