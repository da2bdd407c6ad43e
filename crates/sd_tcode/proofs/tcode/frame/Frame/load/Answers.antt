use Rattle.std.proofs.Common.{List, ◌≡◌, ◌∙◌, ◌+◌, ◌<◌, ap, sym, subst, length, map, take, FitsSigned, arith}
use Rattle.std.specs.Prelude.{slice_set}
use Rattle.std.specs.Int.{w64}
use Rattle.std.specs.Vec.{with_item}
use Rattle.std.proofs.lemmas.Int.{to_z-of_z}
use Rattle.std.proofs.lemmas.List.{length-take, length-set, length-map, map-set}
use Rattle.sd_tasklet.specs.tasklet.Given.{IsWhole}
use Rattle.sd_tcode.specs.tcode.Held.{given, given_by}
use Rattle.sd_tcode.proofs.tcode_lemmas.Ready.{element_whole}
use Rattle.sd_tcode.specs.op.Machine.{Held, held, extents_at}
use Rattle.sd_tcode.specs.declared.op.array.Array.{Array}
use Rattle.sd_tcode.proofs.op_lemmas.Arrays.{extents_got, cells_got}
use Rattle.sd_tcode.proofs.tcode_lemmas.Loads.{elements_low, scalar_given, cell_given, dims_kept, none_by_test, some_by_test, cell_there}
use Rattle.sd_tcode.proofs.tcode.frame.Frame.load.Goals as goal

pub index-requires : goal.index-requires
index-requires c =
    let frame = c.args.self.now in
    let low = (elements_low (map held frame.arrays.items) (take frame.inputs (take (frame.inputs + frame.variables) frame.registers.items)) c.args.connector c.args.at c.requires).0 in
    omega (arith, low, length-map frame.arrays.items held, frame.arrays.ok.0)

pub index_mut-requires-else-is_empty : goal.index_mut-requires-else-is_empty
index_mut-requires-else-is_empty c =
    let frame = c.args.self.now in
    let low = (elements_low (map held frame.arrays.items) (take frame.inputs (take (frame.inputs + frame.variables) frame.registers.items)) c.args.connector c.args.at c.requires).0 in
    omega (arith, low, length-map frame.arrays.items held, frame.arrays.ok.0)

pub index_mut-requires : goal.index_mut-requires
index_mut-requires c =
    let frame = c.args.self.now in
    let low = (elements_low (map held frame.arrays.items) (take frame.inputs (take (frame.inputs + frame.variables) frame.registers.items)) c.args.connector c.args.at c.requires).1 in
    omega (arith, low, frame.registers.ok.0, length-take frame.inputs (take (frame.inputs + frame.variables) frame.registers.items), length-take (frame.inputs + frame.variables) frame.registers.items)

pub returns-then-is_empty-clause-given : goal.returns-then-is_empty-clause-given
returns-then-is_empty-clause-given c =
    let frame = c.args.self.now in
    let fits : FitsSigned w64 c.args.value = c.ranges.value in
    let low = elements_low (map held frame.arrays.items) (take frame.inputs (take (frame.inputs + frame.variables) frame.registers.items)) c.args.connector c.args.at c.requires in
    let none : length (extents_at (map held frame.arrays.items) c.args.connector) ≡ 0 =
    ap length (sym (ap (λ (a : Array). a.extents.items) c.index.ensures ∙ extents_got frame.arrays.items c.args.connector c.index.result.now (omega (arith, low.0, length-map frame.arrays.items held)))) ∙ (sym c.index.result.now.extents.ok.0 ∙ none_by_test (sym c.is_empty.ensures ∙ c.if-is_empty.true)) in
    rw (to_z-of_z w64 c.args.value fits)
    (scalar_given frame.inputs (frame.inputs + frame.variables) frame.registers.items (map held frame.arrays.items) c.args.connector c.args.at c.args.value
    (omega (arith, low.1, length-take frame.inputs (take (frame.inputs + frame.variables) frame.registers.items))) (omega arith) none c.requires)

pub index_mut-requires-else-is_empty-2 : goal.index_mut-requires-else-is_empty-2
index_mut-requires-else-is_empty-2 c =
    let frame = c.args.self.now in
    let arrays = frame.arrays.items in
    let scalars = take frame.inputs (take (frame.inputs + frame.variables) frame.registers.items) in
    let low = elements_low (map held arrays) scalars c.args.connector c.args.at c.requires in
    let some : 0 < length (extents_at (map held arrays) c.args.connector) =
    subst (λ l. 0 < length l) (ap (λ (a : Array). a.extents.items) c.index.ensures ∙ extents_got arrays c.args.connector c.index.result.now (omega (arith, low.0, length-map frame.arrays.items held))) (subst (λ n. 0 < n) c.index.result.now.extents.ok.0 (some_by_test (sym c.is_empty.ensures ∙ c.if-is_empty.false))) in
    let there = cell_there arrays scalars c.args.connector c.args.at c.index_mut-else-is_empty.result.now (omega (arith, low.0, length-map frame.arrays.items held)) low.0 low.1 c.index_mut-else-is_empty.ensures.value some c.requires in
    omega (arith, there, c.index_mut-else-is_empty.result.now.cells.ok.0)

pub returns-else-is_empty-clause-given : goal.returns-else-is_empty-clause-given
returns-else-is_empty-clause-given c =
    let frame = c.args.self.now in
    let arrays = frame.arrays.items in
    let element = c.index_mut-else-is_empty.result.now in
    let fits : FitsSigned w64 c.args.value = c.ranges.value in
    let scalars = take frame.inputs (take (frame.inputs + frame.variables) frame.registers.items) in
    let low = elements_low (map held arrays) scalars c.args.connector c.args.at c.requires in
    let some : 0 < length (extents_at (map held arrays) c.args.connector) =
    subst (λ l. 0 < length l) (ap (λ (a : Array). a.extents.items) c.index.ensures ∙ extents_got arrays c.args.connector c.index.result.now (omega (arith, low.0, length-map frame.arrays.items held))) (subst (λ n. 0 < n) c.index.result.now.extents.ok.0 (some_by_test (sym c.is_empty.ensures ∙ c.if-is_empty.false))) in
    let extents = ap (λ (a : Array). a.extents.items) c.index_mut-else-is_empty.ensures.value ∙ extents_got arrays c.args.connector element (omega (arith, low.0, length-map frame.arrays.items held)) in
    let cells = ap (λ (a : Array). a.cells.items) c.index_mut-else-is_empty.ensures.value ∙ cells_got arrays c.args.connector element (omega (arith, low.0, length-map frame.arrays.items held)) in
    let new : Array = record { extents = element.extents; cells = with_item element.cells c.args.at c.args.value } in
    rw (to_z-of_z w64 c.args.value fits)
    (ap (λ (connectors : List Held). given_by frame.inputs (take (frame.inputs + frame.variables) frame.registers.items) connectors) (map-set held arrays c.args.connector new)
    ∙ cell_given frame.inputs (take (frame.inputs + frame.variables) frame.registers.items) (map held arrays) c.args.connector c.args.at c.args.value (held new) extents (ap (λ l. slice_set l c.args.at c.args.value) cells) some)

pub returns-then-is_empty-clause-ready : goal.returns-then-is_empty-clause-ready
returns-then-is_empty-clause-ready c code is =
    let frame = c.args.self.now in
    let fits : FitsSigned w64 c.args.value = c.ranges.value in
    record {
      fits = rw (to_z-of_z w64 c.args.value fits)
          (record { registers = length-set frame.registers.items c.args.connector c.args.value ∙ is.fits.registers; arrays = is.fits.arrays; slots = is.fits.slots; inputs = is.fits.inputs; variables = is.fits.variables });
      whole = subst IsWhole (sym (returns-then-is_empty-clause-given c)) (element_whole (given frame) c.args.connector c.args.at c.args.value is.whole);
    }

pub returns-else-is_empty-clause-ready : goal.returns-else-is_empty-clause-ready
returns-else-is_empty-clause-ready c code is =
    let frame = c.args.self.now in
    let arrays = frame.arrays.items in
    let element = c.index_mut-else-is_empty.result.now in
    let fits : FitsSigned w64 c.args.value = c.ranges.value in
    let scalars = take frame.inputs (take (frame.inputs + frame.variables) frame.registers.items) in
    let low = elements_low (map held arrays) scalars c.args.connector c.args.at c.requires in
    let extents = ap (λ (a : Array). a.extents.items) c.index_mut-else-is_empty.ensures.value ∙ extents_got arrays c.args.connector element (omega (arith, low.0, length-map frame.arrays.items held)) in
    let new : Array = record { extents = element.extents; cells = with_item element.cells c.args.at c.args.value } in
    record {
      fits = rw (to_z-of_z w64 c.args.value fits)
          (record { registers = is.fits.registers; arrays = dims_kept arrays c.args.connector new (ap length extents) ∙ is.fits.arrays; slots = is.fits.slots; inputs = is.fits.inputs; variables = is.fits.variables });
      whole = subst IsWhole (sym (returns-else-is_empty-clause-given c)) (element_whole (given frame) c.args.connector c.args.at c.args.value is.whole);
    }
