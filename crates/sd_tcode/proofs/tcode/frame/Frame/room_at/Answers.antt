use Rattle.std.proofs.Common.{◌≡◌, ◌∙◌, ◌+◌, pos, [], ◌∷◌, false, ◌==◌, if◌then◌else◌, ap, sym, length, map, take, List, ℤ, arith}
use Rattle.std.specs.Prelude.{slice_index_or}
use Rattle.std.proofs.lemmas.List.{length-map}
use Rattle.sd_tcode.specs.op.Machine.{held, extents_at, cells_at}
use Rattle.sd_tcode.specs.declared.op.array.Array.{Array}
use Rattle.sd_tcode.proofs.op_lemmas.Arrays.{extents_got, cells_got}
use Rattle.sd_tcode.specs.declared.tcode.frame.Frame.{Frame}
use Rattle.sd_tcode.proofs.tcode_lemmas.Linked.{elements_same}
use Rattle.sd_tcode.proofs.tcode_lemmas.Loads.{elements_there, none_by_test}
use Rattle.sd_tcode.proofs.tcode.frame.Frame.room_at.Goals as goal

abbrev scalars : Frame → List ℤ
scalars frame = take frame.inputs (take (frame.inputs + frame.variables) frame.registers.items)

pub index-requires : goal.index-requires
index-requires c =
    let frame = c.args.self.now in
    let low = elements_there (map held frame.arrays.items) (scalars frame) c.args.place (omega (arith, c.if-place-input_count.false, c.input_count.ensures)) in
    omega (arith, low.0, length-map frame.arrays.items held, frame.arrays.ok.0)

pub index-requires-2 : goal.index-requires-2
index-requires-2 c =
    let frame = c.args.self.now in
    let low = elements_there (map held frame.arrays.items) (scalars frame) c.args.place (omega (arith, c.if-place-input_count.false, c.input_count.ensures)) in
    omega (arith, low.0, length-map frame.arrays.items held, frame.arrays.ok.0)

pub returns-then-is_empty-clause-room : goal.returns-then-is_empty-clause-room
returns-then-is_empty-clause-room c =
    let frame = c.args.self.now in
    let arrays = frame.arrays.items in
    let low = elements_there (map held arrays) (scalars frame) c.args.place (omega (arith, c.if-place-input_count.false, c.input_count.ensures)) in
    let none : length (extents_at (map held arrays) c.args.place) ≡ 0 =
    ap length (sym (ap (λ (a : Array). a.extents.items) c.index.ensures ∙ extents_got arrays c.args.place c.index.result.now (omega (arith, low.0, length-map frame.arrays.items held)))) ∙ (sym c.index.result.now.extents.ok.0 ∙ none_by_test (sym c.is_empty.ensures ∙ c.if-is_empty.true)) in
    sym (ap length (elements_same (map held arrays) (scalars frame) c.args.place low.1 low.0 ∙ ap (λ n. if n == 0 then slice_index_or (scalars frame) c.args.place (pos 0) ∷ [] else cells_at (map held arrays) c.args.place) none))

pub returns-clause-room : goal.returns-clause-room
returns-clause-room c =
    let frame = c.args.self.now in
    let arrays = frame.arrays.items in
    let low = elements_there (map held arrays) (scalars frame) c.args.place (omega (arith, c.if-place-input_count.false, c.input_count.ensures)) in
    let many : length (extents_at (map held arrays) c.args.place) ≡ length c.index.result.now.extents.items =
    ap length (sym (ap (λ (a : Array). a.extents.items) c.index.ensures ∙ extents_got arrays c.args.place c.index.result.now (omega (arith, low.0, length-map frame.arrays.items held)))) in
    let other : (length (extents_at (map held arrays) c.args.place) == 0) ≡ false = ap (λ n. n == 0) (many ∙ sym c.index.result.now.extents.ok.0) ∙ (sym c.is_empty.ensures ∙ c.if-is_empty.false) in
    let cells = ap (λ (a : Array). a.cells.items) c.index-2.ensures ∙ cells_got arrays c.args.place c.index-2.result.now (omega (arith, low.0, length-map frame.arrays.items held)) in
    c.len.ensures ∙ (c.index-2.result.now.cells.ok.0 ∙ (ap length cells
    ∙ sym (ap length (elements_same (map held arrays) (scalars frame) c.args.place low.1 low.0 ∙ ap (λ b. if b then slice_index_or (scalars frame) c.args.place (pos 0) ∷ [] else cells_at (map held arrays) c.args.place) other))))
