use Rattle.std.proofs.Common.{◌≡◌, ◌∙◌, ◌+◌, ◌<◌, ap, sym, subst, length, map, take, List, arith}
use Rattle.std.proofs.lemmas.List.{length-map, map-set}
use Rattle.sd_tasklet.specs.tasklet.Given.{IsWhole}
use Rattle.sd_tcode.specs.op.Machine.{Held, held, extents_at}
use Rattle.sd_tcode.specs.declared.op.array.Array.{Array}
use Rattle.sd_tcode.proofs.op_lemmas.Arrays.{extents_got, cells_got}
use Rattle.sd_tcode.specs.tcode.Held.{given, given_by}
use Rattle.sd_tcode.proofs.tcode_lemmas.Linked.{extents_same}
use Rattle.sd_tcode.proofs.tcode_lemmas.Loads.{extents_given, dims_kept}
use Rattle.sd_tcode.proofs.tcode_lemmas.Ready.{may_fit, extents_whole}
use Rattle.sd_tcode.proofs.tcode.frame.Frame.shape.Goals as goal

pub index_mut-requires : goal.index_mut-requires
index_mut-requires c =
    let arrays = c.args.self.now.arrays.items in
    let fitting = may_fit (given c.args.self.now) c.args.connector c.args.extents.now (sym c.may_have.ensures ∙ c.if-not-may_have.false) in
    let there = fitting.there in
    omega (arith, there, length-map (map held arrays) (λ (a : Held). a.extents), length-map arrays held, c.args.self.now.arrays.ok.0)

pub copy_from_slice-requires : goal.copy_from_slice-requires
copy_from_slice-requires c =
    let arrays = c.args.self.now.arrays.items in
    let fitting = may_fit (given c.args.self.now) c.args.connector c.args.extents.now (sym c.may_have.ensures ∙ c.if-not-may_have.false) in
    let there = fitting.there in
    let low : c.args.connector < length arrays = omega (arith, there, length-map (map held arrays) (λ (a : Held). a.extents), length-map arrays held) in
    let extents = ap (λ (a : Array). a.extents.items) c.index_mut.ensures.value ∙ extents_got arrays c.args.connector c.index_mut.result.now low in
    c.index_mut.result.now.extents.ok.0 ∙ (ap length (extents ∙ extents_same (map held arrays) c.args.connector) ∙ sym fitting.many)

pub returns-clause-given : goal.returns-clause-given
returns-clause-given c =
    let frame = c.args.self.now in
    let arrays = frame.arrays.items in
    let fitting = may_fit (given frame) c.args.connector c.args.extents.now (sym c.may_have.ensures ∙ c.if-not-may_have.false) in
    let there = fitting.there in
    let low : c.args.connector < length arrays = omega (arith, there, length-map (map held arrays) (λ (a : Held). a.extents), length-map arrays held) in
    let cells = ap (λ (a : Array). a.cells.items) c.index_mut.ensures.value ∙ cells_got arrays c.args.connector c.index_mut.result.now low in
    let many : length c.args.extents.now ≡ length (extents_at (map held arrays) c.args.connector) = fitting.many ∙ ap length (sym (extents_same (map held arrays) c.args.connector)) in
    let new : Array = record { extents = c.copy_from_slice.new.self; cells = c.index_mut.result.now.cells } in
    ap (λ (connectors : List Held). given_by frame.inputs (take (frame.inputs + frame.variables) frame.registers.items) connectors) (map-set held arrays c.args.connector new)
    ∙ extents_given frame.inputs (take (frame.inputs + frame.variables) frame.registers.items) (map held arrays) c.args.connector c.args.extents.now (held new) c.copy_from_slice.ensures.items many cells

pub returns-clause-ready : goal.returns-clause-ready
returns-clause-ready c code is =
    let frame = c.args.self.now in
    let arrays = frame.arrays.items in
    let fitting = may_fit (given frame) c.args.connector c.args.extents.now (sym c.may_have.ensures ∙ c.if-not-may_have.false) in
    let many : length c.args.extents.now ≡ length (extents_at (map held arrays) c.args.connector) = fitting.many ∙ ap length (sym (extents_same (map held arrays) c.args.connector)) in
    let new : Array = record { extents = c.copy_from_slice.new.self; cells = c.index_mut.result.now.cells } in
    record {
      fits = record { registers = is.fits.registers; arrays = dims_kept arrays c.args.connector new (ap length c.copy_from_slice.ensures.items ∙ many) ∙ is.fits.arrays; slots = is.fits.slots; inputs = is.fits.inputs; variables = is.fits.variables };
      whole = subst IsWhole (sym (returns-clause-given c)) (extents_whole (given frame) c.args.connector c.args.extents.now fitting is.whole);
    }
