use Rattle.std.proofs.Common.{◌≡◌, ◌∙◌, ◌+◌, pos, ap, sym, subst, length, map, take, replicate, List, ℕ, ℤ, arith}
use Rattle.std.proofs.lemmas.List.{length-replicate}
use Rattle.sd_tcode.specs.op.Machine.{held}
use Rattle.sd_tcode.specs.tcode.Compiled.{Compiled}
use Rattle.sd_tcode.specs.tcode.Held.{given, given_by, zeros_for, zero_cells}
use Rattle.sd_tasklet.specs.tasklet.Given.{IsWhole}
use Rattle.sd_tcode.proofs.tcode_lemmas.Ready.{zeros_whole}
use Rattle.sd_tcode.proofs.tcode_lemmas.Loads.{zeros_given, zeros_dims, extents_held, cells_held}
use Rattle.sd_tcode.proofs.tcode.frame.Frame.reserve.Goals as goal

nothing_but_zeros : (c : goal.After-row_known-2-1) → given (record { registers = c.in_ok-zeros.field-0; arrays = c.in_ok-zero_arrays.field-0; log = c.in_ok-reserve.field-0; inputs = c.code.inside.layout.inputs; variables = c.code.inside.layout.variables }) ≡ zeros_for c.args.code.now c.args.widest.now
nothing_but_zeros c =
    let safe = c.code.invariant in
    let layout = c.code.inside.layout in
    let low = safe.inputs in
    let more = safe.registers in
    let inputs : layout.inputs ≡ c.args.code.now.layout.inputs = ap (λ (k : Compiled). k.layout.inputs) c.code.view_is in
    let arrays = c.in_ok-zero_arrays.field-0.items in
    let extents = c.in_ok-zero_arrays.ensures.extents ∙ ap (λ (l : List ℕ). map (λ count. replicate count 0) l) c.deref.ensures.value in
    let cells = c.in_ok-zero_arrays.ensures.cells ∙ ap (λ (l : List ℕ). zero_cells l c.args.widest.now) c.deref.ensures.value in
    ap (λ (l : List ℤ). given_by layout.inputs (take (layout.inputs + layout.variables) l) (map held arrays)) c.in_ok-zeros.ensures
    ∙ (zeros_given layout.inputs layout.variables c.code.inside.registers (map held arrays) c.code.inside.dims.items c.args.widest.now (omega (arith, low, more)) (c.requires ∙ sym inputs) (extents_held arrays ∙ extents) (cells_held arrays ∙ cells)
    ∙ ap (λ (k : Compiled). zeros_for k c.args.widest.now) c.code.view_is)

pub returns-clause-given : goal.returns-clause-given
returns-clause-given c = nothing_but_zeros c

pub returns-clause-frame : goal.returns-clause-frame
returns-clause-frame c =
    let extents = c.in_ok-zero_arrays.ensures.extents ∙ ap (λ (l : List ℕ). map (λ count. replicate count 0) l) c.deref.ensures.value in
    record {
      registers = ap length c.in_ok-zeros.ensures ∙ (length-replicate c.code.inside.registers (pos 0) ∙ ap (λ (k : Compiled). k.registers) c.code.view_is);
      arrays = zeros_dims c.in_ok-zero_arrays.field-0.items c.code.inside.dims.items extents ∙ ap (λ (k : Compiled). k.dims) c.code.view_is;
      slots = c.in_ok-reserve.ensures.slots ∙ ap (λ (k : Compiled). k.slots) c.code.view_is;
      inputs = ap (λ (k : Compiled). k.layout.inputs) c.code.view_is;
      variables = ap (λ (k : Compiled). k.layout.variables) c.code.view_is;
    }

pub returns-clause-ready : goal.returns-clause-ready
returns-clause-ready c tree is = record { fits = returns-clause-frame c; whole = subst IsWhole (sym (nothing_but_zeros c)) (zeros_whole tree c.args.code.now c.args.widest.now is) }
