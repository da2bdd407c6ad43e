use Rattle.std.proofs.Common.{rules, ◌≡◌, ◌==◌, length, sym, ◌∙◌}
use Rattle.sd_cut.specs.Windowed.{window_of}
use Rattle.sd_cut.proofs.PlacingLemmas.{uneven-none}
use Rattle.sd_cut.proofs.placing.number_of.Goals as goal

pub returns-then-extents-shift : goal.returns-then-extents-shift
returns-then-extents-shift c =
    uneven-none (window_of c.args.window.now) c.args.index.now (length c.args.index.now == length c.args.window.now.shift)
    (λ e.
    let extents : length c.as_slice-extents.result.now ≡ length c.args.window.now.extents = search rules in
    let shift : length c.as_slice-shift.result.now ≡ length c.args.window.now.shift = search rules in
    absurd (c.if-extents-shift.true (extents ∙ e ∙ sym shift)))
