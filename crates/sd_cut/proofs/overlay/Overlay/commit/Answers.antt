use Rattle.std.proofs.Common.{rules, ◌≡◌, ◌∙◌, ◌++◌, ap, sym}
use Rattle.sd_cut.specs.Overlaid.{Overlaid}
use Rattle.sd_cut.specs.Elements.{all_changed, all_effects}
use Rattle.sd_cut.specs.Streams.{all_pushes, all_takes}
use Rattle.sd_cut.proofs.Performing.{all_changed-append}
use Rattle.sd_cut.proofs.Undoing.{where_ok}
use Rattle.sd_cut.proofs.overlay.Overlay.commit.Goals as goal

pub returns-clause-ok : goal.returns-clause-ok
returns-clause-ok c =
    let cut = c.self.inside in
    let pushes = all_pushes 0 cut.left cut.streams.items in
    let takes = all_takes 0 cut.streams.items in
    let effects = all_effects 0 cut.left cut.arrays.items in
    let all : c.as_slice.result.now ≡ cut.streams.items = search rules in
    let same : c.as_slice-2.result.now ≡ cut.streams.items = search rules in
    let cuts : c.as_slice-3.result.now ≡ cut.arrays.items = search rules in
    let pushed = where_ok c.push_all.result c.in-Ok.field-0 c.in-Ok.is c.push_all.ensures.ok ∙ ap (λ streams. all_changed (all_pushes 0 cut.left streams) c.args.memory.now) all in
    let taken = c.take_all.ensures ∙ (λ i. all_changed (all_takes 0 (same i)) (pushed i)) in
    c.perform_all.ensures
    ∙ (λ i. all_changed (all_effects 0 cut.left (cuts i)) (taken i))
    ∙ sym (all_changed-append (pushes ++ takes) effects c.args.memory.now ∙ ap (all_changed effects) (all_changed-append pushes takes c.args.memory.now))
    ∙ ap (λ (cut : Overlaid). all_changed (all_pushes 0 cut.left cut.streams ++ all_takes 0 cut.streams ++ all_effects 0 cut.left cut.arrays) c.args.memory.now) c.self.view_is
