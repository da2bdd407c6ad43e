use Rattle.std.proofs.Common.{take, Bool, not, ◌&&◌, ◌||◌, sym, ap, ap₂, ◌∙◌}
use Rattle.sd_fire.proofs.settle_lemmas.FirstUnfinished.{all-done}
use Rattle.sd_fire.proofs.settle_lemmas.PointsReady.{point-ready}
use Rattle.sd_fire.proofs.settle.behind.may_point_go.Goals as goal

pub returns-then-not-sequential : goal.returns-then-not-sequential
returns-then-not-sequential c =
    let counts = c.args.unfinished.now in
    let number = c.args.number in
    ap not c.if-not-sequential.true
    ∙ sym (ap₂ (λ (a b : Bool). a && b) c.if-may_go.true
    (point-ready c.args.sequential number counts ∙ ap (λ (so : Bool). not so || all-done (take number counts)) c.if-not-sequential.true))

pub returns-else-not-sequential : goal.returns-else-not-sequential
returns-else-not-sequential c =
    let counts = c.args.unfinished.now in
    let number = c.args.number in
    c.are_first_finished.ensures
    ∙ sym (ap₂ (λ (a b : Bool). a && b) c.if-may_go.true
    (point-ready c.args.sequential number counts ∙ ap (λ (so : Bool). not so || all-done (take number counts)) c.if-not-sequential.false))
