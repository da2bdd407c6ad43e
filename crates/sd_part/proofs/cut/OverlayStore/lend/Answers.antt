use Rattle.std.proofs.Common.{◌≡◌, [], subst, sym, ◌∙◌, ap}
use Rattle.sd_mem.specs.mem.Shaped.{Shaped}
use Rattle.sd_cut.specs.Windowed.{numbers_in}
use Rattle.sd_cut.specs.Fits.{marking_in, with_left}
use Rattle.sd_cut.specs.Overlaid.{Overlaid}
use Rattle.sd_part.specs.Store.{AreMarkedFor, IsLentFor}
use Rattle.sd_part.specs.Cut.{MayBeLent, StandsFor}
use Rattle.sd_part.proofs.CutStore.{marks-so, marked-lent, lends-so, still-stands, windows-stay, on-err}
use Rattle.sd_part.proofs.cut.OverlayStore.lend.Goals as goal

-- what is lent, in its place, is all that was marked
together : (marked lent : Overlaid) (left : Shaped) → left ≡ marked.left → lent ≡ record marked { left = record { shapes = []; contents = [] } } → with_left left lent ≡ marked
together marked lent left same stays = λ i. with_left (same i) (stays i)

pub returns-clause-windows : goal.returns-clause-windows
returns-clause-windows c =
    ap (λ (o : Overlaid). o.windows) c.lend.ensures.stays ∙ windows-stay c.args.boxes.now c.args.boxes.now c.args.self.now c.mark_boxes.new.overlay c.in_ok-mark_boxes.ensures.ok

pub returns-clause-fits : goal.returns-clause-fits
returns-clause-fits c = λ containers over made.
    subst (λ (o : Overlaid). MayBeLent o containers over) (sym (together c.mark_boxes.new.overlay c.lend.new.self c.lend.result c.lend.ensures.left c.lend.ensures.stays))
    (marked-lent c.args.boxes.now c.args.self.now c.mark_boxes.new.overlay containers over c.requires.holds c.in_ok-mark_boxes.ensures.ok made)

pub returns-clause-marked : goal.returns-clause-marked
returns-clause-marked c = λ containers.
    subst (λ (o : Overlaid). AreMarkedFor c.args.boxes.now containers o.windows (marking_in (numbers_in containers o.windows) o)) (sym c.lend.ensures.stays)
    (marks-so c.args.boxes.now c.args.self.now c.mark_boxes.new.overlay containers c.requires.holds c.in_ok-mark_boxes.ensures.ok)

pub returns-clause-stands : goal.returns-clause-stands
returns-clause-stands c = λ containers over now made lent.
    let marked = c.mark_boxes.new.overlay in
    let whole = together marked c.lend.new.self c.lend.result c.lend.ensures.left c.lend.ensures.stays in
    let so = lends-so c.args.boxes.now c.args.self.now marked containers over now c.requires.holds c.in_ok-mark_boxes.ensures.ok made (subst (λ (o : Overlaid). StandsFor o over now) whole lent) in (
      so.0,
      subst (λ (m : Shaped). IsLentFor containers c.lend.new.self.windows (marking_in (numbers_in containers c.lend.new.self.windows) c.lend.new.self) m now) (sym c.lend.ensures.left)
          (subst (λ (o : Overlaid). IsLentFor containers o.windows (marking_in (numbers_in containers o.windows) o) marked.left now) (sym c.lend.ensures.stays) so.1),
    )

pub returns-in_err-mark_boxes-clause-windows : goal.returns-in_err-mark_boxes-clause-windows
returns-in_err-mark_boxes-clause-windows c =
    windows-stay c.args.boxes.now c.in_err-mark_boxes.ensures.err.0 c.args.self.now c.mark_boxes.new.overlay c.in_err-mark_boxes.ensures.err.1

pub returns-in_err-mark_boxes-clause-err : goal.returns-in_err-mark_boxes-clause-err
returns-in_err-mark_boxes-clause-err c =
    on-err c.from_residual.result (λ containers over now made stands.
    still-stands c.args.boxes.now c.in_err-mark_boxes.ensures.err.0 c.args.self.now c.mark_boxes.new.overlay containers over now c.requires.holds c.in_err-mark_boxes.ensures.err.1 made stands)
