use Rattle.std.proofs.Common.{◌≡◌, Some, ap, sym, ◌∙◌, false, true, if◌then◌else◌, drop, map, ◌+◌, string_bytes}
use Rattle.sd_graph.specs.TreeFold.{named_container}
use Rattle.sd_graph.specs.ContainerParts.{extents_of}
use Rattle.sd_json.specs.GivenMemory as definition
use Rattle.sd_json.proofs.Prefixes.{named_at, wrong_more, wrong_at_end}
use Rattle.sd_json.proofs.fitting.wrong_shape.Goals as goal

pub returns-then-not-fits : goal.returns-then-not-fits
returns-then-not-fits c =
    let at = named_at c.args.containers.now.entries c.loop-at.at c.in-Some.name.now c.in-Some.container.now c.in-Some.ensures.entry in
    let wrong : definition.fits c.index-arrays-at.result.shape (extents_of c.in-Some.container.now) ≡ false =
    ap (λ a. definition.fits a.shape (extents_of c.in-Some.container.now)) c.index-arrays-at.is ∙ ap (λ shape. definition.fits shape (extents_of c.in-Some.container.now)) (sym c.as_slice.ensures) ∙ sym c.fits.ensures ∙ c.if-not-fits.true in
    sym (c.loop-at.invariant ∙ wrong_more _ _ _ _ _ at.0 c.loop-at-test.true at.1 c.index-arrays-at.is
    ∙ ap (λ fit. if fit then definition.wrong_shape (drop (c.loop-at.at + 1) (map named_container c.args.containers.now.entries)) (drop (c.loop-at.at + 1) c.args.arrays.now) else Some (string_bytes c.in-Some.name.now)) wrong)

pub loop-at-preserved : goal.loop-at-preserved
loop-at-preserved c =
    let at = named_at c.args.containers.now.entries c.loop-at.at c.in-Some.name.now c.in-Some.container.now c.in-Some.ensures.entry in
    let right : definition.fits c.index-arrays-at.result.shape (extents_of c.in-Some.container.now) ≡ true =
    ap (λ a. definition.fits a.shape (extents_of c.in-Some.container.now)) c.index-arrays-at.is ∙ ap (λ shape. definition.fits shape (extents_of c.in-Some.container.now)) (sym c.as_slice.ensures) ∙ sym c.fits.ensures ∙ c.if-not-fits.false in
    c.loop-at.invariant ∙ wrong_more _ _ _ _ _ at.0 c.loop-at-test.true at.1 c.index-arrays-at.is
    ∙ ap (λ fit. if fit then definition.wrong_shape (drop (c.loop-at.at + 1) (map named_container c.args.containers.now.entries)) (drop (c.loop-at.at + 1) c.args.arrays.now) else Some (string_bytes c.in-Some.name.now)) right

pub returns : goal.returns
returns c = sym (c.loop-at.invariant ∙ wrong_at_end _ c.args.arrays.now _ c.loop-at-test.false)
