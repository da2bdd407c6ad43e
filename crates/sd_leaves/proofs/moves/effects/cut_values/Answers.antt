use Rattle.std.proofs.Common.{◌≡◌, ℕ, ◌+◌, ◌≤◌, [], ◌∷◌, ◌++◌, map, take, drop, min, length, get_or, sym, ap, ◌∙◌, rules, arith, drop_of_length-le}
use Rattle.sd_range.specs.Points.{product}
use Rattle.sd_graph.specs.Context.{link_extents}
use Rattle.sd_graph.specs.Unfold.{cut}
use Rattle.sd_graph.specs.declared.link.Link.{Link}
use Rattle.sd_scope.specs.scope.Standing.{context_of}
use Rattle.sd_leaves.proofs.leaves_lemmas.Lists.{from_here}
use Rattle.sd_leaves.proofs.moves_lemmas.Cuts.{cut-more, cut-over}
use Rattle.sd_leaves.proofs.moves.effects.cut_values.Goals as goal

pub loop-link-preserved : goal.loop-link-preserved
loop-link-preserved c = λ tree base.
    let count : Link → ℕ = λ link. product (link_extents (context_of tree base c.args.scope.now) link) in
    let ins = c.args.ins.now in
    let number = c.loop-link.link-index in
    let link = c.link-item.result in
    let rest = c.loop-link.rest.now in
    let read = c.loop-link.read.items in
    let few = c.elements_among-count.result in
    let there : link ≡ get_or ins number link = search rules in
    let is = c.elements_among-count.ensures ∙ ap (λ extents. min (product extents) (length rest)) (c.as_slice.ensures.value ∙ c.in_ok-extents.ensures tree base) in
    let part : c.in_ok-copied.field-0 ≡ take few rest = c.in_ok-copied.ensures ∙ c.split_at.ensures.front in
    cut-more count (drop number ins) (drop (number + 1) ins) link rest read (cut (map count ins) c.args.values.now) few (from_here ins number link c.loop-link-test.true there) is (c.loop-link.invariant tree base)
    ∙ ap (λ part. (read ++ part ∷ []) ++ cut (map count (drop (number + 1) ins)) (drop few rest)) (sym part)
    ∙ ap (λ read. read ++ cut (map count (drop (number + 1) ins)) (drop few rest)) (sym c.in_ok-push.ensures.items)
    ∙ ap (λ values. c.push.new.self.items ++ cut (map count (drop (number + 1) ins)) values) (sym c.split_at.ensures.back)

pub returns : goal.returns
returns c = λ tree base.
    let count : Link → ℕ = λ link. product (link_extents (context_of tree base c.args.scope.now) link) in
    let over : length c.args.ins.now ≤ c.loop-link.link-index = omega arith in
    c.from.ensures
    ∙ cut-over count (drop c.loop-link.link-index c.args.ins.now) c.loop-link.rest.now c.loop-link.read.items (cut (map count c.args.ins.now) c.args.values.now)
    (drop_of_length-le c.args.ins.now over) (c.loop-link.invariant tree base)
