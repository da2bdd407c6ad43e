use Rattle.std.proofs.Common.{◌≡◌, ◌+◌, ◌++◌, length, map, take}
use Rattle.sd_graph.specs.PlainTree.{GraphTree}
use Rattle.sd_graph.specs.Context.{link_extents}
use Rattle.sd_tcode.specs.tcode.Compiled.{Compiled}
use Rattle.sd_tcode.specs.tcode.Held.{IsReady, given}
use Rattle.sd_scope.specs.scope.Standing.{context_of}
use Rattle.sd_scope.specs.declared.scope.base.Base.{Base}
use Rattle.sd_row.proofs.instance.runner.shape_links.Given as goal

-- the extents so far
abbrev pub invariant-loop-link : goal.invariant-loop-link
invariant-loop-link l = record {
  set : (program : GraphTree) (base : Base) → take (l.first + l.link-index) (given l.frame).extents ≡ take l.first (given l.fn.frame).extents ++ map (link_extents (context_of program base l.scope)) (take l.link-index l.links);
  count : length (given l.frame).extents ≡ length (given l.fn.frame).extents;
  values : (given l.frame).values ≡ (given l.fn.frame).values;
  variables : (given l.frame).variables ≡ (given l.fn.frame).variables;
  ready : (code : Compiled) → IsReady code l.fn.frame → IsReady code l.frame;
  here : l.connector ≡ l.first + l.link-index;
}
