-- Tasklets and their links.
use Rattle.std.specs.Prelude.{◌≡◌, ◌<◌, ◌^◌, List, ◌++◌, length, true}
use Rattle.std.specs.List.{AllByRecursion}
use Rattle.sd_graph.specs.PlainTree.{TaskletTree}
use Rattle.sd_graph.specs.declared.link.Link.{Link}
use Rattle.sd_tcode.specs.tcode.Compiled.{Compiled, IsCodeOf}
use Rattle.sd_tcode.specs.tcode.Held.{IsReady, given}
use Rattle.sd_tcode.specs.declared.tcode.frame.Frame.{Frame}
use Rattle.sd_scope.specs.even.Even.{is_scalar}
use Rattle.sd_row.specs.instance.Known.{HasRoom}

-- links for each connector of a tasklet, and few of them and of its variables
pub record AreFor (tree : TaskletTree) (ins outs : List Link) : Type 0 where
  pub inputs : length ins ≡ length tree.ins
  pub outputs : length outs ≡ length tree.outs
  pub few_inputs : length ins < 2 ^ 32
  pub few_variables : length tree.variables < 2 ^ 32

-- code and a frame for a tasklet with these links
pub record IsCodeFor (tree : TaskletTree) (ins outs : List Link) (compiled : Compiled) (frame : Frame) : Type 0 where
  pub inputs : length ins ≡ length tree.ins
  pub code : IsCodeOf tree compiled
  pub ready : IsReady compiled frame
  pub room : HasRoom (length ins) (length tree.variables) (given frame)
  pub connectors : length (given frame).extents ≡ length (ins ++ outs)

-- the same of one whose inputs are scalars
pub record IsRunner (tree : TaskletTree) (ins outs : List Link) (compiled : Compiled) (frame : Frame) : Type 0 where
  pub code : IsCodeOf tree compiled
  pub ready : IsReady compiled frame
  pub room : HasRoom (length ins) (length tree.variables) (given frame)
  pub connectors : length (given frame).extents ≡ length (ins ++ outs)
  pub scalars : AllByRecursion (λ link. is_scalar link.memlet.subset.dims ≡ true) ins
