-- The tasklet of a row as flat code.
use Rattle.std.specs.Prelude.{◌≡◌, ◌<◌, ◌^◌, List, [], ◌++◌, length, replicate, IsSome, true}
use Rattle.std.specs.List.{AllByRecursion}
use Rattle.sd_graph.specs.PlainTree.{TaskletTree}
use Rattle.sd_graph.specs.declared.link.Link.{Link}
use Rattle.sd_tcode.specs.tcode.Compiled.{Compiled, IsCodeOf}
use Rattle.sd_tcode.specs.tcode.Named.{IsNamed}
use Rattle.sd_tcode.specs.tcode.Held.{IsReady, given}
use Rattle.sd_tcode.specs.declared.tcode.frame.Frame.{Frame}
use Rattle.sd_tcode.specs.declared.columns.columns.Columns.{Columns}
use Rattle.sd_tcode.specs.columns.Columns.{register_count, AreWide}
use Rattle.sd_scope.specs.even.Even.{is_scalar}
use Rattle.sd_row.specs.instance.Fit.{AreFor}

-- code and a frame for a tasklet with these links, which are scalars, and as many as it has connectors; each output is set once
pub record IsInstance (tree : TaskletTree) (ins outs : List Link) (compiled : Compiled) (frame : Frame) : Type 0 where
  pub code : IsCodeOf tree compiled
  pub plain : IsSome compiled.plain
  pub ready : IsReady compiled frame
  pub connectors : length (ins ++ outs) ≡ compiled.layout.connectors
  pub singles : AllByRecursion (λ values. length values ≡ 1) (given frame).values
  pub values : length (given frame).values ≡ length ins
  pub variables : length (given frame).variables ≡ length tree.variables
  pub extents : (given frame).extents ≡ replicate compiled.layout.connectors []
  pub scalars : AllByRecursion (λ link. is_scalar link.memlet.subset.dims ≡ true) (ins ++ outs)
  pub few_values : length ins < 2 ^ 32
  pub few_variables : length tree.variables < 2 ^ 32

-- a column for each register of this code
pub record AreColumnsOf (compiled : Compiled) (columns : Columns) : Type 0 where
  pub registers : register_count columns ≡ compiled.registers
  pub wide : AreWide columns

-- a tasklet that names what it has, with a scalar link for each of its connectors, which are scalars
pub record IsFit (tree : TaskletTree) (ins outs : List Link) : Type 0 where
  pub named : IsNamed tree
  pub links : AreFor tree ins outs
  pub ports : AllByRecursion (λ port. port.dims ≡ 0) (tree.ins ++ tree.outs)
  pub scalars : AllByRecursion (λ link. is_scalar link.memlet.subset.dims ≡ true) (ins ++ outs)
