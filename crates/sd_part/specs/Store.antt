-- What a store lends for a part, and what it takes back.
use Rattle.std.specs.Prelude.{◌≡◌, List, map, Option}
use Rattle.sd_work.specs.Memory.{Memories}
use Rattle.sd_work.specs.Exit.{Values}
use Rattle.sd_pieces.specs.course.Shape.{stack_shape}
use Rattle.sd_pieces.specs.cut.Naming.{AreMemoriesNamed}
use Rattle.sd_pieces.specs.cut.Merged.{Marking, IsPrepared, IsMerged, AreElementsOfWidth}
use Rattle.sd_graph.specs.ContainerParts.{Containers}
use Rattle.sd_prop.specs.propagation.Accesses.{Access}
use Rattle.sd_mem.specs.mem.Shaped.{Shaped, alone}
use Rattle.sd_cut.specs.declared.window.Window.{Window}
use Rattle.sd_cut.specs.Windowed.{numbers_in, HaveDimensions}
use Rattle.sd_cut.specs.Marked.{AreAccessesMarked}
use Rattle.sd_cut.specs.Fits.{AreValuesOfWidth}
use Rattle.sd_part.specs.Boxes.{number_box, NumberBox}

-- the windows and the marks of a store have what the accesses of these boxes may touch
pub record AreMarkedFor (boxes : List NumberBox) (containers : Containers) (windows : List (Option Window)) (marking : Marking) : Type 0 where
  pub dimensions : (values : Values) (accesses : List Access) → boxes ≡ map (number_box containers values) accesses → HaveDimensions containers windows
  pub marked : (values : Values) (accesses : List Access) → boxes ≡ map (number_box containers values) accesses → AreAccessesMarked containers values (numbers_in containers windows) marking accesses

-- what is lent by the numbers in the windows is a memory that is prepared for the one that the store stands for
pub record IsLentFor (containers : Containers) (windows : List (Option Window)) (marking : Marking) (lent now : Shaped) : Type 0 where
  pub widths : AreElementsOfWidth (alone now)
  pub lent_widths : AreElementsOfWidth (alone lent)
  pub lent_values : AreValuesOfWidth (alone lent)
  pub memories : Memories
  pub prepared : IsPrepared marking memories (alone now)
  pub named : AreMemoriesNamed (numbers_in containers windows) 0 memories (alone lent)

-- what was left of what was lent is merged, where it has the same shape, and elements and values of its widths
abbrev pub IsMergedBack : Containers → (windows : List (Option Window)) → Marking → (lent left now after : Shaped) → Type 0
IsMergedBack containers windows marking lent left now after =
    stack_shape (alone left) ≡ stack_shape (alone lent) → AreElementsOfWidth (alone left) → AreValuesOfWidth (alone left) → IsMerged (numbers_in containers windows) marking (alone left) (alone now) (alone after)
