-- What a source and an arrays file come to: a graph that is bound, and the memory that its run begins with.
use Rattle.std.specs.Prelude.{ℕ, List, map, Some, None, Result, Ok, Err}
use Rattle.sd_work.specs.Memory.{Memory}
use Rattle.sd_work.specs.Residual.{Term}
use Rattle.sd_graph.specs.PlainTree.{GraphTree}
use Rattle.sd_graph.specs.Unfold.{run_of, opening_memory}
use Rattle.sd_graph.specs.declared.place.Place.{Place}
use Rattle.sd_mem.specs.mem.Shaped.{Shaped}
use Rattle.sd_valid.specs.Binding.{binding, with_sizes}
use Rattle.sd_valid.specs.declared.error.BindError.{BindError}
use Rattle.sd_valid.specs.declared.error.BindError.TheVariants.{MissingSize, BadSize, OverLimit}
use Rattle.sd_valid.specs.declared.error.BindError.TheVariants as binds
use Rattle.serde_json.specs.Data.{Members}
use Rattle.sd_json.specs.ArraysReading.{arrays_reading, contents_in}
use Rattle.sd_json.specs.Given.{Contents}
use Rattle.sd_json.specs.GivenMemory.{memory_given}
use Rattle.sd_json.specs.Names.{names_in}
use Rattle.sd_json.specs.declared.array.Array.{Array}
use Rattle.sd_json.specs.declared.error.InputError.{InputError}
use Rattle.sd_json.specs.declared.error.InputError.TheVariants.{NotJson, Missing, Extra, NotANumber, Ragged, WrongShape}
use Rattle.sd_json.specs.declared.error.InputError.TheVariants as inputs
use Rattle.sd_source.specs.source.SourceReading.{reads}
use Rattle.sd_context.specs.declared.blocks.refusal.Refusal.{Refusal}
use Rattle.sd_lex.specs.PlainTree.{ProgramTree}
use Rattle.sd_elab.specs.elab.Elaboration.{graph_of}
use Rattle.sd_tool.specs.declared.ending.ArraysRefusal.{ArraysRefusal}

-- ---- the source

-- the graph of a program that was read
abbrev pub graph_read : Result ProgramTree Refusal → Result GraphTree Refusal
graph_read (Ok program) = Ok (graph_of program)
graph_read (Err refusal) = Err refusal

-- the graph of the program that a text is, or the number and the line of its error
abbrev pub source_graph : (text : List ℕ) → Result GraphTree Refusal
source_graph text = graph_read (reads text)

-- ---- the arrays file

-- the number and the name that are told of a file that does not fit; want of memory is told otherwise, and the definitions want none
abbrev pub input_refusal : InputError → ArraysRefusal
input_refusal NotJson = record { number = 14; name = None }
input_refusal (NotANumber name) = record { number = 15; name = Some name }
input_refusal (Ragged name) = record { number = 16; name = Some name }
input_refusal (Missing name) = record { number = 17; name = Some name }
input_refusal (Extra name) = record { number = 18; name = Some name }
input_refusal (WrongShape name) = record { number = 19; name = Some name }
input_refusal inputs.Memory = record { number = 0; name = None }

-- those of sizes that a graph cannot have
abbrev pub binding_refusal : BindError → ArraysRefusal
binding_refusal (MissingSize name) = record { number = 11; name = Some name }
binding_refusal (BadSize name) = record { number = 12; name = Some name }
binding_refusal (OverLimit name) = record { number = 13; name = Some name }
binding_refusal binds.Memory = record { number = 0; name = None }

-- a bound graph and the memory that its run begins with
pub record Work : Type 0 where
  pub tree : GraphTree
  pub memory : Memory

-- the memory of a bound graph
abbrev pub opened : GraphTree → Result Shaped InputError → Result Work ArraysRefusal
opened tree (Ok memory) = Ok (record { tree = tree; memory = memory.contents })
opened tree (Err error) = Err (input_refusal error)

-- a graph with its sizes, and then its arrays
abbrev pub bound : Result GraphTree BindError → List Array → Result Work ArraysRefusal
bound (Ok tree) arrays = opened tree (memory_given tree arrays)
bound (Err error) arrays = Err (binding_refusal error)

-- what a file gives to a graph
abbrev pub given : GraphTree → Result Contents InputError → Result Work ArraysRefusal
given tree (Ok contents) = bound (binding tree contents.sizes) contents.arrays
given tree (Err error) = Err (input_refusal error)

-- what a graph and an arrays file come to: the file is read for the graph, its sizes are bound, and its arrays become the memory; the first that refuses decides
abbrev pub prepared : GraphTree → (arrays : List ℕ) → Result Work ArraysRefusal
prepared tree arrays = given tree (arrays_reading (names_in tree) arrays)

-- the graph with the sizes of a file's entries, and the memory with its arrays, whether or not they fit
abbrev pub work_of : GraphTree → Members → Work
work_of tree entries =
    let contents : Contents = contents_in (names_in tree) entries in
    let sized : GraphTree = with_sizes tree contents.sizes in
    record { tree = sized; memory = opening_memory sized (map (λ array. array.elements) contents.arrays) }

-- ---- the run

-- all that the graph has to do
abbrev pub run_of_work : Work → Term Place
run_of_work work = run_of work.tree work.memory
