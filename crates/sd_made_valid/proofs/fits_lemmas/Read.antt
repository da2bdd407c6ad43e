-- The bound graph of a program that was read keeps the rules on nested graphs and on shapes.
use Rattle.std.proofs.Common.{◌≡◌, ℕ, List, Ok}
use Rattle.sd_lex.specs.PlainTree.{ProgramTree}
use Rattle.sd_source.specs.source.SourceReading.{reads}
use Rattle.sd_read.proofs.readable_lemmas.Fields.{well_formed}
use Rattle.sd_graph.specs.PlainTree.{GraphTree}
use Rattle.sd_elab.specs.elab.Elaboration.{graph_of}
use Rattle.sd_valid.specs.SizeValues.{NamedSizes}
use Rattle.sd_valid.specs.Binding.{binding}
use Rattle.sd_validity.specs.rules.Failing.{Holds}
use Rattle.sd_validity.specs.rules.NestedLinks.{rule_5}
use Rattle.sd_validity.specs.rules.MovedShapes.{rule_6}
use Rattle.sd_made.proofs.shapes_lemmas.Kept.{shapes_bound}
use Rattle.sd_made_valid.specs.nesting.Shaped.{IsShaped}
use Rattle.sd_made_valid.proofs.apart_lemmas.Graphs.{links_right}
use Rattle.sd_made_valid.proofs.read_shapes_lemmas.FitTexts.{shapes_fit}
use Rattle.sd_made_valid.proofs.fits_lemmas.Items.{IsRightThroughout}
use Rattle.sd_made_valid.proofs.fits_lemmas.Programs.{program_right}
use Rattle.sd_made_valid.proofs.fits_lemmas.Holding.{graph_shaped, shapes_hold}

read_right : (text : List ℕ) (source : ProgramTree) → reads text ≡ Ok source → IsRightThroughout (graph_of source)
read_right text source read = program_right source (well_formed text source read) (shapes_fit text source read)

pub read_shaped : (text : List ℕ) (source : ProgramTree) → reads text ≡ Ok source → IsShaped (graph_of source)
read_shaped text source read = graph_shaped (graph_of source) (read_right text source read)

pub nesting_kept : (text : List ℕ) (source : ProgramTree) (named : NamedSizes) (bound : GraphTree) → reads text ≡ Ok source → binding (graph_of source) named ≡ Ok bound → Holds rule_5 bound
nesting_kept text source named bound read is = links_right text source named bound read (read_shaped text source read) is

pub shapes_kept : (text : List ℕ) (source : ProgramTree) (named : NamedSizes) (bound : GraphTree) → reads text ≡ Ok source → binding (graph_of source) named ≡ Ok bound → Holds rule_6 bound
shapes_kept text source named bound read is = shapes_bound source named bound (shapes_hold (graph_of source) (read_right text source read)) is
