-- The graph of a program that was read keeps the rule on nested graphs, but for shapes.
use Rattle.std.proofs.Common.{◌≡◌, ℕ, List, Ok}
use Rattle.sd_lex.specs.PlainTree.{ProgramTree}
use Rattle.sd_source.specs.source.SourceReading.{reads}
use Rattle.sd_read.proofs.readable_lemmas.Fields.{well_formed}
use Rattle.sd_graph.specs.PlainTree.{GraphTree}
use Rattle.sd_elab.specs.elab.Elaboration.{graph_of}
use Rattle.sd_valid.specs.SizeValues.{NamedSizes}
use Rattle.sd_valid.specs.Binding.{binding}
use Rattle.sd_validity.specs.rules.Failing.{Holds}
use Rattle.sd_validity.specs.rules.NestedLinks.{rule_5}
use Rattle.sd_made.specs.writes.Apart.{IsGraphApart}
use Rattle.sd_made.proofs.writes_lemmas.Bound.{bound_apart}
use Rattle.sd_made_valid.specs.nesting.Shaped.{IsShaped}
use Rattle.sd_made_valid.proofs.nesting_lemmas.Nested.{nesting_holds}
use Rattle.sd_made_valid.proofs.apart_lemmas.Texts.{calls_apart}

pub graph_apart : (text : List ℕ) (program : ProgramTree) (sizes : NamedSizes) (bound : GraphTree) → reads text ≡ Ok program → binding (graph_of program) sizes ≡ Ok bound → IsGraphApart bound
graph_apart text program sizes bound read is = bound_apart program sizes bound (well_formed text program read) (calls_apart text program read) is

pub links_right : (text : List ℕ) (program : ProgramTree) (sizes : NamedSizes) (bound : GraphTree) → reads text ≡ Ok program → IsShaped (graph_of program) → binding (graph_of program) sizes ≡ Ok bound → Holds rule_5 bound
links_right text program sizes bound read shaped is = nesting_holds program sizes bound (well_formed text program read) (calls_apart text program read) shaped is
