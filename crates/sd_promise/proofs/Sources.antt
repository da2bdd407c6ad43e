-- A source that has a graph.
use Rattle.std.proofs.Common.{◌≡◌, ◌∙◌, ℕ, List, Result, Ok, Err, refl, ap, sym}
use Rattle.sd_lex.specs.PlainTree.{ProgramTree}
use Rattle.sd_graph.specs.PlainTree.{GraphTree}
use Rattle.sd_context.specs.declared.blocks.refusal.Refusal.{Refusal}
use Rattle.sd_source.specs.source.SourceReading.{reads}
use Rattle.sd_read.proofs.readable_lemmas.kept.Steps.{refused_is_none, same_value}
use Rattle.sd_elab.specs.elab.Elaboration.{graph_of}
use Rattle.sd_tool.specs.Work.{graph_read, source_graph}

-- ---- a source

-- a text with a graph is a source
pub has_source : (text : List ℕ) (tree : GraphTree) → source_graph text ≡ Ok tree → (source : ProgramTree) × (reads text ≡ Ok source)
has_source text tree is = by_reading (reads text) is where
  by_reading : (reading : Result ProgramTree Refusal) → graph_read reading ≡ Ok tree → (source : ProgramTree) × (reading ≡ Ok source)
  by_reading (Ok source) is = (source, refl)
  by_reading (Err refusal) is = refused_is_none refusal tree is

-- and the graph is its own
pub own_graph : (text : List ℕ) (tree : GraphTree) (source : ProgramTree) → source_graph text ≡ Ok tree → reads text ≡ Ok source → graph_of source ≡ tree
own_graph text tree source is reading = same_value (graph_read (Ok source)) tree (sym (ap graph_read reading) ∙ is)
