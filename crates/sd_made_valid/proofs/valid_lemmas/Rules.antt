-- The eight rules of the bound graph of a program that was read, together.
use Rattle.std.proofs.Common.{◌≡◌, ℕ, List, None, Ok}
use Rattle.sd_lex.specs.PlainTree.{ProgramTree}
use Rattle.sd_program.specs.WellFormed.{IsWellFormed}
use Rattle.sd_source.specs.source.SourceReading.{reads}
use Rattle.sd_read.proofs.readable_lemmas.Fields.{well_formed}
use Rattle.sd_graph.specs.PlainTree.{GraphTree}
use Rattle.sd_elab.specs.elab.Elaboration.{graph_of}
use Rattle.sd_valid.specs.SizeValues.{NamedSizes}
use Rattle.sd_valid.specs.Binding.{binding}
use Rattle.sd_validity.specs.rules.Valid.{IsValid, invalidity}
use Rattle.sd_validity.proofs.rules_lemmas.ValidLemmas.{none_where_valid}
use Rattle.sd_made.proofs.scopes_lemmas.Scopes.{names_hold}
use Rattle.sd_made_valid.proofs.counted_lemmas.Rule.{dimensions_kept}
use Rattle.sd_made.proofs.loops_lemmas.Transitions.{transitions_bound}
use Rattle.sd_made.proofs.places_lemmas.Bound.{streams_bound}
use Rattle.sd_made.proofs.places_lemmas.Sizes.{sizes_bound}
use Rattle.sd_made_valid.proofs.fits_lemmas.Read.{nesting_kept, shapes_kept}
use Rattle.sd_made_valid.proofs.within_lemmas.Texts.{text_within}

module _ (text : List ℕ) (program : ProgramTree) (sizes : NamedSizes) (bound : GraphTree) (reading : reads text ≡ Ok program) (is : binding (graph_of program) sizes ≡ Ok bound) where
  formed : IsWellFormed program
  formed = well_formed text program reading

  pub text_valid : IsValid bound
  text_valid = record {
    names = names_hold program sizes bound formed is;
    dimensions = dimensions_kept text program sizes bound reading is;
    transitions = transitions_bound program sizes bound formed is;
    streams = streams_bound program sizes bound formed is;
    nesting = nesting_kept text program sizes bound reading is;
    shapes = shapes_kept text program sizes bound reading is;
    limits = text_within text program sizes bound reading is;
    sizes = sizes_bound program sizes bound formed is;
  }

  pub text_none : invalidity bound ≡ None
  text_none = none_where_valid bound text_valid
