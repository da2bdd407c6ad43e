-- What is printed of a run whose source is a program by the grammar.
use Rattle.std.proofs.Common.{◌≡◌, ◌∙◌, inl, inr, ℕ, List, Result, Ok, Err, refl, ap, sym, subst}
use Rattle.std.specs.Prelude.{unwrap_or}
use Rattle.sd_io.specs.Count.{HasRisen}
use Rattle.sd_lex.specs.PlainTree.{ProgramTree}
use Rattle.sd_context.specs.declared.blocks.refusal.Refusal.{Refusal}
use Rattle.sd_source.specs.source.SourceReading.{reads}
use Rattle.sd_parse.proofs.grammar_lemmas.Lines.{read_is_tree}
use Rattle.sd_elab.specs.elab.Elaboration.{graph_of}
use Rattle.sd_graph.specs.PlainTree.{GraphTree}
use Rattle.sd_race.specs.race.Pairs.{IsGraphAccepted}
use Rattle.sd_words.specs.Command.{Call, Run, to_run}
use Rattle.sd_tool.specs.declared.ending.ArraysRefusal.{ArraysRefusal}
use Rattle.sd_tool.specs.Accepted.{IsRaceFree}
use Rattle.sd_tool.specs.Answer.{source_refused, arrays_refused}
use Rattle.sd_tool.specs.Files.{ShelfUse}
use Rattle.sd_tool.specs.Ends.{SinkUse, Ends}
use Rattle.sd_tool.specs.Headline.{Prints, PrintsUnlessRefused}
use Rattle.sd_tool.specs.Told.{TellsArrays, Asks, Presents, Chained}
use Rattle.sd_tool.specs.Work.{Work, graph_read, prepared}
use Rattle.sd_tool.proofs.AcceptedScopes.{free_is_accepted}
use Rattle.sd_tool.proofs.EndLemmas.{prints_from_end, written_from_end}
use Rattle.sd_tool.proofs.Only.{refused_source, refused_arrays}
use Rattle.sd_tool.proofs.Prepared.{prepared_is}
use Rattle.sd_tool.proofs.RunOutcome.{ends_somehow}
use Rattle.sd_tool.proofs.StatusEnds.{asked_run}

module _ (words : List (List ℕ)) (shelf : ShelfUse) (sink : SinkUse) (status : ℕ) (call : Call) (run : Run) where
  pub asked_prints : (work : Work) (other : GraphTree) → Asks words shelf call work → Chained shelf call.chain work.tree other → call.command ≡ to_run run → IsGraphAccepted other → ¬ HasRisen sink.faults_before sink.faults_after → Ends words shelf sink status →
      Prints work run.turns sink status
  asked_prints work other asks makes is accepted quiet ends =
      let ended = ends_somehow words shelf call work asks run.turns in
      prints_from_end words shelf sink status work run.turns ended.0 ended.1 (asked_run words shelf call work other asks makes run ended.0 is accepted ended.1) quiet ends

  module _ (work : Work) (other : GraphTree) (presents : Presents words shelf call work) (makes : Chained shelf call.chain work.tree other) where
    -- a source that is read is this program, and has its graph
    tells_so : (program : ProgramTree) → reads presents.source ≡ Ok program → TellsArrays words shelf call presents.source (graph_of presents.program) presents.arrays
    tells_so program is =
        let same : program ≡ presents.program = ap (λ read. unwrap_or read program) (sym (read_is_tree presents.source program is) ∙ presents.is) in
        record {
          before = presents.tells;
          within = presents.within;
          has_graph = ap graph_read is ∙ ap (λ program. graph_read (Ok program)) same;
          told = presents.told;
          quiet = presents.quiet;
        }

    by_arrays : TellsArrays words shelf call presents.source (graph_of presents.program) presents.arrays → call.command ≡ to_run run → IsRaceFree other → ¬ HasRisen sink.faults_before sink.faults_after → Ends words shelf sink status →
        (comes : Result Work ArraysRefusal) → prepared (graph_of presents.program) presents.arrays ≡ comes → PrintsUnlessRefused work run.turns sink status
    by_arrays tells is free quiet ends (Ok found) comes =
        let same : found ≡ work = sym (prepared_is (graph_of presents.program) presents.arrays presents.entries found presents.has comes) ∙ presents.comes in
        let asks : Asks words shelf call work = record {
          source = presents.source;
          tree = graph_of presents.program;
          arrays = presents.arrays;
          tells = tells;
          within = presents.arrays_within;
          comes = subst (λ work. prepared (graph_of presents.program) presents.arrays ≡ Ok work) same comes;
        } in
        inl (asked_prints work other asks makes is (free_is_accepted other free) quiet ends)
    by_arrays tells is free quiet ends (Err refusal) comes =
        elim (written_from_end words shelf sink status (arrays_refused refusal) (refused_arrays words shelf call presents.source (graph_of presents.program) presents.arrays tells refusal presents.arrays_within comes) quiet ends) [
          | inl told ↦ inr (inr (inl told.0))
          | inr none ↦ inr (inr (inr none))
        ]

    pub presented_prints : call.command ≡ to_run run → IsRaceFree other → ¬ HasRisen sink.faults_before sink.faults_after → Ends words shelf sink status → PrintsUnlessRefused work run.turns sink status
    presented_prints is free quiet ends = by_reading (reads presents.source) refl where
      by_reading : (read : Result ProgramTree Refusal) → reads presents.source ≡ read → PrintsUnlessRefused work run.turns sink status
      by_reading (Ok program) read = by_arrays (tells_so program read) is free quiet ends (prepared (graph_of presents.program) presents.arrays) refl
      by_reading (Err refusal) read =
          elim (written_from_end words shelf sink status (source_refused refusal) (refused_source words shelf call presents.source presents.tells refusal presents.within (ap graph_read read)) quiet ends) [
            | inl told ↦ inr (inl told.0)
            | inr none ↦ inr (inr (inr none))
          ]
