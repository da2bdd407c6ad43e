-- A source and an arrays file say what the run of their work comes to.
use Rattle.std.proofs.Common.{◌≡◌, ◌∙◌, ℕ, List, reverse, Some, Result, Ok, refl, ap, sym, subst}
use Rattle.std.specs.Prelude.{unwrap_or}
use Rattle.sd_lex.specs.PlainTree.{FunctionTree, ProgramTree}
use Rattle.sd_work.specs.Memory.{Memory}
use Rattle.sd_work.specs.Run.{Left, Sequential}
use Rattle.sd_work.specs.Step.{Outcome, Done, Faulted, Spent}
use Rattle.sd_graph.specs.PlainTree.{GraphTree}
use Rattle.sd_graph.specs.TreeParts.{containers_of}
use Rattle.sd_graph.specs.Unfold.{opening_memory}
use Rattle.sd_graph.specs.declared.place.Place.{Place}
use Rattle.sd_mem.specs.mem.GraphContents.{shapes_of}
use Rattle.sd_source.specs.source.SourceReading.{reads}
use Rattle.sd_valid.specs.Binding.{with_sizes, binding}
use Rattle.sd_json.specs.ArraysReading.{arrays_reading}
use Rattle.sd_json.specs.Given.{Contents}
use Rattle.sd_json.specs.Names.{names_in}
use Rattle.sd_json.specs.declared.error.InputError.{InputError}
use Rattle.sd_read.proofs.readable_lemmas.Fields.{well_formed}
use Rattle.sd_read.proofs.readable_lemmas.kept.Steps.{same_value}
use Rattle.sd_parse.specs.grammar.Programs.{tree_of}
use Rattle.sd_parse.proofs.grammar_lemmas.Lines.{read_is_tree}
use Rattle.sd_elab.specs.elab.Elaboration.{graph_of}
use Rattle.sd_says.specs.Says.{sizes_of, Says}
use Rattle.sd_tie.specs.programs.Programs.{AreFitting}
use Rattle.sd_tie.proofs.meant_lemmas.Sources.{source_fine, graph_latest, graph_turned}
use Rattle.sd_tie.proofs.meant_lemmas.Texts.{joined_whole, text_is_run, run_of_text}
use Rattle.sd_report.specs.write.RunText.{done_text, end_text}
use Rattle.sd_tool.specs.Answer.{status_of_end}
use Rattle.sd_tool.specs.Work.{Work, source_graph, prepared, run_of_work}
use Rattle.sd_tool.proofs.Prepared.{bound_is, elements_in, opens}
use Rattle.sd_promise.specs.Promise.{FilesSay}
use Rattle.sd_promise.specs.Source.{names_sought, file_read, memory_given, lines_of_last, text_said, status_said}
use Rattle.sd_promise.proofs.Given.{elements_given}
use Rattle.sd_promise.proofs.Graphs.{names_latest, memory_latest, lines_latest}
use Rattle.sd_promise.proofs.Sources.{has_source, own_graph}

-- what a source and an arrays file come to, in the words of the source
pub record ComesOf (source : ProgramTree) (arrays : List ℕ) (work : Work) : Type 0 where
  pub contents : Contents
  pub given : file_read source arrays ≡ Ok contents
  pub bound : binding (graph_of source) contents.sizes ≡ Ok work.tree
  pub memory : memory_given source contents ≡ work.memory
  pub lines : (memory : Memory) → done_text work.tree memory ≡ lines_of_last (sizes_of source contents.sizes) (reverse source.functions) memory

pub comes_of : (text : List ℕ) (source : ProgramTree) (arrays : List ℕ) (work : Work) → reads text ≡ Ok source → prepared (graph_of source) arrays ≡ Ok work → ComesOf source arrays work
comes_of text source arrays work reading comes =
    let opened = opens (graph_of source) arrays work comes in
    let contents : Contents = opened.contents in
    let functions : List FunctionTree = reverse source.functions in
    let fine : AreFitting functions = source_fine source (well_formed text source reading) (joined_whole text source reading) in
    let tree : graph_of source ≡ graph_latest source.symbols functions = graph_turned source in
    let sized : with_sizes (graph_latest source.symbols functions) contents.sizes ≡ work.tree =
    ap (λ tree. with_sizes tree contents.sizes) (sym tree) ∙ bound_is (graph_of source) work.tree contents.sizes opened.bound in
    let names : names_in (graph_of source) ≡ names_sought source.symbols functions = ap names_in tree ∙ names_latest source.symbols functions fine in
    record {
      contents = contents;
      given = subst (λ names. arrays_reading names arrays ≡ Ok contents) names opened.given;
      bound = opened.bound;
      memory = sym (memory_latest source.symbols functions fine contents.sizes (elements_in contents.arrays) (elements_given (names_in (graph_of source)) arrays contents opened.given)) ∙ ap (λ tree. opening_memory tree (elements_in contents.arrays)) sized ∙ opened.memory;
      lines = λ memory.
          subst (λ tree. done_text tree memory ≡ lines_of_last (sizes_of source contents.sizes) functions memory) sized
          (lines_latest source.symbols functions fine contents.sizes (record { shapes = shapes_of (containers_of (with_sizes (graph_latest source.symbols functions) contents.sizes)); contents = memory }));
    }

-- the text of an outcome
told : (source : ProgramTree) (arrays : List ℕ) (work : Work) (comes : ComesOf source arrays work) (turns : ℕ) (outcome : Outcome Place Left) →
    end_text work.tree turns outcome ≡ text_said source comes.contents.sizes turns outcome
told source arrays work comes turns (Done left) = comes.lines left.memory
told source arrays work comes turns (Faulted fault) = refl
told source arrays work comes turns Spent = refl

pub status_told : (outcome : Outcome Place Left) → status_of_end outcome ≡ status_said outcome
status_told (Done left) = refl
status_told (Faulted fault) = refl
status_told Spent = refl

-- a text that is a source by the grammar, and that has a graph, is read as this source
pub read_by_grammar : (text : List ℕ) (tree : GraphTree) (source : ProgramTree) → source_graph text ≡ Ok tree → tree_of text ≡ Some source → reads text ≡ Ok source
read_by_grammar text tree source is written =
    let found = has_source text tree is in
    found.1 ∙ ap Ok (ap (λ read. unwrap_or read source) (sym (read_is_tree text found.0 found.1) ∙ written))

-- ---- both ways

module _ (text arrays : List ℕ) (tree : GraphTree) (work : Work) (turns : ℕ) (outcome : Outcome Place Left) where
  pub run_is_said : source_graph text ≡ Ok tree → prepared tree arrays ≡ Ok work → Sequential (run_of_work work) turns outcome → FilesSay text arrays turns outcome (end_text work.tree turns outcome)
  run_is_said is comes ends =
      let found = has_source text tree is in
      let source : ProgramTree = found.0 in
      let of = comes_of text source arrays work found.1 (subst (λ tree. prepared tree arrays ≡ Ok work) (sym (own_graph text tree source is found.1)) comes) in
      let says : Says source of.contents.sizes work.memory turns outcome = run_of_text text source of.contents.sizes work.tree work.memory turns outcome found.1 of.bound ends in
      record {
        source = source;
        contents = of.contents;
        reading = read_is_tree text source found.1;
        given = of.given;
        says = subst (λ memory. Says source of.contents.sizes memory turns outcome) (sym of.memory) says;
        is = told source arrays work of turns outcome;
      }

  pub said_is_run : (printed : List ℕ) → source_graph text ≡ Ok tree → prepared tree arrays ≡ Ok work → FilesSay text arrays turns outcome printed →
      Sequential (run_of_work work) turns outcome × (printed ≡ end_text work.tree turns outcome)
  said_is_run printed is comes said =
      let source : ProgramTree = said.source in
      let reading : reads text ≡ Ok source = read_by_grammar text tree source is said.reading in
      let of = comes_of text source arrays work reading (subst (λ tree. prepared tree arrays ≡ Ok work) (sym (own_graph text tree source is reading)) comes) in
      let step : Result Contents InputError = Ok said.contents in
      let same : said.contents ≡ of.contents = same_value step of.contents (sym said.given ∙ of.given) in
      let says : Says source of.contents.sizes work.memory turns outcome =
      subst (λ memory. Says source of.contents.sizes memory turns outcome) of.memory (subst (λ contents. Says source contents.sizes (memory_given source contents) turns outcome) same said.says) in (
        text_is_run text source of.contents.sizes work.tree work.memory turns outcome reading of.bound says,
        said.is ∙ ap (λ (contents : Contents). text_said source contents.sizes turns outcome) same ∙ sym (told source arrays work of turns outcome),
      )
