-- In the bound graph of a program that was read the variables of maps and loops have ranks.
use Rattle.std.proofs.Common.{◌≡◌, ◌∙◌, ℕ, ◌≤◌, List, [], ◌∷◌, length, Ok, true, reverse, refl, sym, subst, arith}
use Rattle.std.specs.List.{AllByRecursion}
use Rattle.std.proofs.lemmas.List.{reverse-reverse}
use Rattle.sd_lex.specs.PlainTree.{StatementTree, FunctionTree, ProgramTree}
use Rattle.sd_graph.specs.PlainTree.{no_state, GraphTree}
use Rattle.sd_program.specs.Limits.{HasFewParameters, HasFewAbout}
use Rattle.sd_program.specs.Names.{Name, Named}
use Rattle.sd_program.specs.Place.{Place, EveryOfFunction, EveryFunction, EveryPlace}
use Rattle.sd_program.specs.WellFormed.{IsWellFormed}
use Rattle.sd_source.specs.source.SourceReading.{reads}
use Rattle.sd_elab.specs.items.Graphs.{graph_named}
use Rattle.sd_elab.specs.elab.Elaboration.{function_graph, graphs_with, latest, graph_of}
use Rattle.sd_made.specs.elab.Throughout.{Throughout}
use Rattle.sd_made.proofs.elab_lemmas.ThroughoutLemmas.{program_throughout}
use Rattle.sd_valid.specs.SizeValues.{NamedSizes, sizes_in}
use Rattle.sd_valid.specs.Binding.{binding}
use Rattle.sd_validity.specs.rules.GraphParts.{symbols_in}
use Rattle.sd_validity.specs.rules.Places.{all_places}
use Rattle.sd_read.proofs.readable_lemmas.Fields.{well_formed, functions_of_program}
use Rattle.sd_read.specs.blocks.Blocks.{HasBlock, HasOtherEnd}
use Rattle.sd_read.proofs.blocks_lemmas.Texts.{blocks_written, ends_name_others}
use Rattle.sd_made.proofs.places_lemmas.Bound.{bound_is}
use Rattle.sd_made.proofs.places_lemmas.Givens.{all_reversed, everywhere_at, both_places}
use Rattle.sd_made.proofs.places_lemmas.Sizes.{sizes_counted_in}
use Rattle.sd_made_valid.specs.ranks.Ranks.{are_variables_ranked}
use Rattle.sd_made_valid.proofs.ranks_lemmas.Items.{Given}
use Rattle.sd_made_valid.proofs.ranks_lemmas.Namings.{HasLevels, function_levels}
use Rattle.sd_made_valid.proofs.ranks_lemmas.Places.{all_ranked_at}

-- ---- what is given of each statement

abbrev IsLittle : Place → StatementTree → Type 0
IsLittle place statement = HasFewAbout place statement × HasFewParameters statement

abbrev IsWhole : Place → StatementTree → Type 0
IsWhole place statement = HasBlock statement × HasOtherEnd statement

given : (text : List ℕ) (program : ProgramTree) → reads text ≡ Ok program → EveryPlace Given program
given text program read =
    let well : IsWellFormed program = well_formed text program read in
    both_places IsLittle IsWhole Given (λ place statement little whole. (little, whole)) program
    (both_places HasFewAbout (λ place. HasFewParameters) IsLittle (λ place statement about few. (about, few)) program well.depth (everywhere_at HasFewParameters program well.parameters))
    (both_places (λ place. HasBlock) (λ place. HasOtherEnd) IsWhole (λ place statement written others. (written, others)) program (everywhere_at HasBlock program (blocks_written text program read))
    (everywhere_at HasOtherEnd program (ends_name_others text program read)))

-- ---- all programs

abbrev IsFounded : FunctionTree → Type 0
IsFounded function = (above : List FunctionTree) × EveryOfFunction Given above function

founded : (functions : List FunctionTree) → EveryFunction Given functions → AllByRecursion IsFounded functions
founded [] given = tt
founded (function ∷ above) given = ((above, given.0), founded above given.1)

abbrev none_levels : (symbols : ℕ) → HasLevels symbols no_state
none_levels symbols = record { level = λ number. 0; placed = tt; lower = tt; items = tt; begun = λ state. tt }

program_levels : (program : ProgramTree) → EveryPlace Given program → Throughout (HasLevels (length program.symbols)) (graph_of program)
program_levels program given =
    program_throughout (HasLevels (length program.symbols)) (none_levels (length program.symbols)) program.symbols IsFounded
    (λ graphs function is. function_levels program.symbols graphs is.0 function is.1) program.functions
    (subst (AllByRecursion IsFounded) (reverse-reverse program.functions) (all_reversed IsFounded (reverse program.functions) (founded (reverse program.functions) given)))

-- ---- size symbols

latest_symbols : (symbols : List Name) (before : Named GraphTree) (functions : List FunctionTree) → symbols_in (latest before) ≡ length symbols → symbols_in (latest (graphs_with symbols before functions)) ≡ length symbols
latest_symbols symbols before [] e = e
latest_symbols symbols before (function ∷ functions) e = latest_symbols symbols ((function.name, function_graph symbols (graph_named before) function) ∷ before) functions refl

symbols_counted : (symbols : List Name) (functions : List FunctionTree) → 1 ≤ length functions → symbols_in (latest (graphs_with symbols [] functions)) ≡ length symbols
symbols_counted symbols [] some = absurd (omega (arith, some))
symbols_counted symbols (function ∷ functions) some = latest_symbols symbols ((function.name, function_graph symbols (graph_named []) function) ∷ []) functions refl

pub variables_ranked : (text : List ℕ) (program : ProgramTree) (known : NamedSizes) (bound : GraphTree) → reads text ≡ Ok program → binding (graph_of program) known ≡ Ok bound →
    AllByRecursion (λ place. are_variables_ranked place place.thing ≡ true) (all_places bound)
variables_ranked text program known bound read is =
    let counted : length (sizes_in known (graph_of program)) ≡ length program.symbols =
    sizes_counted_in program known (well_formed text program read) ∙ symbols_counted program.symbols program.functions (functions_of_program text program read) in
    subst (λ bound. AllByRecursion (λ place. are_variables_ranked place place.thing ≡ true) (all_places bound)) (bound_is (graph_of program) bound known is)
    (all_ranked_at (sizes_in known (graph_of program)) (graph_of program)
    (subst (λ count. Throughout (HasLevels count) (graph_of program)) (sym counted) (program_levels program (given text program read))))
