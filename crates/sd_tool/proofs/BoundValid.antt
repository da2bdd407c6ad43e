-- What a call runs is valid: its graph is that of a program that was read, with sizes that are not refused.
use Rattle.std.proofs.Common.{◌≡◌, ℕ, List, Result, Ok, Err, refl, sym, subst}
use Rattle.sd_lex.specs.PlainTree.{ProgramTree}
use Rattle.sd_source.specs.source.SourceReading.{reads}
use Rattle.sd_context.specs.declared.blocks.refusal.Refusal.{Refusal}
use Rattle.sd_graph.specs.PlainTree.{GraphTree}
use Rattle.sd_mem.specs.mem.Shaped.{Shaped}
use Rattle.sd_valid.specs.Binding.{binding}
use Rattle.sd_valid.specs.SizeValues.{NamedSizes}
use Rattle.sd_valid.specs.declared.error.BindError.{BindError}
use Rattle.sd_validity.specs.rules.Valid.{IsValid}
use Rattle.sd_json.specs.ArraysReading.{arrays_reading}
use Rattle.sd_json.specs.Given.{Contents}
use Rattle.sd_json.specs.GivenMemory.{memory_given}
use Rattle.sd_json.specs.Names.{names_in}
use Rattle.sd_json.specs.declared.array.Array.{Array}
use Rattle.sd_json.specs.declared.error.InputError.{InputError}
use Rattle.sd_elab.specs.elab.Elaboration.{graph_of}
use Rattle.sd_made_valid.proofs.valid_lemmas.Rules.{text_valid}
use Rattle.sd_tool.specs.Work.{Work, graph_read, source_graph, opened, bound, given, prepared, input_refusal, binding_refusal}
use Rattle.sd_tool.proofs.Reading.{same_Ok, Ok_or_Err}

-- the program that was read, whose graph it is
source_program : (reading : Result ProgramTree Refusal) (tree : GraphTree) → graph_read reading ≡ Ok tree → (program : ProgramTree) × (reading ≡ Ok program) × (graph_of program ≡ tree)
source_program (Ok program) tree is = (program, refl, same_Ok (graph_read (Ok program)) (graph_of program) tree refl is)
source_program (Err refusal) tree is = absurd (Ok_or_Err (graph_read (Err refusal)) tree refusal is refl)

opened_valid : (tree : GraphTree) (memory : Result Shaped InputError) (work : Work) → IsValid tree → opened tree memory ≡ Ok work → IsValid work.tree
opened_valid tree (Ok memory) work valid is =
    subst (λ w. IsValid w.tree) (same_Ok (opened tree (Ok memory)) (record { tree = tree; memory = memory.contents }) work refl is) valid
opened_valid tree (Err error) work valid is = absurd (Ok_or_Err (opened tree (Err error)) work (input_refusal error) is refl)

sized_valid : (sized : Result GraphTree BindError) (arrays : List Array) (work : Work) → ((tree : GraphTree) → sized ≡ Ok tree → IsValid tree) → bound sized arrays ≡ Ok work → IsValid work.tree
sized_valid (Ok tree) arrays work valid is = opened_valid tree (memory_given tree arrays) work (valid tree refl) is
sized_valid (Err error) arrays work valid is = absurd (Ok_or_Err (bound (Err error) arrays) work (binding_refusal error) is refl)

given_valid : (tree : GraphTree) (reading : Result Contents InputError) (work : Work) → ((sizes : NamedSizes) (other : GraphTree) → binding tree sizes ≡ Ok other → IsValid other) → given tree reading ≡ Ok work → IsValid work.tree
given_valid tree (Ok contents) work valid is = sized_valid (binding tree contents.sizes) contents.arrays work (valid contents.sizes) is
given_valid tree (Err error) work valid is = absurd (Ok_or_Err (given tree (Err error)) work (input_refusal error) is refl)

-- the graph of a call's work is valid
pub work_valid : (text : List ℕ) (tree : GraphTree) (arrays : List ℕ) (work : Work) → source_graph text ≡ Ok tree → prepared tree arrays ≡ Ok work → IsValid work.tree
work_valid text tree arrays work is comes =
    let program = source_program (reads text) tree is in
    given_valid tree (arrays_reading (names_in tree) arrays) work
    (λ sizes other sized. text_valid text program.0 sizes other program.1 (subst (λ t. binding t sizes ≡ Ok other) (sym program.2) sized)) comes
