-- The program of a text that was read is well formed and joined, so its graph does what it says.
use Rattle.std.proofs.Common.{◌≡◌, ℕ, List, Ok}
use Rattle.sd_lex.specs.PlainTree.{ProgramTree}
use Rattle.sd_work.specs.Memory.{Memory}
use Rattle.sd_work.specs.Step.{Outcome}
use Rattle.sd_work.specs.Run.{Left, Sequential}
use Rattle.sd_graph.specs.PlainTree.{GraphTree}
use Rattle.sd_graph.specs.Unfold.{run_of}
use Rattle.sd_graph.specs.declared.place.Place.{Place}
use Rattle.sd_valid.specs.SizeValues.{NamedSizes}
use Rattle.sd_valid.specs.Binding.{binding}
use Rattle.sd_source.specs.source.SourceReading.{reads}
use Rattle.sd_read.proofs.readable_lemmas.Fields.{well_formed}
use Rattle.sd_elab.specs.elab.Elaboration.{graph_of}
use Rattle.sd_says.specs.Says.{Says}
use Rattle.sd_tie.specs.programs.Joined.{IsJoinedWhole}
use Rattle.sd_tie.proofs.joined_lemmas.Read.{tasklets_joined}
use Rattle.sd_tie.proofs.plain_elements_lemmas.Read.{elements_plain}
use Rattle.sd_tie.proofs.meant_lemmas.Sources.{source_is_run, run_is_said}

pub joined_whole : (text : List ℕ) (program : ProgramTree) → reads text ≡ Ok program → IsJoinedWhole program
joined_whole text program is = record { joined = tasklets_joined text program is; plain = elements_plain text program is }

pub text_is_run : (text : List ℕ) (program : ProgramTree) (sizes : NamedSizes) (bound : GraphTree) (memory : Memory) (turns : ℕ) (outcome : Outcome Place Left) →
    reads text ≡ Ok program → binding (graph_of program) sizes ≡ Ok bound → Says program sizes memory turns outcome → Sequential (run_of bound memory) turns outcome
text_is_run text program sizes bound memory turns outcome is = source_is_run program sizes bound memory turns outcome (well_formed text program is) (joined_whole text program is)

pub run_of_text : (text : List ℕ) (program : ProgramTree) (sizes : NamedSizes) (bound : GraphTree) (memory : Memory) (turns : ℕ) (outcome : Outcome Place Left) →
    reads text ≡ Ok program → binding (graph_of program) sizes ≡ Ok bound → Sequential (run_of bound memory) turns outcome → Says program sizes memory turns outcome
run_of_text text program sizes bound memory turns outcome is = run_is_said program sizes bound memory turns outcome (well_formed text program is) (joined_whole text program is)
