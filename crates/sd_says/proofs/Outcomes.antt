-- Each source says one outcome.
use Rattle.std.proofs.Common.{◌≡◌, ◌∙◌, ℕ, ℤ, sym}
use Rattle.sd_lex.specs.PlainTree.{ProgramTree}
use Rattle.sd_work.specs.Memory.{Memory}
use Rattle.sd_work.specs.Step.{Outcome}
use Rattle.sd_work.specs.Run.{Left}
use Rattle.sd_graph.specs.declared.place.Place.{Place}
use Rattle.sd_program.specs.Names.{Named}
use Rattle.sd_says.specs.Says.{Says}
use Rattle.sd_says.proofs.Total as leaves
use Rattle.sd_says.proofs.Unique as leaves_alone
use Rattle.sd_says.proofs.Same.{said-same}

pub source-comes : (source : ProgramTree) (sizes : Named ℤ) (memory : Memory) (turns : ℕ) → (outcome : Outcome Place Left) × Says source sizes memory turns outcome
source-comes source sizes memory turns =
    let h = leaves.source-comes source sizes memory turns in
    (h.0, (h.1.0, sym (said-same h.1.0 source sizes memory turns) ∙ h.1.1))

pub source-once : (source : ProgramTree) (sizes : Named ℤ) (memory : Memory) (turns : ℕ) (outcome other : Outcome Place Left) → Says source sizes memory turns outcome → Says source sizes memory turns other → outcome ≡ other
source-once source sizes memory turns outcome other h g =
    leaves_alone.source-once source sizes memory turns outcome other (h.0, said-same h.0 source sizes memory turns ∙ h.1) (g.0, said-same g.0 source sizes memory turns ∙ g.1)
