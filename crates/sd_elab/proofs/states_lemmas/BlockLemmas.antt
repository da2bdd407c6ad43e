-- Blocks, one statement after another.
use Rattle.std.proofs.Common.{◌≡◌, ◌∙◌, ℕ, suc, ◌+◌, ◌<◌, List, length, drop, slice_index_or, refl, ap, sym, add-one, drop-cons}
use Rattle.sd_graph.specs.PlainTree.{GraphTree}
use Rattle.sd_lex.specs.PlainTree.{Expression, number, named, element_at, one, two, choice, StatementTree, Block, and_statement}
use Rattle.sd_lex.specs.TreeFold.{statement_of, block_of}
use Rattle.sd_lex.specs.declared.syntax.statement.Statement.{Statement}
use Rattle.sd_program.specs.Bounds.{EachSubscript}
use Rattle.sd_program.specs.Declared.{states_in, states_in_all, containers_in, containers_in_all}
use Rattle.sd_program.specs.IsAffine.{IsAffine}
use Rattle.sd_program.specs.Names.{Name}
use Rattle.sd_elab.specs.items.Counts.{variables_in, variables_in_all}
use Rattle.sd_elab.specs.states.Standing.{Standing, behind, behind_all}
use Rattle.sd_elab.specs.states.Threaded.{Threaded, threaded, threaded_all}
use Rattle.sd_elab.proofs.states_lemmas.StandingLemmas.{same_standing, in_two_blocks}

-- the statements from one on
pub block_more : (body : List Statement) (i : ℕ) (statement : Statement) → i < length body → statement ≡ slice_index_or body i statement →
    block_of (drop i body) ≡ and_statement (statement_of statement) (block_of (drop (i + 1) body))
block_more body i statement below is =
    rw (add-one, drop-cons body i statement below)
    (ap (λ (first : Statement). and_statement (statement_of first) (block_of (drop (suc i) body))) (sym is))

-- one statement more of a block
pub threaded_more : (graphs : Name → GraphTree) (statement : StatementTree) (block rest : Block) (at new_at : Standing) (t new_t : Threaded) →
    block ≡ and_statement statement rest → new_at ≡ behind statement at → new_t ≡ threaded graphs statement at t →
    threaded_all graphs rest new_at new_t ≡ threaded_all graphs block at t
threaded_more graphs statement block rest at new_at t new_t more stands threads =
    ap (λ (n : Standing). threaded_all graphs rest n new_t) stands
    ∙ ap (λ (n : Threaded). threaded_all graphs rest (behind statement at) n) threads
    ∙ ap (λ (b : Block). threaded_all graphs b at t) (sym more)

behind_first : (statement : StatementTree) (rest : Block) (at : Standing) → behind_all rest (behind statement at) ≡ behind_all (and_statement statement rest) at
behind_first statement rest at =
    same_standing (behind_all rest (behind statement at)) (behind_all (and_statement statement rest) at)
    (in_two_blocks at.state (states_in statement) (states_in_all rest))
    (in_two_blocks at.container (containers_in statement) (containers_in_all rest))
    (in_two_blocks at.variable (variables_in statement) (variables_in_all rest)) refl

pub behind_more : (statement : StatementTree) (block rest : Block) (at new_at : Standing) →
    block ≡ and_statement statement rest → new_at ≡ behind statement at → behind_all rest new_at ≡ behind_all block at
behind_more statement block rest at new_at more stands =
    ap (behind_all rest) stands ∙ behind_first statement rest at ∙ ap (λ (b : Block). behind_all b at) (sym more)

-- an affine expression has no element
pub affine_subscripts : (Holds : Expression → Type 0) (expression : Expression) → IsAffine expression → EachSubscript Holds expression
affine_subscripts Holds (number value) is = tt
affine_subscripts Holds (named name) is = tt
affine_subscripts Holds (element_at name at) is = absurd is
affine_subscripts Holds (one sign of) is = affine_subscripts Holds of is.1
affine_subscripts Holds (two sign left right) is = (affine_subscripts Holds left is.1.0, affine_subscripts Holds right is.1.1)
affine_subscripts Holds (choice value when other) is = absurd is
