-- Blocks, and names that are noted one statement after another.
use Rattle.std.proofs.Common.{◌≡◌, ◌∙◌, ℕ, ◌+◌, ◌<◌, ◌∷◌, List, length, drop, slice_index_or, ap, sym}
use Rattle.std.proofs.lemmas.List.{drop_more}
use Rattle.std.specs.declared.alloc.Global.{Global}
use Rattle.std.specs.declared.vec.Vec.{Vec}
use Rattle.sd_lex.specs.PlainTree.{StatementTree, branch, Block, and_statement}
use Rattle.sd_lex.specs.TreeFold.{statement_step, statement_of, block_of, expression_of}
use Rattle.sd_lex.specs.declared.syntax.expression.Expr.{Expr}
use Rattle.sd_lex.specs.declared.syntax.statement.Statement.{Statement}
use Rattle.sd_lex.specs.declared.syntax.statement.Statement.TheOpen as layers
use Rattle.sd_lex.specs.declared.syntax.statement.Statement.TheFolds.{fold-roll-Statement}
use Rattle.sd_lex.specs.declared.syntax.statement.Statement.TheVariants.{If, rolls-If}
use Rattle.sd_elab.specs.needs.Needed.{called_by, called_in}
use Rattle.sd_source.specs.nodes.Items.{Name}
use Rattle.sd_source.specs.nodes.Names.{noted}
use Rattle.sd_source.proofs.nodes_lemmas.NameLemmas.{noted_both}

-- the plain tree of a branch
pub branch_told : (line : ℕ) (when : Expr) (body other : Vec Statement Global) →
    statement_of (If line when body other) ≡ branch line (expression_of when) (block_of body.items) (block_of other.items)
branch_told line when body other =
    ap statement_of (sym (rolls-If line when body other)) ∙ fold-roll-Statement StatementTree statement_step (layers.If line when body other)

-- the statements from one on
pub block_more : (body : List Statement) (i : ℕ) (statement : Statement) → i < length body → statement ≡ slice_index_or body i statement →
    block_of (drop i body) ≡ and_statement (statement_of statement) (block_of (drop (i + 1) body))
block_more body i statement below is =
    ap block_of (drop_more body i statement below ∙ ap (λ (first : Statement). first ∷ drop (i + 1) body) (sym is))

-- the names of one statement more
pub noted_more : (known new all : List Name) (statement : StatementTree) (block rest : Block) →
    block ≡ and_statement statement rest → new ≡ noted known (called_by statement) → noted known (called_in block) ≡ all → noted new (called_in rest) ≡ all
noted_more known new all statement block rest more noting before =
    ap (λ (names : List Name). noted names (called_in rest)) noting
    ∙ sym (noted_both known (called_by statement) (called_in rest))
    ∙ ap (λ (b : Block). noted known (called_in b)) (sym more)
    ∙ before

-- the names of both blocks of a branch
pub noted_branch : (known between new : List Name) (statement : StatementTree) (line : ℕ) (when : Expr) (body other first second : Block) →
    statement ≡ branch line (expression_of when) body other → first ≡ body → second ≡ other →
    between ≡ noted known (called_in first) → new ≡ noted between (called_in second) → new ≡ noted known (called_by statement)
noted_branch known between new statement line when body other first second tree same same_too noting noting_too =
    noting_too
    ∙ ap (λ (names : List Name). noted names (called_in second)) noting
    ∙ ap (λ (b : Block). noted (noted known (called_in first)) (called_in b)) same_too
    ∙ ap (λ (b : Block). noted (noted known (called_in b)) (called_in other)) same
    ∙ sym (noted_both known (called_in body) (called_in other))
    ∙ ap (λ (s : StatementTree). noted known (called_by s)) (sym tree)
