-- What the statements of a program's own block do, loops and branches too.
use Rattle.std.specs.Prelude.{ℕ, ◌+◌, ℤ, pos, List, [], ◌∷◌, false}
use Rattle.sd_lex.specs.PlainTree.{named, two, StatementTree, for_loop, while_loop, branch, Block, no_statement, and_statement}
use Rattle.sd_lex.specs.declared.syntax.operator.TwoSign.TheVariants.{Less}
use Rattle.sd_work.specs.BigStep.{reached}
use Rattle.sd_program.specs.Names.{Name}
use Rattle.sd_program.specs.Declared.{containers_in, containers_in_all}
use Rattle.sd_says.specs.Exact.{exact_or, step_or_one}
use Rattle.sd_says.specs.Setting.{Setting, with_variables}
use Rattle.sd_says.specs.Declared.{Declaration}
use Rattle.sd_says.specs.Work.{Doing, followed_by}
use Rattle.sd_says.specs.Behind.{behind_one, behind_all}
use Rattle.sd_says.specs.Ways.{if_holds, rounds}
use Rattle.sd_says.specs.Items.{Calls, says_item}

-- in a round of a loop
abbrev pub in_round : Name → (value : ℤ) → Setting → Setting
in_round name value setting = with_variables ((name, value) ∷ []) setting

module _ (calls : Calls) (all : List Declaration) (most : ℕ) where
  abbrev mutual
    pub says_one : StatementTree → (next : ℕ) → Setting → Doing
    says_one (branch line when body other) next setting =
        if_holds setting line when (says_block body next setting) (says_block other (next + containers_in_all body) (behind_all all body next setting))
    says_one (while_loop line when body) next setting = rounds (λ value. setting) line when (says_block body next) (pos 0) most (pos 0)
    says_one (for_loop line name begin end step body) next setting =
        rounds (λ value. in_round name value setting) line (two Less (named name) end) (says_block body next)
        (step_or_one step) most (exact_or (pos 0) setting.variables begin)
    says_one statement next setting = says_item calls all most statement false next setting

    pub says_block : Block → (next : ℕ) → Setting → Doing
    says_block no_statement next setting = reached
    says_block (and_statement first rest) next setting =
        followed_by (says_one first next setting) (says_block rest (next + containers_in first) (behind_one all first next setting))
