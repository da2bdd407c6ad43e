-- The containers in force behind a statement, and those of a scope.
use Rattle.std.specs.Prelude.{ℕ, ◌+◌, List, [], ◌∷◌}
use Rattle.sd_lex.specs.PlainTree.{StatementTree, local_array, local_stream, for_loop, while_loop, branch, Block, no_statement, and_statement}
use Rattle.sd_program.specs.Declared.{containers_in, containers_in_all}
use Rattle.sd_says.specs.Declared.{Declaration, own_held}
use Rattle.sd_says.specs.Setting.{Setting, with_container}

-- before these numbers, that of the container which a statement declares itself, where the next one has this number
abbrev pub own_before : StatementTree → (next : ℕ) → List ℕ → List ℕ
own_before (local_array line name extents bits) next rest = next ∷ rest
own_before (local_stream line name bits size) next rest = next ∷ rest
own_before statement next rest = rest

-- the numbers of the containers that the block of a scope declares itself, those of scopes in it aside
abbrev pub own_of : Block → (next : ℕ) → List ℕ
own_of no_statement next = []
own_of (and_statement first rest) next = own_before first next (own_of rest (next + containers_in first))

-- the containers of the program
module _ (all : List Declaration) where
  -- behind a statement of a scope the container that it declares is in force
  abbrev pub behind : StatementTree → (next : ℕ) → Setting → Setting
  behind (local_array line name extents bits) next setting = with_container name (own_held all next) setting
  behind (local_stream line name bits size) next setting = with_container name (own_held all next) setting
  behind statement next setting = setting

  -- behind a statement of a program: those that the blocks of loops and branches declare too
  abbrev mutual
    pub behind_one : StatementTree → (next : ℕ) → Setting → Setting
    behind_one (for_loop line name begin end step body) next setting = behind_all body next setting
    behind_one (while_loop line when body) next setting = behind_all body next setting
    behind_one (branch line when body other) next setting = behind_all other (next + containers_in_all body) (behind_all body next setting)
    behind_one statement next setting = behind statement next setting

    pub behind_all : Block → (next : ℕ) → Setting → Setting
    behind_all no_statement next setting = setting
    behind_all (and_statement first rest) next setting = behind_all rest (next + containers_in first) (behind_one first next setting)
