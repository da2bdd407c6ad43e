-- Tasklets whose lines name connectors and containers that are there.
use Rattle.std.specs.Prelude.{◌≡◌, List, [], ◌∷◌, true, bytes_eq, ⊤}
use Rattle.std.specs.List.{list_any}
use Rattle.sd_lex.specs.PlainTree.{Expression, number, named, element_at, one, two, choice, Expressions, no_expression, and_expression, StatementTree, input, output, set, set_at, tasklet_branch, Block, no_statement, and_statement}
use Rattle.sd_program.specs.Names.{Name, Named}
use Rattle.sd_program.specs.IsAffine.{IsAffine}
use Rattle.sd_program.specs.Bounds.{EachBound}
use Rattle.sd_program.specs.Place.{Holder}
use Rattle.sd_program.specs.Known.{KnowsContainers}

-- the names of the inputs that a block declares
abbrev pub input_named : StatementTree → List Name → List Name
input_named (input line connector memlet) rest = connector ∷ rest
input_named statement rest = rest

abbrev pub inputs_named : Block → List Name
inputs_named no_statement = []
inputs_named (and_statement first rest) = input_named first (inputs_named rest)

-- the names of its outputs
abbrev pub output_named : StatementTree → List Name → List Name
output_named (output line connector memlet) rest = connector ∷ rest
output_named statement rest = rest

abbrev pub outputs_named : Block → List Name
outputs_named no_statement = []
outputs_named (and_statement first rest) = output_named first (outputs_named rest)

-- one of the names is this one
abbrev pub IsAmong : List Name → Name → Type 0
IsAmong names name = list_any (bytes_eq name) names ≡ true

-- where the inputs have these names
module _ (ins : List Name) where
  abbrev mutual
    -- what has subscripts is an input
    pub SubscriptsInputs : Expression → Type 0
    SubscriptsInputs (number value) = ⊤
    SubscriptsInputs (named name) = ⊤
    SubscriptsInputs (element_at name at) = IsAmong ins name × SubscriptInputs at
    SubscriptsInputs (one sign of) = SubscriptsInputs of
    SubscriptsInputs (two sign left right) = SubscriptsInputs left × SubscriptsInputs right
    SubscriptsInputs (choice value when other) = SubscriptsInputs value × (SubscriptsInputs when × SubscriptsInputs other)

    pub SubscriptInputs : Expressions → Type 0
    SubscriptInputs no_expression = ⊤
    SubscriptInputs (and_expression first rest) = SubscriptsInputs first × SubscriptInputs rest

-- and the outputs have these
module _ (ins outs : List Name) where
  abbrev mutual
    -- what is assigned to at subscripts is an output
    pub IsConnected : StatementTree → Type 0
    IsConnected (set line name value) = SubscriptsInputs ins value
    IsConnected (set_at line name at value) = IsAmong outs name × (SubscriptInputs ins at × SubscriptsInputs ins value)
    IsConnected (tasklet_branch line when body other) = SubscriptsInputs ins when × (AreConnected body × AreConnected other)
    IsConnected statement = ⊤

    pub AreConnected : Block → Type 0
    AreConnected no_statement = ⊤
    AreConnected (and_statement first rest) = IsConnected first × AreConnected rest

-- each container that a line names is known, and its affine places are affine
abbrev pub AreLinesKnown : Named Holder → Block → Type 0
AreLinesKnown known no_statement = ⊤
AreLinesKnown known (and_statement first rest) = (KnowsContainers known first × EachBound IsAffine first) × AreLinesKnown known rest
