-- Tasklets whose lines name connectors with as many subscripts as these have dimensions.
use Rattle.std.specs.Prelude.{◌≡◌, ℕ, List, [], ◌∷◌, Some, ⊤}
use Rattle.sd_lex.specs.PlainTree.{Expression, number, named, element_at, one, two, choice, Expressions, no_expression, and_expression, StatementTree, set, set_at, tasklet_branch, Block, no_statement, and_statement}
use Rattle.sd_graph.specs.declared.link.Link.{Link}
use Rattle.sd_program.specs.Names.{Name, Named, in_force}
use Rattle.sd_program.specs.Place.{length_of}
use Rattle.sd_task.specs.in_force.Subsets.{ranges_among}

-- after these, the connectors of links by their names, the newest first: each has the ranges of its subset as dimensions
abbrev pub dimensions_of : List Link → Named ℕ → Named ℕ
dimensions_of [] known = known
dimensions_of (link ∷ links) known = dimensions_of links ((link.connector, ranges_among link.memlet.subset.dims) ∷ known)

-- a connector has no dimensions, where one has this name
abbrev pub IsScalar : Named ℕ → Name → Type 0
IsScalar connectors name = (count : ℕ) → in_force connectors name ≡ Some count → count ≡ 0

-- where the inputs have these dimensions
module _ (ins : Named ℕ) where
  abbrev mutual
    -- what has subscripts is an input of as many dimensions, and an input without subscripts has none
    pub CountsInputs : Expression → Type 0
    CountsInputs (number value) = ⊤
    CountsInputs (named name) = IsScalar ins name
    CountsInputs (element_at name at) = (in_force ins name ≡ Some (length_of at)) × CountInputs at
    CountsInputs (one sign of) = CountsInputs of
    CountsInputs (two sign left right) = CountsInputs left × CountsInputs right
    CountsInputs (choice value when other) = CountsInputs value × (CountsInputs when × CountsInputs other)

    pub CountInputs : Expressions → Type 0
    CountInputs no_expression = ⊤
    CountInputs (and_expression first rest) = CountsInputs first × CountInputs rest

-- and the outputs have these
module _ (ins outs : Named ℕ) where
  abbrev mutual
    -- so it is of outputs that are given values
    pub IsCounted : StatementTree → Type 0
    IsCounted (set line name value) = IsScalar outs name × CountsInputs ins value
    IsCounted (set_at line name at value) = (in_force outs name ≡ Some (length_of at)) × (CountInputs ins at × CountsInputs ins value)
    IsCounted (tasklet_branch line when body other) = CountsInputs ins when × (AreCounted body × AreCounted other)
    IsCounted statement = ⊤

    pub AreCounted : Block → Type 0
    AreCounted no_statement = ⊤
    AreCounted (and_statement first rest) = IsCounted first × AreCounted rest
