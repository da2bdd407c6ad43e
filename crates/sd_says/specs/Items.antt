-- What the statements of programs and scopes do, but loops and branches.
use Rattle.std.specs.Prelude.{ℕ, ◌+◌, List, [], ◌∷◌, map, Bool, true, if◌then◌else◌}
use Rattle.std.specs.List.{zip}
use Rattle.sd_lex.specs.PlainTree.{Dimension, StatementTree, assign, copy, reduce, map_scope, tasklet, consume_scope, call, Block, no_statement, and_statement}
use Rattle.sd_lex.specs.StatementKind.{has_connector}
use Rattle.sd_range.specs.Points.{tuples}
use Rattle.sd_work.specs.BigStep.{reached}
use Rattle.sd_graph.specs.Context.{Reach}
use Rattle.sd_graph.specs.declared.place.Frame.{Frame}
use Rattle.sd_program.specs.Names.{Name}
use Rattle.sd_program.specs.Declared.{containers_in}
use Rattle.sd_says.specs.Exact.{ranges_in}
use Rattle.sd_says.specs.Held.{Held}
use Rattle.sd_says.specs.Setting.{Setting, held_by, frames_at, place_at, with_container, inside_showing, at_point}
use Rattle.sd_says.specs.Declared.{Declaration, own_held, scope_memory, element_memory}
use Rattle.sd_says.specs.Parts.{Part, part_in}
use Rattle.sd_says.specs.Work.{Doing, followed_by, within}
use Rattle.sd_says.specs.Effects.{effects_at, instance_at}
use Rattle.sd_says.specs.Connectors.{element_inlet}
use Rattle.sd_says.specs.Pieces.{element_effects, tasklet_effects, copied, reduced}
use Rattle.sd_says.specs.Behind.{own_of, behind}
use Rattle.sd_says.specs.Ways.{one_by_one, takes}

-- what a call of a program does with parts of the caller's containers, with these frames round it; with at most so many tests of a loop and takes of a scope
abbrev pub Calls : Type 0
Calls = Name → (arguments : List Part) → (around : List Frame) → (most : ℕ) → Doing

-- the parts that a call passes
abbrev pub parts_passed : Setting → List (Name × List Dimension) → List Part
parts_passed setting arguments = map (λ argument. part_in setting argument.0 argument.1) arguments

module _ (calls : Calls) (all : List Declaration) (most : ℕ) where
  abbrev mutual
    -- a statement, where the next container that is declared has this number; a declaration does nothing
    pub says_item : StatementTree → (in_scope : Bool) → (next : ℕ) → Setting → Doing
    says_item (assign line name at add value) in_scope next setting = instance_at (place_at setting line) (element_effects setting in_scope name at add value)
    says_item (copy line to to_dimensions from from_dimensions) in_scope next setting =
        effects_at (place_at setting line) (copied (part_in setting from from_dimensions) (part_in setting to to_dimensions))
    says_item (reduce line lambda from to axis identity) in_scope next setting =
        effects_at (place_at setting line) (reduced lambda (part_in setting from []) (part_in setting to []) axis identity)
    says_item (tasklet line body) in_scope next setting = instance_at (place_at setting line) (tasklet_effects setting [] body)
    says_item (call line name arguments) in_scope next setting = calls name (parts_passed setting arguments) (frames_at setting line) most
    -- its block for each point of its ranges, in their order
    says_item (map_scope line parameters ranges body) in_scope next setting =
        one_by_one (λ point. within (scope_memory all (own_of body next)) (says_body body next (at_point (zip parameters point) setting)))
        (tuples (ranges_in setting.variables ranges))
    -- its block for the oldest value, until the stream is empty
    says_item (consume_scope line stream size name element worker body) in_scope next setting =
        let from : Reach = (held_by setting stream).reach in
        let own : Held = own_held all next in
        takes from.level from.container
        (λ value.
        let inside : Setting = inside_showing ((element, value) ∷ []) setting in
        within (element_memory all next (own_of body (next + 1)) value)
        (if has_connector body then instance_at (place_at inside line) (tasklet_effects inside ((element, element_inlet own) ∷ []) body)
        else says_body body (next + 1) (with_container element own inside)))
        most
    says_item statement in_scope next setting = reached

    -- the block of a scope
    pub says_body : Block → (next : ℕ) → Setting → Doing
    says_body no_statement next setting = reached
    says_body (and_statement first rest) next setting =
        followed_by (says_item first true next setting) (says_body rest (next + containers_in first) (behind all first next setting))
