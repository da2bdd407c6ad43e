-- Programs above a place, and the names that a line puts in force there.
use Rattle.std.proofs.Common.{◌≡◌, suc, List, [], ◌∷◌, length, Bool, true, false, not, ◌||◌, if◌then◌else◌, Option, Some, is_some, bytes_eq, refl, sym, ap, ◌∙◌, subst, arith}
use Rattle.std.specs.Bool.{⊤}
use Rattle.std.proofs.lemmas.List.{length-map}
use Rattle.sd_lex.specs.PlainTree.{Expressions, no_expression, and_expression, StatementTree, argument_array, local_array, local_stream, assign, copy, reduce, map_scope, tasklet, consume_scope, call, for_loop, while_loop, branch, input, output, set, set_at, tasklet_branch, FunctionTree}
use Rattle.sd_line.specs.declared.line.head.BlockKind.{BlockKind}
use Rattle.sd_names.specs.declared.meaning.Container.TheVariants.{Array}
use Rattle.sd_names.specs.declared.meaning.Meaning.{Meaning}
use Rattle.sd_names.specs.declared.meaning.Meaning.TheVariants.{Variable, Program as Program_name}
use Rattle.sd_names.specs.Names.{Name, Names, listed, put, meaning_of, container_of, is_free, is_among, reserved, with_meaning, all_meaning}
use Rattle.sd_names.specs.Expressions.{affine_list, expression_list}
use Rattle.sd_names.specs.Extents.{or_one}
use Rattle.sd_refusal.specs.OverLimit.{is_tasklet}
use Rattle.sd_context.specs.context.Context.{Branch, Opener, file, function, statement, consumer, if_block, else_block, OpenBlock}
use Rattle.sd_program.specs.Names.{in_force as in_force'}
use Rattle.sd_program.specs.Calls.{argument_counts}
use Rattle.sd_program.specs.Place.{of_dimensions, Place, length_of, dimensions_of, in_consume}
use Rattle.sd_read.proofs.readable_lemmas.kept.Passing.{neither}
use Rattle.sd_read.proofs.readable_lemmas.kept.InForce.{holder_of, listed-put}
use Rattle.sd_read.proofs.readable_lemmas.places.Placed.{over, through, begins_by, begins, place_at, SignaturesAgree}

-- ---- programs above

pub programs_through : (branches : List Branch) (place : Place) → (through branches place).programs ≡ place.programs
programs_through [] place = refl
programs_through (b ∷ branches) place = programs_through branches (over b.statements place)

programs_by : (s : StatementTree) (place : Place) → (begins_by s place).programs ≡ place.programs
programs_by (argument_array at name bits extents) place = refl
programs_by (local_array at name extents bits) place = refl
programs_by (local_stream at name bits size) place = refl
programs_by (assign at name subscripts add value) place = refl
programs_by (copy at to to_dimensions from from_dimensions) place = refl
programs_by (reduce at lambda from to axis identity) place = refl
programs_by (map_scope at parameters ranges body) place = refl
programs_by (tasklet at body) place = refl
programs_by (consume_scope at from size name element worker body) place = refl
programs_by (call at name arguments) place = refl
programs_by (for_loop at name begin end step body) place = refl
programs_by (while_loop at when body) place = refl
programs_by (branch at when body other) place = refl
programs_by (input at connector memlet) place = refl
programs_by (output at connector memlet) place = refl
programs_by (set at name value) place = refl
programs_by (set_at at name subscripts value) place = refl
programs_by (tasklet_branch at when body other) place = refl

programs_consumed : (test : Bool) (element : Name) (place : Place) → (in_consume test element place).programs ≡ place.programs
programs_consumed true element place = refl
programs_consumed false element place = refl

programs_begin : (arguments : List StatementTree) (kind : BlockKind) (opener : Opener) (place : Place) → (begins arguments kind opener place).programs ≡ place.programs
programs_begin arguments kind file place = refl
programs_begin arguments kind (function name) place = refl
programs_begin arguments kind (statement s) place = programs_by s place
programs_begin arguments kind (consumer line from size name element worker) place = programs_consumed (is_tasklet kind) element place
programs_begin arguments kind (if_block earlier when) place = programs_through earlier place
programs_begin arguments kind (else_block earlier) place = programs_through earlier place

pub programs_at : (programs : List FunctionTree) (arguments : List StatementTree) (inner : OpenBlock) (outer : List OpenBlock) → (place_at programs arguments inner outer).programs ≡ programs
programs_at programs arguments inner [] = refl
programs_at programs arguments inner (about ∷ outer) =
    programs_begin arguments inner.kind inner.opener (over about.statements (place_at programs arguments about outer)) ∙ programs_at programs arguments about outer

-- ---- where branches have ended

pub through_depth : (branches : List Branch) (place : Place) → (through branches place).depth ≡ place.depth
through_depth [] place = refl
through_depth (b ∷ branches) place = through_depth branches (over b.statements place)

pub through_around : (branches : List Branch) (place : Place) → (through branches place).around ≡ place.around
through_around [] place = refl
through_around (b ∷ branches) place = through_around branches (over b.statements place)

-- ---- meanings

abbrev IsCallableMeaning : Option Meaning → Type 0
IsCallableMeaning (Some (Program_name (Some signature'))) = ⊤
IsCallableMeaning other = ⊥

-- a name that is declared, and that may not be called
pub put_meaning : (meanings : List (Name × Meaning)) (name : Name) (meaning : Meaning) (programs : List FunctionTree) → (IsCallableMeaning (Some meaning) → ⊥) → SignaturesAgree meanings programs →
    SignaturesAgree (put meanings name meaning) programs
put_meaning meanings name meaning programs none agree wanted signature' is = by_test (bytes_eq wanted name) (sym (listed-put meanings name meaning wanted) ∙ is) where
  by_test : (test : Bool) → (if test then Some meaning else listed meanings wanted) ≡ Some (Program_name (Some signature')) → in_force' (argument_counts programs) wanted ≡ Some (length signature'.parameters)
  by_test true is = absurd (none (subst IsCallableMeaning (sym is) tt))
  by_test false is = agree wanted signature' is

pub put_variables : (parameters : List Name) (names : Names) (programs : List FunctionTree) → SignaturesAgree names.meanings programs → SignaturesAgree (all_meaning Variable names parameters).meanings programs
put_variables [] names programs agree = agree
put_variables (parameter ∷ parameters) names programs agree =
    put_variables parameters (with_meaning names parameter Variable) programs (put_meaning names.meanings parameter Variable programs (λ none. none) agree)

pub same_containers : (parameters : List Name) (names : Names) → (all_meaning Variable names parameters).containers ≡ names.containers
same_containers [] names = refl
same_containers (parameter ∷ parameters) names = same_containers parameters (with_meaning names parameter Variable)

-- ---- new names

pub free_container : (names : Names) (name : Name) → is_free names name ≡ true → is_some (container_of names name) ≡ false
free_container names name free =
    let none = by_not (is_among reserved name || is_some (meaning_of names name) || is_some (container_of names name) || is_among names.declared name) free in
    let first = neither (is_among reserved name || is_some (meaning_of names name) || is_some (container_of names name)) (is_among names.declared name) none in
    (neither (is_among reserved name || is_some (meaning_of names name)) (is_some (container_of names name)) first.0).1 where
      by_not : (test : Bool) → not test ≡ true → test ≡ false
      by_not true is = sym is
      by_not false is = refl

listed_count : (es : Expressions) → length (expression_list es) ≡ length_of es
listed_count no_expression = refl
listed_count (and_expression first rest) = ap suc (listed_count rest) ∙ omega arith

-- the dimensions of a local array and of an argument
pub local_holder : (names : Names) (extents : Expressions) → holder_of (Array (affine_list names extents)) ≡ of_dimensions (length_of extents)
local_holder names extents = ap of_dimensions (length-map (expression_list extents) _ ∙ listed_count extents)

pub argument_holder : (names : Names) (extents : Expressions) → holder_of (Array (or_one (affine_list names extents))) ≡ of_dimensions (dimensions_of extents)
argument_holder names no_expression = refl
argument_holder names (and_expression first rest) = local_holder names (and_expression first rest)
