-- The containers that a program declares, in the order of the text, and the memories that hold them.
use Rattle.std.specs.Prelude.{ℕ, suc, nat_eq, ℤ, pos, List, [], ◌∷◌, ◌++◌, map, Bool, true, false, ◌&&◌, cond, if◌then◌else◌, slice_index_or}
use Rattle.std.specs.List.{list_any, list_all}
use Rattle.std.specs.Ordering.{int_eq}
use Rattle.sd_lex.specs.PlainTree.{Expressions, StatementTree, argument_array, local_array, local_stream, map_scope, consume_scope, for_loop, while_loop, branch, Block, no_statement, and_statement, FunctionTree}
use Rattle.sd_lex.specs.StatementKind.{has_connector}
use Rattle.sd_num.specs.declared.width.Width.{Width}
use Rattle.sd_num.specs.declared.width.Width.TheVariants.{W64}
use Rattle.sd_work.specs.Memory.{Memory, absent}
use Rattle.sd_work.specs.Change.{changed_at}
use Rattle.sd_program.specs.Names.{Name, Named}
use Rattle.sd_graph.specs.Context.{Reach}
use Rattle.sd_graph.specs.Unfold.{one_element}
use Rattle.sd_says.specs.Exact.{exact_all, extents_in}
use Rattle.sd_says.specs.Held.{Shape, array_of, a_stream, Held, opening_contents, own_reach}
use Rattle.sd_says.specs.Setting.{taken_in}

-- whose a container is: the caller gives it, it belongs to the runs of the program, or to the points or elements of a scope
pub data Owner : Type 0 where
  of_caller : Owner
  of_run : Owner
  of_scope : Owner

pub record Declaration : Type 0 where
  pub shape : Shape
  -- of its elements or values; each declaration says 64 bits
  pub width : Width
  -- its extents are written as 1 each
  pub unit : Bool
  pub owner : Owner

abbrev pub owner_in : (in_scope : Bool) → Owner
owner_in true = of_scope
owner_in false = of_run

-- the extents are 1 each, with these sizes
abbrev pub are_ones : (sizes : Named ℤ) → Expressions → Bool
are_ones sizes extents = list_all (int_eq (pos 1)) (exact_all sizes extents)

-- the extents are the constant 1 each, whatever the sizes are: so it is of affine expressions that are 1 where each size is 0, and where one of them is 1 and the others are 0
abbrev pub is_unit : (symbols : List Name) → Expressions → Bool
is_unit symbols extents = are_ones [] extents && list_all (λ symbol. are_ones ((symbol, pos 1) ∷ []) extents) symbols

-- the element of a consume scope: an array with one element
abbrev pub element_declared : Declaration
element_declared = record { shape = array_of (1 ∷ []); width = W64; unit = true; owner = of_scope }

abbrev pub stream_declared : Owner → Declaration
stream_declared owner = record { shape = a_stream; width = W64; unit = true; owner = owner }

-- the size symbols with their values
module _ (sizes : Named ℤ) where
  abbrev pub array_declared : Expressions → Owner → Declaration
  array_declared extents owner =
      record { shape = array_of (extents_in (taken_in sizes []) extents); width = W64; unit = is_unit (map (λ size. size.0) sizes) extents; owner = owner }

  abbrev mutual
    -- the containers that a statement declares, in the blocks below it too
    pub declared : StatementTree → (in_scope : Bool) → List Declaration
    declared (argument_array line name bits extents) in_scope = array_declared extents of_caller ∷ []
    declared (local_array line name extents bits) in_scope = array_declared extents (owner_in in_scope) ∷ []
    declared (local_stream line name bits size) in_scope = stream_declared (owner_in in_scope) ∷ []
    declared (map_scope line parameters ranges body) in_scope = declared_all body true
    declared (consume_scope line from size name element worker body) in_scope =
        element_declared ∷ cond (has_connector body) [] (declared_all body true)
    declared (for_loop line name begin end step body) in_scope = declared_all body in_scope
    declared (while_loop line when body) in_scope = declared_all body in_scope
    declared (branch line when body other) in_scope = declared_all body in_scope ++ declared_all other in_scope
    declared statement in_scope = []

    pub declared_all : Block → (in_scope : Bool) → List Declaration
    declared_all no_statement in_scope = []
    declared_all (and_statement first rest) in_scope = declared first in_scope ++ declared_all rest in_scope

  -- those of a program, its arguments first
  abbrev pub declared_of : FunctionTree → List Declaration
  declared_of function = declared_all function.arguments false ++ declared_all function.body false

-- ---- by number

-- what a number stands for that no container has: an array of a scope, without extents
abbrev pub no_declaration : Declaration
no_declaration = record { shape = array_of []; width = W64; unit = true; owner = of_scope }

abbrev pub declaration_at : List Declaration → (number : ℕ) → Declaration
declaration_at all number = slice_index_or all number no_declaration

-- the container of this number, reached so
abbrev pub held_with : List Declaration → (number : ℕ) → Reach → Held
held_with all number reach = record { shape = (declaration_at all number).shape; unit = (declaration_at all number).unit; reach = reach }

-- the container of this number of the innermost memory
abbrev pub own_held : List Declaration → (number : ℕ) → Held
own_held all number = held_with all number (own_reach (declaration_at all number).shape number)

-- ---- memories

-- a memory in which those containers begin of which this holds, each at its width; each other one is absent
abbrev pub memory_where : (has : ℕ → Owner → Bool) → (number : ℕ) → List Declaration → Memory
memory_where has number [] = []
memory_where has number (first ∷ rest) = (if has number first.owner then opening_contents first.width first.shape else absent) ∷ memory_where has (suc number) rest

abbrev pub is_of_run : Owner → Bool
is_of_run of_caller = false
is_of_run of_run = true
is_of_run of_scope = false

-- the memory of a run of a program
abbrev pub run_memory : List Declaration → Memory
run_memory all = memory_where (λ number owner. is_of_run owner) 0 all

-- the memory of a point or an element with these containers
abbrev pub scope_memory : List Declaration → (own : List ℕ) → Memory
scope_memory all own = memory_where (λ number owner. list_any (nat_eq number) own) 0 all

-- the memory of an element, whose container has the value taken, at its width
abbrev pub element_memory : List Declaration → (element : ℕ) → (own : List ℕ) → (value : ℤ) → Memory
element_memory all element own value = changed_at element (λ old. one_element (declaration_at all element).width value) (scope_memory all (element ∷ own))
