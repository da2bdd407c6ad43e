-- The containers of a program's graph are those that the program declares.
use Rattle.std.proofs.Common.{◌≡◌, ◌∙◌, ℕ, zero, suc, ℤ, pos, List, [], ◌∷◌, ◌++◌, map, unsigned_abs, Bool, true, false, cond, ◌||◌, negsuc, int_lt, slice_index_or, refl, ap, sym, subst, append_assoc, append-nil}
use Rattle.std.specs.Prelude.{⊤}
use Rattle.std.specs.List.{list_any}
use Rattle.sd_num.specs.declared.width.Width.TheVariants.{W64}
use Rattle.sd_lex.specs.PlainTree.{Expressions, StatementTree, argument_array, local_array, local_stream, map_scope, consume_scope, for_loop, while_loop, branch, Block, no_statement, and_statement, FunctionTree}
use Rattle.sd_lex.specs.StatementKind.{has_connector}
use Rattle.sd_range.specs.Affine.{affine_value}
use Rattle.sd_range.specs.declared.affine.Affine.{Affine}
use Rattle.sd_graph.specs.ContainerParts as parts
use Rattle.sd_graph.specs.ContainerParts.{no_container, is_stream}
use Rattle.sd_graph.specs.declared.container.Container.{Container}
use Rattle.sd_graph.specs.declared.container.ContainerKind.{ContainerKind}
use Rattle.sd_graph.specs.declared.container.ContainerKind.TheVariants.{Argument, Transient, Private, Stream, PrivateStream}
use Rattle.sd_valid.specs.BoundExpression.{bound_affine, bound_container}
use Rattle.sd_valid.specs.Limits.{has_negative}
use Rattle.sd_valid.specs.SizedValues.{sized}
use Rattle.sd_program.specs.Names.{Name, Named}
use Rattle.sd_program.specs.Affines.{affine_number}
use Rattle.sd_program.specs.Bounds.{EachBound, EachExpression}
use Rattle.sd_program.specs.IsAffine.{IsAffine}
use Rattle.sd_program.specs.Every.{Every, EveryIn}
use Rattle.sd_program.specs.DeclaredNames.{container_names}
use Rattle.sd_task.specs.in_force.Ranges.{extents_of}
use Rattle.sd_task.specs.containers.Declarations.{Containers, element_name, with_element, array_kind, stream_kind, containers_with, containers_with_all, containers_of_function}
use Rattle.sd_says.specs.Held as held
use Rattle.sd_says.specs.Held.{array_of, a_stream}
use Rattle.sd_says.specs.Declared as said
use Rattle.sd_says.specs.Declared.{Owner, of_caller, of_run, of_scope, Declaration, owner_in, element_declared, array_declared, stream_declared, declared_of}
use Rattle.sd_tie.specs.elements.Tied.{shape_of}
use Rattle.sd_tie.proofs.elements_lemmas.Affines.{number_value}
use Rattle.sd_tie.specs.items.Standing.{owner_of, declared_by}
use Rattle.sd_tie.specs.programs.Programs.{symbols_of, values_of}
use Rattle.sd_tie.specs.items.Extents.{HasExtents, HaveExtents}
use Rattle.sd_tie.proofs.programs_lemmas.Sizes.{numbered, extents_said, extents_stay}
use Rattle.sd_tie.proofs.programs_lemmas.Units.{units_tied}

-- numbers none of which is negative
whole_again : (extent : ℤ) → int_lt extent (pos 0) ≡ false → pos (unsigned_abs extent) ≡ extent
whole_again (pos n) e = refl
whole_again (negsuc n) e = cc

neither : (first second : Bool) → (first || second) ≡ false → (first ≡ false) × (second ≡ false)
neither false second h = (refl, h)
neither true second h = cc

module _ (named : Named ℤ) where
  abbrev sizes : List ℤ
  sizes = values_of named

  numbers_again : (extents : List Affine) → list_any (λ (extent : Affine). int_lt extent.constant (pos 0)) (map (bound_affine sizes) extents) ≡ false →
      map (affine_value sizes) extents ≡ map pos (map (λ extent. unsigned_abs extent.constant) (map (bound_affine sizes) extents))
  numbers_again [] e = refl
  numbers_again (extent ∷ extents) e =
      let both = neither (int_lt (affine_value sizes extent) (pos 0)) (list_any (λ (extent : Affine). int_lt extent.constant (pos 0)) (map (bound_affine sizes) extents)) e in
      (λ i. sym (whole_again (affine_value sizes extent) both.0) i ∷ numbers_again extents both.1 i)

  -- what holds of a container of the graph with the sizes
  pub record IsRight (container : Container) : Type 0 where
    -- a stream has no extents
    pub bare : held.extents_of_shape (shape_of (bound_container sizes container)) ≡ parts.extents_of (bound_container sizes container)
    -- the extents are those numbers, whatever the values of other variables are
    pub extents : has_negative (bound_container sizes container) ≡ false → (values : List ℤ) →
        map (affine_value (sized sizes values)) container.extents ≡ map pos (held.extents_of_shape (shape_of (bound_container sizes container)))

  -- it is the container that is declared
  pub record IsAs (entry : Name × Container) (declaration : Declaration) : Type 0 where
    pub declared : declared_by sizes entry ≡ declaration
    pub right : IsRight entry.1

  abbrev pub AreAs : Containers → List Declaration → Type 0
  AreAs [] [] = ⊤
  AreAs [] (declaration ∷ declarations) = ⊥
  AreAs (entry ∷ entries) [] = ⊥
  AreAs (entry ∷ entries) (declaration ∷ declarations) = IsAs entry declaration × AreAs entries declarations

  as_joined : (first second : Containers) (one other : List Declaration) → AreAs first one → AreAs second other → AreAs (first ++ second) (one ++ other)
  as_joined [] second [] other all more = more
  as_joined [] second (declaration ∷ one) other all more = absurd all
  as_joined (entry ∷ first) second [] other all more = absurd all
  as_joined (entry ∷ first) second (declaration ∷ one) other all more = (all.0, as_joined first second one other all.1 more)

  -- ---- one container

  right_array : (kind : ContainerKind) → is_stream kind ≡ false → (extents : Expressions) → EachExpression IsAffine extents → IsRight (record { extents = extents_of (numbered named) extents; kind = kind; width = W64 })
  right_array Argument e extents affine = record { bare = refl; extents = λ none values. extents_stay named extents affine values ∙ numbers_again (extents_of (numbered named) extents) none }
  right_array Transient e extents affine = record { bare = refl; extents = λ none values. extents_stay named extents affine values ∙ numbers_again (extents_of (numbered named) extents) none }
  right_array Private e extents affine = record { bare = refl; extents = λ none values. extents_stay named extents affine values ∙ numbers_again (extents_of (numbered named) extents) none }
  right_array Stream e extents affine = cc
  right_array PrivateStream e extents affine = cc

  as_array : (kind : ContainerKind) (owner : Owner) → is_stream kind ≡ false → owner_of kind ≡ owner → (name : Name) (extents : Expressions) → EachExpression IsAffine extents →
      IsAs (name, record { extents = extents_of (numbered named) extents; kind = kind; width = W64 }) (array_declared named extents owner)
  as_array kind owner e of name extents affine = record { declared = made kind e of; right = right_array kind e extents affine }
    where
      made : (kind : ContainerKind) → is_stream kind ≡ false → owner_of kind ≡ owner → declared_by sizes (name, record { extents = extents_of (numbered named) extents; kind = kind; width = W64 }) ≡ array_declared named extents owner
      made Argument e of = λ i. record { shape = array_of (extents_said named extents affine i); width = W64; unit = units_tied (symbols_of named) extents affine i; owner = of i }
      made Transient e of = λ i. record { shape = array_of (extents_said named extents affine i); width = W64; unit = units_tied (symbols_of named) extents affine i; owner = of i }
      made Private e of = λ i. record { shape = array_of (extents_said named extents affine i); width = W64; unit = units_tied (symbols_of named) extents affine i; owner = of i }
      made Stream e of = cc
      made PrivateStream e of = cc

  as_local : (in_scope : Bool) (name : Name) (extents : Expressions) → EachExpression IsAffine extents →
      IsAs (name, record { extents = extents_of (numbered named) extents; kind = array_kind in_scope; width = W64 }) (array_declared named extents (owner_in in_scope))
  as_local true name extents affine = as_array Private of_scope refl refl name extents affine
  as_local false name extents affine = as_array Transient of_run refl refl name extents affine

  as_stream : (in_scope : Bool) (name : Name) → IsAs (name, record { extents = []; kind = stream_kind in_scope; width = W64 }) (stream_declared (owner_in in_scope))
  as_stream true name = record { declared = refl; right = record { bare = refl; extents = λ none values. refl } }
  as_stream false name = record { declared = refl; right = record { bare = refl; extents = λ none values. refl } }

  as_element : (name : Name) → IsAs (name, record { extents = affine_number (pos 1) ∷ []; kind = Private; width = W64 }) element_declared
  as_element name = record {
    declared = λ i. record { shape = array_of (unsigned_abs (number_value sizes (pos 1) i) ∷ []); width = W64; unit = true; owner = of_scope };
    right = record {
      bare = refl;
      extents = λ none values.
          (λ i. (number_value (sized sizes values) (pos 1) ∙ sym (number_value sizes (pos 1))) i ∷ []) ∙ numbers_again (affine_number (pos 1) ∷ []) none;
    };
  }

  -- ---- containers one after another

  -- behind these stand others, which are as they are declared
  abbrev pub Adds : (before after : Containers) → List Declaration → Type 0
  Adds before after declarations = (added : Containers) × (after ≡ before ++ added) × AreAs added declarations

  adds_none : (before : Containers) → Adds before before []
  adds_none before = ([], sym (append-nil before), tt)

  adds_one : (before : Containers) (entry : Name × Container) (declaration : Declaration) → IsAs entry declaration → Adds before (before ++ entry ∷ []) (declaration ∷ [])
  adds_one before entry declaration alike = (entry ∷ [], refl, (alike, tt))

  adds_two : (before middle after : Containers) (one other : List Declaration) → Adds before middle one → Adds middle after other → Adds before after (one ++ other)
  adds_two before middle after one other first second = (
    first.0 ++ second.0,
    second.1 ∙ ap (λ start. start ++ second.0) first.1 ∙ append_assoc before first.0 second.0,
    as_joined first.0 second.0 one other first.2 second.2,
  )

  module _ (declared : List Name) where
    consumed : (is_task : Bool) (before with all : Containers) (more : List Declaration) → Adds before with (element_declared ∷ []) → Adds with all more → Adds before (cond is_task with all) (element_declared ∷ cond is_task [] more)
    consumed true before with all more first second = first
    consumed false before with all more first second = adds_two before with all (element_declared ∷ []) more first second

    mutual
      pub declared_as : (statement : StatementTree) (in_scope : Bool) (before : Containers) → Every (EachBound IsAffine) statement →
          Adds before (containers_with (numbered named) declared statement in_scope before) (said.declared named statement in_scope)
      declared_as (argument_array line name bits extents) in_scope before affine = adds_one before _ _ (as_array Argument of_caller refl refl name extents affine)
      declared_as (local_array line name extents bits) in_scope before affine = adds_one before _ _ (as_local in_scope name extents affine)
      declared_as (local_stream line name bits size) in_scope before affine = adds_one before _ _ (as_stream in_scope name)
      declared_as (map_scope line parameters ranges body) in_scope before affine = all_declared_as body true before affine.1
      declared_as (consume_scope line stream size name element worker body) in_scope before affine =
          let with : Containers = with_element declared before (has_connector body) element in
          consumed (has_connector body) before with (containers_with_all (numbered named) declared body true with) (said.declared_all named body true)
          (adds_one before _ _ (as_element (element_name declared before (has_connector body) element))) (all_declared_as body true with affine.1)
      declared_as (for_loop line name begin end step body) in_scope before affine = all_declared_as body in_scope before affine.1
      declared_as (while_loop line when body) in_scope before affine = all_declared_as body in_scope before affine.1
      declared_as (branch line when body other) in_scope before affine =
          let middle : Containers = containers_with_all (numbered named) declared body in_scope before in
          adds_two before middle (containers_with_all (numbered named) declared other in_scope middle) (said.declared_all named body in_scope) (said.declared_all named other in_scope)
          (all_declared_as body in_scope before affine.1.0) (all_declared_as other in_scope middle affine.1.1)
      declared_as statement in_scope before affine = adds_none before

      pub all_declared_as : (block : Block) (in_scope : Bool) (before : Containers) → EveryIn (EachBound IsAffine) block →
          Adds before (containers_with_all (numbered named) declared block in_scope before) (said.declared_all named block in_scope)
      all_declared_as no_statement in_scope before affine = adds_none before
      all_declared_as (and_statement first rest) in_scope before affine =
          let middle : Containers = containers_with (numbered named) declared first in_scope before in
          adds_two before middle (containers_with_all (numbered named) declared rest in_scope middle) (said.declared named first in_scope) (said.declared_all named rest in_scope)
          (declared_as first in_scope before affine.0) (all_declared_as rest in_scope middle affine.1)

  -- ---- a program

  pub program_declared : (function : FunctionTree) → EveryIn (EachBound IsAffine) function.arguments → EveryIn (EachBound IsAffine) function.body →
      AreAs (containers_of_function (symbols_of named) function) (declared_of named function)
  program_declared function arguments body =
      let names : List Name = container_names function in
      let given : Containers = containers_with_all (numbered named) names function.arguments false [] in
      let whole = adds_two [] given (containers_with_all (numbered named) names function.body false given) (said.declared_all named function.arguments false) (said.declared_all named function.body false)
      (all_declared_as names function.arguments false [] arguments) (all_declared_as names function.body false given body) in
      subst (λ containers. AreAs containers (declared_of named function)) (sym whole.1) whole.2

  pub all_declared : (containers : Containers) (declarations : List Declaration) → AreAs containers declarations → declarations ≡ map (declared_by sizes) containers
  all_declared [] [] all = refl
  all_declared [] (declaration ∷ declarations) all = absurd all
  all_declared (entry ∷ containers) [] all = absurd all
  all_declared (entry ∷ containers) (declaration ∷ declarations) all = (λ i. sym all.0.declared i ∷ all_declared containers declarations all.1 i)

  -- each container by its number
  pub right_at : (containers : Containers) (declarations : List Declaration) → AreAs containers declarations → HaveExtents sizes containers → (number : ℕ) →
      IsRight (slice_index_or containers number no_container).1 × HasExtents sizes (slice_index_or containers number no_container)
  right_at [] declarations all have number = (record { bare = refl; extents = λ none values. refl }, refl)
  right_at (entry ∷ containers) [] all have number = absurd all
  right_at (entry ∷ containers) (declaration ∷ declarations) all have zero = (all.0.right, have.0)
  right_at (entry ∷ containers) (declaration ∷ declarations) all have (suc number) = right_at containers declarations all.1 have.1 number
