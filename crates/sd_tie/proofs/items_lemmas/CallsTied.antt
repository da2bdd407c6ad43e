-- A nested graph reaches its arguments as a called program does.
use Rattle.std.proofs.Common.{◌≡◌, ◌∙◌, ℕ, zero, suc, ◌≤◌, List, [], ◌∷◌, length, Option, Some, None, if◌then◌else◌, slice_get, refl, ap, arith}
use Rattle.std.specs.List.{AllByRecursion}
use Rattle.std.specs.Bool.{⊤}
use Rattle.sd_lex.specs.PlainTree.{Dimension}
use Rattle.sd_range.specs.Subset.{inside}
use Rattle.sd_graph.specs.ContainerParts.{Containers, container_at, is_argument, extents_of}
use Rattle.sd_graph.specs.Context.{Context, own_reach, raised}
use Rattle.sd_graph.specs.Unfold.{reach_through, reach_inside}
use Rattle.sd_graph.specs.declared.link.Link.{Link}
use Rattle.sd_program.specs.Names.{Name, Named}
use Rattle.sd_program.specs.IsAffine.{IsAffine}
use Rattle.sd_program.specs.Bounds.{EachDimension}
use Rattle.sd_program.specs.Place.{Holder}
use Rattle.sd_program.specs.Known.{IsPart}
use Rattle.sd_task.specs.task.Table.{Table}
use Rattle.sd_elab.specs.items.Items.{call_links}
use Rattle.sd_says.specs.Setting.{Setting}
use Rattle.sd_says.specs.Parts.{Part, index_at}
use Rattle.sd_says.specs.Items.{parts_passed}
use Rattle.sd_tie.specs.elements.Tied.{Tied, AreNumbered}
use Rattle.sd_tie.proofs.elements_lemmas.Places.{index_of_dims}
use Rattle.sd_tie.proofs.elements_lemmas.PartsKnown.{IsName, part_known}
use Rattle.sd_tie.proofs.elements_lemmas.PartsTied.{Moves, part_tied}
use Rattle.sd_tie.specs.items.Passed.{through, passed_reach}

-- a link moves a part, where there is one
abbrev MovesIf : Context → Option Link → Option Part → Type 0
MovesIf context None None = ⊤
MovesIf context None (Some part) = ⊥
MovesIf context (Some link) None = ⊥
MovesIf context (Some link) (Some part) = Moves context link part

through_tied : (context : Context) (link : Option Link) (part : Option Part) → MovesIf context link part → (inner : Containers) (number : ℕ) → reach_through context link inner number ≡ through inner number part
through_tied context None None h inner number = refl
through_tied context None (Some part) h inner number = absurd h
through_tied context (Some link) None h inner number = absurd h
through_tied context (Some link) (Some part) h inner number =
    (λ i. raised (record (h.reach i) { find = λ index. if inside (extents_of (container_at inner number)) index then (h.reach i).find ((index_of_dims context.values link.memlet.subset.dims index ∙ ap (λ axes. index_at axes index) h.axes) i) else None }))

module _ (known : Named Holder) (table : Table) (setting : Setting) (context : Context) (tied : Tied table setting context) (are : AreNumbered known table.containers) where
  arguments_move : (arguments : List (Name × List Dimension)) (parameters : Containers) → length arguments ≤ length parameters → AllByRecursion (λ argument. IsPart known argument.0 argument.1) arguments →
      AllByRecursion (λ argument. EachDimension IsAffine argument.1) arguments → (number : ℕ) → MovesIf context (slice_get (call_links table arguments parameters) number) (slice_get (parts_passed setting arguments) number)
  arguments_move [] parameters enough knows affine number = tt
  arguments_move (argument ∷ arguments) [] enough knows affine number = absurd (omega (arith, enough))
  arguments_move (argument ∷ arguments) (parameter ∷ parameters) enough knows affine zero =
      let name : IsName known argument.0 = part_known known argument.0 argument.1 knows.0 in
      part_tied known table setting context tied are parameter.0 argument.0 name.0 name.1 argument.1 affine.0
  arguments_move (argument ∷ arguments) (parameter ∷ parameters) enough knows affine (suc number) = arguments_move arguments parameters (omega (arith, enough)) knows.1 affine.1 number

  pub reach_tied : (arguments : List (Name × List Dimension)) (parameters inner : Containers) → length arguments ≤ length parameters → AllByRecursion (λ argument. IsPart known argument.0 argument.1) arguments →
      AllByRecursion (λ argument. EachDimension IsAffine argument.1) arguments → reach_inside context (call_links table arguments parameters) inner ≡ passed_reach inner (parts_passed setting arguments)
  reach_tied arguments parameters inner enough knows affine =
      (λ i number. if is_argument (container_at inner number).kind
      then through_tied context (slice_get (call_links table arguments parameters) number) (slice_get (parts_passed setting arguments) number) (arguments_move arguments parameters enough knows affine number) inner number i
      else own_reach inner number)
