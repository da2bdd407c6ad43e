-- The container of each element of a consume scope has the element's name, up to `$`.
use Rattle.std.proofs.Common.{◌≡◌, ◌∙◌, ℕ, zero, suc, ◌+◌, pos, List, [], ◌∷◌, ◌++◌, length, Bool, true, false, not, cond, ◌||◌, nat_eq, bytes_eq, decimal, refl, ap, sym, subst, arith, append_assoc}
use Rattle.std.specs.List.{list_any}
use Rattle.std.proofs.Math.Seq.{get_or-append_seam}
use Rattle.sd_num.specs.declared.width.Width.TheVariants.{W64}
use Rattle.sd_lex.proofs.TextLaws.{run_more, run_none}
use Rattle.sd_lex.specs.PlainTree.{StatementTree, map_scope, consume_scope, for_loop, while_loop, branch, Block, no_statement, and_statement}
use Rattle.sd_lex.specs.StatementKind.{has_connector}
use Rattle.sd_graph.specs.ContainerParts.{no_container, name_at}
use Rattle.sd_graph.specs.Context.{source_name}
use Rattle.sd_graph.specs.declared.container.Container.{Container}
use Rattle.sd_graph.specs.declared.container.ContainerKind.TheVariants.{Private}
use Rattle.sd_program.specs.Names.{Name, Named}
use Rattle.sd_program.specs.Affines.{affine_number}
use Rattle.sd_program.specs.Declared.{containers_in, containers_in_all}
use Rattle.sd_program.specs.Every.{Every, EveryIn}
use Rattle.sd_program.specs.Place.{Place, past, past_all, in_map, in_loop, in_consume, EveryAt, EveryFrom}
use Rattle.sd_program.specs.Known.{IsPlaced}
use Rattle.sd_task.specs.containers.Declarations.{Containers, name_with_number, first_free, names_in_use, element_name, with_element, containers_with, containers_with_all}
use Rattle.sd_made.proofs.elab_lemmas.ContainersMade.{Begins, first_begins, counted, all_made, element_longer, no_containers}
use Rattle.sd_tie.specs.items.Standing.{HasElements, HaveElements}
use Rattle.sd_tie.specs.programs.Joined.{HasPlainElement}

-- ---- names without `$`

neither : (first second : Bool) → (first || second) ≡ false → (first ≡ false) × (second ≡ false)
neither false second h = (refl, h)
neither true second h = cc

same_order : (letter : ℕ) → nat_eq 36 letter ≡ false → nat_eq letter 36 ≡ false
same_order letter e = grind (arith, e)

-- what stands behind a `$` is left out
cut_off : (name rest : Name) → list_any (nat_eq 36) name ≡ false → source_name (name ++ 36 ∷ rest) ≡ name
cut_off [] rest plain = run_none (λ letter. not (nat_eq letter 36)) 36 rest refl
cut_off (letter ∷ name) rest plain =
    let both = neither (nat_eq 36 letter) (list_any (nat_eq 36) name) plain in
    run_more (λ letter. not (nat_eq letter 36)) letter (name ++ 36 ∷ rest) (ap not (same_order letter both.0)) ∙ ap (λ more. letter ∷ more) (cut_off name rest both.1)

kept_whole : (name : Name) → list_any (nat_eq 36) name ≡ false → source_name name ≡ name
kept_whole [] plain = refl
kept_whole (letter ∷ name) plain =
    let both = neither (nat_eq 36 letter) (list_any (nat_eq 36) name) plain in
    run_more (λ letter. not (nat_eq letter 36)) letter name (ap not (same_order letter both.0)) ∙ ap (λ more. letter ∷ more) (kept_whole name both.1)

either_name : (in_use : Bool) (one other name : Name) → source_name one ≡ name → source_name other ≡ name → source_name (cond in_use one other) ≡ name
either_name true one other name first second = first
either_name false one other name first second = second

free_name : (tries number : ℕ) (used : List Name) (name : Name) → list_any (nat_eq 36) name ≡ false → source_name (first_free tries number used name) ≡ name
free_name zero number used name plain = cut_off name (decimal number) plain
free_name (suc tries) number used name plain =
    either_name (list_any (bytes_eq (name_with_number name number)) used) (first_free tries (number + 1) used name) (name_with_number name number) name
    (free_name tries (number + 1) used name plain) (cut_off name (decimal number) plain)

named_element : (declared : List Name) (before : Containers) (is_task : Bool) (name : Name) → list_any (nat_eq 36) name ≡ false → source_name (element_name declared before is_task name) ≡ name
named_element declared before true name plain =
    either_name (list_any (bytes_eq name) (names_in_use declared before)) (first_free (length (names_in_use declared before)) 1 (names_in_use declared before) name) name name
    (free_name (length (names_in_use declared before)) 1 (names_in_use declared before) name plain) (kept_whole name plain)
named_element declared before false name plain = kept_whole name plain

-- ---- containers

name_made : (before : Containers) (entry : Name × Container) (all : Containers) → Begins (before ++ entry ∷ []) all → name_at all (length before) ≡ entry.0
name_made before entry all (rest, e) =
    let joined : before ++ entry ∷ rest ≡ all = sym (append_assoc before (entry ∷ []) rest) ∙ e in
    subst (λ containers. name_at containers (length before) ≡ entry.0) joined (ap (λ found. found.0) (get_or-append_seam before entry rest no_container))

module _ (symbols : Named ℕ) (declared : List Name) (all : Containers) where
  -- the element of a consume scope, and those in its block
  element_first : (is_task : Bool) (body : Block) (element : Name) (before : Containers) (next : ℕ) → list_any (nat_eq 36) element ≡ false → length before ≡ next →
      Begins (with_element declared before is_task element) all → source_name (name_at all next) ≡ element
  element_first is_task body element before next plain e begins =
      ap source_name (ap (name_at all) (sym e) ∙ name_made before (element_name declared before is_task element, record { extents = affine_number (pos 1) ∷ []; kind = Private; width = W64 }) all begins)
      ∙ named_element declared before is_task element plain

  mutual
    -- a block without containers has no element
    pub none_in : (block : Block) (next : ℕ) → containers_in_all block ≡ 0 → HaveElements all block next
    none_in no_statement next none = tt
    none_in (and_statement first rest) next none = (none_of first next (omega (arith, none)), none_in rest (next + containers_in first) (omega (arith, none)))

    none_of : (statement : StatementTree) (next : ℕ) → containers_in statement ≡ 0 → HasElements all statement next
    none_of (map_scope line parameters ranges body) next none = none_in body next none
    none_of (consume_scope line stream size name element worker body) next none = absurd (omega (arith, none))
    none_of (for_loop line name begin end step body) next none = none_in body next none
    none_of (while_loop line when body) next none = none_in body next none
    none_of (branch line when body other) next none = (none_in body next (omega (arith, none)), none_in other (next + containers_in_all body) (omega (arith, none)))
    none_of statement next none = tt

  mutual
    elements_named : (statement : StatementTree) (in_scope : Bool) (next : ℕ) (place : Place) (before : Containers) → length before ≡ next → EveryAt IsPlaced place statement → Every HasPlainElement statement →
        Begins (containers_with symbols declared statement in_scope before) all → HasElements all statement next
    elements_named (map_scope line parameters ranges body) in_scope next place before e placed plain begins = all_elements_named body true next (in_map place) before e placed.1 plain.1 begins
    elements_named (consume_scope line stream size name element worker body) in_scope next place before e placed plain begins =
        consumed (has_connector body) placed.1 begins
        (λ placed begins. all_elements_named body true (next + 1) (in_consume false element place) (with_element declared before false element) (element_longer symbols declared before false element ∙ ap (λ number. number + 1) e) placed plain.1 begins)
      where
        consumed : (is_task : Bool) → EveryFrom IsPlaced (in_consume is_task element place) body →
            Begins (cond is_task (with_element declared before is_task element) (containers_with_all symbols declared body true (with_element declared before is_task element))) all →
            (EveryFrom IsPlaced (in_consume false element place) body → Begins (containers_with_all symbols declared body true (with_element declared before false element)) all → HaveElements all body (next + 1)) →
            (source_name (name_at all next) ≡ element) × HaveElements all body (next + 1)
        consumed true placed begins of_body = (element_first true body element before next plain.0 e begins, none_in body (next + 1) (no_containers body (in_consume true element place) refl placed))
        consumed false placed begins of_body = (
          element_first false body element before next plain.0 e (first_begins symbols declared body true (with_element declared before false element) all begins),
          of_body placed begins,
        )
    elements_named (for_loop line name begin end step body) in_scope next place before e placed plain begins = all_elements_named body in_scope next (in_loop place) before e placed.1 plain.1 begins
    elements_named (while_loop line when body) in_scope next place before e placed plain begins = all_elements_named body in_scope next (in_loop place) before e placed.1 plain.1 begins
    elements_named (branch line when body other) in_scope next place before e placed plain begins =
        let middle : Containers = containers_with_all symbols declared body in_scope before in (
          all_elements_named body in_scope next place before e placed.1.0 plain.1.0 (first_begins symbols declared other in_scope middle all begins),
          all_elements_named other in_scope (next + containers_in_all body) (past_all body place) middle
              (all_made symbols declared body in_scope place before placed.1.0 ∙ ap (λ number. number + containers_in_all body) e) placed.1.1 plain.1.1 begins,
        )
    elements_named statement in_scope next place before e placed plain begins = tt

    pub all_elements_named : (block : Block) (in_scope : Bool) (next : ℕ) (place : Place) (before : Containers) → length before ≡ next → EveryFrom IsPlaced place block → EveryIn HasPlainElement block →
        Begins (containers_with_all symbols declared block in_scope before) all → HaveElements all block next
    all_elements_named no_statement in_scope next place before e placed plain begins = tt
    all_elements_named (and_statement first rest) in_scope next place before e placed plain begins =
        let middle : Containers = containers_with symbols declared first in_scope before in (
          elements_named first in_scope next place before e placed.0 plain.0 (first_begins symbols declared rest in_scope middle all begins),
          all_elements_named rest in_scope (next + containers_in first) (past first place) middle
              (counted symbols declared first in_scope place before placed.0 ∙ ap (λ number. number + containers_in first) e) placed.1 plain.1 begins,
        )
