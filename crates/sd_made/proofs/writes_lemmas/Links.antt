-- The links of a call, and of a tasklet, write containers of the names that are written.
use Rattle.std.proofs.Common.{◌≡◌, ◌∙◌, inl, inr, ℕ, suc, List, [], ◌∷◌, ◌++◌, map, length, nat_eq, Option, Some, Bool, true, false, not, ◌||◌, if◌then◌else◌, unwrap_or, refl, ap, sym, subst, arith}
use Rattle.std.specs.Prelude.{⊤}
use Rattle.std.specs.List.{AllByRecursion}
use Rattle.sd_lex.specs.PlainTree.{Dimension, StatementTree, output, Block, no_statement, and_statement}
use Rattle.sd_graph.specs.ContainerParts.{Containers, name_at}
use Rattle.sd_graph.specs.Wiring.{has_number}
use Rattle.sd_graph.specs.declared.container.Container.{Container}
use Rattle.sd_graph.proofs.Among.{or_second}
use Rattle.sd_program.specs.Names.{Name, Named, in_force}
use Rattle.sd_program.specs.Place.{Holder, of_dimensions, of_values, task, Place, past, EveryAt, EveryFrom}
use Rattle.sd_program.specs.Known.{IsPlaced, IsKnown, IsPart, IsTarget}
use Rattle.sd_task.specs.task.Table.{Table, container_number}
use Rattle.sd_task.specs.task.Links.{subset_link}
use Rattle.sd_elab.specs.items.Items.{call_links}
use Rattle.sd_task.specs.tasklets.Item.{outputs_of}
use Rattle.sd_made.proofs.elab_lemmas.ContainersMade.{same_behind}
use Rattle.sd_validity.proofs.bound_places_lemmas.EachPlace.{all_joined}
use Rattle.sd_validity.specs.rules.Parts.{container_of}
use Rattle.sd_validity.specs.rules.NestedLinks.{written_through, is_unshared, are_unshared}
use Rattle.sd_made.specs.writes.Writes.{arguments_written, names_written, all_written}
use Rattle.sd_made.specs.writes.Apart.{IsApart, AreApart}
use Rattle.sd_made.proofs.writes_lemmas.Known.{AreKnown}

pub all_first : {A : Type 0} (P : A → Type 0) (first second : List A) → AllByRecursion P (first ++ second) → AllByRecursion P first
all_first P [] second all = tt
all_first P (member ∷ first) second all = (all.0, all_first P first second all.1)

pub all_second : {A : Type 0} (P : A → Type 0) (first second : List A) → AllByRecursion P (first ++ second) → AllByRecursion P second
all_second P [] second all = all
all_second P (member ∷ first) second all = all_second P first second all.1

-- ---- names that are known

-- what a part is of, and a target, is known
pub part_known : (known : Named Holder) (name : Name) (dimensions : List Dimension) → IsPart known name dimensions → (holder : Holder) × (in_force known name ≡ Some holder)
part_known known name [] is = (of_dimensions is.0, is.1)
part_known known name (first ∷ rest) is = (of_dimensions (length (first ∷ rest)), is)

pub target_known : (known : Named Holder) (name : Name) (dimensions : List Dimension) → IsTarget known name dimensions → (holder : Holder) × (in_force known name ≡ Some holder)
target_known known name [] (inl is) = (of_dimensions is.0, is.1)
target_known known name [] (inr is) = (of_values, is)
target_known known name (first ∷ rest) is = (of_dimensions (length (first ∷ rest)), is)

module _ (all : Containers) (table : Table) (known : Named Holder) (are : AreKnown all known table.containers) where
  -- a known name is that of its container
  pub number_named : (name : Name) → (holder : Holder) × (in_force known name ≡ Some holder) → name_at all (container_number table name) ≡ name
  number_named name (holder, e) =
      let found : (container : ℕ) × ((in_force table.containers name ≡ Some container) × (name_at all container ≡ name)) = are name holder e in
      subst (λ (found : Option ℕ). name_at all (unwrap_or found 0) ≡ name) (sym found.1.0) found.1.1

  pub number_written : (W : Name → Type 0) (name : Name) → (holder : Holder) × (in_force known name ≡ Some holder) → W name → W (name_at all (container_number table name))
  number_written W name is written = subst W (sym (number_named name is)) written

-- ---- the outputs of a tasklet

module _ (W : Name → Type 0) (all : Containers) (table : Table) (programs : Named (List Bool)) where
  abbrev P : ℕ → Type 0
  P container = W (name_at all container)

  pub outputs_written : (body : Block) (place : Place) → place.around ≡ task → EveryFrom IsPlaced place body → EveryFrom IsKnown place body → AreKnown all place.containers table.containers →
      AllByRecursion W (all_written programs body) → AllByRecursion P (map container_of (outputs_of table body))
  outputs_written no_statement place around placed known are written = tt
  outputs_written (and_statement first rest) place around placed known are written =
      let others = outputs_written rest (past first place) around placed.1 known.1
      (subst (λ containers. AreKnown all containers table.containers) (sym (same_behind first place around placed.0)) are)
      (all_second W (names_written programs first) (all_written programs rest) written) in
      of_first first known.0 written others
    where
      of_first : (first : StatementTree) → EveryAt IsKnown place first → AllByRecursion W (names_written programs first ++ all_written programs rest) → AllByRecursion P (map container_of (outputs_of table rest)) →
          AllByRecursion P (map container_of (outputs_of table (and_statement first rest)))
      of_first (output line connector memlet) known written others =
          (number_written all table place.containers are W memlet.name (target_known place.containers memlet.name memlet.dimensions known) written.0, others)
      of_first statement known written others = others

-- ---- the arguments of a call

-- a parameter of the graph that is written is one that the program writes; the first has this number
abbrev pub Covers : (written : List ℕ) → (number : ℕ) → (parameters : List Bool) → Type 0
Covers written number [] = ⊤
Covers written number (parameter ∷ parameters) = (has_number written number ≡ true → parameter ≡ true) × Covers written (suc number) parameters

module _ (all : Containers) (table : Table) (known : Named Holder) (are : AreKnown all known table.containers) where
  abbrev AreParts : List (Name × List Dimension) → Type 0
  AreParts arguments = AllByRecursion (λ (argument : Name × List Dimension). IsPart known argument.0 argument.1) arguments

  module _ (W : Name → Type 0) where
    one_written : (is_written parameter : Bool) (name : Name) (dimensions : List Dimension) → (is_written ≡ true → parameter ≡ true) → IsPart known name dimensions → AllByRecursion W (if parameter then name ∷ [] else []) →
        AllByRecursion (λ container. W (name_at all container)) (if is_written then container_number table name ∷ [] else [])
    one_written true parameter name dimensions is part written =
        let own : AllByRecursion W (if true then name ∷ [] else []) = subst (λ parameter. AllByRecursion W (if parameter then name ∷ [] else [])) (is refl) written in
        (number_written all table known are W name (part_known known name dimensions part) own.0, tt)
    one_written false parameter name dimensions is part written = tt

    pub call_written : (written : List ℕ) (number : ℕ) (parameters : List Bool) (arguments : List (Name × List Dimension)) (containers : List (Name × Container)) → Covers written number parameters → length parameters ≡ length arguments →
        AreParts arguments → AllByRecursion W (arguments_written parameters arguments) → AllByRecursion (λ container. W (name_at all container)) (written_through written number (call_links table arguments containers))
    call_written written number parameters [] containers covers same parts names = tt
    call_written written number parameters (argument ∷ arguments) [] covers same parts names = tt
    call_written written number [] (argument ∷ arguments) (container ∷ containers) covers same parts names = absurd (omega (arith, same))
    call_written written number (parameter ∷ parameters) (argument ∷ arguments) (container ∷ containers) covers same parts names =
        let own : List Name = if parameter then argument.0 ∷ [] else [] in
        all_joined (λ container. W (name_at all container)) (if has_number written number then container_number table argument.0 ∷ [] else []) (written_through written (suc number) (call_links table arguments containers))
        (one_written (has_number written number) parameter argument.0 argument.1 covers.0 parts.0 (all_first W own (arguments_written parameters arguments) names))
        (call_written written (suc number) parameters arguments containers covers.1 (omega (arith, same)) parts.1 (all_second W own (arguments_written parameters arguments) names))

  -- ---- two links of one container

  neither : (same first second one other : Bool) → (first ≡ true → one ≡ true) → (second ≡ true → other ≡ true) → (same ≡ true → (one || other) ≡ false) → (not same || not (first || second)) ≡ true
  neither false first second one other is is_other apart = refl
  neither true true second one other is is_other apart =
      let none : (true || other) ≡ false = subst (λ one. (one || other) ≡ false) (is refl) (apart refl) in
      cc
  neither true false true one other is is_other apart =
      let none : true ≡ false = sym (or_second one other (is_other refl)) ∙ apart refl in
      cc
  neither true false false one other is is_other apart = refl

  same_name : (name other : Name) (dimensions others : List Dimension) → IsPart known name dimensions → IsPart known other others → nat_eq (container_number table name) (container_number table other) ≡ true → name ≡ other
  same_name name other dimensions others part second e =
      let same : container_number table name ≡ container_number table other = grind (arith, e) in
      sym (number_named all table known are name (part_known known name dimensions part)) ∙ ap (name_at all) same ∙ number_named all table known are other (part_known known other others second)

  one_unshared : (written : List ℕ) (first : ℕ) (parameter : Bool) (argument : Name × List Dimension) (connector : Name) (number : ℕ) (parameters : List Bool) (arguments : List (Name × List Dimension)) (containers : List (Name × Container)) →
      (has_number written first ≡ true → parameter ≡ true) → IsPart known argument.0 argument.1 → Covers written number parameters → length parameters ≡ length arguments → AreParts arguments → IsApart parameter argument.0 parameters arguments →
      is_unshared written first (subset_link table connector argument.0 argument.1) number (call_links table arguments containers) ≡ true
  one_unshared written first parameter argument connector number parameters [] containers is part covers same parts apart = refl
  one_unshared written first parameter argument connector number parameters (other ∷ arguments) [] is part covers same parts apart = refl
  one_unshared written first parameter argument connector number [] (other ∷ arguments) (container ∷ containers) is part covers same parts apart = absurd (omega (arith, same))
  one_unshared written first parameter argument connector number (next ∷ parameters) (other ∷ arguments) (container ∷ containers) is part covers same parts apart =
      rw (neither (nat_eq (container_number table argument.0) (container_number table other.0)) (has_number written first) (has_number written number) parameter next is covers.0
      (λ e. apart.0 (same_name argument.0 other.0 argument.1 other.1 part parts.0 e)))
      (one_unshared written first parameter argument connector (suc number) parameters arguments containers is part covers.1 (omega (arith, same)) parts.1 apart.1)

  pub call_unshared : (written : List ℕ) (number : ℕ) (parameters : List Bool) (arguments : List (Name × List Dimension)) (containers : List (Name × Container)) → Covers written number parameters → length parameters ≡ length arguments →
      AreParts arguments → AreApart parameters arguments → are_unshared written number (call_links table arguments containers) ≡ true
  call_unshared written number parameters [] containers covers same parts apart = refl
  call_unshared written number parameters (argument ∷ arguments) [] covers same parts apart = refl
  call_unshared written number [] (argument ∷ arguments) (container ∷ containers) covers same parts apart = absurd (omega (arith, same))
  call_unshared written number (parameter ∷ parameters) (argument ∷ arguments) (container ∷ containers) covers same parts apart =
      rw (one_unshared written number parameter argument container.0 (suc number) parameters arguments containers covers.0 parts.0 covers.1 (omega (arith, same)) parts.1 apart.0)
      (call_unshared written (suc number) parameters arguments containers covers.1 (omega (arith, same)) parts.1 apart.1)
