-- What links, tasklets and nested graphs do to a container.
use Rattle.std.proofs.Common.{◌≡◌, ◌∙◌, ℕ, suc, List, [], ◌∷◌, map, nat_eq, Option, Some, None, Bool, true, false, not, cond, ◌&&◌, ◌||◌, if◌then◌else◌, bytes_eq, refl, ap, sym, arith}
use Rattle.std.specs.Prelude.{⊤}
use Rattle.std.specs.List.{filter, fold, list_any}
use Rattle.std.proofs.lemmas.List.Folds.{list_any-append}
use Rattle.sd_num.specs.declared.resolution.Resolution.{Resolution}
use Rattle.sd_num.specs.declared.resolution.Resolution.TheVariants.{Sum, Product, Min, Max, And, Or, Xor, Last}
use Rattle.sd_source.specs.nodes.Items.{Name}
use Rattle.sd_source.specs.nodes.Names.{is_among}
use Rattle.sd_source.specs.nodes.SourceItems.{Parameters, is_for}
use Rattle.sd_source.specs.declared.nodes.access.Access.{Access}
use Rattle.sd_source.specs.declared.nodes.access.Access.TheVariants.{Read, Write}
use Rattle.sd_graph.specs.PlainTree.{TaskletTree, task}
use Rattle.sd_graph.specs.ContainerParts.{Containers, container_at, is_stream}
use Rattle.sd_graph.specs.Mode as modes
use Rattle.sd_graph.specs.Mode.{Mode, mode_by, do_conflict, common_mode, joined_mode}
use Rattle.sd_graph.specs.Wiring.{Use, has_number, use_of, output_mode, output_use, outside, modes_on, link_uses, kind_uses}
use Rattle.sd_graph.specs.declared.link.Link.{Link}
use Rattle.sd_wire.specs.declared.wiring.access.Access as drawn
use Rattle.sd_wire.specs.declared.wiring.access.Access.TheVariants.{Reads, Writes}
use Rattle.sd_wire.specs.wiring.Mentioned.{is_of, has_access, is_mode_of}

-- the access in the graph
abbrev pub drawn_as : Access → drawn.Access
drawn_as Read = Reads
drawn_as Write = Writes

abbrev pub is_read : Access → Bool
is_read Read = true
is_read Write = false

-- ---- tests

pub or_none : (test : Bool) → (test || false) ≡ test
or_none true = refl
or_none false = refl

pub or_assoc : (a b c : Bool) → ((a || b) || c) ≡ (a || (b || c))
or_assoc true b c = refl
or_assoc false b c = refl

-- ---- links

-- one of the links is of this container
abbrev pub has_link : List Link → (container : ℕ) → Bool
has_link links container = list_any (λ link. nat_eq link.memlet.container container) links

-- a stream is taken from
abbrev pub is_take : Mode → Bool
is_take modes.Read = false
is_take modes.Write = false
is_take (modes.Resolve by) = false
is_take modes.Push = false
is_take modes.Take = true

abbrev pub takes : List Use → (container : ℕ) → Bool
takes uses container = list_any (λ use'. nat_eq use'.container container && is_take use'.mode) uses

pub and_true : (test : Bool) → (test && true) ≡ test
and_true true = refl
and_true false = refl

pub and_false : (test : Bool) → (test && false) ≡ false
and_false true = refl
and_false false = refl

pub reads_read : (links : List Link) (container : ℕ) → has_access Reads (map (use_of modes.Read) links) container ≡ has_link links container
reads_read [] container = refl
reads_read (link ∷ links) container = λ i. and_true (nat_eq link.memlet.container container) i || reads_read links container i

pub reads_write : (links : List Link) (container : ℕ) → has_access Writes (map (use_of modes.Read) links) container ≡ false
reads_write [] container = refl
reads_write (link ∷ links) container = λ i. and_false (nat_eq link.memlet.container container) i || reads_write links container i

pub reads_take : (links : List Link) (container : ℕ) → takes (map (use_of modes.Read) links) container ≡ false
reads_take [] container = refl
reads_take (link ∷ links) container = λ i. and_false (nat_eq link.memlet.container container) i || reads_take links container i

-- the mode of an output
pub written_mode : (resolution : Option Resolution) → (is_of Writes (mode_by resolution) ≡ true) × ((is_of Reads (mode_by resolution) ≡ false) × (is_take (mode_by resolution) ≡ false))
written_mode None = (refl, (refl, refl))
written_mode (Some Sum) = (refl, (refl, refl))
written_mode (Some Product) = (refl, (refl, refl))
written_mode (Some Min) = (refl, (refl, refl))
written_mode (Some Max) = (refl, (refl, refl))
written_mode (Some And) = (refl, (refl, refl))
written_mode (Some Or) = (refl, (refl, refl))
written_mode (Some Xor) = (refl, (refl, refl))
written_mode (Some Last) = (refl, (refl, refl))

either_mode : (streams : Bool) (resolution : Option Resolution) → (is_of Writes (if streams then modes.Push else mode_by resolution) ≡ true)
    × ((is_of Reads (if streams then modes.Push else mode_by resolution) ≡ false) × (is_take (if streams then modes.Push else mode_by resolution) ≡ false))
either_mode true resolution = (refl, (refl, refl))
either_mode false resolution = written_mode resolution

module _ (containers : Containers) where
  output_told : (link : Link) → (is_of Writes (output_mode containers link) ≡ true) × ((is_of Reads (output_mode containers link) ≡ false) × (is_take (output_mode containers link) ≡ false))
  output_told link = either_mode (is_stream (container_at containers link.memlet.container).kind) link.memlet.resolution

  outputs_write : (links : List Link) (container : ℕ) → has_access Writes (map (output_use containers) links) container ≡ has_link links container
  outputs_write [] container = refl
  outputs_write (link ∷ links) container =
      λ i. (ap (λ of. nat_eq link.memlet.container container && of) (output_told link).0 ∙ and_true (nat_eq link.memlet.container container)) i || outputs_write links container i

  outputs_read : (links : List Link) (container : ℕ) → has_access Reads (map (output_use containers) links) container ≡ false
  outputs_read [] container = refl
  outputs_read (link ∷ links) container =
      λ i. (ap (λ of. nat_eq link.memlet.container container && of) (output_told link).1.0 ∙ and_false (nat_eq link.memlet.container container)) i || outputs_read links container i

  outputs_take : (links : List Link) (container : ℕ) → takes (map (output_use containers) links) container ≡ false
  outputs_take [] container = refl
  outputs_take (link ∷ links) container =
      λ i. (ap (λ of. nat_eq link.memlet.container container && of) (output_told link).1.1 ∙ and_false (nat_eq link.memlet.container container)) i || outputs_take links container i

  -- a tasklet reads by its inputs and writes by its outputs
  pub task_does : (access : Access) (code : TaskletTree) (ins outs : List Link) (container : ℕ) (reads writes : Bool) → has_link ins container ≡ reads → has_link outs container ≡ writes →
      has_access (drawn_as access) (kind_uses (task code ins outs) containers) container ≡ cond (is_read access) reads writes
  task_does Read code ins outs container reads writes e e' =
      list_any-append _ (map (use_of modes.Read) ins) (map (output_use containers) outs)
      ∙ (λ i. (reads_read ins container ∙ e) i || outputs_read outs container i) ∙ or_none reads
  task_does Write code ins outs container reads writes e e' =
      list_any-append _ (map (use_of modes.Read) ins) (map (output_use containers) outs)
      ∙ (λ i. reads_write ins container i || (outputs_write outs container ∙ e') i)

  pub task_takes : (code : TaskletTree) (ins outs : List Link) (container : ℕ) → takes (kind_uses (task code ins outs) containers) container ≡ false
  task_takes code ins outs container =
      list_any-append _ (map (use_of modes.Read) ins) (map (output_use containers) outs) ∙ (λ i. reads_take ins container i || outputs_take outs container i)

-- ---- outside of a scope

module _ (private : List ℕ) (test : Mode → Bool) (container : ℕ) (apart : has_number private container ≡ false) where
  not_private : (number : ℕ) → nat_eq number container ≡ true → has_number private number ≡ false
  not_private number e =
      let same : number ≡ container = grind (arith, e) in
      ap (λ number. has_number private number) same ∙ apart

  one_outside : (is : Bool) (use' : Use) (uses : List Use) → has_number private use'.container ≡ is →
      list_any (λ other. nat_eq other.container container && test other.mode) (outside private uses) ≡ list_any (λ other. nat_eq other.container container && test other.mode) uses →
      list_any (λ other. nat_eq other.container container && test other.mode) (if not is then use' ∷ outside private uses else outside private uses)
      ≡ ((nat_eq use'.container container && test use'.mode) || list_any (λ other. nat_eq other.container container && test other.mode) uses)
  one_outside false use' uses is rest = ap (λ others. (nat_eq use'.container container && test use'.mode) || others) rest
  one_outside true use' uses is rest = rest ∙ by (nat_eq use'.container container) refl
    where
      by : (same : Bool) → nat_eq use'.container container ≡ same →
          list_any (λ other. nat_eq other.container container && test other.mode) uses ≡ ((same && test use'.mode) || list_any (λ other. nat_eq other.container container && test other.mode) uses)
      by true e =
          let never : true ≡ false = sym is ∙ not_private use'.container e in
          cc
      by false e = refl

  -- what is done to a container that is none of those is done outside of them
  pub outside_same : (uses : List Use) → list_any (λ other. nat_eq other.container container && test other.mode) (outside private uses) ≡ list_any (λ other. nat_eq other.container container && test other.mode) uses
  outside_same [] = refl
  outside_same (use' ∷ uses) = one_outside (has_number private use'.container) use' uses refl (outside_same uses)

-- ---- modes in one

abbrev pub is_taken : Option Mode → Bool
is_taken None = false
is_taken (Some mode) = is_take mode

abbrev any_of : drawn.Access → List Mode → Bool
any_of access all = list_any (is_of access) all

common_writes : (mode other : Mode) → is_take mode ≡ false → is_take other ≡ false →
    (is_of Writes (common_mode mode other) ≡ (is_of Writes mode || is_of Writes other)) × (is_take (common_mode mode other) ≡ false)
common_writes modes.Read modes.Read never none = (refl, refl)
common_writes modes.Read modes.Write never none = (refl, refl)
common_writes modes.Read (modes.Resolve by) never none = (refl, refl)
common_writes modes.Read modes.Push never none = (refl, refl)
common_writes modes.Write other never none = (refl, refl)
common_writes (modes.Resolve by) modes.Read never none = (refl, refl)
common_writes (modes.Resolve by) modes.Write never none = (refl, refl)
common_writes (modes.Resolve by) (modes.Resolve of) never none = either (do_conflict (modes.Resolve by) (modes.Resolve of))
  where
    either : (conflict : Bool) → (is_of Writes (if conflict then modes.Write else modes.Resolve by) ≡ true) × (is_take (if conflict then modes.Write else modes.Resolve by) ≡ false)
    either true = (refl, refl)
    either false = (refl, refl)
common_writes (modes.Resolve by) modes.Push never none = (refl, refl)
common_writes modes.Push modes.Read never none = (refl, refl)
common_writes modes.Push modes.Write never none = (refl, refl)
common_writes modes.Push (modes.Resolve by) never none = (refl, refl)
common_writes modes.Push modes.Push never none = (refl, refl)
common_writes mode other never none = cc

neither : (first second : Bool) → (first || second) ≡ false → (first ≡ false) × (second ≡ false)
neither true second e = cc
neither false second e = (refl, e)

fold_writes : (mode : Mode) (others : List Mode) → is_take mode ≡ false → list_any is_take others ≡ false →
    (is_of Writes (fold common_mode mode others) ≡ (is_of Writes mode || any_of Writes others)) × (is_take (fold common_mode mode others) ≡ false)
fold_writes mode [] never none = (sym (or_none (is_of Writes mode)), never)
fold_writes mode (other ∷ others) never none =
    let both : (is_take other ≡ false) × (list_any is_take others ≡ false) = neither (is_take other) (list_any is_take others) none in
    let step : (is_of Writes (common_mode mode other) ≡ (is_of Writes mode || is_of Writes other)) × (is_take (common_mode mode other) ≡ false) = common_writes mode other never both.0 in
    let rest : (is_of Writes (fold common_mode (common_mode mode other) others) ≡ (is_of Writes (common_mode mode other) || any_of Writes others)) × (is_take (fold common_mode (common_mode mode other) others) ≡ false) =
    fold_writes (common_mode mode other) others step.1 both.1 in
    (rest.0 ∙ ap (λ first. first || any_of Writes others) step.0 ∙ or_assoc (is_of Writes mode) (is_of Writes other) (any_of Writes others), rest.1)

-- what only reads does not write
reads_not : (mode : Mode) → is_take mode ≡ false → is_of Reads mode ≡ not (is_of Writes mode)
reads_not modes.Read never = refl
reads_not modes.Write never = refl
reads_not (modes.Resolve by) never = refl
reads_not modes.Push never = refl
reads_not modes.Take never = cc

read_alone : (read writes rest_read rest_writes : Bool) → read ≡ not writes → not (writes || rest_writes) ≡ ((read || rest_read) && not (writes || rest_writes))
read_alone true true rest_read rest_writes e = cc
read_alone true false rest_read rest_writes e = refl
read_alone false true rest_read rest_writes e = none (rest_read)
  where
    none : (test : Bool) → false ≡ (test && false)
    none true = refl
    none false = refl
read_alone false false rest_read rest_writes e = cc

joined_does : (all : List Mode) → list_any is_take all ≡ false →
    (is_mode_of Writes (joined_mode all) ≡ any_of Writes all) × ((is_mode_of Reads (joined_mode all) ≡ (any_of Reads all && not (any_of Writes all))) × (is_taken (joined_mode all) ≡ false))
joined_does [] none = (refl, (refl, refl))
joined_does (mode ∷ others) none =
    let both : (is_take mode ≡ false) × (list_any is_take others ≡ false) = neither (is_take mode) (list_any is_take others) none in
    let folded : (is_of Writes (fold common_mode mode others) ≡ (is_of Writes mode || any_of Writes others)) × (is_take (fold common_mode mode others) ≡ false) = fold_writes mode others both.0 both.1 in (
      folded.0,
      (
        reads_not (fold common_mode mode others) folded.1 ∙ ap not folded.0
            ∙ read_alone (is_of Reads mode) (is_of Writes mode) (any_of Reads others) (any_of Writes others) (reads_not mode both.0),
        folded.1,
      ),
    )

modes_any : (test : Mode → Bool) (container : ℕ) (uses : List Use) → list_any test (modes_on container uses) ≡ list_any (λ use'. nat_eq use'.container container && test use'.mode) uses
modes_any test container [] = refl
modes_any test container (use' ∷ uses) = by (nat_eq use'.container container) (modes_any test container uses)
  where
    by : (same : Bool) → list_any test (modes_on container uses) ≡ list_any (λ other. nat_eq other.container container && test other.mode) uses →
        list_any test (map (λ other. other.mode) (if same then use' ∷ filter (λ other. nat_eq other.container container) uses else filter (λ other. nat_eq other.container container) uses))
        ≡ ((same && test use'.mode) || list_any (λ other. nat_eq other.container container && test other.mode) uses)
    by true rest = ap (λ others. test use'.mode || others) rest
    by false rest = rest

-- what is done to a container that nothing takes from, in one mode
pub joined_told : (uses : List Use) (container : ℕ) → takes uses container ≡ false →
    (is_mode_of Writes (joined_mode (modes_on container uses)) ≡ has_access Writes uses container)
    × ((is_mode_of Reads (joined_mode (modes_on container uses)) ≡ (has_access Reads uses container && not (has_access Writes uses container)))
    × (is_taken (joined_mode (modes_on container uses)) ≡ false))
joined_told uses container none =
    let told : (is_mode_of Writes (joined_mode (modes_on container uses)) ≡ any_of Writes (modes_on container uses))
    × ((is_mode_of Reads (joined_mode (modes_on container uses)) ≡ (any_of Reads (modes_on container uses) && not (any_of Writes (modes_on container uses)))) × (is_taken (joined_mode (modes_on container uses)) ≡ false)) =
    joined_does (modes_on container uses) (modes_any is_take container uses ∙ none) in
    (told.0 ∙ modes_any (is_of Writes) container uses, (told.1.0 ∙ (λ i. modes_any (is_of Reads) container uses i && not (modes_any (is_of Writes) container uses i)), told.1.1))

-- ---- nested graphs

-- a parameter of a function is used as that of its graph is
abbrev pub DoesAs : Option Access → Option Mode → Type 0
DoesAs parameter mode = (is_mode_of Reads mode ≡ is_for Read parameter) × ((is_mode_of Writes mode ≡ is_for Write parameter) × (is_taken mode ≡ false))

-- so are the parameters from this number on
abbrev pub DoAs : List Use → (number : ℕ) → Parameters → Type 0
DoAs inner number [] = ⊤
DoAs inner number (parameter ∷ parameters) = DoesAs parameter (joined_mode (modes_on number inner)) × DoAs inner (suc number) parameters

pub does_access : (access : Access) (parameter : Option Access) (mode : Option Mode) → DoesAs parameter mode → is_mode_of (drawn_as access) mode ≡ is_for access parameter
does_access Read parameter mode does = does.0
does_access Write parameter mode does = does.1.0

pub link_does : (access : drawn.Access) (link : Link) (mode : Option Mode) (container : ℕ) → has_access access (link_uses link mode) container ≡ (nat_eq link.memlet.container container && is_mode_of access mode)
link_does access link None container = sym (and_false (nat_eq link.memlet.container container))
link_does access link (Some mode) container = or_none (nat_eq link.memlet.container container && is_of access mode)

pub link_takes : (link : Link) (mode : Option Mode) (container : ℕ) → is_taken mode ≡ false → takes (link_uses link mode) container ≡ false
link_takes link None container never = refl
link_takes link (Some mode) container never = or_none (nat_eq link.memlet.container container && is_take mode) ∙ ap (λ taken. nat_eq link.memlet.container container && taken) never ∙ and_false (nat_eq link.memlet.container container)

pub given_one : (is : Bool) (argument wanted : Name) → is_among (if is then argument ∷ [] else []) wanted ≡ (bytes_eq wanted argument && is)
given_one true argument wanted = or_none (bytes_eq wanted argument) ∙ sym (and_true (bytes_eq wanted argument))
given_one false argument wanted = sym (and_false (bytes_eq wanted argument))
