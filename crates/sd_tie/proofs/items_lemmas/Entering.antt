-- Entering a point or an element, and passing a declaration, keep where a statement stands.
use Rattle.std.proofs.Common.{◌≡◌, ◌∙◌, ℕ, ◌+◌, ◌<◌, ◌≤◌, ℤ, List, [], ◌∷◌, ◌++◌, length, map, Option, Some, Bool, true, false, cond, ◌||◌, if◌then◌else◌, nat_eq, bytes_eq, refl, ap, sym, arith}
use Rattle.std.specs.List.{zip}
use Rattle.std.proofs.lemmas.Bool.{ne_eqb}
use Rattle.sd_lex.specs.PlainTree.{StatementTree, local_array, local_stream, Block, no_statement, and_statement, Dimension}
use Rattle.sd_range.specs.Variables.{with_variables}
use Rattle.sd_graph.specs.ContainerParts.{name_at}
use Rattle.sd_graph.specs.Wiring.{has_number}
use Rattle.sd_graph.specs.Context.{Context, Reach, entered, own_reach, raised, source_name}
use Rattle.sd_graph.specs.Unfold as unfolded
use Rattle.sd_graph.proofs.Among.{nat_eq_same}
use Rattle.sd_valid.specs.SizedWork.{at_sizes}
use Rattle.sd_program.specs.Names.{Name, Named, in_force}
use Rattle.sd_program.specs.Declared.{containers_in}
use Rattle.sd_program.specs.Place.{Holder}
use Rattle.sd_task.specs.in_force.Ranges.{parameters_of}
use Rattle.sd_task.specs.task.Table.{Table, with_container}
use Rattle.sd_task.specs.task.Table as tables
use Rattle.sd_elab.specs.items.NamesBehind.{own_of}
use Rattle.sd_says.specs.Held.{raised_held}
use Rattle.sd_says.specs.Setting as setting
use Rattle.sd_says.specs.Setting.{Setting, with_each, taken_in}
use Rattle.sd_says.specs.Declared.{Declaration, own_held}
use Rattle.sd_says.specs.Behind as said
use Rattle.sd_tie.specs.elements.Tied.{held_at, AreNumbered}
use Rattle.sd_tie.proofs.elements_lemmas.Lookups.{made_twice}
use Rattle.sd_tie.specs.items.Standing.{StandsAt, Stands}
use Rattle.sd_tie.proofs.items_lemmas.Points.{made_below, below_more, point_values, point_shown, below_numbered}
use Rattle.sd_tie.proofs.items_lemmas.Memories.{own_tied}

-- ---- the containers of a scope

pub own_same : (body : Block) (next : ℕ) → said.own_of body next ≡ own_of body next
own_same no_statement next = refl
own_same (and_statement (local_array line name extents bits) rest) next = ap (λ numbers. next ∷ numbers) (own_same rest (next + 1))
own_same (and_statement (local_stream line name bits size) rest) next = ap (λ numbers. next ∷ numbers) (own_same rest (next + 1))
own_same (and_statement statement rest) next = own_same rest (next + containers_in statement)

other_number : (n next : ℕ) (own : List ℕ) → n < next → has_number own n ≡ false → has_number (next ∷ own) n ≡ false
other_number n next own b e = ap (λ same. same || has_number own n) (ne_eqb n next (λ same. omega (arith, same, b))) ∙ e

pub own_above : (body : Block) (next n : ℕ) → n < next → has_number (own_of body next) n ≡ false
own_above no_statement next n b = refl
own_above (and_statement (local_array line name extents bits) rest) next n b = other_number n next (own_of rest (next + 1)) b (own_above rest (next + 1) n (omega (arith, b)))
own_above (and_statement (local_stream line name bits size) rest) next n b = other_number n next (own_of rest (next + 1)) b (own_above rest (next + 1) n (omega (arith, b)))
own_above (and_statement statement rest) next n b = own_above rest (next + containers_in statement) n (omega (arith, b))

-- the containers that a block declares itself are those of the innermost memory
abbrev pub HasOwn : Context → Block → (next : ℕ) → Type 0
HasOwn context body next = (n : ℕ) → has_number (own_of body next) n ≡ true → context.reach n ≡ own_reach context.containers n

pub is_own : (n : ℕ) (own : List ℕ) → has_number (n ∷ own) n ≡ true
is_own n own = ap (λ same. same || has_number own n) (nat_eq_same n n refl)

pub still_own : (n first : ℕ) (own : List ℕ) → has_number own n ≡ true → has_number (first ∷ own) n ≡ true
still_own n first own e = go (nat_eq n first)
  where
    go : (same : Bool) → (same || has_number own n) ≡ true
    go true = refl
    go false = e

pub own_rest : (context : Context) (first : StatementTree) (rest : Block) (next : ℕ) → HasOwn context (and_statement first rest) next → HasOwn context rest (next + containers_in first)
own_rest context (local_array line name extents bits) rest next h n e = h n (still_own n next (own_of rest (next + 1)) e)
own_rest context (local_stream line name bits size) rest next h n e = h n (still_own n next (own_of rest (next + 1)) e)
own_rest context statement rest next h n e = h n e

-- the reach of a container inside
abbrev inner_reach : Context → List ℕ → ℕ → Reach
inner_reach context own n = if has_number own n then own_reach context.containers n else raised (context.reach n)

pub outer_inside : (context : Context) (own : List ℕ) (n : ℕ) → has_number own n ≡ false → inner_reach context own n ≡ raised (context.reach n)
outer_inside context own n e = ap (λ is. if is then own_reach context.containers n else raised (context.reach n)) e

pub own_inside : (context : Context) (own : List ℕ) (n : ℕ) → has_number own n ≡ true → inner_reach context own n ≡ own_reach context.containers n
own_inside context own n e = ap (λ is. if is then own_reach context.containers n else raised (context.reach n)) e

-- ---- names with numbers

numbered_first : (same : Bool) (first holder : Holder) (known : Option Holder) (number : ℕ) (numbers : Option ℕ) → (known ≡ Some holder → (k : ℕ) × (numbers ≡ Some k)) → cond same (Some first) known ≡ Some holder →
    (k : ℕ) × (cond same (Some number) numbers ≡ Some k)
numbered_first true first holder known number numbers others e = (number, refl)
numbered_first false first holder known number numbers others e = others e

pub numbered_more : (known : Named Holder) (numbers : Named ℕ) (name : Name) (holder : Holder) (number : ℕ) → AreNumbered known numbers → AreNumbered ((name, holder) ∷ known) ((name, number) ∷ numbers)
numbered_more known numbers name holder number are other wanted e = numbered_first (bytes_eq other name) holder wanted (in_force known other) number (in_force numbers other) (are other wanted) e

-- ---- points, elements and declarations

module _ (sizes : List ℤ) (all : List Declaration) (known : Named Holder) (c v : ℕ) (table : Table) (told : Setting) (context : Context) (stands : Stands sizes all known c v table told context) where
  -- containers in force outside, seen from inside
  inside_containers : (own : List ℕ) → ((n : ℕ) → n < c → has_number own n ≡ false) → (values : List ℤ) (shown : List (Name × ℤ)) →
      with_each raised_held told.containers ≡ with_each (held_at table (at_sizes sizes (entered context own values shown))) table.containers
  inside_containers own above values shown =
      ap (with_each raised_held) stands.tied.containers ∙ made_twice raised_held (held_at table (at_sizes sizes context)) table.containers
      ∙ made_below c (λ n. raised_held (held_at table (at_sizes sizes context) n)) (held_at table (at_sizes sizes (entered context own values shown)))
      (λ n b i. record (held_at table (at_sizes sizes context) n) { reach = sym (outer_inside context own n (above n b)) i }) table.containers stands.containers_below

  -- at a point of a map
  pub in_point : (parameters : List Name) (ranges : List Dimension) (body : Block) (point : List ℤ) → length parameters ≡ length ranges → length point ≡ length ranges → StandsAt [] context.names parameters v →
      Stands sizes all known c (v + length parameters) (tables.with_variables parameters v table) (setting.at_point (zip parameters point) told)
      (unfolded.at_point context (parameters_of table.variables ranges v) (own_of body c) point)
  in_point parameters ranges body point h g named =
      let params = parameters_of table.variables ranges v in
      let values : List ℤ = with_variables (unfolded.assigned params point) context.values in
      let shown : List (Name × ℤ) = map (λ assignment. (unfolded.name_of context assignment.0, assignment.1)) (unfolded.assigned params point) in
      record {
        tied = record {
          containers = inside_containers (own_of body c) (λ n b. own_above body c n b) values shown;
          variables = ap (taken_in (zip parameters point)) stands.tied.variables
              ∙ sym (point_values sizes table.variables parameters ranges point context.values v table.variables h g stands.sizes_below stands.variables_below);
          shown = (λ i. stands.tied.shown i ++ sym (point_shown sizes table.variables context parameters ranges point v h named) i);
          around = stands.tied.around;
          extents = stands.extents values;
        };
        numbered = stands.numbered;
        containers = stands.containers;
        extents = stands.extents;
        declared = stands.declared;
        bare = stands.bare;
        containers_below = stands.containers_below;
        variables_below = below_numbered parameters v table.variables stands.variables_below;
        sizes_below = omega (arith, stands.sizes_below);
      }

  -- at an element of a consume scope
  pub in_element : (element : Name) (body : Block) (value : ℤ) → source_name (name_at context.containers c) ≡ element →
      Stands sizes all known c v table (setting.inside_showing ((element, value) ∷ []) told) (unfolded.at_element context c (own_of body (c + 1)) value)
  in_element element body value named =
      let own : List ℕ = c ∷ own_of body (c + 1) in
      record {
        tied = record {
          containers = inside_containers own (λ n b. other_number n c (own_of body (c + 1)) b (own_above body (c + 1) n (omega (arith, b)))) context.values ((source_name (name_at context.containers c), value) ∷ []);
          variables = stands.tied.variables;
          shown = (λ i. stands.tied.shown i ++ (sym named i, value) ∷ []);
          around = stands.tied.around;
          extents = stands.extents context.values;
        };
        numbered = stands.numbered;
        containers = stands.containers;
        extents = stands.extents;
        declared = stands.declared;
        bare = stands.bare;
        containers_below = stands.containers_below;
        variables_below = stands.variables_below;
        sizes_below = stands.sizes_below;
      }

  -- behind a declaration
  pub behind_declared : (name : Name) (holder : Holder) (more : ℕ) → 1 ≤ more → context.reach c ≡ own_reach context.containers c →
      Stands sizes all ((name, holder) ∷ known) (c + more) v (with_container name c table) (setting.with_container name (own_held all c) told) context
  behind_declared name holder more enough reach =
      record {
        tied = record {
          containers = (λ i. (name, sym (own_tied sizes all table (at_sizes sizes context) c stands.containers stands.declared (stands.bare c) reach) i) ∷ stands.tied.containers i);
          variables = stands.tied.variables;
          shown = stands.tied.shown;
          around = stands.tied.around;
          extents = stands.tied.extents;
        };
        numbered = numbered_more known table.containers name holder c stands.numbered;
        containers = stands.containers;
        extents = stands.extents;
        declared = stands.declared;
        bare = stands.bare;
        containers_below = (omega (arith, enough), below_more c (c + more) table.containers (omega arith) stands.containers_below);
        variables_below = stands.variables_below;
        sizes_below = stands.sizes_below;
      }

  -- behind what puts no name in force
  pub behind_other : (containers variables : ℕ) → Stands sizes all known (c + containers) (v + variables) table told context
  behind_other containers variables =
      record {
        tied = stands.tied;
        numbered = stands.numbered;
        containers = stands.containers;
        extents = stands.extents;
        declared = stands.declared;
        bare = stands.bare;
        containers_below = below_more c (c + containers) table.containers (omega arith) stands.containers_below;
        variables_below = below_more v (v + variables) table.variables (omega arith) stands.variables_below;
        sizes_below = omega (arith, stands.sizes_below);
      }
