-- Where the accesses of a tasklet lead, which stands at a point of a row.
use Rattle.std.specs.Prelude.{◌≡◌, ℕ, ◌<◌, ◌^◌, ℤ, pos, negsuc, List, [], ◌∷◌, ◌++◌, length, map, Option, Some, None, nat_lt, if◌then◌else◌, ⊤}
use Rattle.std.specs.List.{AllByRecursion, AllZip}
use Rattle.sd_num.specs.declared.resolution.Resolution.{Resolution}
use Rattle.sd_num.specs.Wrapped.{wrapped}
use Rattle.sd_range.specs.Affine.{variable_value}
use Rattle.sd_work.specs.Leaf.{Pending, write_value, push_to}
use Rattle.sd_graph.specs.PlainTree.{TaskletTree}
use Rattle.sd_graph.specs.TaskletMeaning.{Effect, Inputs}
use Rattle.sd_graph.specs.Context.{Context, link_elements, link_extents}
use Rattle.sd_graph.specs.Unfold.{pending_through}
use Rattle.sd_graph.specs.declared.link.Link.{Link}
use Rattle.sd_tcode.specs.tcode.Compiled.{Compiled, IsCodeOf}
use Rattle.sd_tcode.specs.columns.Columns.{value_on}
use Rattle.sd_row.specs.declared.row.track.Track.{Track}
use Rattle.sd_row.specs.row.Row.{reference_on}
use Rattle.sd_row.specs.declared.instance.target.Target.{Target}
use Rattle.sd_row.specs.declared.instance.target.Target.TheVariants.{Stream, Element, Among, Computed}
use Rattle.sd_row.specs.declared.instance.accesses.Accesses.{Accesses}

-- the one number of a place, where it is below a bound
abbrev pub place_below : (count : ℕ) → (at : List ℤ) → Option ℕ
place_below count [] = None
place_below count (pos number ∷ []) = if nat_lt number count then Some number else None
place_below count (pos number ∷ next ∷ at) = None
place_below count (negsuc number ∷ at) = None

-- what is to do for an effect at a place among the elements of a track, or at another one, which is looked up
abbrev pub pending_among : Option Resolution → Track → Context → Link → Effect → (place : Option ℕ) → Pending
pending_among by to standing link effect (Some place) = write_value effect.value (Some (reference_on to place)) by
pending_among by to standing link effect None = pending_through standing link effect

-- what is to do for an effect on an output with this target, where places are looked up in this context
abbrev pub pending_to : Target → (k : ℕ) → (standing : Context) → Link → Effect → Pending
pending_to (Stream station) k standing link effect = push_to station.level station.container effect.value
pending_to (Element by to) k standing link effect = write_value effect.value (Some (reference_on to k)) by
pending_to (Among by to count) k standing link effect = pending_among by to standing link effect (place_below count effect.at)
pending_to Computed k standing link effect = pending_through standing link effect

-- where places are elements of a track, an output has as many in its one dimension
abbrev pub HasPlaces : Target → (extents : List ℕ) → Type 0
HasPlaces (Among by to count) extents = extents ≡ count ∷ []
HasPlaces target extents = ⊤

-- here a link leads to this target, where places are looked up in this context
pub record IsTarget (k : ℕ) (here standing : Context) (link : Link) (target : Target) : Type 0 where
  pub effects : (effect : Effect) → pending_through here link effect ≡ pending_to target k standing link effect
  pub places : HasPlaces target (link_extents here link)

-- the accesses of a tasklet that stands here, where places are looked up in this context: each input is one element
pub record AreKnown (tree : TaskletTree) (ins outs : List Link) (k : ℕ) (here standing : Context) (accesses : Accesses) : Type 0 where
  pub reads : map (link_elements here) ins ≡ map (λ track. Some (reference_on track k) ∷ []) accesses.reads.items
  pub variables : map (λ variable. wrapped (variable_value here.values variable)) tree.variables ≡ map (λ numbers. value_on numbers k) accesses.variables.items
  pub targets : AllZip (IsTarget k here standing) outs accesses.targets.items

-- a tasklet of this code with these links, which is given this
pub record IsSetUp (tree : TaskletTree) (ins outs : List Link) (compiled : Compiled) (given : Inputs) (context : Context) : Type 0 where
  pub code : IsCodeOf tree compiled
  pub extents : given.extents ≡ map (link_extents context) (ins ++ outs)

-- the targets of outputs behind so many inputs, where code is given this
pub record AreTargets (count : ℕ) (ins outs : List Link) (given : Inputs) (all : List Target) (k : ℕ) (here standing : Context) : Type 0 where
  pub inputs : length ins ≡ count
  pub extents : given.extents ≡ map (link_extents here) (ins ++ outs)
  pub targets : AllZip (IsTarget k here standing) outs all

-- what is given has one element for each of so many inputs, and so many variables
pub record HasRoom (many more : ℕ) (given : Inputs) : Type 0 where
  pub singles : AllByRecursion (λ values. length values ≡ 1) given.values
  pub reads : length given.values ≡ many
  pub variables : length given.variables ≡ more
  pub few_reads : many < 2 ^ 32
  pub few_variables : more < 2 ^ 32

-- no output goes to a container of the innermost memory
abbrev pub AreOutward : Context → List Link → Type 0
AreOutward context outs = AllByRecursion (λ link. 0 < (context.reach link.memlet.container).level) outs
