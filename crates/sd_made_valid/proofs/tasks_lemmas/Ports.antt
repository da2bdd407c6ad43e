-- Connectors by name have their numbers and their dimensions.
use Rattle.std.proofs.Common.{◌≡◌, ◌∙◌, ℕ, suc, ◌+◌, ◌-◌, nat_lt, List, [], ◌∷◌, map, length, slice_get, Option, Some, None, Bool, true, false, cond, not, ◌&&◌, bytes_eq, refl, ap, sym, subst, arith}
use Rattle.std.specs.Bool.{⊤}
use Rattle.std.proofs.lemmas.List.{length-map}
use Rattle.sd_graph.specs.PlainTree.{TaskletTree}
use Rattle.sd_graph.specs.declared.link.Link.{Link}
use Rattle.sd_graph.specs.declared.tasklet.Port.{Port}
use Rattle.sd_program.specs.Names.{Name, Named, in_force}
use Rattle.sd_task.specs.in_force.Names.{with_numbered}
use Rattle.sd_task.specs.in_force.Subsets.{ranges_among}
use Rattle.sd_task.specs.task.Links.{port_of, ports_of}
use Rattle.sd_task.specs.tasklet_names.UsedNames.{connectors_from}
use Rattle.sd_validity.specs.rules.CodeNames.{has_dims, is_input, is_output}
use Rattle.sd_graph.proofs.Among.{nat_eq_same}
use Rattle.sd_made_valid.specs.tasks.Counted.{dimensions_of}

-- a test of a connector's number and its dimensions
abbrev pub Test : Type 0
Test = (connector count : ℕ) → Bool

-- a name has both, which pass the test, or neither
abbrev pub Matches : Test → Option ℕ → Option ℕ → Type 0
Matches test None None = ⊤
Matches test None (Some count) = ⊥
Matches test (Some connector) None = ⊥
Matches test (Some connector) (Some count) = test connector count ≡ true

abbrev pub AreMatched : Test → (numbers dimensions : Named ℕ) → Type 0
AreMatched test numbers dimensions = (name : Name) → Matches test (in_force numbers name) (in_force dimensions name)

-- links are numbered from this one on
abbrev ArePassed : Test → ℕ → List Link → Type 0
ArePassed test next [] = ⊤
ArePassed test next (link ∷ links) = (test next (ranges_among link.memlet.subset.dims) ≡ true) × ArePassed test (suc next) links

one_matched : (test : Test) (same : Bool) (connector count : ℕ) (numbers dimensions : Option ℕ) → test connector count ≡ true → Matches test numbers dimensions →
    Matches test (cond same (Some connector) numbers) (cond same (Some count) dimensions)
one_matched test true connector count numbers dimensions is others = is
one_matched test false connector count numbers dimensions is others = others

one_next : (next : ℕ) → suc next ≡ next + 1
one_next next = omega arith

links_matched : (test : Test) (links : List Link) (next : ℕ) (numbers dimensions : Named ℕ) → ArePassed test next links → AreMatched test numbers dimensions →
    AreMatched test (with_numbered (map (λ link. link.connector) links) next numbers) (dimensions_of links dimensions)
links_matched test [] next numbers dimensions passed are = are
links_matched test (link ∷ links) next numbers dimensions passed are =
    let count : ℕ = ranges_among link.memlet.subset.dims in
    links_matched test links (next + 1) ((link.connector, next) ∷ numbers) ((link.connector, count) ∷ dimensions) (subst (λ next. ArePassed test next links) (one_next next) passed.1)
    (λ name. one_matched test (bytes_eq name link.connector) next count (in_force numbers name) (in_force dimensions name) passed.0 (are name))

-- ---- inputs

abbrev in_ports : List Port → Test
in_ports ports connector count = has_dims (slice_get ports connector) count

-- behind one more
ports_behind : (port : Port) (ports : List Port) (links : List Link) (next : ℕ) → ArePassed (in_ports ports) next links → ArePassed (in_ports (port ∷ ports)) (suc next) links
ports_behind port ports [] next passed = tt
ports_behind port ports (link ∷ links) next passed = (passed.0, ports_behind port ports links (suc next) passed.1)

ports_passed : (links : List Link) → ArePassed (in_ports (ports_of links)) 0 links
ports_passed [] = tt
ports_passed (link ∷ links) =
    (nat_eq_same (ranges_among link.memlet.subset.dims) (ranges_among link.memlet.subset.dims) refl, ports_behind (port_of link.connector (ranges_among link.memlet.subset.dims)) (ports_of links) links 0 (ports_passed links))

-- ---- outputs, behind so many inputs

abbrev behind_ins : ℕ → Test → Test
behind_ins first test connector count = not (nat_lt connector first) && test (connector - first) count

not_below : (first next : ℕ) → nat_lt (first + next) first ≡ false
not_below first next = grind arith

none_more : (first next : ℕ) → first + next - first ≡ next
none_more first next = omega arith

grown : (first next : ℕ) → first + suc next ≡ suc (first + next)
grown first next = omega arith

behind_passed : (first : ℕ) (test : Test) (links : List Link) (next : ℕ) → ArePassed test next links → ArePassed (behind_ins first test) (first + next) links
behind_passed first test [] next passed = tt
behind_passed first test (link ∷ links) next passed = (
  rw (not_below first next, none_more first next) passed.0,
  subst (λ next. ArePassed (behind_ins first test) next links) (grown first next) (behind_passed first test links (suc next) passed.1),
)

-- ---- of code with these links

none_matched : (test : Test) → AreMatched test [] []
none_matched test name = tt

pub ins_matched : (code : TaskletTree) (links : List Link) → code.ins ≡ ports_of links → AreMatched (is_input code) (connectors_from 0 links) (dimensions_of links [])
ins_matched code links made =
    subst (λ ports. AreMatched (in_ports ports) (connectors_from 0 links) (dimensions_of links [])) (sym made)
    (links_matched (in_ports (ports_of links)) links 0 [] [] (ports_passed links) (none_matched (in_ports (ports_of links))))

outs_from : (first : ℕ) (links : List Link) → AreMatched (behind_ins first (in_ports (ports_of links))) (connectors_from first links) (dimensions_of links [])
outs_from first links =
    let test : Test = behind_ins first (in_ports (ports_of links)) in
    let from : first + 0 ≡ first = omega arith in
    links_matched test links first [] [] (subst (λ next. ArePassed test next links) from (behind_passed first (in_ports (ports_of links)) links 0 (ports_passed links))) (none_matched test)

pub outs_matched : (code : TaskletTree) (ins outs : List Link) → code.ins ≡ ports_of ins → code.outs ≡ ports_of outs → AreMatched (is_output code) (connectors_from (length ins) outs) (dimensions_of outs [])
outs_matched code ins outs made_ins made_outs =
    let count : length ins ≡ length code.ins = sym (ap length made_ins ∙ length-map ins (λ link. port_of link.connector (ranges_among link.memlet.subset.dims))) in
    subst (λ first. AreMatched (behind_ins (length code.ins) (in_ports code.outs)) (connectors_from first outs) (dimensions_of outs [])) (sym count)
    (subst (λ ports. AreMatched (behind_ins (length code.ins) (in_ports ports)) (connectors_from (length code.ins) outs) (dimensions_of outs [])) (sym made_outs) (outs_from (length code.ins) outs))
