-- The names of a graph's size symbols and arguments, as lists of them are cut and copied.
use Rattle.std.proofs.Common.{◌≡◌, ℕ, zero, suc, List, [], ◌∷◌, map, take, min, length, refl, ap, ◌∙◌, false, String, string_bytes, string_eq, bytes_eq}
use Rattle.std.proofs.Math.Nat.{min_comm}
use Rattle.std.proofs.lemmas.List.{take_min}
use Rattle.std.specs.List.{AllByRecursion, IsDistinct}
use Rattle.std.specs.Map.{keys_of}
use Rattle.std.specs.declared.alloc.Global.{Global}
use Rattle.sd_graph.specs.TreeFold.{graph_tree, named_container}
use Rattle.sd_graph.specs.declared.container.Container.{Container}
use Rattle.sd_graph.specs.declared.graph.Sdfg.{Sdfg}
use Rattle.sd_graph.specs.declared.graph.ItemKind.TheViews.{out-Sdfg}
use Rattle.sd_graph.proofs.TreeLemmas.{graph_opened}
use Rattle.sd_json.specs.Names.{names_in}
use Rattle.sd_json.specs.declared.names.Names.{Names}

pub map_take : {A B : Type 0} (f : A → B) (n : ℕ) (items : List A) → map f (take n items) ≡ take n (map f items)
map_take f zero items = refl
map_take f (suc n) [] = refl
map_take f (suc n) (first ∷ items) = ap (λ rest. f first ∷ rest) (map_take f n items)

pub argument_names : (n : ℕ) (containers : List (String Global × Container)) →
    map string_bytes (take n (keys_of containers)) ≡ map (λ container. container.0) (take n (map named_container containers))
argument_names zero containers = refl
argument_names (suc n) [] = refl
argument_names (suc n) (first ∷ containers) = ap (λ rest. string_bytes first.0 ∷ rest) (argument_names n containers)

-- a list cut at a number, or at its end where that comes first
pub cut_names : (cut n : ℕ) (now names : List (String Global)) → now ≡ names → cut ≡ min (length now) n → take cut now ≡ take n names
cut_names cut n now names is at = ap (λ k. take k now) (at ∙ min_comm (length now) n) ∙ take_min n now ∙ ap (take n) is

pub same_names : (a b : Names) → a.symbols ≡ b.symbols → a.arguments ≡ b.arguments → a ≡ b
same_names a b symbols arguments = λ i. record { symbols = symbols i; arguments = arguments i }

-- the names of an opened graph
pub names_opened : (g : Sdfg) → names_in (graph_tree g) ≡ record {
  symbols = take (out-Sdfg g).symbols (map string_bytes (out-Sdfg g).variables.items);
  arguments = map (λ container. container.0) (take (out-Sdfg g).arguments (map named_container (out-Sdfg g).containers.entries));
}
names_opened g = ap names_in (graph_opened g)

others_differ : (n : ℕ) (name : String Global) (names : List (String Global)) → AllByRecursion (λ other. string_eq name other ≡ false) names →
    AllByRecursion (λ other. bytes_eq (string_bytes name) other ≡ false) (map string_bytes (take n names))
others_differ zero name names all = tt
others_differ (suc n) name [] all = tt
others_differ (suc n) name (other ∷ names) all = (all.0, others_differ n name names all.1)

-- the first of keys that differ have bytes that differ
pub names_differ : (n : ℕ) (names : List (String Global)) → IsDistinct string_eq names → IsDistinct bytes_eq (map string_bytes (take n names))
unfolding IsDistinct
names_differ zero names all = tt
names_differ (suc n) [] all = tt
names_differ (suc n) (name ∷ names) all = (others_differ n name names all.0, names_differ n names all.1)
