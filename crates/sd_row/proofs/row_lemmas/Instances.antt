-- What code is given at a point of a row, and what it comes to.
use Rattle.std.proofs.Common.{◌≡◌, ℕ, zero, suc, ℤ, List, [], ◌∷◌, ◌++◌, length, map, replicate, drop, Option, Some, None, Ok, Err, refl, sym, ap, ◌∙◌, subst}
use Rattle.sd_num.specs.declared.resolution.Resolution.{Resolution}
use Rattle.sd_num.specs.declared.width.Width.{Width}
use Rattle.sd_num.specs.declared.width.Width.TheVariants.{W64}
use Rattle.sd_work.specs.declared.fault.FaultKind.{FaultKind}
use Rattle.sd_work.specs.Memory.{Contents, array, Memory, Memories, Reference}
use Rattle.sd_work.specs.Change.{write, apply, changed_at, with_elements, with_contents, written}
use Rattle.sd_work.specs.Leaf.{Pending}
use Rattle.sd_work.specs.BigStep.{Reached}
use Rattle.sd_graph.specs.PlainTree.{TaskletTree}
use Rattle.sd_graph.specs.TaskletMeaning.{Inputs, meaning_of}
use Rattle.sd_graph.specs.Context.{Context, link_elements}
use Rattle.sd_graph.specs.declared.link.Link.{Link}
use Rattle.sd_tcode.specs.tcode.Outputs.{output_effects}
use Rattle.sd_leaves.specs.leaves.Done.{IsDone, performing, instance_work}
use Rattle.sd_leaves.specs.leaves.Given.{given_at}
use Rattle.sd_leaves.specs.leaves.Read.{links_seen}
use Rattle.sd_leaves.proofs.leaves_lemmas.Instances.{evaluation_fails, evaluation_goes}
use Rattle.sd_row.specs.declared.row.track.Track.{Track}
use Rattle.sd_row.specs.declared.row.row.Row.{Row}
use Rattle.sd_tcode.specs.columns.Columns.{value_on}
use Rattle.sd_row.specs.row.Row.{reference_on, write_on, order_of, IsAt}
use Rattle.sd_row.specs.row.Point.{seen_on, IsBare, IsOver}

-- ---- what is read

-- links of one element each are seen as the elements of their tracks
pub tracks_seen : (context : Context) (memories : Memories) (k : ℕ) (links : List Link) (tracks : List Track) →
    map (link_elements context) links ≡ map (λ track. Some (reference_on track k) ∷ []) tracks →
    links_seen context links memories ≡ Some (map (λ track. seen_on k memories track ∷ []) tracks)
tracks_seen context memories k [] [] same = refl
tracks_seen context memories k [] (track ∷ tracks) same = cc
tracks_seen context memories k (link ∷ links) [] same = cc
tracks_seen context memories k (link ∷ links) (track ∷ tracks) same =
    let here : link_elements context link ≡ Some (reference_on track k) ∷ [] = cc in
    let others : map (link_elements context) links ≡ map (λ track. Some (reference_on track k) ∷ []) tracks = cc in
    rw here (rw (tracks_seen context memories k links tracks others) refl)

-- lists without members, as many
pub all_empty : (links : List Link) → map {B = List ℕ} (λ link. []) links ≡ replicate (length links) []
all_empty [] = refl
all_empty (link ∷ links) = ap (λ (rest : List (List ℕ)). [] ∷ rest) (all_empty links)

module _ (tree : TaskletTree) (ins outs : List Link) (row : Row) (k : ℕ) (context : Context) (at : IsAt tree ins outs row k context) where
  -- what the code is given
  pub given_here : (memories : Memories) (inputs : Inputs) (connectors : ℕ) → length (ins ++ outs) ≡ connectors →
      inputs.values ≡ map (λ track. seen_on k memories track ∷ []) row.reads.items →
      inputs.variables ≡ map (λ numbers. value_on numbers k) row.variables.items →
      inputs.extents ≡ replicate connectors [] →
      given_at context tree ins outs (map (λ track. seen_on k memories track ∷ []) row.reads.items) ≡ inputs
  given_here memories inputs connectors many values variables extents = λ i. record {
    values = sym values i;
    extents = (at.extents ∙ all_empty (ins ++ outs) ∙ ap (λ count. replicate count []) many ∙ sym extents) i;
    variables = (at.variables ∙ sym variables) i;
  }

  module _ (now : Reached) (inputs : Inputs) (same : given_at context tree ins outs (map (λ track. seen_on k now.memories track ∷ []) row.reads.items) ≡ inputs) where
    -- the code comes to a fault
    pub point_fails : (kind : FaultKind) → meaning_of tree inputs ≡ Err kind → IsDone (instance_work context tree ins outs) now (Some kind) now
    point_fails kind fails =
        evaluation_fails context tree ins outs now (map (λ track. seen_on k now.memories track ∷ []) row.reads.items) (tracks_seen context now.memories k ins row.reads.items at.reads) kind
        (ap (meaning_of tree) same ∙ fails)

    -- its outputs are written
    pub point_writes : (value : ℕ → ℤ) (after : Reached) → meaning_of tree inputs ≡ Ok (output_effects value (order_of row)) →
        IsDone (performing (map (write_on value k) row.writes.items)) now None after → IsDone (instance_work context tree ins outs) now None after
    point_writes value after goes done =
        evaluation_goes context tree ins outs now (map (λ track. seen_on k now.memories track ∷ []) row.reads.items) (tracks_seen context now.memories k ins row.reads.items at.reads)
        (output_effects value (order_of row)) None after (ap (meaning_of tree) same ∙ goes)
        (subst (λ (todo : List Pending). IsDone (performing todo) now None after) (sym (at.writes value)) done)

-- ---- memories that hold nothing

-- elements of none
none_changed : (element : ℕ) (change : ℤ → ℤ) → changed_at element change [] ≡ []
none_changed element change = refl

bare_changed : (container : ℕ) (change : Width → List ℤ → List ℤ) (memory : Memory) → change W64 [] ≡ [] → IsBare memory → changed_at container (with_elements change) memory ≡ memory
bare_changed container change [] none bare = refl
bare_changed zero change (contents ∷ memory) none bare =
    ap (λ (first : Contents). first ∷ memory) (ap (with_elements change) bare.0 ∙ ap (array W64) none ∙ sym bare.0)
bare_changed (suc container) change (contents ∷ memory) none bare = ap (λ (rest : Memory). contents ∷ rest) (bare_changed container change memory none bare.1)

write_stays : (own : Memory) (memories : Memories) (level container element : ℕ) (by : Option Resolution) (value : ℤ) → IsBare own →
    with_contents level container (with_elements (λ width. changed_at element (written width by value))) (own ∷ memories) ≡ own ∷ drop 1 (with_contents level container (with_elements (λ width. changed_at element (written width by value))) (own ∷ memories))
write_stays own memories zero container element by value bare =
    ap (λ (first : Memory). first ∷ memories) (bare_changed container (λ width. changed_at element (written width by value)) own refl bare)
write_stays own memories (suc level) container element by value bare = refl

-- a write changes nothing in a memory that holds nothing
pub stays_over : (own : Memory) (memories : Memories) (to : Reference) (by : Option Resolution) (value : ℤ) → IsBare own → apply (write to by value) (own ∷ memories) ≡ own ∷ drop 1 (apply (write to by value) (own ∷ memories))
stays_over own memories to by value bare = write_stays own memories to.level to.container to.element by value bare

-- the innermost memory stays where the others do
pub over_kept : (own : Memory) (old new : Reached) → new.memories ≡ old.memories → IsOver own old → IsOver own new
over_kept own old new same over = same ∙ over ∙ ap (λ (memories : Memories). own ∷ drop 1 memories) (sym same)

pub over_written : (own : Memory) (old new : Reached) (to : Reference) (by : Option Resolution) (value : ℤ) → IsBare own → new.memories ≡ apply (write to by value) old.memories → IsOver own old → IsOver own new
over_written own old new to by value bare same over =
    let whole : new.memories ≡ apply (write to by value) (own ∷ drop 1 old.memories) = same ∙ ap (apply (write to by value)) over in
    whole ∙ stays_over own (drop 1 old.memories) to by value bare ∙ ap (λ (memories : Memories). own ∷ drop 1 memories) (sym whole)
