-- Elements that are read, one after another and link by link.
use Rattle.std.proofs.Common.{◌≡◌, ℕ, suc, ℤ, List, [], ◌∷◌, ◌++◌, map, length, take, drop, Option, Some, None, option_map, refl, sym, ap, ◌∙◌, subst, append_assoc, false}
use Rattle.std.specs.List.{flat_map}
use Rattle.std.proofs.lemmas.List.{append-nil, length-map}
use Rattle.std.proofs.Math.Seq.{take-append_seam, drop-append_seam}
use Rattle.sd_range.specs.Points.{product}
use Rattle.sd_range.specs.Subset.{elements, whole}
use Rattle.sd_range.proofs.SubsetLaws.{whole-count}
use Rattle.sd_work.specs.declared.fault.FaultKind.TheVariants.{Subscript}
use Rattle.sd_work.specs.Memory.{Memories, Reference, look, seen}
use Rattle.sd_work.specs.Exit.{all_seen, with_value}
use Rattle.sd_work.specs.Move.{fault_at}
use Rattle.sd_work.specs.Leaf.{Evaluation}
use Rattle.sd_work.specs.BigStep.{Coming, faulted, big_evaluated, big_reading}
use Rattle.sd_graph.specs.Context.{Context, link_elements, link_extents, index_at, reference_at}
use Rattle.sd_graph.specs.Unfold.{cut}
use Rattle.sd_graph.specs.declared.link.Link.{Link}
use Rattle.sd_graph.specs.declared.place.Place.{Place}
use Rattle.sd_graph.proofs.ElementPlaces.{elements_are_at_places}
use Rattle.sd_mem.specs.machine.Stack.{reference_of}
use Rattle.sd_mem.specs.declared.machine.address.Address.{Address}
use Rattle.sd_leaves.specs.leaves.Read.{before_others, links_seen}

-- ---- how many there are

counted : (read : Option ℤ) (others : Option (List ℤ)) (count : ℕ) (values : List ℤ) →
    ((rest : List ℤ) → others ≡ Some rest → length rest ≡ count) → with_value read others ≡ Some values → length values ≡ suc count
counted None others count values rest is = cc
counted (Some value) None count values rest is = cc
counted (Some value) (Some others) count values rest is =
    let same : value ∷ others ≡ values = cc in
    ap length (sym same) ∙ ap suc (rest others refl)

-- as many values are read as there are elements
seen_length : (reads : List (Option Reference)) (memories : Memories) (values : List ℤ) → all_seen reads memories ≡ Some values → length values ≡ length reads
seen_length [] memories values is =
    let same : [] ≡ values = cc in
    ap length (sym same)
seen_length (read ∷ reads) memories values is = counted (seen read memories) (all_seen reads memories) (length reads) values (seen_length reads memories) is

-- a link has as many elements as its connector has places
link_length : (context : Context) (link : Link) → length (link_elements context link) ≡ product (link_extents context link)
link_length context link =
    length-map (elements link.memlet.subset context.values) (reference_at (context.reach link.memlet.container))
    ∙ ap length (elements_are_at_places link.memlet.subset context.values)
    ∙ length-map (whole (link_extents context link)) (index_at link.memlet.subset.dims context.values)
    ∙ whole-count (link_extents context link)

-- ---- link by link

-- values that were read before others
abbrev pub with_values : {A : Type 0} → List A → Option (List A) → Option (List A)
with_values values others = option_map (λ others. values ++ others) others

-- values before others, where all accesses are inside
abbrev joined : Option (List ℤ) → Option (List ℤ) → Option (List ℤ)
joined None others = None
joined (Some values) None = None
joined (Some values) (Some others) = Some (values ++ others)

value_first : (value : Option ℤ) (values others : Option (List ℤ)) → with_value value (joined values others) ≡ joined (with_value value values) others
value_first None values others = refl
value_first (Some value) None others = refl
value_first (Some value) (Some values) None = refl
value_first (Some value) (Some values) (Some others) = refl

no_values : (others : Option (List ℤ)) → others ≡ joined (Some []) others
no_values None = refl
no_values (Some others) = refl

seen_appended : (reads others : List (Option Reference)) (memories : Memories) → all_seen (reads ++ others) memories ≡ joined (all_seen reads memories) (all_seen others memories)
seen_appended [] others memories = no_values (all_seen others memories)
seen_appended (None ∷ reads) others memories = refl
seen_appended (Some read ∷ reads) others memories =
    ap (with_value (Some (look read memories))) (seen_appended reads others memories) ∙ value_first (Some (look read memories)) (all_seen reads memories) (all_seen others memories)

-- the values of all links
abbrev pub all_values : List (List ℤ) → List ℤ
all_values read = flat_map (λ values. values) read

joined_values : (values : Option (List ℤ)) (others : Option (List (List ℤ))) → joined values (option_map all_values others) ≡ option_map all_values (before_others values others)
joined_values None others = refl
joined_values (Some values) None = refl
joined_values (Some values) (Some others) = refl

-- what is read one after another is what is read link by link
pub seen_by_links : (context : Context) (links : List Link) (memories : Memories) →
    all_seen (flat_map (link_elements context) links) memories ≡ option_map all_values (links_seen context links memories)
seen_by_links context [] memories = refl
seen_by_links context (link ∷ links) memories =
    seen_appended (link_elements context link) (flat_map (link_elements context) links) memories
    ∙ ap (joined (all_seen (link_elements context link) memories)) (seen_by_links context links memories)
    ∙ joined_values (all_seen (link_elements context link) memories) (links_seen context links memories)

-- ---- cut in pieces

-- the numbers of places of connectors
abbrev place_counts : Context → List Link → List ℕ
place_counts context links = map (λ link. product (link_extents context link)) links

cut_first : (context : Context) (link : Link) (links : List Link) (values : List ℤ) (others : List (List ℤ)) → length values ≡ product (link_extents context link) →
    cut (place_counts context links) (all_values others) ≡ others → cut (place_counts context (link ∷ links)) (all_values (values ∷ others)) ≡ values ∷ others
cut_first context link links values others many rest =
    subst (λ (count : ℕ). take count (values ++ all_values others) ∷ cut (place_counts context links) (drop count (values ++ all_values others)) ≡ values ∷ others) many
    (ap (λ first. first ∷ cut (place_counts context links) (drop (length values) (values ++ all_values others))) (take-append_seam values (all_values others))
    ∙ ap (λ left. values ∷ cut (place_counts context links) left) (drop-append_seam values (all_values others))
    ∙ ap (λ pieces. values ∷ pieces) rest)

cut_seen : (context : Context) (link : Link) (links : List Link) (memories : Memories) (first : Option (List ℤ)) (rest : Option (List (List ℤ))) (read : List (List ℤ)) →
    all_seen (link_elements context link) memories ≡ first → ((others : List (List ℤ)) → rest ≡ Some others → cut (place_counts context links) (all_values others) ≡ others) →
    before_others first rest ≡ Some read → cut (place_counts context (link ∷ links)) (all_values read) ≡ read
cut_seen context link links memories None rest read seen behind is = cc
cut_seen context link links memories (Some values) None read seen behind is = cc
cut_seen context link links memories (Some values) (Some others) read seen behind is =
    let same : values ∷ others ≡ read = cc in
    subst (λ (read : List (List ℤ)). cut (place_counts context (link ∷ links)) (all_values read) ≡ read) same
    (cut_first context link links values others (seen_length (link_elements context link) memories values seen ∙ link_length context link) (behind others refl))

-- what was read, cut by the connectors, is what was read of each
pub cut_by_links : (context : Context) (links : List Link) (memories : Memories) (read : List (List ℤ)) → links_seen context links memories ≡ Some read →
    cut (place_counts context links) (all_values read) ≡ read
cut_by_links context [] memories read is = cc
cut_by_links context (link ∷ links) memories read is =
    cut_seen context link links memories (all_seen (link_elements context link) memories) (links_seen context links memories) read refl (cut_by_links context links memories) is

-- ---- and then the evaluation

-- what comes behind reading
abbrev pub evaluated_behind : Place → (values : List ℤ) → Evaluation → Memories → (turns : ℕ) → Option (List ℤ) → Coming Place
evaluated_behind place values evaluation memories turns None = faulted (fault_at place Subscript)
evaluated_behind place values evaluation memories turns (Some more) = big_evaluated place false (evaluation (values ++ more)) memories turns

one_more : (place : Place) (values : List ℤ) (evaluation : Evaluation) (memories : Memories) (turns : ℕ) (value : ℤ) (rest : Option (List ℤ)) →
    evaluated_behind place (values ++ value ∷ []) evaluation memories turns rest ≡ evaluated_behind place values evaluation memories turns (with_value (Some value) rest)
one_more place values evaluation memories turns value None = refl
one_more place values evaluation memories turns value (Some more) = ap (λ all. big_evaluated place false (evaluation all) memories turns) (append_assoc values (value ∷ []) more)

-- elements are read one after another, and then their values are evaluated
pub reading_all : (place : Place) (reads : List (Option Reference)) (values : List ℤ) (evaluation : Evaluation) (memories : Memories) (turns : ℕ) →
    big_reading place false reads values evaluation memories turns ≡ evaluated_behind place values evaluation memories turns (all_seen reads memories)
reading_all place [] values evaluation memories turns = ap (λ all. big_evaluated place false (evaluation all) memories turns) (sym (append-nil values))
reading_all place (None ∷ reads) values evaluation memories turns = refl
reading_all place (Some read ∷ reads) values evaluation memories turns =
    reading_all place reads (values ++ look read memories ∷ []) evaluation memories turns ∙ one_more place values evaluation memories turns (look read memories) (all_seen reads memories)

-- ---- elements that are looked up index by index

value_after : (values : List ℤ) (value : ℤ) (rest : Option (List ℤ)) → with_values values (with_value (Some value) rest) ≡ with_values (values ++ value ∷ []) rest
value_after values value None = refl
value_after values value (Some more) = ap Some (sym (append_assoc values (value ∷ []) more))

module _ (find : List ℤ → Option Reference) (memories : Memories) (values : List ℤ) where
  -- the values so far stand before those of the indices that are left
  abbrev pub seen_from : (indices : List (List ℤ)) → Option (List ℤ)
  seen_from indices = with_values values (all_seen (map find indices) memories)

  module _ (indices rest : List (List ℤ)) (at : List ℤ) (is : indices ≡ at ∷ rest) where
    -- one more element is read
    pub index_read : (cell : Address) (more : List ℤ) (value : ℤ) → find at ≡ Some (reference_of cell) → value ≡ look (reference_of cell) memories → more ≡ values ++ value ∷ [] →
        seen_from indices ≡ with_values more (all_seen (map find rest) memories)
    index_read cell more value found looked grown =
        ap seen_from is
        ∙ ap (λ (first : Option Reference). with_values values (with_value (seen first memories) (all_seen (map find rest) memories))) found
        ∙ value_after values (look (reference_of cell) memories) (all_seen (map find rest) memories)
        ∙ ap (λ value. with_values (values ++ value ∷ []) (all_seen (map find rest) memories)) (sym looked)
        ∙ ap (λ values. with_values values (all_seen (map find rest) memories)) (sym grown)

    -- an element that is outside
    pub index_outside : find at ≡ None → seen_from indices ≡ None
    index_outside outside =
        ap seen_from is ∙ ap (λ (first : Option Reference). with_values values (with_value (seen first memories) (all_seen (map find rest) memories))) outside

  -- none is left
  pub index_over : (indices : List (List ℤ)) → indices ≡ [] → seen_from indices ≡ Some values
  index_over indices none = ap seen_from none ∙ ap Some (append-nil values)

nothing_before : (others : Option (List ℤ)) → others ≡ with_values [] others
nothing_before None = refl
nothing_before (Some others) = refl

-- nothing was read yet
pub none_seen : (find : List ℤ → Option Reference) (memories : Memories) (all left : List (List ℤ)) → all ≡ left →
    all_seen (map find all) memories ≡ with_values [] (all_seen (map find left) memories)
none_seen find memories all left is = ap (λ all. all_seen (map find all) memories) is ∙ nothing_before (all_seen (map find left) memories)
