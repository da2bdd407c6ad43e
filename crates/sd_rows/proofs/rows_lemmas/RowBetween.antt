-- Where the accesses of a row lead, by where they lead at its ends.
use Rattle.std.proofs.Common.{◌≡◌, ℕ, zero, suc, ◌-◌, ◌<◌, ◌≤◌, ℤ, List, [], ◌∷◌, ◌++◌, map, take, drop, length, Option, Some, None, Bool, true, false, slice_get, slice_index_or, nat_lt, if◌then◌else◌, refl, sym, ap, ◌∙◌, arith}
use Rattle.std.specs.List.{AllByRecursion}
use Rattle.std.proofs.lemmas.List.{append-nil, length-map, take_all}
use Rattle.std.proofs.Math.ListN.{drop_of_length-le}
use Rattle.sd_num.specs.declared.resolution.Resolution.{Resolution}
use Rattle.sd_work.specs.Memory.{Reference}
use Rattle.sd_work.specs.Leaf.{Pending, write_value, push_to}
use Rattle.sd_graph.specs.ContainerParts.{Containers, container_at, is_stream}
use Rattle.sd_graph.specs.TaskletMeaning.{Effect}
use Rattle.sd_graph.specs.Context.{Context, link_element, link_elements}
use Rattle.sd_graph.specs.Unfold.{pending_of, pending_by}
use Rattle.sd_graph.specs.declared.link.Link.{Link}
use Rattle.sd_scope.specs.even.Even.{is_scalar}
use Rattle.sd_scope.proofs.even_lemmas.Scalar.{one_element}
use Rattle.sd_row.specs.declared.row.track.Track.{Track}
use Rattle.sd_row.specs.row.Row.{reference_on}

-- ---- lists

-- a member of one list goes with that of another one
pub member_with : {A B C : Type 0} (made : A → C) (other : B → C) (members : List A) (others : List B) (number : ℕ) (member : A) (one : B) → map made members ≡ map other others → number < length members →
    member ≡ slice_index_or members number member → one ≡ slice_index_or others number one → made member ≡ other one
member_with made other [] others number member one same within is one_is = absurd (omega (arith, within))
member_with made other (first ∷ members) [] number member one same within is one_is = cc
member_with made other (first ∷ members) (second ∷ others) zero member one same within is one_is =
    let here : made first ≡ other second = cc in
    ap made is ∙ here ∙ ap other (sym one_is)
member_with made other (first ∷ members) (second ∷ others) (suc number) member one same within is one_is =
    let rest : map made members ≡ map other others = cc in
    member_with made other members others number member one rest (omega (arith, within)) is one_is

-- one more member goes with another one, as at both ends
pub one_more_between : {A B C : Type 0} (first last here : A → C) (near far now : B → C) (members : List A) (nears fars tracks : List B) (number : ℕ) (n f t : B) →
    map first members ≡ map near nears → map last members ≡ map far fars → number < length nears →
    n ≡ slice_index_or nears number n → f ≡ slice_index_or fars number f → ((member : A) → first member ≡ near n → last member ≡ far f → here member ≡ now t) →
    map here (take number members) ≡ map now (take number tracks) → map here (take (suc number) members) ≡ map now (take number tracks ++ t ∷ [])
one_more_between first last here near far now members [] fars tracks number n f t begins ends within n_is f_is told so_far = absurd (omega (arith, within))
one_more_between first last here near far now [] (x ∷ nears) fars tracks number n f t begins ends within n_is f_is told so_far = cc
one_more_between first last here near far now (m ∷ members) (x ∷ nears) [] tracks number n f t begins ends within n_is f_is told so_far = cc
one_more_between first last here near far now (m ∷ members) (x ∷ nears) (y ∷ fars) tracks zero n f t begins ends within n_is f_is told so_far =
    let low : first m ≡ near x = cc in
    let high : last m ≡ far y = cc in
    ap (λ one. one ∷ []) (told m (low ∙ ap near (sym n_is)) (high ∙ ap far (sym f_is)))
one_more_between first last here near far now (m ∷ members) (x ∷ nears) (y ∷ fars) [] (suc number) n f t begins ends within n_is f_is told so_far = cc
one_more_between first last here near far now (m ∷ members) (x ∷ nears) (y ∷ fars) (z ∷ tracks) (suc number) n f t begins ends within n_is f_is told so_far =
    let low : map first members ≡ map near nears = cc in
    let high : map last members ≡ map far fars = cc in
    let same : here m ≡ now z = cc in
    let rest : map here (take number members) ≡ map now (take number tracks) = cc in
    ap (λ one. one ∷ map here (take (suc number) members)) same
    ∙ ap (λ others. now z ∷ others) (one_more_between first last here near far now members nears fars tracks number n f t low high (omega (arith, within)) n_is f_is told rest)

pub as_many : {A B C : Type 0} (made : A → C) (other : B → C) (members : List A) (others : List B) → map made members ≡ map other others → length members ≡ length others
as_many made other members others same = sym (length-map members made) ∙ ap length same ∙ length-map others other

-- all members go with the others
pub whole_between : {A B C : Type 0} (here : A → C) (now : B → C) (members : List A) (tracks : List B) (number : ℕ) → length members ≤ number → length tracks ≤ number →
    map here (take number members) ≡ map now (take number tracks) → map here members ≡ map now tracks
whole_between here now members tracks number over over_tracks so_far = ap (map here) (sym (take_all number members over)) ∙ so_far ∙ ap (map now) (take_all number tracks over_tracks)

-- a list that is written back over another one of its length
pub written_back : {A : Type 0} (new old : List A) (count : ℕ) → length new ≡ count → length old ≡ count → take count (new ++ drop (length new) old) ≡ new
written_back new old count many old_many =
    let none : drop (length new) old ≡ [] = drop_of_length-le old (omega (arith, many, old_many)) in
    ap (λ rest. take count (new ++ rest)) none ∙ ap (take count) (append-nil new) ∙ take_all count new (omega (arith, many))

-- ---- reads

-- the elements of links of one element each
pub on_tracks : (context : Context) (row : ℕ) (links : List Link) (tracks : List Track) → AllByRecursion (λ link. is_scalar link.memlet.subset.dims ≡ true) links →
    map (link_elements context) links ≡ map (λ track. Some (reference_on track row) ∷ []) tracks →
    map (λ link. link_element context link []) links ≡ map (λ track. Some (reference_on track row)) tracks
on_tracks context row [] [] scalars same = refl
on_tracks context row [] (track ∷ tracks) scalars same = cc
on_tracks context row (link ∷ links) [] scalars same = cc
on_tracks context row (link ∷ links) (track ∷ tracks) scalars same =
    let here : link_elements context link ≡ Some (reference_on track row) ∷ [] = cc in
    let others : map (link_elements context) links ≡ map (λ track. Some (reference_on track row) ∷ []) tracks = cc in
    let one : link_element context link [] ∷ [] ≡ Some (reference_on track row) ∷ [] = sym (one_element context link scalars.0) ∙ here in
    let same_one : link_element context link [] ≡ Some (reference_on track row) = cc in
    ap (λ element. element ∷ map (λ link. link_element context link []) links) same_one
    ∙ ap (λ rest. Some (reference_on track row) ∷ rest) (on_tracks context row links tracks scalars.1 others)

-- ---- writes

-- an element that is written to at both ends, and so between them
module _ (v va vb : ℤ) (by by_a by_b : Option Resolution) (a b c : Reference) (first last now : Option Reference) (told : first ≡ Some a → last ≡ Some b → now ≡ Some c) where
  by_test : (streams : Bool) (l1 c1 l2 c2 l3 c3 : ℕ) →
      (if streams then push_to l1 c1 v else write_value v first by) ≡ write_value va (Some a) by_a → (if streams then push_to l2 c2 v else write_value v last by) ≡ write_value vb (Some b) by_b →
      (if streams then push_to l3 c3 v else write_value v now by) ≡ write_value va (Some c) by_a
  by_test true l1 c1 l2 c2 l3 c3 begins ends = cc
  by_test false l1 c1 l2 c2 l3 c3 begins ends =
      let low : first ≡ Some a = cc in
      let high : last ≡ Some b = cc in
      let value_is : v ≡ va = cc in
      let by_is : by ≡ by_a = cc in
      ap (λ element. write_value v element by) (told low high) ∙ ap (λ value. write_value value (Some c) by) value_is ∙ ap (write_value va (Some c)) by_is

module _ (first last now : Context) (connector : ℕ) (v va vb : ℤ) (by_a by_b : Option Resolution) (a b c : Reference) (last_same : last.containers ≡ first.containers) (now_same : now.containers ≡ first.containers)
    (told : (link : Link) → link_element first link [] ≡ Some a → link_element last link [] ≡ Some b → link_element now link [] ≡ Some c) where
  abbrev effect : Effect
  effect = record { connector = connector; at = []; value = v }

  abbrev written : Context → Link → Bool → Pending
  written context link streams =
      if streams
      then push_to (context.reach link.memlet.container).level (context.reach link.memlet.container).container v
      else write_value v (link_element context link []) link.memlet.resolution

  through : (link : Link) → pending_by first (Some link) effect ≡ write_value va (Some a) by_a → pending_by last (Some link) effect ≡ write_value vb (Some b) by_b →
      pending_by now (Some link) effect ≡ write_value va (Some c) by_a
  through link begins ends =
      let test = λ (all : Containers). is_stream (container_at all link.memlet.container).kind in
      ap (written now link) (ap test now_same)
      ∙ by_test v va vb link.memlet.resolution by_a by_b a b c (link_element first link []) (link_element last link []) (link_element now link []) (told link) (test first.containers)
      (first.reach link.memlet.container).level (first.reach link.memlet.container).container (last.reach link.memlet.container).level (last.reach link.memlet.container).container
      (now.reach link.memlet.container).level (now.reach link.memlet.container).container
      begins (ap (written last link) (sym (ap test last_same)) ∙ ends)

  by_link : (link : Option Link) → pending_by first link effect ≡ write_value va (Some a) by_a → pending_by last link effect ≡ write_value vb (Some b) by_b → pending_by now link effect ≡ write_value va (Some c) by_a
  by_link None begins ends = cc
  by_link (Some link) begins ends = through link begins ends

  by_number : (input : Bool) (link : Option Link) → (if input then pending_by first None effect else pending_by first link effect) ≡ write_value va (Some a) by_a →
      (if input then pending_by last None effect else pending_by last link effect) ≡ write_value vb (Some b) by_b → (if input then pending_by now None effect else pending_by now link effect) ≡ write_value va (Some c) by_a
  by_number true link begins ends = cc
  by_number false link begins ends = by_link link begins ends

  pub pending_between : (ins outs : List Link) → pending_of first ins outs effect ≡ write_value va (Some a) by_a → pending_of last ins outs effect ≡ write_value vb (Some b) by_b →
      pending_of now ins outs effect ≡ write_value va (Some c) by_a
  pending_between ins outs begins ends = by_number (nat_lt connector (length ins)) (slice_get outs (connector - length ins)) begins ends
