-- Memories of which one container changes.
use Rattle.std.proofs.Common.{◌≡◌, ℕ, zero, suc, ◌<◌, ◌≤◌, List, [], ◌∷◌, map, length, slice_index_or, slice_set, Ok, Err, Result, refl, ap, ◌∙◌, sym, arith}
use Rattle.std.specs.Result.{OnOk, OnErr}
use Rattle.std.proofs.lemmas.List.{length-map}
use Rattle.sd_work.specs.Memory.{Contents}
use Rattle.sd_work.specs.Change.{changed_at}
use Rattle.sd_mem.specs.mem.Shaped.{Shaped}
use Rattle.sd_mem.specs.mem.Holding.{shape_held, contents_held, memory_of}
use Rattle.sd_mem.specs.declared.mem.holding.Holding.{Holding}

-- contents of one container are changed
pub contents_changed : (holdings : List Holding) (i : ℕ) (new old : Holding) (change : Contents → Contents) → old ≡ slice_index_or holdings i old →
    contents_held new ≡ change (contents_held old) → map contents_held (slice_set holdings i new) ≡ changed_at i change (map contents_held holdings)
contents_changed [] i new old change is same = refl
contents_changed (holding ∷ holdings) zero new old change is same =
    ap (λ (contents : Contents). contents ∷ map contents_held holdings) (same ∙ ap (λ (held : Holding). change (contents_held held)) is)
contents_changed (holding ∷ holdings) (suc i) new old change is same =
    ap (λ (rest : List Contents). contents_held holding ∷ rest) (contents_changed holdings i new old change is same)

-- its extents stay
pub shapes_kept : (holdings : List Holding) (i : ℕ) (new old : Holding) → old ≡ slice_index_or holdings i old →
    shape_held new ≡ shape_held old → map shape_held (slice_set holdings i new) ≡ map shape_held holdings
shapes_kept [] i new old is same = refl
shapes_kept (holding ∷ holdings) zero new old is same = ap (λ (shape : List ℕ). shape ∷ map shape_held holdings) (same ∙ ap shape_held is)
shapes_kept (holding ∷ holdings) (suc i) new old is same = ap (λ (rest : List (List ℕ)). shape_held holding ∷ rest) (shapes_kept holdings i new old is same)

-- a memory of these extents and contents
abbrev pub made : List (List ℕ) → List Contents → Shaped
made shapes contents = record { shapes = shapes; contents = contents }

-- one container of a memory is changed
pub one_changed : (holdings : List Holding) (i : ℕ) (new old : Holding) (change : Contents → Contents) → old ≡ slice_index_or holdings i old →
    shape_held new ≡ shape_held old → contents_held new ≡ change (contents_held old) →
    memory_of (slice_set holdings i new) ≡ made (map shape_held holdings) (changed_at i change (map contents_held holdings))
one_changed holdings i new old change is shape contents =
    ap (λ (shapes : List (List ℕ)). made shapes (map contents_held (slice_set holdings i new))) (shapes_kept holdings i new old is shape)
    ∙ ap (made (map shape_held holdings)) (contents_changed holdings i new old change is contents)

-- a container that is replaced
pub changed_to : (contents : Contents) (i : ℕ) (memory : List Contents) → changed_at i (λ old. contents) memory ≡ slice_set memory i contents
changed_to contents i [] = refl
changed_to contents zero (first ∷ memory) = refl
changed_to contents (suc i) (first ∷ memory) = ap (λ (rest : List Contents). first ∷ rest) (changed_to contents i memory)

-- a container that stays
pub changed_not : (i : ℕ) (memory : List Contents) → changed_at i (λ old. old) memory ≡ memory
changed_not i [] = refl
changed_not zero (first ∷ memory) = refl
changed_not (suc i) (first ∷ memory) = ap (λ (rest : List Contents). first ∷ rest) (changed_not i memory)

-- what holds where a result is so
pub on_ok : {A E P Q : Type 0} (result : Result A E) → (P → Q) → OnOk result P → OnOk result Q
on_ok (Ok value) f held = f held
on_ok (Err e) f held = held

pub on_err : {A E P Q : Type 0} (result : Result A E) → (P → Q) → OnErr result P → OnErr result Q
on_err (Ok value) f held = held
on_err (Err e) f held = f held

-- of two lists with the same images the members of one number have the same image
pub same_at : {A B : Type 0} (f : A → B) (xs ys : List A) (i : ℕ) (x y : A) → i < length xs → i < length ys →
    x ≡ slice_index_or xs i x → y ≡ slice_index_or ys i y → map f xs ≡ map f ys → f x ≡ f y
same_at f [] ys i x y below within is other same = absurd (omega arith)
same_at f (first ∷ xs) [] i x y below within is other same = absurd (omega arith)
same_at f (first ∷ xs) (second ∷ ys) zero x y below within is other same = ap f is ∙ ap (head (f first)) same ∙ sym (ap f other)
  where
    head : {B : Type 0} (d : B) → List B → B
    head d [] = d
    head d (member ∷ members) = member
same_at f (first ∷ xs) (second ∷ ys) (suc i) x y below within is other same =
    same_at f xs ys i x y (omega arith) (omega arith) is other (ap tail same)
  where
    tail : {B : Type 0} → List B → List B
    tail [] = []
    tail (member ∷ members) = members

-- a member that is changed
pub one_written : {A : Type 0} (members : List A) (i : ℕ) (new old : A) (change : A → A) → old ≡ slice_index_or members i old → new ≡ change old →
    slice_set members i new ≡ changed_at i change members
one_written [] i new old change is same = refl
one_written {A} (first ∷ members) zero new old change is same = ap (λ (member : A). member ∷ members) (same ∙ ap change is)
one_written {A} (first ∷ members) (suc i) new old change is same = ap (λ (rest : List A). first ∷ rest) (one_written members i new old change is same)

-- a change of a member that is not there
pub changed_none : {A : Type 0} (change : A → A) (members : List A) (number : ℕ) → length members ≤ number → members ≡ changed_at number change members
changed_none change [] number beyond = refl
changed_none change (member ∷ members) zero beyond = absurd (omega arith)
changed_none {A} change (member ∷ members) (suc number) beyond = ap (λ (rest : List A). member ∷ rest) (changed_none change members number (omega arith))

-- a container that is not there
pub none_changed : (holdings : List Holding) (i : ℕ) (change : Contents → Contents) → length holdings ≤ i →
    memory_of holdings ≡ made (map shape_held holdings) (changed_at i change (map contents_held holdings))
none_changed holdings i change beyond =
    ap (made (map shape_held holdings)) (changed_none change (map contents_held holdings) i (omega (arith, beyond, length-map holdings contents_held)))
