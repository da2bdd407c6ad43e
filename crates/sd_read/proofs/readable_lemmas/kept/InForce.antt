-- Containers in force while a source is read, and in its program.
use Rattle.std.proofs.Common.{◌≡◌, ◌≤◌, ℕ, List, [], ◌∷◌, ◌++◌, length, take, Bool, true, false, if◌then◌else◌, cond, Option, Some, None, is_some, bytes_eq, refl, ap, sym, ◌∙◌, subst, arith}
use Rattle.std.specs.Bool.{⊤}
use Rattle.std.proofs.lemmas.Slice.Eq.{bytes_eq-Decides}
use Rattle.std.proofs.lemmas.List.{take-append-le, length-append}
use Rattle.sd_read.proofs.readable_lemmas.kept.Passing.{true_is_not_false, false_is_not_true}
use Rattle.sd_names.specs.declared.meaning.Container.{Container}
use Rattle.sd_names.specs.declared.meaning.Container.TheVariants.{Array, Stream}
use Rattle.sd_names.specs.Names.{Name, listed, put}
use Rattle.sd_program.specs.Names.{Named, in_force}
use Rattle.sd_program.specs.Place.{Holder, of_dimensions, of_values}

abbrev pub holder_of : Container → Holder
holder_of (Array extents) = of_dimensions (length extents)
holder_of Stream = of_values

-- what is listed is in force
abbrev pub Agrees : List (Name × Container) → Named Holder → Type 0
Agrees known containers = (name : Name) (c : Container) → listed known name ≡ Some c → in_force containers name ≡ Some (holder_of c)

pub none_agrees : (containers : Named Holder) → Agrees [] containers
none_agrees containers name c is = absurd (subst IsNone' is tt) where
  IsNone' : Option Container → Type 0
  IsNone' None = ⊤
  IsNone' (Some value) = ⊥

-- what is listed where a name was put
put-by : {A : Type 0} (entry : Name × A) (entries : List (Name × A)) (name : Name) (a : A) (wanted : Name) (same here at : Bool) →
    bytes_eq name entry.0 ≡ same → bytes_eq wanted entry.0 ≡ here → bytes_eq wanted name ≡ at → listed (put entries name a) wanted ≡ (if at then Some a else listed entries wanted) →
    listed (if same then (entry.0, a) ∷ entries else entry ∷ put entries name a) wanted ≡ (if at then Some a else (if here then Some entry.1 else listed entries wanted))
put-by entry entries name a wanted true true at is of on later =
    let named = (bytes_eq-Decides name entry.0).0 is in
    let found : at ≡ true = sym on ∙ ap (bytes_eq wanted) named ∙ of in
    rw (of, found) refl
put-by entry entries name a wanted true false at is of on later =
    let named = (bytes_eq-Decides name entry.0).0 is in
    let missed : at ≡ false = sym on ∙ ap (bytes_eq wanted) named ∙ of in
    rw (of, missed) refl
put-by entry entries name a wanted false true true is of on later =
    let wanted_here = (bytes_eq-Decides wanted entry.0).0 of in
    let wanted_name = (bytes_eq-Decides wanted name).0 on in
    false_is_not_true (sym (ap (λ n. bytes_eq n entry.0) wanted_name ∙ is) ∙ of)
put-by entry entries name a wanted false true false is of on later = rw of refl
put-by entry entries name a wanted false false at is of on later = rw of later

pub listed-put : {A : Type 0} (entries : List (Name × A)) (name : Name) (a : A) (wanted : Name) →
    listed (put entries name a) wanted ≡ (if bytes_eq wanted name then Some a else listed entries wanted)
listed-put [] name a wanted = refl
listed-put (entry ∷ entries) name a wanted =
    put-by entry entries name a wanted (bytes_eq name entry.0) (bytes_eq wanted entry.0) (bytes_eq wanted name) refl refl refl (listed-put entries name a wanted)

-- a container more
pub more_agrees : (known : List (Name × Container)) (containers : Named Holder) (name : Name) (c : Container) → Agrees known containers → Agrees (put known name c) ((name, holder_of c) ∷ containers)
more_agrees known containers name c agrees wanted found is = by_test (bytes_eq wanted name) (sym (listed-put known name c wanted) ∙ is) where
  by_test : (test : Bool) → (if test then Some c else listed known wanted) ≡ Some found → cond test (Some (holder_of c)) (in_force containers wanted) ≡ Some (holder_of found)
  by_test true is = ap (λ o. some_holder o) is where
    some_holder : Option Container → Option Holder
    some_holder None = None
    some_holder (Some c) = Some (holder_of c)
  by_test false is = agrees wanted found is

-- a new name goes behind all others
pub put-new : {A : Type 0} (entries : List (Name × A)) (name : Name) (a : A) → is_some (listed entries name) ≡ false → put entries name a ≡ entries ++ (name, a) ∷ []
put-new [] name a new = refl
put-new (entry ∷ entries) name a new = by_test (bytes_eq name entry.0) new (put-new entries name a) where
  by_test : (test : Bool) → is_some (if test then Some entry.1 else listed entries name) ≡ false → (is_some (listed entries name) ≡ false → put entries name a ≡ entries ++ (name, a) ∷ []) →
      (if test then (entry.0, a) ∷ entries else entry ∷ put entries name a) ≡ entry ∷ (entries ++ (name, a) ∷ [])
  by_test true new later = true_is_not_false new
  by_test false new later = ap (λ rest. entry ∷ rest) (later new)

-- the first ones are as they were
pub take-put : {A : Type 0} (entries : List (Name × A)) (name : Name) (a : A) (count : ℕ) → is_some (listed entries name) ≡ false → count ≤ length entries → take count (put entries name a) ≡ take count entries
take-put entries name a count new within = ap (take count) (put-new entries name a new) ∙ take-append-le count entries ((name, a) ∷ []) within

pub length-put : {A : Type 0} (entries : List (Name × A)) (name : Name) (a : A) (count : ℕ) → is_some (listed entries name) ≡ false → count ≤ length entries → count ≤ length (put entries name a)
length-put entries name a count new within = subst (λ list. count ≤ length list) (sym (put-new entries name a new)) (rw (length-append entries ((name, a) ∷ [])) (omega (arith, within)))
