-- What holds of the form that tokens read as.
use Rattle.std.proofs.Common.{◌≡◌, ◌+◌, List, [], ◌∷◌, ◌++◌, map, length, length-append, Bool, true, false, if◌then◌else◌, Option, Some, None, refl, subst, arith}
use Rattle.std.specs.Bool.{⊤}
use Rattle.std.specs.List.{AllByRecursion}
use Rattle.sd_phrase.specs.declared.reading.Reading.{Reading}
use Rattle.sd_phrase.specs.declared.reading.Reading.TheVariants.{NoForm, TooDeep, Form}
use Rattle.sd_phrase.specs.Readings.{reading_map, both, if_some, if_empty, listed_from, listed, if_true}
use Rattle.sd_read.proofs.readable_lemmas.kept.Trees.{all-more}

-- of the form, where there is one
abbrev pub IfForm : {A : Type 0} → (A → Type 0) → Reading A → Type 0
IfForm Holds NoForm = ⊤
IfForm Holds TooDeep = ⊤
IfForm Holds (Form a) = Holds a

pub of_form : {A : Type 0} (Holds : A → Type 0) (read : Reading A) (a : A) → IfForm Holds read → read ≡ Form a → Holds a
of_form Holds read a holds is = subst (IfForm Holds) is holds

pub if-always : {A : Type 0} (Holds : A → Type 0) (read : Reading A) → ((a : A) → Holds a) → IfForm Holds read
if-always Holds NoForm always = tt
if-always Holds TooDeep always = tt
if-always Holds (Form a) always = always a

pub if-tells : {A : Type 0} (First Second : A → Type 0) (read : Reading A) → ((a : A) → First a → Second a) → IfForm First read → IfForm Second read
if-tells First Second NoForm tells first = tt
if-tells First Second TooDeep tells first = tt
if-tells First Second (Form a) tells first = tells a first

pub if-map : {A B : Type 0} (Holds : B → Type 0) (f : A → B) (read : Reading A) → IfForm (λ a. Holds (f a)) read → IfForm Holds (reading_map f read)
if-map Holds f NoForm holds = tt
if-map Holds f TooDeep holds = tt
if-map Holds f (Form a) holds = holds

pub if-both : {A B C : Type 0} (First : A → Type 0) (Second : B → Type 0) (Holds : C → Type 0) (f : A → B → C) (r : Reading A) (s : Reading B) → IfForm First r → IfForm Second s →
    ((a : A) (b : B) → First a → Second b → Holds (f a b)) → IfForm Holds (both f r s)
if-both First Second Holds f NoForm s one two tells = tt
if-both First Second Holds f TooDeep NoForm one two tells = tt
if-both First Second Holds f TooDeep TooDeep one two tells = tt
if-both First Second Holds f TooDeep (Form b) one two tells = tt
if-both First Second Holds f (Form a) NoForm one two tells = tt
if-both First Second Holds f (Form a) TooDeep one two tells = tt
if-both First Second Holds f (Form a) (Form b) one two tells = tells a b one two

pub if-some : {A B : Type 0} (Holds : B → Type 0) (part : Option A) (read : A → Reading B) → ((a : A) → part ≡ Some a → IfForm Holds (read a)) → IfForm Holds (if_some part read)
if-some Holds None read holds = tt
if-some Holds (Some a) read holds = holds a refl

pub if-empty : {A B : Type 0} (Holds : B → Type 0) (rest : List A) (read : Reading B) → IfForm Holds read → IfForm Holds (if_empty rest read)
if-empty Holds [] read holds = holds
if-empty Holds (first ∷ rest) read holds = tt

pub if-true : {A : Type 0} (Holds : A → Type 0) (test : Bool) (read : Reading A) → (test ≡ true → IfForm Holds read) → IfForm Holds (if_true test read)
if-true Holds true read holds = holds refl
if-true Holds false read holds = tt

pub if-either : {A : Type 0} (Holds : A → Type 0) (test : Bool) (a b : Reading A) → IfForm Holds a → IfForm Holds b → IfForm Holds (if test then a else b)
if-either Holds true a b first second = first
if-either Holds false a b first second = second

pub if-and : {A : Type 0} (First Second : A → Type 0) (read : Reading A) → IfForm First read → IfForm Second read → IfForm (λ a. First a × Second a) read
if-and First Second NoForm first second = tt
if-and First Second TooDeep first second = tt
if-and First Second (Form a) first second = (first, second)

if-listed-from : {A : Type 0} (Holds : A → Type 0) (before : List A) (deep : Bool) (reads : List (Reading A)) → AllByRecursion Holds before → AllByRecursion (IfForm Holds) reads →
    IfForm (AllByRecursion Holds) (listed_from before deep reads)
if-listed-from Holds before true [] all each = tt
if-listed-from Holds before false [] all each = all
if-listed-from Holds before deep (NoForm ∷ reads) all each = tt
if-listed-from Holds before deep (TooDeep ∷ reads) all each = if-listed-from Holds before true reads all each.1
if-listed-from Holds before deep (Form a ∷ reads) all each = if-listed-from Holds (before ++ a ∷ []) deep reads (all-more Holds before a all each.0) each.1

pub if-listed : {A : Type 0} (Holds : A → Type 0) (reads : List (Reading A)) → AllByRecursion (IfForm Holds) reads → IfForm (AllByRecursion Holds) (listed reads)
if-listed Holds reads each = if-listed-from Holds [] false reads tt each

-- where one is too deep there is no form
none-listed : {A : Type 0} (Holds : List A → Type 0) (before : List A) (reads : List (Reading A)) → IfForm Holds (listed_from before true reads)
none-listed Holds before [] = tt
none-listed Holds before (NoForm ∷ reads) = tt
none-listed Holds before (TooDeep ∷ reads) = none-listed Holds before reads
none-listed Holds before (Form a ∷ reads) = none-listed Holds (before ++ a ∷ []) reads

count-listed : {A : Type 0} (before : List A) (reads : List (Reading A)) → IfForm (λ list. length list ≡ length before + length reads) (listed_from before false reads)
count-listed before [] = omega arith
count-listed before (NoForm ∷ reads) = tt
count-listed {A = A} before (TooDeep ∷ reads) = none-listed (λ list. length list ≡ length before + length {A = Reading A} (TooDeep ∷ reads)) before reads
count-listed before (Form a ∷ reads) =
    subst (λ count. IfForm (λ list. length list ≡ count) (listed_from (before ++ a ∷ []) false reads)) (omega (arith, length-append before (a ∷ []))) (count-listed (before ++ a ∷ []) reads)

-- there are as many forms as parts
pub if-counted : {A : Type 0} (reads : List (Reading A)) → IfForm (λ list. length list ≡ length reads) (listed reads)
if-counted {A = A} reads =
    let all : length {A = A} [] + length reads ≡ length reads = omega arith in
    subst (λ count. IfForm (λ list. length list ≡ count) (listed reads)) all (count-listed [] reads)

pub each-mapped : {A B : Type 0} (Holds : B → Type 0) (f : A → B) (parts : List A) → ((part : A) → Holds (f part)) → AllByRecursion Holds (map f parts)
each-mapped Holds f [] each = tt
each-mapped Holds f (part ∷ parts) each = (each part, each-mapped Holds f parts each)
