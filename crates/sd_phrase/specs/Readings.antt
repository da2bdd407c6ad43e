-- What tokens read as, and readings of parts put together: of two parts no form wins over too deep, and too deep over a form.
use Rattle.std.specs.Prelude.{List, [], ◌∷◌, ◌++◌, Option, Some, None, Bool, true, false, if◌then◌else◌}
use Rattle.sd_phrase.specs.declared.reading.Reading.{Reading}
use Rattle.sd_phrase.specs.declared.reading.Reading.TheVariants.{NoForm, TooDeep, Form}

-- a form made into another
abbrev pub reading_map : {A B : Type 0} → (A → B) → Reading A → Reading B
reading_map f NoForm = NoForm
reading_map f TooDeep = TooDeep
reading_map f (Form a) = Form (f a)

-- two parts made into one form: no form goes before too deep, and too deep before a form
abbrev pub both : {A B C : Type 0} → (A → B → C) → Reading A → Reading B → Reading C
both f NoForm r = NoForm
both f TooDeep NoForm = NoForm
both f TooDeep TooDeep = TooDeep
both f TooDeep (Form b) = TooDeep
both f (Form a) NoForm = NoForm
both f (Form a) TooDeep = TooDeep
both f (Form a) (Form b) = Form (f a b)

-- what depends on a part that may be missing
abbrev pub if_some : {A B : Type 0} → Option A → (A → Reading B) → Reading B
if_some None read = NoForm
if_some (Some a) read = read a

-- nothing more may follow
abbrev pub if_empty : {A B : Type 0} → List A → Reading B → Reading B
if_empty [] r = r
if_empty (x ∷ xs) r = NoForm

-- readings of parts as one of their list, where the forms before are known, and whether a part before is too deep
abbrev pub listed_from : {A : Type 0} → (before : List A) → (deep : Bool) → List (Reading A) → Reading (List A)
listed_from before deep [] = if deep then TooDeep else Form before
listed_from before deep (NoForm ∷ rs) = NoForm
listed_from before deep (TooDeep ∷ rs) = listed_from before true rs
listed_from before deep (Form a ∷ rs) = listed_from (before ++ a ∷ []) deep rs

-- the readings of parts as one of their list: no form goes before too deep, and too deep before a form
abbrev pub listed : {A : Type 0} → List (Reading A) → Reading (List A)
listed rs = listed_from [] false rs

-- what is asked of the parts beside their readings
abbrev pub if_true : {A : Type 0} → Bool → Reading A → Reading A
if_true b r = if b then r else NoForm
