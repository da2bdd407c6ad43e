-- What each use of a cut makes of it.
use Rattle.std.specs.Prelude.{ℕ, ℤ, pos, List, [], ◌∷◌, ◌++◌, Option, Some, None, option_and_then, option_map, slice_index_or, Bool, true, false}
use Rattle.sd_num.specs.declared.width.Width.{Width}
use Rattle.sd_num.specs.declared.resolution.Resolution.{Resolution}
use Rattle.sd_work.specs.Memory.{look, waiting}
use Rattle.sd_work.specs.Change.{Change, changed_at, push, take, write}
use Rattle.sd_mem.specs.mem.Shaped.{Shaped, alone, changed, element, width_at, with_values_at}
use Rattle.sd_cut.specs.declared.elements.CutElement.{CutElement}
use Rattle.sd_cut.specs.declared.streams.CutStream.{CutStream}
use Rattle.sd_cut.specs.declared.streams.StreamUse.{StreamUse}
use Rattle.sd_cut.specs.declared.streams.StreamUse.TheVariants.{Unused, Drained, Appended}
use Rattle.sd_cut.specs.declared.turning.ElementLeft.{ElementLeft}
use Rattle.sd_cut.specs.Elements.{cut_at, marked, all_changed, all_effects, AreAllAsCut}
use Rattle.sd_cut.specs.Streams.{next_cut, stream_taken, stream_drained, stream_appended, stream_seen, all_pushes, all_takes, AreStreamsAsCut}
use Rattle.sd_cut.specs.Turning.{sees, kept_left, gathered_left, written_left}
use Rattle.sd_cut.specs.Overlaid.{Overlaid}

-- ---- elements

-- an element gets a mark, and something else is left of it
abbrev pub with_element : (container number : ℕ) → ElementLeft → Overlaid → Overlaid
with_element container number new cut =
    record cut { arrays = changed_at container (changed_at number (marked new.mark)) cut.arrays; left = changed (write (element container number) None new.value) cut.left }

-- so it is with the element of a number, if there is one
abbrev pub turned_if : (Width → CutElement → (left : ℤ) → ElementLeft) → (container number : ℕ) → Option CutElement → Overlaid → Overlaid
turned_if turn container number None cut = cut
turned_if turn container number (Some one) cut =
    with_element container number (turn (width_at cut.left container) one (look (element container number) (alone cut.left))) cut

abbrev pub turned : (Width → CutElement → (left : ℤ) → ElementLeft) → (container number : ℕ) → Overlaid → Overlaid
turned turn container number cut = turned_if turn container number (cut_at cut.arrays container number) cut

-- it is read, or work may read or replace it
abbrev pub kept_at : (container number : ℕ) → Overlaid → Overlaid
kept_at container number = turned kept_left container number

-- values are resolved with it by one resolution
abbrev pub gathered_at : (container number : ℕ) → Resolution → Overlaid → Overlaid
gathered_at container number by = turned (gathered_left by) container number

-- a value is written to it
abbrev pub written_in : (container number : ℕ) → Option Resolution → (value : ℤ) → Overlaid → Overlaid
written_in container number by value = turned (written_left by value) container number

-- what work sees of it; 0 where there is no such element
abbrev pub seen_if : Width → Option CutElement → (left : ℤ) → ℤ
seen_if width None left = pos 0
seen_if width (Some one) left = sees width one left

abbrev pub seen_at : (container number : ℕ) → Overlaid → ℤ
seen_at container number cut = seen_if (width_at cut.left container) (cut_at cut.arrays container number) (look (element container number) (alone cut.left))

-- the same at an index, where it has a number in the window
abbrev pub read_in : (container : ℕ) → (number : Option ℕ) → Overlaid → Overlaid
read_in container None cut = cut
read_in container (Some number) cut = kept_at container number cut

abbrev pub seen_in : (container : ℕ) → (number : Option ℕ) → Overlaid → Option ℤ
seen_in container number cut = option_map (λ number. seen_at container number cut) number

abbrev pub written_to : (container : ℕ) → (number : Option ℕ) → Option Resolution → (value : ℤ) → Overlaid → Overlaid
written_to container None by value cut = cut
written_to container (Some number) by value cut = written_in container number by value cut

-- ---- streams

-- the stream of a container, if it was cut
abbrev pub stream_at : Overlaid → (container : ℕ) → Option CutStream
stream_at cut container = slice_index_or cut.streams container None

-- what was pushed to it and is left
abbrev pub pushed_to : Overlaid → (container : ℕ) → List ℤ
pushed_to cut container = waiting 0 container (alone cut.left)

-- what work sees of it: what was not taken yet of what was cut, and then what was pushed
abbrev pub seen_of : Option CutStream → (pushed : List ℤ) → List ℤ
seen_of None pushed = pushed
seen_of (Some stream) pushed = stream_seen stream pushed

abbrev pub values_seen : (container : ℕ) → Overlaid → List ℤ
values_seen container cut = seen_of (stream_at cut container) (pushed_to cut container)

-- the next value of what was cut, if one is left
abbrev pub next_at : Overlaid → (container : ℕ) → Option ℤ
next_at cut container = option_and_then next_cut (stream_at cut container)

-- a value is pushed to it
abbrev pub pushed_in : (container : ℕ) → (value : ℤ) → Overlaid → Overlaid
pushed_in container value cut = record cut { streams = changed_at container (option_map stream_appended) cut.streams; left = changed (push 0 container value) cut.left }

-- its oldest value is taken: the next one of what was cut, or else of what was pushed
abbrev pub left_taken : (next : Option ℤ) → (container : ℕ) → Shaped → Shaped
left_taken None container left = changed (take 0 container 0) left
left_taken (Some value) container left = left

abbrev pub taken_in : (container : ℕ) → Overlaid → Overlaid
taken_in container cut = record cut { streams = changed_at container (option_map stream_taken) cut.streams; left = left_taken (next_at cut container) container cut.left }

-- work may take from it: what work sees of it is all left, where some was not taken yet of what was cut
abbrev pub left_drained : (next : Option ℤ) → (seen : List ℤ) → (container : ℕ) → Shaped → Shaped
left_drained None seen container left = left
left_drained (Some value) seen container left = with_values_at container seen left

abbrev pub drained_at : (container : ℕ) → Overlaid → Overlaid
drained_at container cut =
    record cut { streams = changed_at container (option_map stream_drained) cut.streams; left = left_drained (next_at cut container) (values_seen container cut) container cut.left }

-- work may push to it: where nothing was taken nor pushed it is appended to, else it is drained
abbrev pub has_values : List ℤ → Bool
has_values [] = false
has_values (value ∷ values) = true

abbrev pub is_begun_by : StreamUse → (pushed : List ℤ) → Bool
is_begun_by Unused pushed = has_values pushed
is_begun_by Drained pushed = true
is_begun_by Appended pushed = has_values pushed

abbrev pub is_begun : Option CutStream → (pushed : List ℤ) → Bool
is_begun None pushed = false
is_begun (Some stream) pushed = is_begun_by stream.usage pushed

abbrev pub appended_if : (is_begun : Bool) → (container : ℕ) → Overlaid → Overlaid
appended_if true container cut = drained_at container cut
appended_if false container cut = record cut { streams = changed_at container (option_map stream_appended) cut.streams }

abbrev pub appended_at : (container : ℕ) → Overlaid → Overlaid
appended_at container cut = appended_if (is_begun (stream_at cut container) (pushed_to cut container)) container cut

-- ---- the end

-- each kept element and each drained stream is in a memory as it was when it was cut
abbrev pub Agrees : Overlaid → Shaped → Type 0
Agrees cut memory = AreAllAsCut memory 0 cut.arrays × AreStreamsAsCut memory 0 cut.streams

-- what was done on a cut, with its effects on each element and each stream in order
abbrev pub effects : Overlaid → List Change
effects cut = all_pushes 0 cut.left cut.streams ++ all_takes 0 cut.streams ++ all_effects 0 cut.left cut.arrays

-- a memory in which it is done
abbrev pub committed : Overlaid → Shaped → Shaped
committed cut memory = all_changed (effects cut) memory
